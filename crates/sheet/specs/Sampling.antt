-- What `sheet` promises. `sheet` answers code 0 exactly when the object is accepted, a ≤ b are two of its frames, and there is room for
-- the rows (demand 3 for the sheet). The sheet is then made of the pictures of frames a to b, and the steps lack nothing at any of them:
-- each picture has exactly Rows × Columns cells, each from 0 to 255. So the 256 counts add up to (b - a + 1) × Rows × Columns; the sum of
-- all levels is that of level times count; the lowest and the highest level are the first and the last level with a count above 0; and
-- there are at most b - a + 1 native frames. With every other answer all numbers of the sheet are 0. Proved in proofs/Sampling.
use Rattle.std.specs.Prelude.{◌≡◌, List, ℕ, zero, suc, ◌+◌, ◌-◌, ◌*◌, ◌≤◌, ◌<◌, length, get_or}
use Rattle.basics.specs.Bytes.{IsBytes}
use Rattle.dataset.specs.Answer.{width}
use Rattle.dataset.specs.Tree.{rows_of}
use Rattle.node.specs.Nodes.{nodes_of}
use Rattle.display.specs.Show.{image_size}
use Rattle.display.specs.Drawing.{IsAccepted, IsFrame, Whole}
use Rattle.sheet.specs.declared.Numbers.{Numbers}
use Rattle.sheet.specs.Sheet.{sum_of, frames_sheet, no_sheet}
use Rattle.sheet.specs.Answer.{sheet_of, fields_of}

-- Frames a to b of the object.
pub record Range (s : List ℕ) (a b : ℕ) : Type 0 where
  pub order : a ≤ b
  pub first : IsFrame s a
  pub last : IsFrame s b

-- f 0 + f 1 + .. up to f (n - 1).
unfoldable pub total : (ℕ → ℕ) → ℕ → ℕ
total f zero = 0
total f (suc n) = total f n + f n

-- How often level y was drawn.
abbrev pub count : Numbers → ℕ → ℕ
count t y = get_or t.counts y 0

-- How the numbers of a sheet relate, for n frames of a given number of cells.
pub record Consistent (t : Numbers) (n cells : ℕ) : Type 0 where
  pub levels : length t.counts ≡ 256
  -- The counts add up.
  pub adds-up : sum_of t.counts ≡ n * cells
  -- The sum of all levels is that of level times count.
  pub sum_is : t.sum ≡ total (λ y. y * count t y) 256
  -- The lowest level is the first, and the highest the last, with a count above 0.
  pub lowest-drawn : 1 ≤ count t t.lowest
  pub none_below : (y : ℕ) → y < t.lowest → count t y ≡ 0
  pub highest-drawn : 1 ≤ count t t.highest
  pub none_above : (y : ℕ) → t.highest < y → y < 256 → count t y ≡ 0
  pub natives-few : t.natives ≤ n

-- What `sheet` hands back with code 0.
pub record SheetBack (s : List ℕ) (a b : ℕ) (buffer : List ℕ) : Type 0 where
  pub rows : (fields_of (sheet_of s a b buffer).answer).rows ≡ length (rows_of s)
  -- The sheet of the pictures that the steps give.
  pub of-pictures : (sheet_of s a b buffer).sheet ≡ frames_sheet (nodes_of s) a b
  pub pictures : (f : ℕ) → a ≤ f → f ≤ b → Whole (nodes_of s) f
  pub consistent : Consistent (sheet_of s a b buffer).sheet (b - a + 1) (image_size (nodes_of s))

pub record SheetPromise (s : List ℕ) (a b : ℕ) (buffer : List ℕ) : Type 0 where
  -- The sheet of frames of an accepted object is done if there is room for the rows,
  pub done : IsAccepted s → Range s a b → width * length (rows_of s) ≤ length buffer → (fields_of (sheet_of s a b buffer).answer).code ≡ 0
  -- and nothing else is.
  pub nothing-else : (fields_of (sheet_of s a b buffer).answer).code ≡ 0
      → IsAccepted s × (Range s a b × (width * length (rows_of s) ≤ length buffer))
  pub as-drawn : (fields_of (sheet_of s a b buffer).answer).code ≡ 0 → SheetBack s a b buffer
  -- A refusal comes with a sheet of zeros.
  pub refused : 1 ≤ (fields_of (sheet_of s a b buffer).answer).code → (sheet_of s a b buffer).sheet ≡ no_sheet

-- For every data set, given as bytes, any two numbers and any row buffer.
abbrev pub Sampling : Type 0
Sampling = (s : List ℕ) → IsBytes s → (a b : ℕ) (buffer : List ℕ) → SheetPromise s a b buffer
