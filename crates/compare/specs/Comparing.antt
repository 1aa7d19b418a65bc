-- What `compare` promises. `compare` answers code 0 exactly when the object is accepted, the number is one of its frames, there are Rows
-- × Columns cells, the tolerance is at most 255, and there is room for the rows. It then says yes exactly when every cell is within t of
-- the picture that the steps give. Otherwise it names the place, counted from 0, of the first cell that is not within t, and counts all
-- cells that are not. Our own picture passes at t = 0: `compare` accepts whatever `show` hands back with code 0, for any accepted object
-- and any of its frames. And what passes at t passes at every larger t up to 255. Proved in proofs/Comparing.
use Rattle.std.specs.Prelude.{◌≡◌, List, ℕ, ◌+◌, ◌*◌, ◌≤◌, ◌<◌, length, get_or, take}
use Rattle.basics.specs.Bytes.{IsBytes}
use Rattle.dataset.specs.Answer.{width}
use Rattle.dataset.specs.Tree.{rows_of}
use Rattle.node.specs.Nodes.{nodes_of}
use Rattle.display.specs.Show as show
use Rattle.display.specs.Show.{image_size, picture_of, show_of, image_of}
use Rattle.display.specs.Drawing.{IsAccepted, IsFrame}
use Rattle.differences.specs.Differences.{is_off, how_many}
use Rattle.compare.specs.Answer.{compare_of, fields_of}

-- What can be compared.
pub record Comparable (s : List ℕ) (f : ℕ) (cells : List ℕ) (t : ℕ) (buffer : List ℕ) : Type 0 where
  pub accepted : IsAccepted s
  pub frame : IsFrame s f
  pub size : length cells ≡ image_size (nodes_of s)
  pub tolerance : t ≤ 255
  pub room : width * length (rows_of s) ≤ length buffer

-- Cell i is within t of ours.
pub record Near (s : List ℕ) (f : ℕ) (cells : List ℕ) (t i : ℕ) : Type 0 where
  pub below : get_or (picture_of (nodes_of s) f).samples i 0 ≤ get_or cells i 0 + t
  pub above : get_or cells i 0 ≤ get_or (picture_of (nodes_of s) f).samples i 0 + t

-- What a no says.
pub record Names (s : List ℕ) (f : ℕ) (cells : List ℕ) (t first count : ℕ) : Type 0 where
  pub place : first < length cells
  pub off : Near s f cells t first → ⊥
  pub none_before : (i : ℕ) → i < first → Near s f cells t i
  pub all : count ≡ how_many (is_off t (picture_of (nodes_of s) f).samples cells) (length cells)
  pub some : 1 ≤ count

pub record ComparePromise (s : List ℕ) (f : ℕ) (cells : List ℕ) (t : ℕ) (buffer : List ℕ) : Type 0 where
  -- What can be compared is compared,
  pub done : Comparable s f cells t buffer → (fields_of (compare_of s f cells t buffer)).answer.code ≡ 0
  -- and nothing else is.
  pub nothing-else : (fields_of (compare_of s f cells t buffer)).answer.code ≡ 0 → Comparable s f cells t buffer
  pub rows : (fields_of (compare_of s f cells t buffer)).answer.code ≡ 0
      → (fields_of (compare_of s f cells t buffer)).answer.rows ≡ length (rows_of s)
  -- Yes exactly when every cell is within t of ours.
  pub yes : Comparable s f cells t buffer → ((i : ℕ) → i < length cells → Near s f cells t i)
      → (fields_of (compare_of s f cells t buffer)).same ≡ 1
  pub only_then : (fields_of (compare_of s f cells t buffer)).same ≡ 1
      → Comparable s f cells t buffer × ((i : ℕ) → i < length cells → Near s f cells t i)
  -- No names the first that isn't, and how many aren't.
  pub no : (fields_of (compare_of s f cells t buffer)).answer.code ≡ 0 → (fields_of (compare_of s f cells t buffer)).same ≡ 0
      → Names s f cells t (fields_of (compare_of s f cells t buffer)).first (fields_of (compare_of s f cells t buffer)).count
  -- What passes at t passes at every larger u up to 255.
  pub larger : (u : ℕ) → t ≤ u → u ≤ 255 → (fields_of (compare_of s f cells t buffer)).same ≡ 1
      → (fields_of (compare_of s f cells u buffer)).same ≡ 1

-- Our own picture passes at 0.
pub record Own (s : List ℕ) (f : ℕ) (buffer image : List ℕ) : Type 0 where
  pub passes : (show.fields_of (show_of s f buffer image)).code ≡ 0
      → (fields_of (compare_of s f (take (image_size (nodes_of s)) (image_of s f buffer image)) 0 buffer)).same ≡ 1

-- For every data set, given as bytes, every number, and any cells, tolerance and buffers.
pub record Comparing : Type 0 where
  pub promise : (s : List ℕ) → IsBytes s → (f : ℕ) (cells : List ℕ) (t : ℕ) (buffer : List ℕ) → ComparePromise s f cells t buffer
  pub own : (s : List ℕ) → IsBytes s → (f : ℕ) (buffer image : List ℕ) → Own s f buffer image
