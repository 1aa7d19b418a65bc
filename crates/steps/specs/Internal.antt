-- What contracts say beside the definitions of the steps: bounds of what was found, and what is the same for all frames.
use Rattle.std.specs.Prelude.{ℕ, ◌≤◌, ◌<◌, length, cond, List, ◌≡◌, Option, Some, None}
use Rattle.value.specs.Text.{ascii}
use Rattle.value.specs.Number.{us_values}
use Rattle.value.specs.Internal.{Below}
use Rattle.node.specs.Nodes.{Node}
use Rattle.basics.specs.Tags
use Rattle.element.specs.Elements.{value_at}
use Rattle.element.specs.Frames.{frame_item, operation_is}
use Rattle.pixel.specs.declared.Geometry.{Geometry}
use Rattle.window.specs.declared.Window.{Window}
use Rattle.steps.specs.Given.{then}
use Rattle.steps.specs.Steps.{range_holds, or_shared, applying_to, own_in, window_on}
use Rattle.steps.specs.declared.Operation.{Operation}
use Rattle.steps.specs.declared.Operation.TheVariants as operation
use Rattle.steps.specs.declared.Told.{Told}

-- The item of frame f, or none.
abbrev pub ItemOf : List Node → ℕ → Option ℕ → Type 0
ItemOf ns f item = (item ≡ frame_item ns f) × Below (length ns) item

-- The number that was found, if one was, is below n.
abbrev pub FoundBelow : ℕ → Option (Option ℕ) → Type 0
FoundBelow n (Some r) = Below n r
FoundBelow n None = Unit {0}

-- What the shared shift group names for mask item j.
abbrev pub shared_naming : List Node → ℕ → Option (Option ℕ)
shared_naming ns j = then (or_shared ns Tags.FramePixelShiftSequence None) (own_in ns j)

-- An answer that says so.
pub record IsShared (ns : List Node) (j : ℕ) (r : Option (Option ℕ)) : Type 0 where
  pub is : r ≡ shared_naming ns j
  pub below : FoundBelow (length ns) r

-- What a mask item does, by its Mask Operation.
unfoldable pub operation_of : List Node → ℕ → Option Operation
operation_of ns j =
    cond (operation_is ns (ascii "NONE") j) (Some operation.Native)
    (cond (operation_is ns (ascii "AVG_SUB") j) (Some operation.Average)
    (cond (operation_is ns (ascii "TID") j) (Some operation.Tid) None))

-- What mask item j says, the same for all frames.
pub record IsTold (ns : List Node) (j : ℕ) (t : Told) : Type 0 where
  pub operation-is : t.operation ≡ operation_of ns j
  pub names : IsShared ns j t.shared

-- What the search for a mask item found: none, or an item that applies if its range can be read.
abbrev pub if_read : List Node → ℕ → Option ℕ → Option (Option ℕ)
if_read ns f (Some j) = then (range_holds ns f j) (λ _. Some (Some j))
if_read ns f None = Some None

-- Step 2 lacks nothing at frame f.
abbrev pub GivesItem : List Node → ℕ → Type 0
GivesItem ns f = applying_to ns f ≡ None → ⊥

-- The value of the node that was found, and the frame numbers in it.
abbrev pub value_found : List Node → Option ℕ → Option (List ℕ)
value_found ns (Some k) = Some (value_at ns k)
value_found ns None = None

abbrev pub frames_in : List Node → Option ℕ → Option (List ℕ)
frames_in ns (Some k) = Some (us_values (value_at ns k))
frames_in ns None = None

-- Each number of a geometry fits a US, and the width is in bytes.
pub record SmallGeometry (g : Geometry) : Type 0 where
  pub rows : g.rows < 65536
  pub columns : g.columns < 65536
  pub some_bytes : 1 ≤ g.width
  pub width : g.width ≤ 8191
  pub stored : g.stored < 65536

abbrev pub SizedSmall : Option Geometry → Type 0
SizedSmall (Some g) = SmallGeometry g
SizedSmall None = Unit {0}

-- The window of a frame that has no VOI group of its own.
abbrev pub shared_window : List Node → ℕ → Option Window
shared_window ns stored = then (or_shared ns Tags.FrameVOILUTSequence None) (window_on ns stored)
