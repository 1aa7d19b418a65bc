-- What the functions of this crate require of and promise each other. None of this is in the papers.
use Rattle.std.specs.Prelude.{◌≡◌, Bool, true, false, List, [], ◌∷◌, ℕ, ◌≤◌, ◌<◌, length, ◌⊎◌, Option, Some, None}
use Rattle.basics.specs.Bytes.{IsBytes}
use Rattle.value.specs.Number.{us_values, is_number}
use Rattle.value.specs.Internal.{Below}
use Rattle.shift.specs.declared.Moves.{Moves}
use Rattle.shift.specs.Internal.{ShortMoves}
use Rattle.node.specs.Nodes.{Node, nodes_of, node_at, root}
use Rattle.element.specs.Elements.{value_at}
use Rattle.pixel.specs.declared.Geometry.{Geometry}
use Rattle.pixel.specs.Pixel.{is_frame}
use Rattle.pixel.specs.Internal.{Masks, native_shade, masked_shade}
use Rattle.steps.specs.Given.{then}
use Rattle.steps.specs.Steps.{Mask, native as no_mask, masked as mask_of, average_frames, tid_frame, on_tid, moves_for, mask_for, geometry_of}
use Rattle.steps.specs.Steps.{applying_to, window_for, inverse_of}
use Rattle.steps.specs.declared.Operation.{Operation}
use Rattle.steps.specs.declared.Operation.TheVariants as operation
use Rattle.steps.specs.declared.Told.{Told}
use Rattle.steps.specs.Internal.{IsTold, shared_window}
use Rattle.display.specs.declared.Masking.{Masking}
use Rattle.display.specs.declared.Masking.TheVariants as masking
use Rattle.node.specs.Find.{find}
use Rattle.basics.specs.Tags
use Rattle.basics.specs.Vr.{OB, OW}
use Rattle.element.specs.Frames.{frames_of, frame_item}
use Rattle.conformance.specs.declared.Finding.TheVariants as finding
use Rattle.conformance.specs.Judging.{finding_of}
use Rattle.window.specs.Internal.{Drawable}
use Rattle.display.specs.Show.{image_size}
use Rattle.display.specs.declared.Scene.{Scene}
use Rattle.display.specs.declared.Plan.{Plan}

-- ---- What masks a frame

-- Every number is one of 1 to n.
abbrev pub AllWithin : ℕ → List ℕ → Type 0
AllWithin n [] = Unit {0}
AllWithin n (k ∷ ks) = ((1 ≤ k) × (k ≤ n)) × AllWithin n ks

-- Whole quarters of at most 64 pixels, both numbers.
pub record Short (m : Moves) : Type 0 where
  pub vertical : is_number m.vertical ≡ true
  pub horizontal : is_number m.horizontal ≡ true
  pub sizes : ShortMoves m

-- Nothing, or 1 to 64 of the n frames, moved by such moves.
abbrev pub SoundMask : ℕ → Mask → Type 0
SoundMask n no_mask = Unit {0}
SoundMask n (mask_of ks m) = (1 ≤ length ks) × ((length ks ≤ 64) × (AllWithin n ks × Short m))

-- A step that gives such a mask.
pub record Gives (n : ℕ) (o : Option Mask) : Type 0 where
  pub m : Mask
  pub mask : o ≡ Some m
  pub sound : SoundMask n m

pub record GivesMoves (o : Option Moves) : Type 0 where
  pub m : Moves
  pub is : o ≡ Some m
  pub short : Short m

pub record GivesInverse (o : Option Bool) : Type 0 where
  pub b : Bool
  pub is : o ≡ Some b

-- The two kinds of masks, as parts of step 3.
abbrev pub average_by : List Node → ℕ → ℕ → Option Mask
average_by ns f j = then (average_frames ns j) (λ ks. then (moves_for ns f j) (λ m. Some (mask_of ks m)))

abbrev pub tid_by : List Node → ℕ → ℕ → Option Mask
tid_by ns f j = then (tid_frame ns f j) (on_tid ns f j)

-- Steps 3 and 4 by the operation.
abbrev pub operated : List Node → ℕ → ℕ → Option Operation → Option Mask
operated ns f j (Some operation.Native) = Some no_mask
operated ns f j (Some operation.Average) = average_by ns f j
operated ns f j (Some operation.Tid) = tid_by ns f j
operated ns f j None = None

-- What the code's answer means.
abbrev pub masking_of : List Node → Masking → Mask
masking_of ns masking.Native = no_mask
masking_of ns (masking.Average k m) = mask_of (us_values (value_at ns k)) m
masking_of ns (masking.One t m) = mask_of (t ∷ []) m

-- Its node is one of the nodes.
abbrev pub MaskingBelow : ℕ → Masking → Type 0
MaskingBelow n masking.Native = Unit {0}
MaskingBelow n (masking.Average k m) = k < n
MaskingBelow n (masking.One t m) = Unit {0}

-- What the mask item that applies says, the same for all frames.
abbrev pub ToldBy : List Node → Option ℕ → Told → Type 0
ToldBy ns (Some j) t = IsTold ns j t
ToldBy ns None t = Unit {0}

-- ---- Painting

abbrev pub is_masked : Masking → Bool
is_masked masking.Native = false
is_masked (masking.Average k m) = true
is_masked (masking.One t m) = true

-- The shade of a cell, from a table of shades.
abbrev pub shade_by : List Node → List ℕ → Geometry → List ℕ → ℕ → Masking → ℕ → ℕ
shade_by ns table g v f masking.Native = native_shade table g v f
shade_by ns table g v f (masking.Average k m) = masked_shade table g v f (us_values (value_at ns k)) m
shade_by ns table g v f (masking.One t m) = masked_shade table g v f (t ∷ []) m

-- What painting requires of the masks.
abbrev pub MasksReady : List Node → List ℕ → Geometry → Masking → Type 0
MasksReady ns v g masking.Native = Unit {0}
MasksReady ns v g (masking.Average k m) = (k < length ns) × (Masks v g (value_at ns k) × ShortMoves m)
MasksReady ns v g (masking.One t m) = (t < 65536) × ((is_frame g v t ≡ true) × ShortMoves m)

-- What is worked out before a cell is drawn: once for an object, and once for a frame.

-- An accepted object of n frames.
pub record IsObject (s : List ℕ) (n : ℕ) : Type 0 where
  pub bytes : IsBytes s
  pub sound : finding_of (nodes_of s) ≡ finding.Accepted
  pub frames : frames_of (nodes_of s) ≡ Some n
  pub some-frame : 1 ≤ n

-- Frame f of an accepted object of n frames can be drawn: its rows are there, and the image has room for its cells.
pub record DrawReady (s : List ℕ) (f n : ℕ) (image : List ℕ) : Type 0 where
  pub object : IsObject s n
  pub low : 1 ≤ f
  pub high : f ≤ n
  pub room : image_size (nodes_of s) ≤ length image

-- What all frames share.
pub record IsScene (ns : List Node) (c : Scene) : Type 0 where
  pub geometry : geometry_of ns ≡ Some c.g
  pub pixels : find ns Tags.PixelData (root ns) ≡ Some c.p
  pub below : c.p < length ns
  pub inverse-is : inverse_of ns ≡ Some c.inverse
  pub window-is : c.window ≡ shared_window ns c.g.stored

-- Row p is that of the pixel bytes: no sequence and no item.
pub record IsPixels (ns : List Node) (p : ℕ) : Type 0 where
  pub below : p < length ns
  pub is : ((node_at ns p).vr ≡ OW) ⊎ ((node_at ns p).vr ≡ OB)

-- The item of frame f.
pub record IsItem (ns : List Node) (f : ℕ) (item : Option ℕ) : Type 0 where
  pub is : item ≡ frame_item ns f
  pub below : Below (length ns) item

-- The mask item that applies to frame f, and what it says, the same for all frames.
pub record IsApplying (ns : List Node) (f : ℕ) (applies : Option ℕ) (told : Told) : Type 0 where
  pub is : applying_to ns f ≡ Some applies
  pub below : Below (length ns) applies
  pub tells : ToldBy ns applies told

-- What a frame has of its own.
pub record IsPlan (ns : List Node) (f stored : ℕ) (p : Plan) : Type 0 where
  pub window-is : window_for ns f stored ≡ Some p.window
  pub drawable : Drawable p.window
  pub masking-is : Some (masking_of ns p.masking) ≡ mask_for ns f
  pub below : MaskingBelow (length ns) p.masking

-- Frame f of an accepted object of n frames, with the scene and the plan worked out for it.
pub record PlanReady (s : List ℕ) (n : ℕ) (c : Scene) (f : ℕ) (p : Plan) : Type 0 where
  pub object : IsObject s n
  pub scene : IsScene (nodes_of s) c
  pub plan : IsPlan (nodes_of s) f c.g.stored p
  pub low : 1 ≤ f
  pub high : f ≤ n
