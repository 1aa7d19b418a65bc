-- What Q-4 asks of the blend of step 4, as two statements. On whole shifts both rules agree: if the mask is moved by any number of whole
-- rows and columns, in any direction, the blended value of every cell of the picture is the mask cell that the step of whole pixels took
-- (`AgreeCells`; specs/Whole has that step). And a blended value is never smaller than the least of its four neighbours and never greater
-- than the greatest of them, for any mask frames, any moves and any cell (`Between`). Proved in proofs/Quarters.
use Rattle.std.specs.Prelude.{◌≡◌, List, ℕ, ◌≤◌, ◌<◌, min, max}
use Rattle.shift.specs.declared.Moves.{Moves}
use Rattle.shift.specs.Whole.{moves_in_quarters}
use Rattle.pixel.specs.declared.Geometry.{Geometry}
use Rattle.pixel.specs.Pixel.{samples_of, mask_at, neighbour_of, blended_at}
use Rattle.pixel.specs.Whole.{source_of}

abbrev pub AgreeCells : Type 0
AgreeCells =
    (g : Geometry) (v ks : List ℕ) (m : Moves) (i : ℕ) → i < samples_of g
    → blended_at g v ks (moves_in_quarters m) i ≡ mask_at g v ks (source_of g m i)

-- The least and the greatest of four numbers.
abbrev pub least : (ℕ → ℕ → ℕ) → ℕ
least f = min (min (f 0 0) (f 0 1)) (min (f 1 0) (f 1 1))

abbrev pub greatest : (ℕ → ℕ → ℕ) → ℕ
greatest f = max (max (f 0 0) (f 0 1)) (max (f 1 0) (f 1 1))

pub record IsBetween (g : Geometry) (v ks : List ℕ) (m : Moves) (i : ℕ) : Type 0 where
  pub low : least (λ down right. mask_at g v ks (neighbour_of g m i down right)) ≤ blended_at g v ks m i
  pub high : blended_at g v ks m i ≤ greatest (λ down right. mask_at g v ks (neighbour_of g m i down right))

abbrev pub Between : Type 0
Between = (g : Geometry) (v ks : List ℕ) (m : Moves) (i : ℕ) → IsBetween g v ks m i
