-- What painting is asked: the pixel bytes and the mask frames are those of the nodes, and one frame number as two bytes is a list of that
-- frame.
use mathlib.Core.Path.{◌≡◌, ap, subst}
use mathlib.Core.Bool.{true}
use mathlib.Core.List.{List, [], ◌∷◌}
use Prim.Native.Nat.{ℕ, zero, suc, ◌+◌, ◌*◌, ◌/◌, ◌%◌, ◌<◌}
use native.Mathlib.Omega.{arith}
use lib.ListN.{length, get_or}
use Rattle.value.specs.Number.{us_values}
use Rattle.pixel.specs.declared.Geometry.{Geometry}
use Rattle.pixel.specs.Pixel.{is_frame}
use Rattle.pixel.specs.Internal.{Masks}

pub pair_values : (t : ℕ) → t < 65536 → us_values (t % 256 ∷ t / 256 % 256 ∷ []) ≡ t ∷ []
unfolding us_values
pair_values t h =
    let e : t % 256 + 256 * (t / 256 % 256) ≡ t = omega arith in
    ap (λ (k : ℕ). k ∷ []) e

pub pair-masks : (v : List ℕ) (g : Geometry) (t : ℕ) → t < 65536 → is_frame g v t ≡ true → Masks v g (t % 256 ∷ t / 256 % 256 ∷ [])
pair-masks v g t h f =
    let e = pair_values t h in
    record {
      some = rw e (omega arith);
      few = rw e (omega arith);
      frames = λ k l. frame k (subst (λ (s : List ℕ). k < length s) e l);
    }
  where
    frame : (k : ℕ) → k < 1 → is_frame g v (get_or (us_values (t % 256 ∷ t / 256 % 256 ∷ [])) k 0) ≡ true
    frame zero l = rw (pair_values t h) f
    frame (suc k) l = absurd (omega arith)
