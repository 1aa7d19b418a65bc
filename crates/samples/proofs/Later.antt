-- The samples of later requests, worked out as the starred cases are (proofs/Starred). They are a claim of their own, since one
-- claim over both lists takes more steps than the checker allows a declaration.
use mathlib.Core.Path.{◌≡◌, refl}
use mathlib.Core.List.{map}
use Rattle.samples.proofs.Worked.{drawing}
use Rattle.samples.specs.Samples.{later}

-- Those of later requests.
pub later-given : map (λ k. k.gives) later ≡ map (λ k. k.says) later
unfolding drawing
later-given = refl
