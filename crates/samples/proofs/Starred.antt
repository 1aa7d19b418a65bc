-- The starred cases of document 01's "Sample drawer", all under one claim: in every line of the list `samples`, what the
-- definitions give is what the paper says. Nothing is left open on either side, so both are worked out, and are the same.
-- Where a change breaks the claim, the prover does not say in which line: check with a part of the list.
use mathlib.Core.Path.{◌≡◌, refl}
use mathlib.Core.List.{List, map, ◌++◌, map-append}
use Rattle.samples.proofs.Worked.{drawing}
use Rattle.samples.specs.Samples.{Outcome, Sample, window_samples, mask_samples, samples}

-- One claim over all of them takes more steps than the checker allows a declaration, so that its two parts are worked out apart.
windows : map (λ k. k.gives) window_samples ≡ map (λ k. k.says) window_samples
unfolding drawing
windows = refl

masks : map (λ k. k.gives) mask_samples ≡ map (λ k. k.says) mask_samples
unfolding drawing
masks = refl

joined : (f g : Sample → Outcome) (a b : List Sample) → map f a ≡ map g a → map f b ≡ map g b → map f (a ++ b) ≡ map g (a ++ b)
joined f g a b p q = rw (map-append f a b, map-append g a b, p, q)

-- The starred cases of document 01.
pub starred : map (λ k. k.gives) samples ≡ map (λ k. k.says) samples
starred = joined (λ k. k.gives) (λ k. k.says) window_samples mask_samples windows masks
