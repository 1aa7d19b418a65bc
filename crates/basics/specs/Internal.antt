-- How the code's table of forms relates to the definition of a VR's form. None of this is in the papers.
use Rattle.std.specs.Prelude.{◌≡◌, ℕ, ◌+◌, ◌*◌, ◌/◌, ◌%◌, ◌^◌, ◌<◌}
use Rattle.basics.specs.Vr.{form_of}

-- The forms of the VRs with a first letter, as one number: two bits for each second letter from 64 on.
abbrev pub FormsAfter : ℕ → ℕ → Type 0
FormsAfter first forms = (k : ℕ) → k < 32 → forms / 2 ^ (2 * k) % 4 ≡ form_of (first * 256 + 64 + k)
