-- What is known about an answer before it is printed.
use Rattle.std.specs.Prelude.{ℕ, ◌≤◌, List, length, Result, Ok, Err}
use Rattle.dataset.specs.declared.ReadError.TheVariants.{Refused, TooLarge, NoRoom}
use Rattle.canonical.specs.declared.Written.{Written}
use Rattle.canonical.specs.declared.CanonicalError.{CanonicalError}
use Rattle.canonical.specs.declared.CanonicalError.TheVariants.{Unread, NoTargetRoom}

-- The target holds the bytes that the answer counts.
abbrev pub Held : Result Written CanonicalError → List ℕ → Type 0
Held (Ok w) target = w.bytes ≤ length target
Held (Err e) target = Unit {0}

-- The answer is neither code 8 nor code 21.
abbrev pub Roomy : Result Written CanonicalError → Type 0
Roomy (Ok w) = Unit {0}
Roomy (Err (NoTargetRoom size)) = ⊥
Roomy (Err (Unread (Refused r))) = Unit {0}
Roomy (Err (Unread TooLarge)) = Unit {0}
Roomy (Err (Unread NoRoom)) = ⊥
