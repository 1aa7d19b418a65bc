-- A chain of checks comes to the branch whose tests hold: the laws that `search` closes each return of a check with.
use mathlib.Core.Path.{◌≡◌, refl}
use mathlib.Core.Bool.{Bool, true, false}
use borrow.Author.Tests.{lt-ltb, le-ltb, eq-eqb, ne_eqb}
use native.Mathlib.Omega.{arith}
use Rattle.std.specs.Prelude.{Result}
use Rattle.dataset.specs.declared.Fault.{Fault}
use Rattle.dataset.specs.declared.Head.{Head}
use Rattle.dataset.specs.Header.{when}

pub when-yes : (b : Bool) (x a r : Result Head Fault) → b ≡ true → x ≡ a → x ≡ when b a r
unfolding when
when-yes b x a r e f = rw e f

pub when-no : (b : Bool) (x a r : Result Head Fault) → b ≡ false → x ≡ r → x ≡ when b a r
unfolding when
when-no b x a r e f = rw e f

pub ruleset checks = (when-yes, when-no, lt-ltb, le-ltb, eq-eqb, ne_eqb, refl, tt, arith)
