-- What is above `here` stays the same while tags not above it are passed.
use mathlib.Core.Path.{◌≡◌}
use lib.ListN.{length}
use Rattle.searches.specs.Internal.{tags_above}
use Rattle.searches.proofs.tags_above.Given as goal

abbrev pub invariant-loop-wanted : goal.invariant-loop-wanted
invariant-loop-wanted l =
    tags_above l.here l.wanted ≡ tags_above l.here l.fn.wanted

abbrev pub decreases-loop-wanted : goal.decreases-loop-wanted
decreases-loop-wanted l =
    length l.wanted
