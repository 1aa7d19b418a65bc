-- A rule that is asked at each frame starts at frame 1; any other is asked at frame 0.
use Rattle.conformance.specs.Judging.{first_frame}
use Rattle.conformance.proofs.first_frame.Goals as goal

pub returns-then-is_per_frame : goal.returns-then-is_per_frame
unfolding first_frame
returns-then-is_per_frame c =
    rw (← c.is_per_frame.ensures, c.if-is_per_frame.true)

pub returns-else-is_per_frame : goal.returns-else-is_per_frame
unfolding first_frame
returns-else-is_per_frame c =
    rw (← c.is_per_frame.ensures, c.if-is_per_frame.false)
