-- A verdict that a slip can record is written, and its slip fills the 17 bytes.
use mathlib.Core.Path.{◌∙◌}
use mathlib.Core.List.{append-nil}
use Rattle.slip.specs.Slip.{slip_buffer}
use Rattle.write_slip_one.proofs.slip_of.Goals as goal

pub returns : goal.returns
unfolding slip_buffer
returns c =
    c.write_slip.ensures.slip_after ∙ rw (c.requires, append-nil)
