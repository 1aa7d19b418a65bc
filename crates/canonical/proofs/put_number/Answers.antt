-- The lowest bytes of a number are the first of all its bytes.
use Rattle.canonical.proofs.Puts.{number-low}
use Rattle.canonical.proofs.put_number.Goals as goal

pub returns : goal.returns
returns c = rw (← number-low c.args.size c.args.x c.requires.sized c.to_le_bytes.ensures) c.put_bytes.ensures
