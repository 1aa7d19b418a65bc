-- Every place of the table is 0.
use Rattle.ids.proofs.Laws as laws
use Rattle.ids.proofs.no_marks.Goals as goal

pub returns : goal.returns
returns c = laws.no-marks 65536
