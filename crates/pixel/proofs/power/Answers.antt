-- One shifted by n is 2^n, which fits.
use Rattle.pixel.proofs.Laws.{power-fits}
use Rattle.pixel.proofs.power.Goals as goal

pub returns : goal.returns
returns c =
    power-fits _ c.requires
