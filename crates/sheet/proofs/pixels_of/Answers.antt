-- The pixel bytes are no sequence, so their value is the part of the data set that their row names.
use Rattle.display.proofs.Scenes as scenes
use mathlib.Core.Path.{◌∙◌}
use Rattle.sheet.proofs.pixels_of.Goals as goal

pub value_part-requires : goal.value_part-requires
value_part-requires c =
    rw c.bytes.ensures (c.rows.ensures, c.requires.below)

pub returns : goal.returns
returns c =
    (rw c.bytes.ensures at c.value_part.ensures.bytes)
    ∙ scenes.pixel-bytes c.args.set.now _ c.rows.ensures c.args.p c.requires
