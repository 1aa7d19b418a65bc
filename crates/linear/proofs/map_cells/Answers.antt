-- What a turn writes is the cell's entry, since each answer on the way is what the mapping takes.
use Rattle.pixel.proofs.Laws.{painted-more}
use Rattle.linear.proofs.Laws as laws
use Rattle.linear.proofs.map_cells.Goals as goal

pub loop-i-preserved : goal.loop-i-preserved
loop-i-preserved c = rw (
  c.loop-i.invariant,
  laws.cell-entry c.args.g c.args.pixels.now c.args.frame
      c.args.descriptor.now c.args.entries.now c.loop-i.i _ _ _ _ _
      c.sample-x.ensures.0
      c.u16_at-from.ensures.0 c.entry_count-count.ensures.value c.place.ensures.0 c.entry.ensures,
)
    (painted-more _ _ _)
