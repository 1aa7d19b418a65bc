-- Each entry is written whole, with what its item says, so that all entries stay right.
use Rattle.std.specs.Prelude.{Option, IfSome}
use Rattle.std.proofs.lemmas.List.Elements.{All-set}
use Rattle.node.specs.Nodes.{nodes_of}
use Rattle.node.proofs.Walks.{rest-below}
use Rattle.steps.specs.Internal.{IsTold}
use Rattle.ranges.specs.declared.ToldItem.{ToldItem}
use Rattle.ranges.proofs.tell_all.Goals as goal

pub loop-entry-preserved : goal.loop-entry-preserved
loop-entry-preserved c = (
  All-set (λ (entry : Option ToldItem). IfSome entry (λ e. IsTold (nodes_of c.args.set.now) e.item e.told))
      c.loop-entry.entry-items c.loop-entry.entry-index _ c.told_by-told.ensures c.loop-entry.invariant.0,
  rest-below _ _ _ _ c.in-Some.ensures.steps c.loop-entry.invariant.1,
)
