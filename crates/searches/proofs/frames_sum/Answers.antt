-- Without a shared item nothing is looked at for frames; with one, rule 27 and the groups add up, and stay far below 2^60.
use native.Mathlib.Omega.{arith}
use Rattle.node.specs.Nodes.{nodes_of}
use Rattle.element.specs.Frames.{frame_items}
use Rattle.node.proofs.Laws as node_laws
use Rattle.searches.proofs.Sums.{frames-are}
use Rattle.searches.proofs.Loops.{both-fits}
use Rattle.searches.proofs.frames_sum.Goals as goal

pub overflow_add-result : goal.overflow_add-result
overflow_add-result c =
    omega (
      arith,
      c.both_items.ensures,
      both-fits c.args.set.now (node_laws.tabled c.args.set.now).few c.in-Some.s,
      c.groups_over.ensures.upper_bound,
    )

pub returns-in-Some : goal.returns-in-Some
returns-in-Some c =
    let ns = nodes_of c.args.set.now in record {
      value = rw (node_laws.had c.in-Some.is c.shared_item.ensures.value)
          (omega (arith, frames-are ns c.in-Some.s (frame_items ns), c.both_items.ensures, c.groups_over.ensures.value));
      upper_bound = omega (
        arith,
        c.both_items.ensures,
        both-fits c.args.set.now (node_laws.tabled c.args.set.now).few c.in-Some.s,
        c.groups_over.ensures.upper_bound,
      );
    }
