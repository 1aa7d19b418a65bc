-- The root, the mask items and the frames are the three parts of the definition; the order of the root's tags counts nothing.
use Rattle.node.proofs.Laws as node_laws
use native.Mathlib.Omega.{arith}
use Rattle.node.specs.Nodes.{nodes_of, members}
use Rattle.node.proofs.Halves.{root-ascends}
use Rattle.searches.specs.Searches.{mask_searches, searches_of}
use Rattle.searches.specs.Internal.{root_order, mask_tags}
use Rattle.searches.proofs.Loops.{root-fits, masks-fit, root-rises, root-sum, masks-sum}
use Rattle.searches.proofs.sum.Goals as goal

pub look_along-requires : goal.look_along-requires
unfolding root_order
look_along-requires c = (
  omega (arith, c.count-end.ensures.0),
  (rw c.count-end.ensures.0 (root-ascends _ _ (node_laws.tabled c.args.set.now)), (omega arith, root-rises)),
)

pub overflow_add-result : goal.overflow_add-result
unfolding root_order mask_tags mask_searches
overflow_add-result c =
    let s = c.args.set.now in
    omega (
      arith,
      root-fits s (node_laws.tabled c.args.set.now).few c.look_along.result c.count-end.result
          (omega (arith, c.count-end.ensures.0)) c.look_along.ensures,
      masks-fit s (node_laws.tabled c.args.set.now).few c.look_each.result c.mask_items-masks.result.at c.mask_items-masks.result.end c.mask_items-masks.ensures.inner c.look_each.ensures,
    )

pub overflow_add-result-2 : goal.overflow_add-result-2
unfolding root_order mask_tags mask_searches
overflow_add-result-2 c =
    let s = c.args.set.now in
    omega (
      arith,
      root-fits s (node_laws.tabled c.args.set.now).few c.look_along.result c.count-end.result
          (omega (arith, c.count-end.ensures.0)) c.look_along.ensures,
      masks-fit s (node_laws.tabled c.args.set.now).few
          c.look_each.result c.mask_items-masks.result.at c.mask_items-masks.result.end c.mask_items-masks.ensures.inner c.look_each.ensures,
      c.frames_sum.ensures.upper_bound,
    )

pub returns : goal.returns
unfolding root_order mask_tags mask_searches searches_of
returns c =
    let ns = nodes_of c.args.set.now in
    omega (
      arith,
      c.look_along.ensures,
      root-sum ns c.count-end.result c.count-end.ensures.0,
      c.look_each.ensures,
      masks-sum ns (members ns c.mask_items-masks.result.at c.mask_items-masks.result.end) c.mask_items-masks.ensures.ahead,
      c.frames_sum.ensures.value,
    )
