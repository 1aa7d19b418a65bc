-- A node is a container; among few nodes the plain search does.
use Rattle.node.proofs.Laws as laws
use lib.ListN.{length}
use Rattle.node.specs.Nodes.{nodes_of}
use Rattle.node.proofs.Halves as halves
use Rattle.node.proofs.Laws.{below_more}
use Rattle.node.proofs.DataSet.find_in_item.Goals as goal

pub find_tag-requires : goal.find_tag-requires
find_tag-requires c =
    let n = c.next-to.ensures in
    (n.1, rw n.0 (halves.inside-ascends _ _ (laws.tabled _) c.args.holder c.requires))

pub returns-then-to-holder-le-FEW : goal.returns-then-to-holder-le-FEW
returns-then-to-holder-le-FEW c =
    let n = c.next-to in record {
      value = rw (← n.ensures.0) c.find_tag.ensures.value;
      below = below_more n.result (length (nodes_of c.args.self.now)) c.find_tag.result n.ensures.1 c.find_tag.ensures.below;
    }

pub find_wide-requires : goal.find_wide-requires
find_wide-requires c =
    halves.node-container _ _ (laws.tabled _) c.args.holder c.requires _ c.next-to.ensures.0

pub returns : goal.returns
returns c =
    let n = c.next-to in record {
      value = rw (← n.ensures.0) c.find_wide.ensures.value;
      below = below_more n.result (length (nodes_of c.args.self.now)) c.find_wide.result n.ensures.1 c.find_wide.ensures.below;
    }
