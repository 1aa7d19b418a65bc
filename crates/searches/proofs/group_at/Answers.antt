-- The shared item adds where the frame's item lacks the group, or always; what is read stands in the group that was found.
use native.Mathlib.Omega.{arith}
use Rattle.node.specs.Nodes.{nodes_of}
use Rattle.node.proofs.Laws as node_laws
use Rattle.searches.proofs.Loops.{group-lacks, group-both, group-own, group-fits}
use Rattle.searches.proofs.group_at.Goals as goal

pub overflow_add-result : goal.overflow_add-result
overflow_add-result c =
    let a = c.args in
    let ns = nodes_of a.set.now in
    let fits = group-fits a.set.now (node_laws.tabled c.args.set.now).few a.group.now.tag a.group.now.always a.group.now.reads.now a.shared a.item (omega arith) in
    let sum = group-lacks ns a.group.now.tag a.group.now.reads.now a.shared a.item a.group.now.always
    (node_laws.had-none c.in-None.is c.look_item-l.ensures.finds) in
    omega (arith, sum, fits, c.look_item-l.ensures.counts, c.requires.1.looked, c.requires.1.read)

pub overflow_add-result-in-None : goal.overflow_add-result-in-None
overflow_add-result-in-None c =
    let a = c.args in
    let ns = nodes_of a.set.now in
    let fits = group-fits a.set.now (node_laws.tabled c.args.set.now).few a.group.now.tag a.group.now.always a.group.now.reads.now a.shared a.item (omega arith) in
    let sum = group-lacks ns a.group.now.tag a.group.now.reads.now a.shared a.item a.group.now.always
    (node_laws.had-none c.in-None.is c.look_item-l.ensures.finds) in
    omega (arith, sum, fits, c.look_item-l.ensures.counts, c.requires.1.looked, c.requires.1.read)

pub overflow_add-result-then-group : goal.overflow_add-result-then-group
overflow_add-result-then-group c =
    let a = c.args in
    let ns = nodes_of a.set.now in
    let fits = group-fits a.set.now (node_laws.tabled c.args.set.now).few a.group.now.tag a.group.now.always a.group.now.reads.now a.shared a.item (omega arith) in
    let sum = group-both ns a.group.now.tag a.group.now.reads.now a.shared a.item a.group.now.always c.if-group.true
    c.in-Some.g (node_laws.had c.in-Some.is c.look_item-l.ensures.finds) in
    omega (arith, sum, fits, c.look_item-l.ensures.counts, c.requires.1.looked, c.look_group-read.ensures)

pub overflow_add-result-then-group-2 : goal.overflow_add-result-then-group-2
overflow_add-result-then-group-2 c =
    let a = c.args in
    let ns = nodes_of a.set.now in
    let fits = group-fits a.set.now (node_laws.tabled c.args.set.now).few a.group.now.tag a.group.now.always a.group.now.reads.now a.shared a.item (omega arith) in
    let sum = group-both ns a.group.now.tag a.group.now.reads.now a.shared a.item a.group.now.always c.if-group.true
    c.in-Some.g (node_laws.had c.in-Some.is c.look_item-l.ensures.finds) in
    omega (arith, sum, fits, c.look_item-l.ensures.counts, c.requires.1.looked, c.look_group-read.ensures)

pub overflow_add-result-else-group : goal.overflow_add-result-else-group
overflow_add-result-else-group c =
    let a = c.args in
    let ns = nodes_of a.set.now in
    let fits = group-fits a.set.now (node_laws.tabled c.args.set.now).few a.group.now.tag a.group.now.always a.group.now.reads.now a.shared a.item (omega arith) in
    let sum = group-own ns a.group.now.tag a.group.now.reads.now a.shared a.item a.group.now.always c.if-group.false c.in-Some.g
    (node_laws.had c.in-Some.is c.look_item-l.ensures.finds) in
    omega (arith, sum, fits, c.look_item-l.ensures.counts, c.requires.1.looked, c.look_group-read.ensures)

pub returns-in-None : goal.returns-in-None
returns-in-None c =
    let a = c.args in
    let ns = nodes_of a.set.now in
    let fits = group-fits a.set.now (node_laws.tabled c.args.set.now).few a.group.now.tag a.group.now.always a.group.now.reads.now a.shared a.item (omega arith) in
    let sum = group-lacks ns a.group.now.tag a.group.now.reads.now a.shared a.item a.group.now.always
    (node_laws.had-none c.in-None.is c.look_item-l.ensures.finds) in
    omega (arith, sum, fits, c.look_item-l.ensures.counts, c.requires.1.looked, c.requires.1.read)

pub returns-then-group : goal.returns-then-group
returns-then-group c =
    let a = c.args in
    let ns = nodes_of a.set.now in
    let fits = group-fits a.set.now (node_laws.tabled c.args.set.now).few a.group.now.tag a.group.now.always a.group.now.reads.now a.shared a.item (omega arith) in
    let sum = group-both ns a.group.now.tag a.group.now.reads.now a.shared a.item a.group.now.always c.if-group.true
    c.in-Some.g (node_laws.had c.in-Some.is c.look_item-l.ensures.finds) in
    omega (arith, sum, fits, c.look_item-l.ensures.counts, c.requires.1.looked, c.look_group-read.ensures)

pub returns-else-group : goal.returns-else-group
returns-else-group c =
    let a = c.args in
    let ns = nodes_of a.set.now in
    let fits = group-fits a.set.now (node_laws.tabled c.args.set.now).few a.group.now.tag a.group.now.always a.group.now.reads.now a.shared a.item (omega arith) in
    let sum = group-own ns a.group.now.tag a.group.now.reads.now a.shared a.item a.group.now.always c.if-group.false c.in-Some.g
    (node_laws.had c.in-Some.is c.look_item-l.ensures.finds) in
    omega (arith, sum, fits, c.look_item-l.ensures.counts, c.requires.1.looked, c.look_group-read.ensures)
