-- What the search finds is asked for its length.
use Rattle.node.specs.Find.{has}
use Rattle.node.proofs.Laws as laws
use Rattle.element.proofs.has_root.Goals as goal

pub is_filled-requires : goal.is_filled-requires
is_filled-requires c =
    let p = (laws.tabled c.args.set.now) in
    laws.within _ c.in-Some.is c.find_vr_root.ensures.below

pub returns-in-None : goal.returns-in-None
unfolding has
returns-in-None c = rw (laws.had-none c.in-None.is c.find_vr_root.ensures.value)

pub returns-in-Some : goal.returns-in-Some
unfolding has
returns-in-Some c =
    rw (laws.had c.in-Some.is c.find_vr_root.ensures.value) c.is_filled.ensures
