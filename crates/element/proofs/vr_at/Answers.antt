-- The VR of what was found is looked at.
use borrow.Author.Tests.{eq-eqb, ne_eqb}
use Rattle.node.specs.Find.{of_vr}
use Rattle.node.proofs.Laws as laws
use Rattle.element.proofs.vr_at.Goals as goal

pub vr-requires : goal.vr-requires
vr-requires c =
    let p = c.requires in
    laws.within _ c.in-Some.is p

pub returns-then-vr : goal.returns-then-vr
unfolding of_vr
returns-then-vr c =
    let found = c.in-Some.is in record {
      value = rw (found, ← c.vr.ensures, eq-eqb _ _ c.if-vr.true);
      below = laws.within _ found c.requires;
    }

pub returns-else-vr : goal.returns-else-vr
unfolding of_vr
returns-else-vr c =
    record {
      value = rw (c.in-Some.is, ← c.vr.ensures, ne_eqb _ _ c.if-vr.false);
      below = tt;
    }
