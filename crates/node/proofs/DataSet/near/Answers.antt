-- What goes on from the first tag not below the one sought stays the same while lower tags are passed.
use mathlib.Core.Path.{refl, ◌∙◌}
use native.Mathlib.Omega.{arith}
use Rattle.node.proofs.Halves.{from_end, from-here, from-later}
use Rattle.node.proofs.DataSet.near.Goals as goal

pub loop-left-init : goal.loop-left-init
loop-left-init c = refl

pub tag-requires : goal.tag-requires
tag-requires c =
    omega (arith, c.if-k-to.true, c.requires)

pub next-k-requires : goal.next-k-requires
next-k-requires c =
    omega (arith, c.if-k-to.true, c.requires)

pub loop-left-preserved : goal.loop-left-preserved
loop-left-preserved c =
    rw c.next-k.ensures.0
    (from-later _ _ _ _ c.if-k-to.true (omega (arith, c.tag.ensures, c.if-tag-wanted.true))
    ∙ c.loop-left.invariant)

pub returns-else-tag-wanted : goal.returns-else-tag-wanted
returns-else-tag-wanted c =
    from-here _ _ _ _ c.if-k-to.true (omega (arith, c.tag.ensures, c.if-tag-wanted.false)) ∙ c.loop-left.invariant

pub returns-else-k-to : goal.returns-else-k-to
returns-else-k-to c = from_end _ _ _ _ (omega (arith, c.if-k-to.false)) ∙ c.loop-left.invariant

pub returns : goal.returns
returns c = tt
