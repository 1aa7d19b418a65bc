-- A group without its one item is broken, and in that item LOG alone makes the grade Log.
use Rattle.node.proofs.Laws as node_laws
use Rattle.rules.specs.Intensity.{is_log}
use Rattle.intensity.specs.Internal.{relation_of}
use Rattle.element.proofs.Laws as element-laws
use Rattle.intensity.proofs.relation_of.Goals as goal

pub returns-in-None : goal.returns-in-None
unfolding relation_of
returns-in-None c =
    rw (← element-laws.one-item-not _ _ (node_laws.had-none c.in-None.is c.the_item.ensures.value))

pub returns-then-is_cs_item : goal.returns-then-is_cs_item
unfolding relation_of is_log
returns-then-is_cs_item c =
    rw (
      ← element-laws.one-item-is _ _ _ (node_laws.had c.in-Some.is c.the_item.ensures.value),
      node_laws.had c.in-Some.is c.the_item.ensures.value,
      ← c.is_cs_item.ensures,
      c.if-is_cs_item.true,
    )

pub returns-else-is_cs_item : goal.returns-else-is_cs_item
unfolding relation_of is_log
returns-else-is_cs_item c =
    rw (
      ← element-laws.one-item-is _ _ _ (node_laws.had c.in-Some.is c.the_item.ensures.value),
      node_laws.had c.in-Some.is c.the_item.ensures.value,
      ← c.is_cs_item.ensures,
      c.if-is_cs_item.false,
    )
