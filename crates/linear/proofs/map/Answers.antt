-- A frame that can be mapped has all four parts.
use mathlib.Core.Path.{refl, ◌∙◌}
use Rattle.node.specs.Nodes.{nodes_of}
use Rattle.node.proofs.Laws as node_laws
use Rattle.steps.specs.Internal.{value_found}
use Rattle.steps.proofs.Laws as steps-laws
use Rattle.linear.proofs.Maps as maps
use Rattle.linear.proofs.map.Goals as goal

pub unwrap-d-requires : goal.unwrap-d-requires
unwrap-d-requires c =
    maps.descriptor-there _ _ _ _ c.requires.1 c.find_vr_item.ensures.value

pub unwrap-t-requires : goal.unwrap-t-requires
unwrap-t-requires c =
    maps.data-there _ _ _ _ c.requires.1 c.find_vr_item-2.ensures.value

pub map_cells-requires : goal.map_cells-requires
map_cells-requires c =
    rw (c.value.ensures, c.value-2.ensures, c.value-3.ensures) (maps.ready _ _ _ _ c.requires.1 _ _
    _ _ (steps-laws.told c.unwrap-g.ensures c.geometry_of.ensures.result_value)
    (steps-laws.said (value_found (nodes_of c.args.set.now)) c.unwrap-p.ensures c.pixel_element.ensures.result_value)
    (node_laws.had c.unwrap-d.ensures c.find_vr_item.ensures.value)
    (node_laws.had c.unwrap-t.ensures c.find_vr_item-2.ensures.value) c.args.values.now refl)

pub returns : goal.returns
returns c =
    c.map_cells.ensures ∙ rw (c.value.ensures, c.value-2.ensures, c.value-3.ensures)
    (maps.leaves _ _ _ _ c.requires.1 _ _ _ _
    (steps-laws.told c.unwrap-g.ensures c.geometry_of.ensures.result_value)
    (steps-laws.said (value_found (nodes_of c.args.set.now)) c.unwrap-p.ensures c.pixel_element.ensures.result_value)
    (node_laws.had c.unwrap-d.ensures c.find_vr_item.ensures.value)
    (node_laws.had c.unwrap-t.ensures c.find_vr_item-2.ensures.value) c.args.values.now refl)
