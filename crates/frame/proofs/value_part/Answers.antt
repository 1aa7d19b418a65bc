-- The row says where the value starts and how long it is, and both lie within the data set.
use mathlib.Core.Path.{refl}
use native.Mathlib.Omega.{arith}
use Rattle.node.proofs.Laws as node_laws
use Rattle.frame.proofs.Laws as laws
use Rattle.frame.proofs.value_part.Goals as goal

pub overflow_add-end : goal.overflow_add-end
overflow_add-end c =
    omega (arith, node_laws.value-within _ _ c.requires.0 _ c.requires.1)

pub slice_bounds-result-end : goal.slice_bounds-result-end
slice_bounds-result-end c =
    omega (arith, node_laws.value-within _ _ c.requires.0 _ c.requires.1)

pub returns : goal.returns
returns c =
    let a = node_laws.number _ _ c.requires.0 _ c.requires.1 3 (omega arith) in
    let b = node_laws.number _ _ c.requires.0 _ c.requires.1 4 (omega arith) in
    laws.part-range _ _ _ _ _ _ a b refl (omega arith) refl
    (omega (arith, node_laws.value-within _ _ c.requires.0 _ c.requires.1))
