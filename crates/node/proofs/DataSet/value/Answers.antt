-- A sequence and an item have no value of their own; any other row says where its value starts and how long it is.
use Rattle.dataset.specs.Answer.{width, flat}
use Rattle.dataset.specs.Tree.{rows_of}
use Rattle.node.proofs.Laws as laws
use mathlib.Core.Path.{◌≡◌, sym, ap, ◌∙◌}
use native.Mathlib.Omega.{arith}
use mathlib.Core.Logic.{inl, inr}
use Prim.Native.Nat.{◌+◌, ◌-◌, ◌*◌}
use lib.ListN.{get_or, length}
use Rattle.node.proofs.DataSet.value.Goals as goal

pub returns-then-kind-eq-SQ : goal.returns-then-kind-eq-SQ
returns-then-kind-eq-SQ c =
    laws.value_none c.args.self.now _ (laws.tabled _) c.args.i c.requires
    (inl (sym (laws.vr-is c.args.self.now _ (laws.tabled _) c.args.i c.requires)
    ∙ sym c.number-kind.ensures ∙ c.if-kind-eq-SQ.true))

pub returns-then-kind-eq0 : goal.returns-then-kind-eq0
returns-then-kind-eq0 c =
    laws.value_none c.args.self.now _ (laws.tabled _) c.args.i c.requires
    (inr (sym (laws.vr-is c.args.self.now _ (laws.tabled _) c.args.i c.requires)
    ∙ sym c.number-kind.ensures ∙ c.if-kind-eq0.true))

pub overflow_add-end : goal.overflow_add-end
overflow_add-end c =
    omega (
      arith,
      c.number-start.ensures,
      c.number.ensures,
      laws.value-within c.args.self.now (flat (rows_of c.args.self.now)) (laws.tabled _) c.args.i c.requires,
      ap length c.self.view_is,
      c.self.told,
    )

pub slice_bounds-result-end-2 : goal.slice_bounds-result-end-2
slice_bounds-result-end-2 c =
    omega (
      arith,
      c.number-start.ensures,
      c.number.ensures,
      laws.value-within c.args.self.now (flat (rows_of c.args.self.now)) (laws.tabled _) c.args.i c.requires,
      ap length c.self.view_is,
      c.self.told,
    )

pub returns : goal.returns
returns c =
    let s = c.args.self.now in
    let rows = flat (rows_of s) in
    let v = laws.vr-is s rows (laws.tabled _) c.args.i c.requires in
    let e : get_or rows (width * c.args.i + 3) 0 + get_or rows (width * c.args.i + 4) 0 - get_or rows (width * c.args.i + 3) 0
    ≡ get_or rows (width * c.args.i + 4) 0 = omega arith in
    let same : c.self.inside.bytes.now ≡ s = c.self.view_is in
    rw (same, c.number-start.ensures, c.number.ensures, e)
    (laws.value-part s rows (laws.tabled _) c.args.i c.requires (λ q. c.if-kind-eq-SQ.false (c.number-kind.ensures ∙ v ∙ q))
    (λ q. c.if-kind-eq0.false (c.number-kind.ensures ∙ v ∙ q)))
