-- The row says how many nodes are below it, and all of them stand in the table.
use Rattle.node.proofs.Laws as laws
use mathlib.Core.Path.{◌∙◌}
use native.Mathlib.Omega.{arith}
use Rattle.node.proofs.DataSet.next.Goals as goal

pub overflow_add-result-2 : goal.overflow_add-result-2
overflow_add-result-2 c =
    let e = c.number.ensures
    ∙ laws.descendants-is c.args.self.now _ (laws.tabled _) c.args.i c.requires in
    omega (
      arith,
      e,
      laws.next-within c.args.self.now _ (laws.tabled _) c.args.i c.requires,
      (laws.tabled c.args.self.now).few,
    )

pub returns : goal.returns
returns c =
    let e = c.number.ensures
    ∙ laws.descendants-is c.args.self.now _ (laws.tabled _) c.args.i c.requires in
    omega (arith, e, laws.next-within c.args.self.now _ (laws.tabled _) c.args.i c.requires)

pub overflow_add-result : goal.overflow_add-result
overflow_add-result c = omega (arith, c.requires, (laws.tabled c.args.self.now).few)
