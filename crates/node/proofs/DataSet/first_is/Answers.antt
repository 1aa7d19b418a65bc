-- Of the members only the first is looked at.
use mathlib.Core.Path.{sym, ◌∙◌}
use native.Mathlib.Omega.{arith}
use Rattle.node.proofs.Halves.{first-none, first-here, first-other}
use Rattle.node.proofs.DataSet.first_is.Goals as goal

pub returns-then-tag-wanted : goal.returns-then-tag-wanted
returns-then-tag-wanted c =
    let inside = c.if-i-to.true in record {
      value = sym (first-here _ _ _ _ inside (sym c.tag.ensures ∙ c.if-tag-wanted.true));
      below = inside;
    }

pub returns-else-tag-wanted : goal.returns-else-tag-wanted
returns-else-tag-wanted c = record {
  value = sym (first-other _ _ _ _ c.if-i-to.true (λ e. c.if-tag-wanted.false (c.tag.ensures ∙ e)));
  below = tt;
}

pub returns-else-i-to : goal.returns-else-i-to
returns-else-i-to c = record {
  value = sym (first-none _ _ _ _ (omega (arith, c.if-i-to.false)));
  below = tt;
}
