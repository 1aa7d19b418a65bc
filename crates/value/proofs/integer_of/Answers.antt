-- Both sides ask for one value, trim it and read it; 11 digits make a number below 10^11.
use mathlib.Core.Path.{◌≡◌, sym, subst}
use Rattle.value.specs.Number.{integer_of, integer_limit}
use Rattle.value.specs.Internal.{SizeBelow}
use Rattle.value.proofs.Laws as laws
use Rattle.value.proofs.integer_of.Goals as goal

pub returns-then-is_single : goal.returns-then-is_single
unfolding integer_of
returns-then-is_single c =
    let e : c.signed_whole.result ≡ integer_of c.args.v.now = rw (
      c.signed_whole.ensures,
      c.trimmed.ensures,
      c.value_of.ensures,
      ← c.is_single.ensures,
      c.if-is_single.true,
    ) in record {
      value = e;
      size_below = subst (SizeBelow integer_limit) (sym e) (laws.integer_of-below c.args.v.now);
    }

pub returns-else-is_single : goal.returns-else-is_single
unfolding integer_of
returns-else-is_single c = record {
  value = rw (← c.is_single.ensures, c.if-is_single.false);
  size_below = tt;
}
