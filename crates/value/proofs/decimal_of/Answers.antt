-- Both sides trim, test the length and read the same size; every size that is read was tested against the limit.
use mathlib.Core.Path.{◌≡◌, sym, ◌∙◌, subst}
use lib.ListN.{length}
use borrow.Author.Tests.{le-leb, lt-leb}
use Rattle.value.specs.Text.{trimmed}
use Rattle.value.specs.Number.{decimal_of, size_limit}
use Rattle.value.specs.Internal.{SizeBelow}
use Rattle.value.proofs.Laws as laws
use Rattle.value.proofs.decimal_of.Goals as goal

pub returns-then-t-le-CHARACTERS : goal.returns-then-t-le-CHARACTERS
unfolding decimal_of
returns-then-t-le-CHARACTERS c =
    let v = c.args.v.now in
    let e : c.signed_size.result ≡ decimal_of v = c.signed_size.ensures ∙ rw (
      c.trimmed-t.ensures,
      le-leb (length (trimmed v)) 16 (rw c.trimmed-t.ensures at c.if-t-le-CHARACTERS.true),
    ) in record {
      value = e;
      size_below = subst (SizeBelow size_limit) (sym e) (laws.decimal_of-below v);
    }

pub returns-else-t-le-CHARACTERS : goal.returns-else-t-le-CHARACTERS
unfolding decimal_of
returns-else-t-le-CHARACTERS c =
    let v = c.args.v.now in record {
      value = rw (lt-leb (length (trimmed v)) 16 (rw c.trimmed-t.ensures at c.if-t-le-CHARACTERS.false));
      size_below = tt;
    }
