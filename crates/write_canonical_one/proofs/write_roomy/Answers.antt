-- The target's length is as it was, so what is written is in it; and both buffers suffice.
use Rattle.std.specs.Prelude.{Result}
use mathlib.Core.Path.{sym, subst}
use Rattle.canonical.specs.declared.Written.{Written}
use Rattle.canonical.specs.declared.CanonicalError.{CanonicalError}
use Rattle.write_canonical_one.specs.Internal.{Held, Roomy}
use Rattle.write_canonical_one.proofs.Room.{held, roomy}
use borrow.Author.Rules.{rules}
use Rattle.write_canonical_one.proofs.write_roomy.Goals as goal

pub returns : goal.returns
returns c =
    let a = c.args in
    let p = c.requires in
    let e = c.write_canonical.ensures in record {
      value = e.answers.same;
      target_after = e.target_after;
      held = subst (λ (r : Result Written CanonicalError). Held r c.write_canonical.new.target) (sym e.answers.same)
          (held a.bytes.now a.rows.now a.target.now c.write_canonical.new.target (search rules));
      roomy = subst Roomy (sym e.answers.same)
          (roomy a.bytes.now a.rows.now a.target.now p.0 p.1);
    }
