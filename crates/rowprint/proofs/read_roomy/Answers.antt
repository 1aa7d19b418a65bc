-- The buffer's length is as it was, so the rows counted are in it; and a row has at least 8 bytes.
use Rattle.std.specs.Prelude.{Result, ℕ}
use mathlib.Core.Path.{sym, subst}
use borrow.Author.Rules.{rules}
use Rattle.dataset.specs.declared.ReadError.{ReadError}
use Rattle.dataset.specs.Reading.{reading_of}
use Rattle.rowprint.specs.Internal.{RowsHeld, Roomy}
use Rattle.rowprint.proofs.Room.{held, roomy}
use Rattle.rowprint.proofs.read_roomy.Goals as goal

pub returns : goal.returns
returns c =
    let a = c.args in
    let e = c.read.ensures in record {
      value = e.answers.same;
      rows_after = e.rows_after;
      rows_held = subst (λ (r : Result ℕ ReadError). RowsHeld r c.read.new.rows) (sym e.answers.same)
          (held (reading_of a.bytes.now) a.rows.now c.read.new.rows (search rules));
      roomy = subst Roomy (sym e.answers.same) (roomy a.bytes.now a.rows.now c.requires);
    }
