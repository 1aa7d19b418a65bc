-- Nothing is written unless all 260 numbers fit.
use lib.ListN.{length}
use borrow.Author.Tests.{le-leb, lt-leb}
use Rattle.sheet.specs.Sheet.{sheet_size}
use Rattle.c_sheet.proofs.Put.{sheet-put, sheet-kept}
use mathlib.Core.Path.{sym, ◌∙◌}
use native.Mathlib.Omega.{arith}
use Rattle.c_sheet.proofs.put_sheet.Goals as goal

pub put_numbers-requires : goal.put_numbers-requires
put_numbers-requires c =
    c.if-buffer-ge-NUMBERS.true

pub returns-then-buffer-ge-NUMBERS : goal.returns-then-buffer-ge-NUMBERS
returns-then-buffer-ge-NUMBERS c =
    record {
      value = sym (le-leb sheet_size (length c.args.buffer.now) c.if-buffer-ge-NUMBERS.true);
      buffer_after = c.put_numbers.ensures ∙ sheet-put c.args.t c.args.buffer.now c.requires c.if-buffer-ge-NUMBERS.true;
    }

pub returns-else-buffer-ge-NUMBERS : goal.returns-else-buffer-ge-NUMBERS
returns-else-buffer-ge-NUMBERS c = record {
  value = sym (lt-leb sheet_size (length c.args.buffer.now) (omega (arith, c.if-buffer-ge-NUMBERS.false)));
  buffer_after = sheet-kept c.args.t c.args.buffer.now (omega (arith, c.if-buffer-ge-NUMBERS.false));
}
