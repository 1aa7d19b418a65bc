-- The first walk is lent no room; the second, which goes as the first, writes the rows.
use native.Mathlib.Omega.{arith}
use Rattle.std.proofs.lemmas.Result.{err_from_is_err_and}
use Rattle.dataset.proofs.Whole as whole
use Rattle.dataset.proofs.read.Goals as goal

pub returns-then-bytes-gt-LARGEST : goal.returns-then-bytes-gt-LARGEST
returns-then-bytes-gt-LARGEST c =
    let x = whole.too_large_lem c.args.bytes.now c.args.rows.now c.if-bytes-gt-LARGEST.true in record {
      answers = x.0;
      rows_after = x.1;
    }

pub returns-in_err-counted : goal.returns-in_err-counted
returns-in_err-counted c =
    let a = c.args in
    let e = err_from_is_err_and c.from_residual.result c.from_residual.ensures.1 in
    let x = whole.refused a.bytes.now a.rows.now c.if-bytes-gt-LARGEST.false
    (whole.from-start a.bytes.now c.start-c.ensures c.in_err-counted.was c.read_item.ensures) in record {
      answers = rw (e.1, e.2) x.0;
      rows_after = x.1;
    }

pub returns-then-rows-counted : goal.returns-then-rows-counted
returns-then-rows-counted c =
    let a = c.args in
    let x = whole.no_room a.bytes.now a.rows.now c.if-bytes-gt-LARGEST.false
    (whole.from-start a.bytes.now c.start-c.ensures c.in_ok-counted.was c.read_item.ensures)
    (omega (arith, c.if-rows-counted.true)) in record {
      answers = x.0;
      rows_after = x.1;
    }

pub returns : goal.returns
returns c =
    let a = c.args in
    let x = whole.filled a.bytes.now a.rows.now c.if-bytes-gt-LARGEST.false
    (whole.from-start a.bytes.now c.start-c.ensures c.in_ok-counted.was c.read_item.ensures)
    (omega (arith, c.if-rows-counted.false))
    (whole.from-start a.bytes.now c.start-c.ensures c.in_ok-written.was c.read_item-2.ensures) in record {
      answers = x.0;
      rows_after = x.1;
    }
