-- The walk is lent no room, so that it only counts.
use Rattle.std.proofs.lemmas.Result.{err_from_is_err_and}
use Rattle.dataset.proofs.Whole as whole
use Rattle.basics.proofs.Promised.{promised}
use Rattle.dataset.proofs.count.Goals as goal

pub returns-then-bytes-gt-LARGEST : goal.returns-then-bytes-gt-LARGEST
returns-then-bytes-gt-LARGEST c = promised (whole.uncounted c.args.bytes.now c.if-bytes-gt-LARGEST.true)

pub returns-in_err-walk : goal.returns-in_err-walk
returns-in_err-walk c =
    let e = err_from_is_err_and c.from_residual.result c.from_residual.ensures.1 in
    rw (e.1, e.2) (promised (whole.refused-count c.args.bytes.now c.if-bytes-gt-LARGEST.false
    (whole.from-start c.args.bytes.now c.start.ensures c.in_err-walk.was c.read_item.ensures)))

pub returns : goal.returns
returns c =
    promised (whole.counted c.args.bytes.now c.if-bytes-gt-LARGEST.false
    (whole.from-start c.args.bytes.now c.start.ensures c.in_ok-walk.was c.read_item.ensures))
