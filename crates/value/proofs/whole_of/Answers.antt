-- At least one digit and nothing after them make a number; at most 16 digits keep it below 10^16.
use Rattle.std.proofs.Common.{sym, ⊎_elim}
use Rattle.value.proofs.Forms as forms
use Rattle.value.proofs.whole_of.Goals as goal

pub digits-d-requires : goal.digits-d-requires
digits-d-requires c = forms.run_fits c.args.limit c.requires

pub returns-then-d-ne0 : goal.returns-then-d-ne0
returns-then-d-ne0 c =
    sym (forms.whole_is c.args.limit c.args.s.now c.digits-d.result c.digits-d.ensures c.if-d-s.true c.if-d-ne0.true)

pub returns-else-d-s : goal.returns-else-d-s
returns-else-d-s c =
    let r = c.digits-d.result in
    sym (⊎_elim
    (λ e. forms.whole-none c.args.limit c.args.s.now r c.digits-d.ensures e.0 e.1)
    (λ e. forms.whole-more c.args.limit c.args.s.now r c.digits-d.ensures e)
    c.else-d-s.either)
