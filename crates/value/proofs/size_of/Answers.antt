-- After the digits there is nothing, a point or another byte, as in the definition; 16 characters make no number that does not fit.
use Rattle.std.proofs.Common.{ℕ, ◌+◌, List, length, length-drop, sym, ap, ◌∙◌, arith}
use Rattle.value.specs.Number.{end_of, point_by, run_of}
use Rattle.value.proofs.Forms as forms
use Rattle.basics.proofs.Lists as lists
use Rattle.value.proofs.size_of.Goals.{else-n-s-via-then-n-s+else-s-n-eq46, else-n-s-via-else-n-s}
use Rattle.value.proofs.size_of.Goals as goal

pub digits-d-requires : goal.digits-d-requires
digits-d-requires c = forms.run_fits _ c.requires

pub point_of-requires : goal.point_of-requires
point_of-requires c =
    let s = c.args.s.now in
    let r = c.digits-d.result in
    let e = ap length (lists.to_end s (r.count + 1)) ∙ length-drop (r.count + 1) s in
    (omega (arith, e), forms.point-fits s r c.digits-d.ensures c.requires _ (omega (arith, e)))

pub end_of-requires : goal.end_of-requires
end_of-requires c =
    (forms.number_fits 0 c.args.s.now c.digits-d.result c.digits-d.ensures (forms.run_fits _ c.requires), omega arith)

pub returns-then-s-n-eq46 : goal.returns-then-s-n-eq46
returns-then-s-n-eq46 c =
    let s = c.args.s.now in
    let r = c.digits-d.result in
    c.point_of.ensures
    ∙ ap (λ (l : List ℕ). point_by r.count (run_of r.number l)) (lists.to_end s (r.count + 1))
    ∙ sym (forms.size-point s r c.digits-d.ensures (λ e. omega arith) c.if-s-n-eq46.true)

pub returns-else-n-s : goal.returns-else-n-s
returns-else-n-s c =
    let s = c.args.s.now in
    let r = c.digits-d.result in
    let d = c.digits-d.ensures in
    c.end_of.ensures
    ∙ ap (λ (l : List ℕ). end_of r.count r.number 0 l) (lists.to_end s r.count)
    ∙ sym (elim c.else-n-s.branch [
      | else-n-s-via-then-n-s+else-s-n-eq46 w ↦ forms.size-other s r d (λ e. omega (arith, w.if-n-s.true)) w.if-s-n-eq46.false
      | else-n-s-via-else-n-s w ↦ forms.size-end s r d (omega (arith, d.within, w.if-n-s.false))
    ])
