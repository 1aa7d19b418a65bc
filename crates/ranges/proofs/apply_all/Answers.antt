-- Without the sequence no item applies; else its items are tried in order. Another VR is ruled out, since each frame has an answer.
use mathlib.Core.Path.{sym, ap, ◌∙◌}
use native.Mathlib.Omega.{arith}
use Rattle.node.specs.Nodes.{nodes_of}
use Rattle.steps.specs.Steps.{first_holding}
use Rattle.steps.proofs.Laws as steps-laws
use Rattle.ranges.proofs.Items as items
use Rattle.ranges.proofs.apply_all.Goals as goal

pub cover_items-requires : goal.cover_items-requires
cover_items-requires c =
    let p = c.requires in
    let ns = nodes_of c.args.set.now in
    let m = c.mask_items-items.ensures in (
      m.inner,
      (
        record { few = p.0.few; marks = p.0.marks; frames = omega (arith, p.0.frames) },
        (
          c.clear.ensures,
          record {
            each = λ f low high q. p.1.each f low high
                (steps-laws.among-items ns f (p.1.each f low high) ∙ (ap (first_holding ns f) (sym m.ahead) ∙ q));
          },
        ),
      ),
    )

pub returns : goal.returns
returns c =
    let p = c.requires in
    let ns = nodes_of c.args.set.now in
    let m = c.mask_items-items.ensures in
    record {
      each = λ f low high. steps-laws.among-items ns f (p.1.each f low high)
          ∙ (ap (first_holding ns f) (sym m.ahead) ∙ items.left-all _ _ _ _ c.cover_items.ensures f low high);
      below = c.cover_items.ensures.below;
    }
