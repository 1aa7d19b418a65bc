-- Both data sets are worked out; what is the same of both follows from `privacy`.
use Rattle.std.specs.Prelude.{Result}
use mathlib.Core.Path.{◌≡◌, refl, sym, ap, ◌∙◌}
use mathlib.Core.List.{[], ◌∷◌}
use Rattle.dataset.specs.Tree.{rows_of}
use Rattle.conformance.specs.declared.Outcome.{Outcome}
use Rattle.dataset.specs.declared.ReadError.{ReadError}
use Rattle.conformance.specs.Judging.{judge_of, fields_of}
use Rattle.display.specs.Show.{show_of, image_of}
use Rattle.display.specs.Show as show
use Rattle.samples.proofs.Worked.{reading, drawing}
use Rattle.privacy.specs.Privacy.{is_patient, SameButPatient, SameAnswers}
use Rattle.privacy.specs.Pair.{one, other, patient_sizes, buffer, image, Pair}
use Rattle.privacy.proofs.Privacy.{privacy}

premise : SameButPatient one other
unfolding reading is_patient
premise =
    record {
      shape = record { rows = rows_of one; others = rows_of other; reads = refl; reads_other = refl; same = refl };
      values = refl;
    }

sizes : (patient_sizes (rows_of one) ≡ 8 ∷ 4 ∷ 8 ∷ 2 ∷ []) × (patient_sizes (rows_of other) ≡ 12 ∷ 6 ∷ 0 ∷ 8 ∷ [])
unfolding reading is_patient patient_sizes
sizes = (refl, refl)

drawn : ((fields_of (judge_of one buffer)).code ≡ 0)
    × (((show.fields_of (show_of one 1 buffer image)).code ≡ 0) × (image_of one 1 buffer image ≡ 7 ∷ 200 ∷ []))
unfolding drawing
drawn = (refl, (refl, refl))

same : SameAnswers one other
same = privacy one other premise

pub pair : Pair
pair =
    record {
      premise = premise;
      sizes = sizes.0;
      other-sizes = sizes.1;
      accepted = drawn.0;
      other-accepted = ap (λ (x : Result Outcome ReadError). (fields_of x).code) (sym (same.alike.judged buffer)) ∙ drawn.0;
      drawn = drawn.1.0;
      picture = drawn.1.1;
      other-picture = sym (same.alike.picture 1 buffer image) ∙ drawn.1.1;
    }
