-- Two small data sets that meet the premise of `Privacy`, so it is not empty: they are accepted and drawn, and differ in all four items
-- and in the lengths of all four. Proved by computing, in proofs/Pair.antt.
use Rattle.std.specs.Prelude.{◌≡◌, ℕ, cond, List, [], ◌∷◌, ◌++◌, take, drop, replicate}
use Rattle.basics.specs.Tags
use Rattle.dataset.specs.declared.Row.{Row}
use Rattle.dataset.specs.Tree.{rows_of}
use Rattle.value.specs.Text.{ascii}
use Rattle.conformance.specs.Judging.{judge_of, fields_of}
use Rattle.display.specs.Show as show
use Rattle.samples.specs.Objects.{short, one_frame, no_window}
use Rattle.privacy.specs.Privacy.{is_patient, SameButPatient}

-- An object of one frame of two cells, as in the samples, and the same with the four items where their tags belong: after Modality, which
-- ends at byte 94, and after Planes in Acquisition, which ends at byte 128.
abbrev pub plain : List ℕ
plain = one_frame "MONOCHROME2 " "IDENTITY" no_window (7 ∷ 200 ∷ [])

abbrev pub with_patient : List ℕ → List ℕ → List ℕ → List ℕ → List ℕ
with_patient name id birth comments =
    take 94 plain
    ++ (short Tags.PatientName "PN" name
    ++ (short Tags.PatientID "LO" id
    ++ (short Tags.PatientBirthDate "DA" birth
    ++ (take 34 (drop 94 plain)
    ++ (short Tags.ImageComments "LT" comments
    ++ drop 128 plain)))))

abbrev pub one : List ℕ
one = with_patient (ascii "Doe^Jane") (ascii "4711") (ascii "19700101") (ascii "ok")

abbrev pub other : List ℕ
other = with_patient (ascii "Roe^Richard ") (ascii "A-0815") [] (ascii "left arm")

-- The lengths of the patient items among rows.
unfoldable pub patient_sizes : List Row → List ℕ
patient_sizes [] = []
patient_sizes (r ∷ rs) = cond (is_patient r) (r.size ∷ patient_sizes rs) (patient_sizes rs)

-- A row buffer for 40 rows, and an image buffer.
abbrev pub buffer : List ℕ
buffer = replicate 280 0

abbrev pub image : List ℕ
image = replicate 2 0

pub record Pair : Type 0 where
  pub premise : SameButPatient one other
  pub sizes : patient_sizes (rows_of one) ≡ 8 ∷ 4 ∷ 8 ∷ 2 ∷ []
  pub other-sizes : patient_sizes (rows_of other) ≡ 12 ∷ 6 ∷ 0 ∷ 8 ∷ []
  pub accepted : (fields_of (judge_of one buffer)).code ≡ 0
  pub other-accepted : (fields_of (judge_of other buffer)).code ≡ 0
  pub drawn : (show.fields_of (show.show_of one 1 buffer image)).code ≡ 0
  pub picture : show.image_of one 1 buffer image ≡ 7 ∷ 200 ∷ []
  pub other-picture : show.image_of other 1 buffer image ≡ 7 ∷ 200 ∷ []
