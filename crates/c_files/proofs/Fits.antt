-- The fields of an answer about a file fit 32 bits: they are those of the bare answer on the data set inside, or a code alone.
use Rattle.std.specs.Prelude.{Result, Ok, Err}
use mathlib.Core.Bool.{Bool, true, false, cond, ◌||◌}
use mathlib.Core.List.{List}
use Prim.Native.Nat.{ℕ}
use native.Mathlib.Omega.{arith}
use lib.ListN.{drop}
use Rattle.basics.specs.Fields.{Fields}
use Rattle.dataset.specs.Reading.{reading_of}
use Rattle.dataset.specs.Answer.{answer_of}
use Rattle.node.specs.Nodes.{nodes_of}
use Rattle.conformance.specs.Judging.{judge_of}
use Rattle.conformance.specs.Judging as judging
use Rattle.dataset.specs.Answer as reading
use Rattle.display.specs.Show.{show_of}
use Rattle.display.specs.Show as showing
use Rattle.display.specs.declared.Drawn.{Drawn}
use Rattle.display.specs.declared.ShowError.{ShowError}
use Rattle.meta.specs.Meta.{meta_of, part}
use Rattle.meta.specs.declared.FileHead.{FileHead}
use Rattle.meta.specs.declared.HeadError.{HeadError}
use Rattle.meta.specs.declared.HeadError.TheVariants.{NoMark, BadHead, OtherSyntax}
use Rattle.file_read.specs.declared.FileError.TheVariants.{OtherClass, Refused}
use Rattle.file_read.specs.ReadFile.{same_class, in_class, head_fields, file_fields, read_part, read_by, read_file_of, read_fields}
use Rattle.file_judge.specs.JudgeFile.{judge_part, judge_by, judge_file_of, judge_fields}
use Rattle.file_show.specs.ShowFile.{before_class, show_in, show_part, show_by, show_file_of, show_fields}
use Rattle.c_answers.specs.Internal.{Fits32}
use Rattle.c_answers.proofs.Fits.{alone-fits}
use Rattle.c_read.proofs.Fits.{read_fits}
use Rattle.c_judge.proofs.Fits.{judge-fits}
use Rattle.c_show.proofs.Fits.{show-fits}

head-fits : (e : HeadError) → Fits32 (head_fields e)
head-fits NoMark = alone-fits 15 (omega arith)
head-fits BadHead = alone-fits 16 (omega arith)
head-fits OtherSyntax = alone-fits 17 (omega arith)

-- An answer of a bare call with 18 put in.
in-class : {A E : Type 0} (bare : Result A E → Fields) (same : Bool) (a : Result A E) → Fits32 (bare a) → Fits32 (file_fields bare (in_class same a))
in-class bare true (Ok a) f = f
in-class bare false (Ok a) f = alone-fits 18 (omega arith)
in-class bare same (Err e) f = f

show-in : (same : Bool) (a : Result Drawn ShowError) → Fits32 (showing.fields_of a) → Fits32 (show_fields (show_in same a))
show-in true (Ok d) f = f
show-in false (Ok d) f = alone-fits 18 (omega arith)
show-in same (Err e) f = go (before_class e) same
  where
    go : (t u : Bool) → Fits32 (show_fields (cond (t || u) (Err (Refused e)) (Err OtherClass)))
    go true u = f
    go false true = f
    go false false = alone-fits 18 (omega arith)

read-by : (s : List ℕ) (m : Result FileHead HeadError) (buffer : List ℕ) → Fits32 (read_fields (read_by s m buffer))
unfolding read_part
read-by s (Ok h) buffer =
    in-class reading.fields_of (same_class (part s h.class.start h.class.stop) (nodes_of (drop h.data_set s)))
    (answer_of (reading_of (drop h.data_set s)) buffer) (read_fits (drop h.data_set s) buffer)
read-by s (Err e) buffer = head-fits e

pub read-file-fits : (s buffer : List ℕ) → Fits32 (read_fields (read_file_of s buffer))
unfolding read_file_of
read-file-fits s buffer = read-by s (meta_of s) buffer

judge-by : (s : List ℕ) (m : Result FileHead HeadError) (buffer : List ℕ) → Fits32 (judge_fields (judge_by s m buffer))
unfolding judge_part
judge-by s (Ok h) buffer =
    in-class judging.fields_of (same_class (part s h.class.start h.class.stop) (nodes_of (drop h.data_set s)))
    (judge_of (drop h.data_set s) buffer) (judge-fits (drop h.data_set s) buffer)
judge-by s (Err e) buffer = head-fits e

pub judge-file-fits : (s buffer : List ℕ) → Fits32 (judge_fields (judge_file_of s buffer))
unfolding judge_file_of
judge-file-fits s buffer = judge-by s (meta_of s) buffer

show-by : (s : List ℕ) (m : Result FileHead HeadError) (f : ℕ) (buffer image : List ℕ) → Fits32 (show_fields (show_by s m f buffer image))
unfolding show_part
show-by s (Ok h) f buffer image =
    show-in (same_class (part s h.class.start h.class.stop) (nodes_of (drop h.data_set s))) (show_of (drop h.data_set s) f buffer image)
    (show-fits (drop h.data_set s) f buffer image)
show-by s (Err e) f buffer image = head-fits e

pub show-file-fits : (s : List ℕ) (f : ℕ) (buffer image : List ℕ) → Fits32 (show_fields (show_file_of s f buffer image))
unfolding show_file_of
show-file-fits s f buffer image = show-by s (meta_of s) f buffer image
