-- Files (document 02, Q-1). "Read, judge and show take files": the head is tested first, for 15, 16 and 17 in this order; then the data
-- set is read as the part of the file that it is; then its SOP class is compared with the head's, for 18. So the orders are 15, 16, 17,
-- 7, 1 to 6, 8, 18, 9, 10, 11. Offsets count from the start of the data set. Each of 15 to 18 answers its code alone.
use Rattle.std.specs.Prelude.{ℕ, Bool, false, cond, List, drop, Result, Ok, Err}
use Rattle.dataset.specs.Reading.{reading_of}
use Rattle.basics.specs.Fields.{Fields, code_alone, placed}
use Rattle.dataset.specs.Answer as reading
use Rattle.dataset.specs.declared.ReadError.{ReadError}
use Rattle.value.specs.Text.{trim_end}
use Rattle.node.specs.Nodes.{Node, nodes_of, root}
use Rattle.node.specs.Find.{has}
use Rattle.basics.specs.Vr.{UI}
use Rattle.basics.specs.Tags
use Rattle.element.specs.Elements.{ui_is}
use Rattle.meta.specs.Meta.{meta_of, part}
use Rattle.meta.specs.declared.FileHead.{FileHead}
use Rattle.meta.specs.declared.HeadError.{HeadError}
use Rattle.meta.specs.declared.HeadError.TheVariants.{NoMark, BadHead, OtherSyntax}
use Rattle.file_read.specs.declared.FileError.{FileError}
use Rattle.file_read.specs.declared.FileError.TheVariants.{Head, OtherClass, Refused}

-- ---- Where the data set starts

abbrev pub start_by : Result FileHead HeadError → Result ℕ HeadError
start_by (Ok h) = Ok h.data_set
start_by (Err e) = Err e

unfoldable pub start_of : List ℕ → Result ℕ HeadError
start_of s = start_by (meta_of s)

-- The paper's numbers for each case; the offset is where the data set starts.
abbrev pub head_fields : HeadError → Fields
head_fields NoMark = code_alone 15
head_fields BadHead = code_alone 16
head_fields OtherSyntax = code_alone 17

abbrev pub start_fields : Result ℕ HeadError → Fields
start_fields (Ok from) = placed 0 from
start_fields (Err e) = head_fields e

-- ---- 18

-- The data set has a single SOP Class UID (0008,0016) UI that equals the head's, without trailing zero bytes in both. The head's is
-- single, since any other head is refused.
unfoldable pub same_class : List ℕ → List Node → Bool
same_class class ns = cond (has ns Tags.SOPClassUID UI (root ns)) (ui_is ns Tags.SOPClassUID (trim_end 0 class) (root ns)) false

-- ---- What a bare call answers for the data set inside, as an answer for the file

abbrev pub inside : {A E : Type 0} → Result A E → Result A (FileError E)
inside (Ok a) = Ok a
inside (Err e) = Err (Refused e)

-- The same with 18 put in where all refusals of the bare call come before it: the classes are equal or different.
abbrev pub in_class : {A E : Type 0} → Bool → Result A E → Result A (FileError E)
in_class same (Ok a) = cond same (Ok a) (Err OtherClass)
in_class same (Err e) = Err (Refused e)

-- The paper's numbers for each case: those of the bare call; 15 to 18 alone.
abbrev pub file_fields : {A E : Type 0} → (Result A E → Fields) → Result A (FileError E) → Fields
file_fields bare (Ok a) = bare (Ok a)
file_fields bare (Err (Refused e)) = bare (Err e)
file_fields bare (Err (Head e)) = head_fields e
file_fields bare (Err OtherClass) = code_alone 18

-- ---- Reading

unfoldable pub read_part : List ℕ → List ℕ → List ℕ → Result ℕ (FileError ReadError)
read_part s class buffer = in_class (same_class class (nodes_of s)) (reading.answer_of (reading_of s) buffer)

abbrev pub read_by : List ℕ → Result FileHead HeadError → List ℕ → Result ℕ (FileError ReadError)
read_by s (Ok h) buffer = read_part (drop h.data_set s) (part s h.class.start h.class.stop) buffer
read_by s (Err e) buffer = Err (Head e)

unfoldable pub read_file_of : List ℕ → List ℕ → Result ℕ (FileError ReadError)
read_file_of s buffer = read_by s (meta_of s) buffer

-- The row buffer after each of the three calls: as a bare call leaves it; untouched with 15, 16 and 17.
abbrev pub rows_by : List ℕ → Result FileHead HeadError → List ℕ → List ℕ
rows_by s (Ok h) buffer = reading.buffer_of (reading_of (drop h.data_set s)) buffer
rows_by s (Err e) buffer = buffer

unfoldable pub rows_left : List ℕ → List ℕ → List ℕ
rows_left s buffer = rows_by s (meta_of s) buffer

abbrev pub read_fields : Result ℕ (FileError ReadError) → Fields
read_fields a = file_fields reading.fields_of a
