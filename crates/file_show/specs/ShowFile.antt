-- Showing a file (document 02, Q-1): the head first, for 15, 16 and 17; then the data set is judged as the part of the file that it is;
-- then its SOP class is compared with the head's, for 18; only then is the frame drawn.
use Rattle.std.specs.Prelude.{ℕ, Bool, true, false, ◌||◌, cond, List, drop, Result, Ok, Err}
use Rattle.basics.specs.Fields.{Fields}
use Rattle.node.specs.Nodes.{nodes_of}
use Rattle.conformance.specs.declared.NotAccepted.TheVariants.{Unread, Broken}
use Rattle.display.specs.Show as showing
use Rattle.display.specs.declared.Drawn.{Drawn}
use Rattle.display.specs.declared.ShowError.{ShowError}
use Rattle.display.specs.declared.ShowError.TheVariants as error
use Rattle.meta.specs.Meta.{meta_of, part}
use Rattle.meta.specs.declared.FileHead.{FileHead}
use Rattle.meta.specs.declared.HeadError.{HeadError}
use Rattle.file_read.specs.declared.FileError.{FileError}
use Rattle.file_read.specs.declared.FileError.TheVariants.{Head, OtherClass, Refused}
use Rattle.file_read.specs.ReadFile.{same_class, file_fields}

-- The codes 1 to 8, which come before 18: the data set was not read.
abbrev pub before_class : ShowError → Bool
before_class (error.Refused (Unread e)) = true
before_class (error.Refused (Broken n rule frame)) = false
before_class error.NoFrame = false
before_class error.NoImageRoom = false

abbrev pub show_in : Bool → Result Drawn ShowError → Result Drawn (FileError ShowError)
show_in same (Ok d) = cond same (Ok d) (Err OtherClass)
show_in same (Err e) = cond (before_class e || same) (Err (Refused e)) (Err OtherClass)

unfoldable pub show_part : List ℕ → List ℕ → ℕ → List ℕ → List ℕ → Result Drawn (FileError ShowError)
show_part s class f buffer image = show_in (same_class class (nodes_of s)) (showing.show_of s f buffer image)

abbrev pub show_by : List ℕ → Result FileHead HeadError → ℕ → List ℕ → List ℕ → Result Drawn (FileError ShowError)
show_by s (Ok h) f buffer image = show_part (drop h.data_set s) (part s h.class.start h.class.stop) f buffer image
show_by s (Err e) f buffer image = Err (Head e)

unfoldable pub show_file_of : List ℕ → ℕ → List ℕ → List ℕ → Result Drawn (FileError ShowError)
show_file_of s f buffer image = show_by s (meta_of s) f buffer image

-- The image buffer afterwards: as the bare call leaves it; untouched with 15 to 18.
abbrev pub image_in : Result Drawn (FileError ShowError) → List ℕ → List ℕ → List ℕ
image_in (Ok d) after image = after
image_in (Err (Refused e)) after image = after
image_in (Err (Head e)) after image = image
image_in (Err OtherClass) after image = image

unfoldable pub image_part : List ℕ → List ℕ → ℕ → List ℕ → List ℕ → List ℕ
image_part s class f buffer image = image_in (show_part s class f buffer image) (showing.image_of s f buffer image) image

abbrev pub image_left_by : List ℕ → Result FileHead HeadError → ℕ → List ℕ → List ℕ → List ℕ
image_left_by s (Ok h) f buffer image = image_part (drop h.data_set s) (part s h.class.start h.class.stop) f buffer image
image_left_by s (Err e) f buffer image = image

unfoldable pub image_left : List ℕ → ℕ → List ℕ → List ℕ → List ℕ
image_left s f buffer image = image_left_by s (meta_of s) f buffer image

-- The paper's numbers for each case: those of the bare call; 15 to 18 alone.
abbrev pub show_fields : Result Drawn (FileError ShowError) → Fields
show_fields a = file_fields showing.fields_of a
