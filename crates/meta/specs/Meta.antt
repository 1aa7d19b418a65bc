-- The head of a file (document 02, Q-1; PS3.10 calls it the File Meta Information): 128 bytes of anything, "DICM", then elements in
-- Explicit VR Little Endian. The first is the group length, which says where the head ends; the data set is everything after that. A
-- file's offsets count from its first byte.
use Rattle.std.specs.Prelude.{ℕ, ◌+◌, ◌-◌, ◌/◌, Bool, false, cond, ◌&&◌, List, [], ◌∷◌, length, take, drop, eqb, leb, Option, Some, None, Result, Ok, Err}
use Rattle.basics.specs.Tags.{FileMetaInformationGroupLength, MediaStorageSOPClassUID, TransferSyntaxUID}
use Rattle.basics.specs.Bytes.{same_bytes, le16, le32, tag_at, vr_at}
use Rattle.basics.specs.Vr.{UI, UL}
use Rattle.dataset.specs.Header.{cursor}
use Rattle.dataset.specs.declared.Row.{Row}
use Rattle.dataset.specs.Reading.{Run, done, refused, unfinished, elements_at, depths}
use Rattle.value.specs.Text.{ascii, is_single}
use Rattle.value.specs.Words.{is_uid}
use Rattle.meta.specs.declared.Place.{Place}
use Rattle.meta.specs.declared.HeadFindings.{HeadFindings}
use Rattle.meta.specs.declared.FileHead.{FileHead}
use Rattle.meta.specs.declared.HeadError.{HeadError}
use Rattle.meta.specs.declared.HeadError.TheVariants.{NoMark, BadHead, OtherSyntax}

-- Explicit VR Little Endian.
abbrev pub explicit_little_endian : List ℕ
explicit_little_endian = ascii "1.2.840.10008.1.2.1"

-- ---- The mark and the group length

-- "DICM" at byte 128.
abbrev pub mark : ℕ
mark = 128

unfoldable pub is_marked : List ℕ → Bool
is_marked s = same_bytes (take 4 (drop mark s)) (ascii "DICM")

-- Where the head's elements start: after the mark.
abbrev pub start : ℕ
start = 132

-- The group length is the first element, UL of 4 bytes, and lies within the file.
unfoldable pub has_group_length : List ℕ → Bool
has_group_length s =
    leb (start + 12) (length s)
    && (eqb (tag_at s start) FileMetaInformationGroupLength
    && (eqb (vr_at s (start + 4)) UL
    && eqb (le16 s (start + 6)) 4))

-- Where the head ends: as many bytes after the group length element as its value says.
unfoldable pub head_end : List ℕ → ℕ
head_end s = start + 12 + le32 s (start + 8)

-- ---- The elements

-- The head, read by document 01's reading checks up to that end. It has no size limit.
unfoldable pub head_of : List ℕ → Run
head_of s = elements_at depths s 0 (cursor start (head_end s) false)

-- Where the value of a UID is: of an element with VR UI and a length that is not 0.
unfoldable pub uid_at : ℕ → ℕ → ℕ → Option Place
uid_at vr offset size = cond (eqb vr UI) (cond (eqb size 0) None (Some (record { start = offset; stop = offset + size }))) None

-- What is found at depth 0: where the two UIDs are, as long as all elements are of group 0002.
abbrev pub none_found : Option HeadFindings
none_found = Some (record { class = None; syntax = None })

unfoldable pub noted : Option HeadFindings → ℕ → ℕ → ℕ → ℕ → Option HeadFindings
noted None tag vr offset size = None
noted (Some f) tag vr offset size =
    cond (eqb (tag / 65536) 2)
    (Some (record {
      class = cond (eqb tag MediaStorageSOPClassUID) (uid_at vr offset size) f.class;
      syntax = cond (eqb tag TransferSyntaxUID) (uid_at vr offset size) f.syntax;
    })) None

-- Row by row. Tags ascend at depth 0, so neither UID is there twice; nothing is asked of what is deeper.
unfoldable pub found_in : Option HeadFindings → List Row → Option HeadFindings
found_in f [] = f
found_in f (r ∷ rs) = found_in (cond (eqb r.depth 0) (noted f r.tag r.vr r.offset r.size) f) rs

-- ---- 15, 16 and 17, in this order

abbrev pub part : List ℕ → ℕ → ℕ → List ℕ
part s from to = take (to - from) (drop from s)

-- The head has both UIDs, each single, and the transfer syntax is Explicit VR Little Endian: where the data set starts, and where the SOP
-- class is that the head names.
abbrev pub named : List ℕ → Option Place → Option Place → Result FileHead HeadError
named s None syntax = Err BadHead
named s (Some class) None = Err BadHead
named s (Some class) (Some syntax) =
    cond (is_single (part s class.start class.stop))
    (cond (is_single (part s syntax.start syntax.stop))
    (cond (is_uid (part s syntax.start syntax.stop) explicit_little_endian)
    (Ok (record { data_set = head_end s; class = class })) (Err OtherSyntax))
    (Err BadHead))
    (Err BadHead)

abbrev pub of_found : List ℕ → Option HeadFindings → Result FileHead HeadError
of_found s None = Err BadHead
of_found s (Some f) = named s f.class f.syntax

-- What the run of a head says. None is unfinished (`finished` of the crate `dataset`), so that any value serves for that.
abbrev pub of_run : List ℕ → Run → Result FileHead HeadError
of_run s (refused code offset) = Err BadHead
of_run s unfinished = Err BadHead
of_run s (done stop next rows) = of_found s (found_in none_found rows)

-- If the head ends within the file: what its elements say.
unfoldable pub headed_of : List ℕ → Result FileHead HeadError
headed_of s = cond (leb (head_end s) (length s)) (of_run s (head_of s)) (Err BadHead)

unfoldable pub meta_of : List ℕ → Result FileHead HeadError
meta_of s = cond (is_marked s) (cond (has_group_length s) (headed_of s) (Err BadHead)) (Err NoMark)
