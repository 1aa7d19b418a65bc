-- A field's bytes hold every number that fits them, and a possible verdict's numbers fit. So what is written reads back; and
-- since bytes are the digits of the number that they hold, bytes that read well are the ones that were written. All of it
-- follows from the definitions alone, and so holds of the two calls, whose contracts say that they do what the definitions
-- give. Assumes nothing.
use Rattle.std.specs.Prelude.{Option, Some, None, Result, Ok, Err}
use mathlib.Core.Path.{◌≡◌, refl, sym, ap, ◌∙◌}
use mathlib.Core.Bool.{Bool, true, false, cond, not, ◌&&◌}
use Prim.Native.Nat.{ℕ, zero, suc, ◌+◌, ◌-◌, ◌*◌, ◌/◌, ◌%◌, ◌≤◌, ◌<◌}
use native.Mathlib.Omega.{arith}
use native.Mathlib.Numerals.{add-one}
use borrow.Author.Tests.{eqb-true, eq-eqb, le-leb}
use mathlib.Core.List.{List, [], ◌∷◌, ◌++◌}
use lib.ListN.{length, take, drop, get_or}
use lib.Seq.{take_at}
use lib.Dec.{eqb, leb}
use Rattle.verdict.specs.Verdict.{fields_fit, possible, is_known, writable, without_count}
use Rattle.verdict.specs.declared.Verdict.{Verdict}
use Rattle.basics.proofs.Tests.{false-is-true, and_both}
use Rattle.verdict.proofs.Bounds.{Small, possible-small, possible-rows}
use Rattle.slip.specs.declared.SlipError.{SlipError}
use Rattle.slip.specs.declared.SlipError.TheVariants as error
use Rattle.slip.specs.Slip.{mark, version, old_version, version_place, code_place, rule_place, frame_place, offset_place, rows_place}
use Rattle.slip.specs.Slip.{opening_size, old_size, slip_size, field_bytes, slip_with, slip_by, slip_of, recorded}
use Rattle.slip.specs.Slip.{if_possible, read_sized, read_version, read_of, slip_buffer}
use Rattle.basics.specs.Bytes.{IsBytes, same_bytes, le_number, le}
use Rattle.basics.proofs.Lists.{same-is}
use Rattle.slip.specs.Version1.{old_slip_of}
use Rattle.slip.specs.Slips.{Slips}
use Rattle.slip.proofs.Laws.{length-slip}

-- ---- Written and read back

-- A field that a number fits holds that number, in the bytes that both versions have and whatever follows them.
module _ (k : ℕ) (v : Verdict) (small : Small v) (rest : List ℕ) where
  code-back : le_number 1 (field_bytes k v ++ rest) code_place ≡ v.code
  unfolding field_bytes le le_number
  code-back = omega (arith, small.code)

  rule-back : le_number 1 (field_bytes k v ++ rest) rule_place ≡ v.rule
  unfolding field_bytes le le_number
  rule-back = omega (arith, small.rule)

  frame_back : le_number 2 (field_bytes k v ++ rest) frame_place ≡ v.frame
  unfolding field_bytes le le_number
  frame_back = omega (arith, small.frame)

  offset-back : le_number 4 (field_bytes k v ++ rest) offset_place ≡ v.offset
  unfolding field_bytes le le_number
  offset-back = omega (arith, small.offset)

  fields_back : (rows : Option ℕ) → v.rows ≡ rows → recorded (field_bytes k v ++ rest) rows ≡ v
  fields_back rows e = simp (code-back, rule-back, frame_back, offset-back, sym e)

mark-back : (k : ℕ) (v : Verdict) (rest : List ℕ) → same_bytes (take version_place (field_bytes k v ++ rest)) mark ≡ true
unfolding field_bytes same_bytes
mark-back k v rest = refl

version-back : (v : Verdict) (rest : List ℕ) → le_number 2 (field_bytes version v ++ rest) version_place ≡ version
unfolding field_bytes le le_number
version-back v rest = refl

old-version-back : (v : Verdict) (rest : List ℕ) → le_number 2 (field_bytes old_version v ++ rest) version_place ≡ old_version
unfolding field_bytes le le_number
old-version-back v rest = refl

rows_back : (v : Verdict) (n : ℕ) → n < 4294967296 → le_number 4 (slip_with v n) rows_place ≡ n
unfolding slip_with field_bytes le le_number
rows_back v n h = omega arith

old-length : (v : Verdict) → length (field_bytes old_version v) ≡ old_size
unfolding field_bytes le
old-length v = refl

-- The mark, and at least five bytes.
begins : (s : List ℕ) → opening_size ≤ length s → same_bytes (take version_place s) mark ≡ true
    → read_of s ≡ read_version (le_number 2 s version_place) s
unfolding read_of
begins s h m = rw (le-leb opening_size (length s) h, m)

-- The right length, and a possible verdict in the fields.
sized : (size : ℕ) (rows : Option ℕ) (s : List ℕ) (v : Verdict) → length s ≡ size → recorded s rows ≡ v → possible v ≡ true
    → read_sized size rows s ≡ Ok v
unfolding read_sized if_possible
sized size rows s v l f h = rw (eq-eqb (length s) size l, f, h)

as-new : (s : List ℕ) → le_number 2 s version_place ≡ version
    → read_version (le_number 2 s version_place) s ≡ read_sized slip_size (Some (le_number 4 s rows_place)) s
unfolding read_version
as-new s e = rw e

as-old : (s : List ℕ) → le_number 2 s version_place ≡ old_version → read_version (le_number 2 s version_place) s ≡ read_sized old_size None s
unfolding read_version
as-old s e = rw e

-- A slip with n rows reads as its verdict.
with-back : (v : Verdict) (n : ℕ) → possible v ≡ true → v.rows ≡ Some n → read_of (slip_with v n) ≡ Ok v
unfolding slip_with
with-back v n h e =
    let s : List ℕ = slip_with v n in
    let l = length-slip v n in
    let r : le_number 4 s rows_place ≡ n = rows_back v n (omega (arith, possible-rows v n h e)) in
    begins s (omega arith) (mark-back version v (le 4 n))
    ∙ as-new s (version-back v (le 4 n))
    ∙ sized slip_size (Some (le_number 4 s rows_place)) s v l
    (fields_back version v (possible-small v h) (le 4 n) (Some (le_number 4 s rows_place)) (e ∙ ap Some (sym r))) h

-- A verdict that can be written is possible, and its row count is some number.
read_back : (v : Verdict) → writable v ≡ true → read_of (slip_of v) ≡ Ok v
unfolding writable
read_back v h = go v.rows refl (and_both (possible v) (is_known v.rows) h).1
  where
    go : (r : Option ℕ) → v.rows ≡ r → is_known r ≡ true → read_of (slip_by v r) ≡ Ok v
    go (Some n) e k = with-back v n (and_both (possible v) (is_known v.rows) h).0 e
    go None e k = absurd (false-is-true k)

slips-differ : (v w : Verdict) → writable v ≡ true → writable w ≡ true → slip_of v ≡ slip_of w → v ≡ w
slips-differ v w h k e =
    let a : read_of (slip_of v) ≡ Ok v = read_back v h in
    let b : read_of (slip_of w) ≡ Ok w = read_back w k in
    cc

slip-length : (v : Verdict) → writable v ≡ true → length (slip_of v) ≡ slip_size
unfolding writable
slip-length v h = go v.rows (and_both (possible v) (is_known v.rows) h).1
  where
    go : (r : Option ℕ) → is_known r ≡ true → length (slip_by v r) ≡ slip_size
    go (Some n) k = length-slip v n
    go None k = absurd (false-is-true k)

buffer-back : (v : Verdict) (buffer : List ℕ) → writable v ≡ true → slip_size ≤ length buffer
    → read_of (take slip_size (slip_buffer v buffer)) ≡ Ok v
unfolding slip_buffer
buffer-back v buffer h room =
    rw (h, le-leb slip_size (length buffer) room)
    (rw (take_at (slip_of v) (drop slip_size buffer) slip_size (slip-length v h)) (read_back v h))

-- The bytes of version 1 read as the verdict without its count.
old-read : (v : Verdict) → fields_fit v ≡ true → read_of (old_slip_of v) ≡ Ok (without_count v)
unfolding possible fields_fit field_bytes le
old-read v h =
    let w : Verdict = without_count v in
    let s : List ℕ = old_slip_of v in
    let l = old-length v in
    let p : possible w ≡ true = rw h in
    begins s (omega arith) (mark-back old_version v [])
    ∙ as-old s (old-version-back v [])
    ∙ sized old_size None s w l (fields_back old_version w (possible-small w p) [] None refl) p

-- ---- Read, and written again

-- What a slip of a version whose slips have `size` bytes has passed, and the verdict that it gives.
record Well (size : ℕ) (rows : Option ℕ) (s : List ℕ) (v : Verdict) : Type 0 where
  long : length s ≡ size
  can : possible v ≡ true
  gives : recorded s rows ≡ v

-- Two tests in their order, whatever they are.
tests : (a d : Bool) (w v : Verdict) → cond (not a) (Err error.NoSlip) (cond (not d) (Err error.NotPossible) (Ok w)) ≡ Ok v
    → (a ≡ true) × ((d ≡ true) × (w ≡ v))
tests true true w v e = (refl, (refl, cc))
tests true false w v e = absurd (let z : ◌≡◌ {A = ℕ} 0 1 = cc in omega arith)
tests false d w v e = absurd (let z : ◌≡◌ {A = ℕ} 0 1 = cc in omega arith)

well : (size : ℕ) (rows : Option ℕ) (s : List ℕ) (v : Verdict) → read_sized size rows s ≡ Ok v → Well size rows s v
unfolding read_sized if_possible
well size rows s v e =
    let t = tests (eqb (length s) size) (possible (recorded s rows)) (recorded s rows) v e in
    record {
      long = eqb-true (length s) size t.0;
      can = sym (ap possible t.1.1) ∙ t.1.0;
      gives = t.1.1;
    }

-- The mark is there, and the version decides.
marked-first : (a : Bool) (r : Result Verdict SlipError) (v : Verdict) → cond (not a) (Err error.NoSlip) r ≡ Ok v → (a ≡ true) × (r ≡ Ok v)
marked-first true r v e = (refl, e)
marked-first false r v e = absurd (let z : ◌≡◌ {A = ℕ} 0 1 = cc in omega arith)

record Begun (s : List ℕ) (v : Verdict) : Type 0 where
  marked : same_bytes (take version_place s) mark ≡ true
  on : read_version (le_number 2 s version_place) s ≡ Ok v

begun : (s : List ℕ) (v : Verdict) → read_of s ≡ Ok v → Begun s v
unfolding read_of
begun s v e =
    let t = marked-first (leb opening_size (length s) && same_bytes (take version_place s) mark)
    (read_version (le_number 2 s version_place) s) v e in
    record { marked = (and_both (leb opening_size (length s)) (same_bytes (take version_place s) mark) t.0).1; on = t.1 }

read-possible : (s : List ℕ) (v : Verdict) → read_of s ≡ Ok v → possible v ≡ true
unfolding read_version
read-possible s v e = go (eqb (le_number 2 s version_place) old_version) (eqb (le_number 2 s version_place) version) (begun s v e).on
  where
    go : (a b : Bool)
        → cond a (read_sized old_size None s) (cond b (read_sized slip_size (Some (le_number 4 s rows_place)) s) (Err error.OtherVersion))
        ≡ Ok v
        → possible v ≡ true
    go true b f = (well old_size None s v f).can
    go false true f = (well slip_size (Some (le_number 4 s rows_place)) s v f).can
    go false false f = absurd (let z : ◌≡◌ {A = ℕ} 0 1 = cc in omega arith)

-- The n elements from p on.
abbrev listing : ℕ → List ℕ → ℕ → List ℕ
listing zero s p = []
listing (suc n) s p = get_or s p 0 ∷ listing n s (p + 1)

listing-next : (n x : ℕ) (s : List ℕ) (p : ℕ) → listing n (x ∷ s) (p + 1) ≡ listing n s p
listing-next zero x s p = refl
listing-next (suc n) x s p = rw (listing-next n x s (p + 1), add-one p)

listed : (s : List ℕ) → s ≡ listing (length s) s 0
listed [] = refl
listed (x ∷ s) = ap (λ (l : List ℕ). x ∷ l) (listed s ∙ sym (listing-next (length s) x s 0))

-- The bytes of the number in n bytes are those bytes.
le-number : (s : List ℕ) → IsBytes s → (n p : ℕ) → le n (le_number n s p) ≡ listing n s p
unfolding le le_number
le-number s b zero p = refl
le-number s b (suc n) p =
    let low : (get_or s p 0 + 256 * le_number n s (p + 1)) % 256 ≡ get_or s p 0 = omega (arith, b p) in
    let high : (get_or s p 0 + 256 * le_number n s (p + 1)) / 256 ≡ le_number n s (p + 1) = omega (arith, b p) in
    rw (low, high, le-number s b n (p + 1))

-- The bytes that both versions have are those of the version and the fields that they hold.
field-bytes : (s : List ℕ) (rows : Option ℕ) → IsBytes s → take version_place s ≡ listing version_place s 0
    → same_bytes (take version_place s) mark ≡ true
    → listing old_size s 0 ≡ field_bytes (le_number 2 s version_place) (recorded s rows)
unfolding field_bytes
field-bytes s rows b t m =
    let first : listing version_place s 0 ≡ mark = sym t ∙ same-is (take version_place s) mark m in
    rw (
      le-number s b 2 version_place,
      le-number s b 1 code_place,
      le-number s b 1 rule_place,
      le-number s b 2 frame_place,
      le-number s b 4 offset_place,
    )
    (ap (λ (l : List ℕ). l ++ listing (old_size - version_place) s version_place) first)

write-back : (s : List ℕ) (v : Verdict) → IsBytes s → read_of s ≡ Ok v → le_number 2 s version_place ≡ version
    → (writable v ≡ true) × (s ≡ slip_of v)
unfolding writable slip_with
write-back s v b e k =
    let g = begun s v e in
    let n : ℕ = le_number 4 s rows_place in
    let w = well slip_size (Some n) s v (sym (as-new s k) ∙ g.on) in
    let all : s ≡ listing slip_size s 0 = listed s ∙ ap (λ (n : ℕ). listing n s 0) w.long in
    let same : listing old_size s 0 ≡ field_bytes version (recorded s (Some n)) =
    field-bytes s (Some n) b (ap (λ (l : List ℕ). take version_place l) all) g.marked
    ∙ ap (λ (k : ℕ). field_bytes k (recorded s (Some n))) k
    in
    let known : is_known v.rows ≡ true = ap (λ (v : Verdict). is_known v.rows) (sym w.gives) in (
      rw (w.can, known),
      all
          ∙ ap (λ (l : List ℕ). l ++ listing 4 s rows_place) same
          ∙ ap (λ (l : List ℕ). field_bytes version (recorded s (Some n)) ++ l) (sym (le-number s b 4 rows_place))
          ∙ ap slip_of w.gives,
    )

old-back : (s : List ℕ) (v : Verdict) → IsBytes s → read_of s ≡ Ok v → le_number 2 s version_place ≡ old_version
    → (v.rows ≡ None) × (s ≡ old_slip_of v)
old-back s v b e k =
    let g = begun s v e in
    let w = well old_size None s v (sym (as-old s k) ∙ g.on) in
    let all : s ≡ listing old_size s 0 = listed s ∙ ap (λ (n : ℕ). listing n s 0) w.long in (
      ap (λ (v : Verdict). v.rows) (sym w.gives),
      all
          ∙ field-bytes s None b (ap (λ (l : List ℕ). take version_place l) all) g.marked
          ∙ ap (λ (k : ℕ). field_bytes k (recorded s None)) k
          ∙ ap old_slip_of w.gives,
    )

-- ---- The statement

pub slips : Slips
slips = record {
  read_back = read_back;
  buffer-back = buffer-back;
  slips-differ = slips-differ;
  read-possible = read-possible;
  write-back = write-back;
  old-read = old-read;
  old-back = old-back;
}
