-- What stands at a cursor where a header was spelt.
use mathlib.Core.Path.{◌≡◌, refl, sym, ap, ◌∙◌}
use mathlib.Core.Bool.{Bool, true, false, cond}
use Prim.Native.Nat.{ℕ, suc, ◌+◌, ◌-◌, ◌*◌, ◌/◌, ◌%◌, ◌≤◌, ◌<◌}
use native.Mathlib.Omega.{arith}
use borrow.Author.Tests.{eqb-true, ne_eqb, le-ltb}
use lib.Dec.{eqb}
use mathlib.Core.List.{List, ◌∷◌, ◌++◌}
use lib.ListN.{length, get_or, drop}
use lib.Seq.{get_or-drop}
use Rattle.std.specs.Prelude.{Result, Ok, Err}
use Rattle.dataset.specs.declared.Fault.{Fault}
use Rattle.dataset.specs.declared.Cursor.{Cursor}
use Rattle.dataset.specs.declared.Fault.TheVariants.{TooDeep}
use Rattle.dataset.specs.declared.Head.{Head}
use Rattle.dataset.specs.declared.Head.TheVariants as head
use Rattle.basics.specs.Bytes.{le16, le32, tag_at, vr_at, le}
use Rattle.basics.specs.Vr.{form_of, listed, SQ}
use Rattle.basics.specs.Tags.{item_tag, item_delimiter, sequence_delimiter}
use Rattle.dataset.specs.Header.{when, cursor, header_by, delimiter_by, nested_by, defined_by, long_by, typed_at, tagged_at, sized_by}
use Rattle.dataset.specs.Header.{member_at, element_at, item_at}
use Rattle.dataset.specs.Header as reader
use Rattle.grammar.specs.Grammar.{Extent, defined, undefined, tag_bytes, element_header, header_size, item_header, length_in, closing}
use Rattle.grammar.specs.Grammar.{Tagged}
use Rattle.grammar.specs.Places.{inner_end, inner_mark}

-- ---- Forms of VRs, and sizes of headers

pub data Form (vr : ℕ) : Type 0 where
  no : form_of vr ≡ 0 → Form vr
  short : form_of vr ≡ 1 → Form vr
  long : form_of vr ≡ 2 → Form vr

pub form : (vr : ℕ) → Form vr
unfolding form_of
form vr = go (listed _ vr) (listed _ vr) refl
  where
    go : (a b : Bool) → form_of vr ≡ cond a 2 (cond b 1 0) → Form vr
    go true b e = long e
    go false true e = short e
    go false false e = no e

pub size-short : (vr : ℕ) → form_of vr ≡ 1 → header_size vr ≡ 8
unfolding header_size
size-short vr f = rw f

pub size-long : (vr : ℕ) → form_of vr ≡ 2 → header_size vr ≡ 12
unfolding header_size
size-long vr f = rw f

pub size-sq : header_size SQ ≡ 12
unfolding header_size form_of listed
size-sq = refl

pub sq-long : form_of SQ ≡ 2
unfolding form_of listed
sq-long = refl

pub sq-known : form_of SQ ≡ 0 → ⊥
sq-known e = omega (arith, sq-long)

pub size-even : (vr : ℕ) → (header_size vr % 2 ≡ 0) × (8 ≤ header_size vr)
unfolding header_size
size-even vr = go (eqb (form_of vr) 2)
  where
    go : (b : Bool) → (cond b 12 8 % 2 ≡ 0) × (8 ≤ cond b 12 8)
    go true = (refl, omega arith)
    go false = (refl, omega arith)

pub length-element : (tag vr size : ℕ) → length (element_header tag vr size) ≡ header_size vr
unfolding element_header tag_bytes header_size le
length-element tag vr size = go (eqb (form_of vr) 2)
  where
    go : (b : Bool) → length ((le 2 (tag / 65536) ++ le 2 (tag % 65536)) ++ (vr / 256 ∷ vr % 256 ∷ cond b (0 ∷ 0 ∷ le 4 size) (le 2 size)))
        ≡ cond b 12 8
    go true = refl
    go false = refl

pub length-item : (tag size : ℕ) → length (item_header tag size) ≡ 8
unfolding item_header tag_bytes le
length-item tag size = refl

pub closing-even : (extent : Extent) (delimiter : ℕ) → length (closing extent delimiter) % 2 ≡ 0
unfolding closing
closing-even defined delimiter = refl
closing-even undefined delimiter = ap (λ (k : ℕ). k % 2) (length-item delimiter 0)

-- ---- Numbers that were spelt

pub le-two : (x : ℕ) → x < 65536 → x % 256 + 256 * (x / 256 % 256) ≡ x
le-two x h = omega arith

le_four : (x : ℕ) → x < 4294967296 → x % 256 + 256 * (x / 256 % 256) + 65536 * (x / 256 / 256 % 256 + 256 * (x / 256 / 256 / 256 % 256)) ≡ x
le_four x h = omega arith

module _ (t : List ℕ) (at : ℕ) (xs : List ℕ) (here : drop at t ≡ xs) where
  byte : (p k : ℕ) → p ≡ at + k → get_or t p 0 ≡ get_or xs k 0
  byte p k e = ap (λ (j : ℕ). get_or t j 0) e ∙ sym (get_or-drop at t k 0) ∙ ap (λ (l : List ℕ). get_or l k 0) here

  pub two : (p k : ℕ) → p ≡ at + k → le16 t p ≡ get_or xs k 0 + 256 * get_or xs (suc k) 0
  unfolding le16
  two p k e = rw (byte p k e, byte (p + 1) (suc k) (omega arith))

abbrev pub tagged : ℕ → List ℕ → List ℕ
tagged tag xs = tag / 65536 % 256 ∷ tag / 65536 / 256 % 256 ∷ tag % 65536 % 256 ∷ tag % 65536 / 256 % 256 ∷ xs

abbrev pub four : ℕ → List ℕ → List ℕ
four x xs = x % 256 ∷ x / 256 % 256 ∷ x / 256 / 256 % 256 ∷ x / 256 / 256 / 256 % 256 ∷ xs

pub spelt-short : (tag vr size : ℕ) (more : List ℕ) → form_of vr ≡ 1
    → element_header tag vr size ++ more ≡ tagged tag (vr / 256 ∷ vr % 256 ∷ size % 256 ∷ size / 256 % 256 ∷ more)
unfolding element_header tag_bytes le
spelt-short tag vr size more f = rw f

pub spelt-long : (tag vr size : ℕ) (more : List ℕ) → form_of vr ≡ 2
    → element_header tag vr size ++ more ≡ tagged tag (vr / 256 ∷ vr % 256 ∷ 0 ∷ 0 ∷ four size more)
unfolding element_header tag_bytes le
spelt-long tag vr size more f = rw f

pub spelt-item : (tag size : ℕ) (more : List ℕ) → item_header tag size ++ more ≡ tagged tag (four size more)
unfolding item_header tag_bytes le
spelt-item tag size more = refl

pub tag_back : (t : List ℕ) (at tag : ℕ) (xs : List ℕ) → drop at t ≡ tagged tag xs → tag < 4294967296 → tag_at t at ≡ tag
tag_back t at tag xs here h =
    let a : le16 t at ≡ tag / 65536 % 256 + 256 * (tag / 65536 / 256 % 256) = two t at _ here at 0 (omega arith) in
    let b : le16 t (at + 2) ≡ tag % 65536 % 256 + 256 * (tag % 65536 / 256 % 256) = two t at _ here (at + 2) 2 (omega arith) in
    omega (arith, le-two (tag / 65536) (omega arith), le-two (tag % 65536) (omega arith))

pub vr-back : (t : List ℕ) (at vr : ℕ) (xs : List ℕ) → drop at t ≡ xs → get_or xs 4 0 ≡ vr / 256 → get_or xs 5 0 ≡ vr % 256
    → vr_at t (at + 4) ≡ vr
vr-back t at vr xs here p q =
    omega (arith, byte t at xs here (at + 4) 4 (omega arith), byte t at xs here (at + 4 + 1) 5 (omega arith))

pub four-back : (t : List ℕ) (at p size : ℕ) (xs : List ℕ) (k : ℕ) → drop at t ≡ xs → p ≡ at + k → size < 4294967296
    → get_or xs k 0 ≡ size % 256 → get_or xs (suc k) 0 ≡ size / 256 % 256
    → get_or xs (suc (suc k)) 0 ≡ size / 256 / 256 % 256 → get_or xs (suc (suc (suc k))) 0 ≡ size / 256 / 256 / 256 % 256
    → le32 t p ≡ size
four-back t at p size xs k here e h a b c d =
    omega (arith, two t at xs here p k e, two t at xs here (p + 2) (suc (suc k)) (omega arith), le_four size h)

-- ---- The checks pass

nested-head : (tag vr levels : ℕ) (v : Cursor) → (vr ≡ SQ → levels ≡ 0 → ⊥) → nested_by tag vr levels v ≡ Ok (head.Header tag vr v)
unfolding nested_by when
nested-head tag vr levels v n = go (eqb vr SQ) refl (eqb levels 0) refl
  where
    go : (a : Bool) → eqb vr SQ ≡ a → (b : Bool) → eqb levels 0 ≡ b
        → when a (when b (Err TooDeep) (Ok (head.Header tag vr v))) (Ok (head.Header tag vr v)) ≡ Ok (head.Header tag vr v)
    go true e true f = absurd (n (eqb-true vr SQ e) (eqb-true levels 0 f))
    go true e false f = refl
    go false e b f = refl

module _ (at end : ℕ) (d : Bool) (tag vr levels : ℕ) (deep : vr ≡ SQ → levels ≡ 0 → ⊥) (size : ℕ) (even : size % 2 ≡ 0) where
  defined-head : (start : ℕ) → start + size ≤ end
      → defined_by (cursor at end d) tag vr start size levels ≡ Ok (head.Header tag vr (cursor start (start + size) false))
  unfolding defined_by when
  defined-head start fits =
      rw (ne_eqb (size % 2) 1 (omega arith), le-ltb (end - start) size (omega arith))
      (nested-head tag vr levels (cursor start (start + size) false) deep)

-- The cursor over what is inside a container that starts there.
abbrev pub inner : Extent → ℕ → ℕ → ℕ → Cursor
inner extent start size end = cursor start (inner_end extent start size end) (inner_mark extent)

pub inner-high : (extent : Extent) (start size end : ℕ) → start + size ≤ end
    → (start + size ≤ inner_end extent start size end) × (inner_end extent start size end ≤ end)
inner-high defined start size end h = (omega arith, h)
inner-high undefined start size end h = (h, omega arith)

module _ (t : List ℕ) (at end : ℕ) (d : Bool) (least levels tag vr : ℕ) (good : Tagged least tag) where
  on-tag : {h : Result Head Fault} → at + 8 ≤ end → tag_at t at ≡ tag
      → typed_at t (cursor at end d) tag (vr_at t (at + 4)) (form_of (vr_at t (at + 4))) (le16 t (at + 6)) levels ≡ h
      → element_at t (cursor at end d) least levels ≡ h
  unfolding header_by tagged_at when
  on-tag k e f =
      rw (
        ne_eqb at end (omega arith),
        le-ltb (end - at) 8 (omega arith),
        e,
        ne_eqb (tag / 65536) 65534 good.group,
        le-ltb tag least (omega (arith, good.ascends)),
      ) f

  module _ (size : ℕ) (more : List ℕ) (here : drop at t ≡ element_header tag vr size ++ more) where
    element-short : (vr ≡ SQ → levels ≡ 0 → ⊥) → size % 2 ≡ 0 → form_of vr ≡ 1 → size < 65536 → at + 8 + size ≤ end
        → element_at t (cursor at end d) least levels ≡ Ok (head.Header tag vr (cursor (at + 8) (at + 8 + size) false))
    unfolding typed_at when
    element-short deep even f small fits =
        let e = here ∙ spelt-short tag vr size more f in
        let v : vr_at t (at + 4) ≡ vr = vr-back t at vr _ e refl refl in
        let n : le16 t (at + 6) ≡ size = two t at _ e (at + 6) 6 (omega arith) ∙ le-two size small in
        on-tag (omega arith) (tag_back t at tag _ e good.small)
        (rw (v, n, f) (defined-head at end d tag vr levels deep size even (at + 8) fits))

    long-on : {h : Result Head Fault} → form_of vr ≡ 2 → size < 4294967296 → at + 12 ≤ end
        → long_by (cursor at end d) tag vr (at + 12) size levels ≡ h
        → element_at t (cursor at end d) least levels ≡ h
    unfolding typed_at when
    long-on f small fits k =
        let e = here ∙ spelt-long tag vr size more f in
        let v : vr_at t (at + 4) ≡ vr = vr-back t at vr _ e refl refl in
        let n : le16 t (at + 6) ≡ 0 = two t at _ e (at + 6) 6 (omega arith) in
        let m : le32 t (at + 8) ≡ size = four-back t at (at + 8) size _ 8 e refl small refl refl refl refl in
        on-tag (omega arith) (tag_back t at tag _ e good.small)
        (rw (v, n, f, le-ltb (end - at) 12 (omega arith), m) k)

    element-long : (vr ≡ SQ → levels ≡ 0 → ⊥) → size % 2 ≡ 0 → form_of vr ≡ 2 → size < 4294967295 → at + 12 + size ≤ end
        → element_at t (cursor at end d) least levels ≡ Ok (head.Header tag vr (cursor (at + 12) (at + 12 + size) false))
    unfolding long_by when
    element-long deep even f small fits =
        long-on f (omega arith) (omega arith)
        (rw (ne_eqb size reader.undefined (omega arith)) (defined-head at end d tag vr levels deep size even (at + 12) fits))

    pub element-back : (vr ≡ SQ → levels ≡ 0 → ⊥) → size % 2 ≡ 0 → (form_of vr ≡ 0 → ⊥) → (form_of vr ≡ 1 → size < 65536) → size < 4294967295
        → at + header_size vr + size ≤ end
        → element_at t (cursor at end d) least levels ≡ Ok (head.Header tag vr (cursor (at + header_size vr) (at + header_size vr + size) false))
    element-back deep even known few small fits = go (form vr)
      where
        go : Form vr
            → element_at t (cursor at end d) least levels ≡ Ok (head.Header tag vr
            (cursor (at + header_size vr) (at + header_size vr + size) false))
        go (no f) = absurd (known f)
        go (short f) = rw (size-short vr f) (element-short deep even f (few f) (omega (arith, size-short vr f)))
        go (long f) = rw (size-long vr f) (element-long deep even f small (omega (arith, size-long vr f)))

-- A sequence's header.
pub sequence-back : (extent : Extent) (t : List ℕ) (at end : ℕ) (d : Bool) (least levels tag : ℕ) (size : ℕ) (more : List ℕ)
    → Tagged least tag
    → (levels ≡ 0 → ⊥) → size % 2 ≡ 0 → size < 4294967295 → at + header_size SQ + size ≤ end
    → drop at t ≡ element_header tag SQ (length_in extent size) ++ more
    → element_at t (cursor at end d) least levels ≡ Ok (head.Header tag SQ (inner extent (at + header_size SQ) size end))
unfolding length_in long_by when
sequence-back defined t at end d least levels tag size more good deep even small fits here =
    element-back t at end d least levels tag SQ good size more here (λ _. deep) even
    sq-known (λ y. absurd (omega (arith, sq-long))) small fits
sequence-back undefined t at end d least levels tag size more good deep even small fits here =
    rw size-sq (long-on t at end d least levels tag SQ good 4294967295 more here sq-long (omega arith) (omega (arith, size-sq))
    (nested-head tag SQ levels (cursor (at + 12) end true) (λ _. deep)))

-- An item's.
pub item_back : (extent : Extent) (t : List ℕ) (at end : ℕ) (d : Bool) (size : ℕ) (more : List ℕ)
    → size % 2 ≡ 0 → size < 4294967295 → at + 8 + size ≤ end
    → drop at t ≡ item_header item_tag (length_in extent size) ++ more
    → item_at t (cursor at end d) ≡ Ok (head.Header item_tag 0 (inner extent (at + 8) size end))
unfolding length_in header_by member_at sized_by when
item_back defined t at end d size more even small fits here =
    let e = here ∙ spelt-item item_tag size more in
    let m : le32 t (at + 4) ≡ size = four-back t at (at + 4) size _ 4 e refl (omega arith) refl refl refl refl in
    rw (
      ne_eqb at end (omega arith),
      le-ltb (end - at) 8 (omega arith),
      tag_back t at item_tag _ e (omega arith),
      m,
      ne_eqb size reader.undefined (omega arith),
    )
    (defined-head at end d item_tag 0 0 (λ e _. absurd (omega arith)) size even (at + 8) fits)
item_back undefined t at end d size more even small fits here =
    let e = here ∙ spelt-item item_tag 4294967295 more in
    let m : le32 t (at + 4) ≡ 4294967295 = four-back t at (at + 4) 4294967295 _ 4 e refl (omega arith) refl refl refl refl in
    rw (ne_eqb at end (omega arith), le-ltb (end - at) 8 (omega arith), tag_back t at item_tag _ e (omega arith), m)

-- A delimiter.
pub item-closed : (t : List ℕ) (at end least levels : ℕ) (more : List ℕ) → at + 8 ≤ end → drop at t ≡ item_header item_delimiter 0 ++ more
    → element_at t (cursor at end true) least levels ≡ Ok (head.End item_delimiter 0 (cursor (at + 8) end true))
unfolding header_by tagged_at delimiter_by when
item-closed t at end least levels more fits here =
    let e = here ∙ spelt-item item_delimiter 0 more in
    let m : le32 t (at + 4) ≡ 0 = four-back t at (at + 4) 0 _ 4 e refl (omega arith) refl refl refl refl in
    rw (ne_eqb at end (omega arith), le-ltb (end - at) 8 (omega arith), tag_back t at item_delimiter _ e (omega arith), m)

pub sequence-closed : (t : List ℕ) (at end : ℕ) (more : List ℕ) → at + 8 ≤ end → drop at t ≡ item_header sequence_delimiter 0 ++ more
    → item_at t (cursor at end true) ≡ Ok (head.End sequence_delimiter 0 (cursor (at + 8) end true))
unfolding header_by member_at delimiter_by when
sequence-closed t at end more fits here =
    let e = here ∙ spelt-item sequence_delimiter 0 more in
    let m : le32 t (at + 4) ≡ 0 = four-back t at (at + 4) 0 _ 4 e refl (omega arith) refl refl refl refl in
    rw (ne_eqb at end (omega arith), le-ltb (end - at) 8 (omega arith), tag_back t at sequence_delimiter _ e (omega arith), m)
