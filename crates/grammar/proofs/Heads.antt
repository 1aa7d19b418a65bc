-- What a header that is no refusal says of the bytes at it.
use mathlib.Core.Path.{◌≡◌, refl, sym, ap, ◌∙◌, subst}
use mathlib.Core.Bool.{Bool, true, false}
use Prim.Native.Nat.{ℕ, suc, ◌+◌, ◌-◌, ◌*◌, ◌/◌, ◌%◌, ◌≤◌, ◌<◌}
use native.Mathlib.Omega.{arith}
use borrow.Author.Tests.{eqb-true, eqb-false, ltb-false}
use mathlib.Core.List.{List, [], ◌∷◌, ◌++◌, append_assoc}
use lib.ListN.{length, get_or, drop}
use lib.Seq.{drop-cons}
use Rattle.std.specs.Prelude.{Result, Ok, Err}
use Rattle.dataset.specs.declared.Fault.{Fault}
use Rattle.dataset.specs.declared.Fault.TheVariants.{CutShort, NotDue}
use Rattle.dataset.specs.declared.Cursor.{Cursor}
use Rattle.dataset.specs.declared.Head.{Head}
use Rattle.dataset.specs.declared.Head.TheVariants as head
use Rattle.basics.specs.Bytes.{IsBytes, le16, le32, tag_at, vr_at, le}
use Rattle.basics.specs.Vr.{form_of, SQ}
use Rattle.basics.specs.Tags.{item_tag}
use Rattle.dataset.specs.Header.{when, cursor, moved, header_by, delimiter_by, nested_by, defined_by, long_by, typed_at, tagged_at, sized_by}
use Rattle.dataset.specs.Header.{member_at, element_at, item_at}
use Rattle.dataset.specs.Header as reader
use Rattle.dataset.specs.Tree.{Kind, elements, items}
use Rattle.grammar.specs.Grammar.{Extent, defined, undefined, tag_bytes, element_header, header_size, item_header, length_in, Tagged}
use Rattle.grammar.proofs.Headers.{Form, no, short, long, form, size-short, size-long, inner}
use Rattle.grammar.proofs.Sound.{delimiter_of}

-- ---- Bytes are those of the numbers that they give

low : (x : ℕ) → x < 256 → x % 256 ≡ x
low x h = omega arith

lower : (x y : ℕ) → x < 256 → x % 256 ≡ (x + 256 * y) % 256
lower x y h = omega arith

two-zeros : le 2 0 ≡ 0 ∷ 0 ∷ []
unfolding le
two-zeros = refl

module _ (s : List ℕ) (bytes : IsBytes s) where
  pair : (p : ℕ) → p + 2 ≤ length s → drop p s ≡ le 2 (le16 s p) ++ drop (p + 2) s
  unfolding le le16
  pair p h =
      let a : p + 1 ≡ suc p = omega arith in
      let b : p + 2 ≡ suc (suc p) = omega arith in
      let x : (get_or s p 0 + 256 * get_or s (suc p) 0) % 256 ≡ get_or s p 0 = omega (arith, bytes p) in
      let z : (get_or s p 0 + 256 * get_or s (suc p) 0) / 256 ≡ get_or s (suc p) 0 = omega (arith, bytes p) in
      let y : (get_or s p 0 + 256 * get_or s (suc p) 0) / 256 % 256 ≡ get_or s (suc p) 0 = ap (λ (k : ℕ). k % 256) z ∙ low (get_or s (suc p) 0)
      (bytes (suc p)) in
      rw (a, b, x, y) (drop-cons s p 0 (omega arith) ∙ ap (λ (l : List ℕ). get_or s p 0 ∷ l) (drop-cons s (suc p) 0 (omega arith)))

  le16-small : (p : ℕ) → le16 s p < 65536
  unfolding le16
  le16-small p = omega (arith, bytes p, bytes (p + 1))

  quad : (p : ℕ) → p + 4 ≤ length s → drop p s ≡ le 4 (le32 s p) ++ drop (p + 4) s
  unfolding le
  quad p h =
      let e : p + 2 + 2 ≡ p + 4 = omega arith in
      let lo = le16-small p in
      let a : le16 s p % 256 ≡ le32 s p % 256 = omega arith in
      let f : le32 s p / 256 ≡ le16 s p / 256 + 256 * le16 s (p + 2) = omega arith in
      let g : le32 s p / 256 / 256 ≡ le16 s (p + 2) = omega arith in
      let b : le16 s p / 256 % 256 ≡ le32 s p / 256 % 256 = lower (le16 s p / 256) (le16 s (p + 2)) (omega arith) ∙ ap (λ (k : ℕ). k % 256)
      (sym f) in
      let c : le16 s (p + 2) % 256 ≡ le32 s p / 256 / 256 % 256 = ap (λ (k : ℕ). k % 256) (sym g) in
      let d : le16 s (p + 2) / 256 % 256 ≡ le32 s p / 256 / 256 / 256 % 256 = ap (λ (k : ℕ). k / 256 % 256) (sym g) in
      pair p (omega arith) ∙ ap (λ (l : List ℕ). le 2 (le16 s p) ++ l) (pair (p + 2) (omega arith)) ∙ rw (e, a, b, c, d)

  tag-pair : (p : ℕ) → p + 4 ≤ length s → drop p s ≡ tag_bytes (tag_at s p) ++ drop (p + 4) s
  unfolding tag_bytes
  tag-pair p h =
      let e : p + 2 + 2 ≡ p + 4 = omega arith in
      let lo = le16-small (p + 2) in
      let a : tag_at s p / 65536 ≡ le16 s p = omega arith in
      let b : tag_at s p % 65536 ≡ le16 s (p + 2) = omega arith in
      rw (a, b) (pair p (omega arith) ∙ ap (λ (l : List ℕ). le 2 (le16 s p) ++ l) (rw e at (pair (p + 2) (omega arith)))
      ∙ sym (append_assoc (le 2 (le16 s p)) (le 2 (le16 s (p + 2))) (drop (p + 4) s)))

  item-bytes : (p : ℕ) → p + 8 ≤ length s → drop p s ≡ item_header (tag_at s p) (le32 s (p + 4)) ++ drop (p + 8) s
  unfolding item_header
  item-bytes p h =
      let e : p + 4 + 4 ≡ p + 8 = omega arith in
      tag-pair p (omega arith) ∙ ap (λ (l : List ℕ). tag_bytes (tag_at s p) ++ l) (rw e at (quad (p + 4) (omega arith)))
      ∙ sym (append_assoc (tag_bytes (tag_at s p)) (le 4 (le32 s (p + 4))) (drop (p + 8) s))

  vr-pair : (p : ℕ) → p + 2 ≤ length s → drop p s ≡ vr_at s p / 256 ∷ vr_at s p % 256 ∷ drop (p + 2) s
  vr-pair p h =
      let a : p + 1 ≡ suc p = omega arith in
      let b : p + 2 ≡ suc (suc p) = omega arith in
      let x : (256 * get_or s p 0 + get_or s (suc p) 0) / 256 ≡ get_or s p 0 = omega (arith, bytes (suc p)) in
      let y : (256 * get_or s p 0 + get_or s (suc p) 0) % 256 ≡ get_or s (suc p) 0 = omega (arith, bytes (suc p)) in
      rw (a, b, x, y) (drop-cons s p 0 (omega arith) ∙ ap (λ (l : List ℕ). get_or s p 0 ∷ l) (drop-cons s (suc p) 0 (omega arith)))

  lettered : (p : ℕ) (rest : List ℕ) → p + 6 ≤ length s → drop (p + 6) s ≡ rest
      → drop p s ≡ tag_bytes (tag_at s p) ++ (vr_at s (p + 4) / 256 ∷ vr_at s (p + 4) % 256 ∷ rest)
  lettered p rest h e =
      let z : p + 4 + 2 ≡ p + 6 = omega arith in
      tag-pair p (omega arith) ∙ ap (λ (l : List ℕ). tag_bytes (tag_at s p) ++ l) (vr-pair (p + 4) (omega arith)
      ∙ ap (λ (l : List ℕ). vr_at s (p + 4) / 256 ∷ vr_at s (p + 4) % 256 ∷ l) (ap (λ (k : ℕ). drop k s) z ∙ e))

  short-bytes : (p : ℕ) → p + 8 ≤ length s → form_of (vr_at s (p + 4)) ≡ 1
      → drop p s ≡ element_header (tag_at s p) (vr_at s (p + 4)) (le16 s (p + 6)) ++ drop (p + 8) s
  unfolding element_header
  short-bytes p h f =
      let e : p + 6 + 2 ≡ p + 8 = omega arith in
      lettered p _ (omega arith) (rw e at (pair (p + 6) (omega arith))) ∙ rw f (simp append_assoc)

  long-bytes : (p : ℕ) → p + 12 ≤ length s → form_of (vr_at s (p + 4)) ≡ 2 → le16 s (p + 6) ≡ 0
      → drop p s ≡ element_header (tag_at s p) (vr_at s (p + 4)) (le32 s (p + 8)) ++ drop (p + 12) s
  unfolding element_header
  long-bytes p h f z =
      let e : p + 6 + 2 ≡ p + 8 = omega arith in
      let g : p + 8 + 4 ≡ p + 12 = omega arith in
      lettered p _ (omega arith) (rw (z, e) at (pair (p + 6) (omega arith))
      ∙ ap (λ (l : List ℕ). le 2 0 ++ l) (rw g at (quad (p + 8) (omega arith)))) ∙ rw (f, two-zeros) (simp append_assoc)

-- ---- What a header says

-- A header of k bytes stands at the offset, with a length of its extent; what it holds is within the known end.
pub record Opens (s : List ℕ) (c : Cursor) (k : ℕ) (front : ℕ → List ℕ) (extent : Extent) (size : ℕ) (v : Cursor) : Type 0 where
  pub is : v ≡ inner extent (c.at + k) size c.end
  pub fits : c.at + k + size ≤ c.end
  pub even : size % 2 ≡ 0
  pub bytes : drop c.at s ≡ front (length_in extent size) ++ drop (c.at + k) s

pub record Element (s : List ℕ) (c : Cursor) (least levels tag vr : ℕ) (v : Cursor) : Type 0 where
  pub good : Tagged least tag
  pub known : form_of vr ≡ 0 → ⊥
  pub deep : vr ≡ SQ → levels ≡ 0 → ⊥
  pub extent : Extent
  pub size : ℕ
  pub plain : (vr ≡ SQ → ⊥) → extent ≡ defined
  pub short : form_of vr ≡ 1 → size < 65536
  pub opens : Opens s c (header_size vr) (element_header tag vr) extent size v

pub record Item (s : List ℕ) (c : Cursor) (tag vr : ℕ) (v : Cursor) : Type 0 where
  pub tagged : tag ≡ item_tag
  pub plain : vr ≡ 0
  pub extent : Extent
  pub size : ℕ
  pub opens : Opens s c 8 (item_header item_tag) extent size v

-- A container ends at a known end, or at its delimiter.
pub data Ended (s : List ℕ) (kind : Kind) (at end : ℕ) (d : Bool) (next : ℕ) : Type 0 where
  reached : d ≡ false → at ≡ end → next ≡ at → Ended s kind at end d next
  marked : d ≡ true → next ≡ at + 8 → at + 8 ≤ end → drop at s ≡ item_header (delimiter_of kind) 0 ++ drop (at + 8) s
      → Ended s kind at end d next

abbrev pub Says : List ℕ → Kind → ℕ → ℕ → Cursor → Result Head Fault → Type 0
Says s elements least levels c (Ok (head.Header tag vr v)) = Element s c least levels tag vr v
Says s items least levels c (Ok (head.Header tag vr v)) = Item s c tag vr v
Says s kind least levels c (Ok (head.End tag vr next)) = Ended s kind c.at c.end c.delimited next.at
Says s kind least levels c (Err fault) = Unit {0}

module _ (s : List ℕ) (kind : Kind) (least levels : ℕ) (c : Cursor) where
  by-test : (t : Bool) (a b : Result Head Fault) → (t ≡ true → Says s kind least levels c a) → (t ≡ false → Says s kind least levels c b)
      → Says s kind least levels c (when t a b)
  unfolding when
  by-test true a b p q = p refl
  by-test false a b p q = q refl

  refuses : (fault : Fault) → Says s kind least levels c (Err fault)
  refuses fault = by_kind kind
    where
      by_kind : (k : Kind) → Says s k least levels c (Err fault)
      by_kind elements = tt
      by_kind items = tt

  ends : (tag vr : ℕ) (next : Cursor) → Ended s kind c.at c.end c.delimited next.at
      → Says s kind least levels c (Ok (head.End tag vr next))
  ends tag vr next e = by_kind kind e
    where
      by_kind : (k : Kind) → Ended s k c.at c.end c.delimited next.at → Says s k least levels c (Ok (head.End tag vr next))
      by_kind elements e = e
      by_kind items e = e

  delimiter-says : (tag len : ℕ) → c.at + 8 ≤ c.end → drop c.at s ≡ item_header tag len ++ drop (c.at + 8) s
      → Says s kind least levels c (delimiter_by c tag (delimiter_of kind) len)
  unfolding delimiter_by
  delimiter-says tag len p b =
      by-test _ _ _
      (λ d. by-test _ _ _ (λ e. by-test _ _ _
      (λ z. ends tag 0 (moved c (c.at + 8)) (marked d refl p (b ∙ rw (eqb-true tag (delimiter_of kind) e, eqb-true len 0 z))))
      (λ _. refuses NotDue)) (λ _. refuses NotDue))
      (λ _. refuses NotDue)

  header-says : (h : Result Head Fault) → (c.at + 8 ≤ c.end → Says s kind least levels c h) → Says s kind least levels c (header_by c h)
  unfolding header_by
  header-says h q =
      by-test _ _ _ (λ e. by-test _ _ _ (λ _. refuses CutShort) (λ d. ends 0 0 c (reached d (eqb-true c.at c.end e) refl)))
      (λ _. by-test _ _ _ (λ _. refuses CutShort) (λ k. q (omega (arith, ltb-false (c.end - c.at) 8 k))))

module _ (s : List ℕ) (c : Cursor) (least levels tag vr : ℕ) (good : Tagged least tag) (known : form_of vr ≡ 0 → ⊥) where
  nested-says : (v : Cursor) → ((vr ≡ SQ → levels ≡ 0 → ⊥) → Element s c least levels tag vr v)
      → Says s elements least levels c (nested_by tag vr levels v)
  unfolding nested_by
  nested-says v g =
      by-test s elements least levels c _ _ _
      (λ _. by-test s elements least levels c _ _ _ (λ _. tt) (λ f. g (λ _. eqb-false levels 0 f)))
      (λ e. g (λ s _. eqb-false vr SQ e s))

  module _ (room : c.at + header_size vr ≤ c.end) where
    defined-says : (len : ℕ) → (form_of vr ≡ 1 → len < 65536)
        → drop c.at s ≡ element_header tag vr len ++ drop (c.at + header_size vr) s
        → Says s elements least levels c (defined_by c tag vr (c.at + header_size vr) len levels)
    unfolding defined_by length_in
    defined-says len few b =
        by-test s elements least levels c _ _ _ (λ _. tt)
        (λ o. by-test s elements least levels c _ _ _ (λ _. tt)
        (λ k. nested-says (cursor (c.at + header_size vr) (c.at + header_size vr + len) false) (λ d.
        let fit : len ≤ c.end - (c.at + header_size vr) = ltb-false (c.end - (c.at + header_size vr)) len k in
        let odd : len % 2 ≡ 1 → ⊥ = eqb-false (len % 2) 1 o in
        record {
          good = good;
          known = known;
          deep = d;
          extent = defined;
          size = len;
          plain = λ _. refl;
          short = few;
          opens = record { is = refl; fits = omega arith; even = omega arith; bytes = b };
        })))

    long-says : (len : ℕ) → form_of vr ≡ 2 → drop c.at s ≡ element_header tag vr len ++ drop (c.at + header_size vr) s
        → Says s elements least levels c (long_by c tag vr (c.at + header_size vr) len levels)
    unfolding long_by length_in
    long-says len f b =
        by-test s elements least levels c _ _ _
        (λ u. by-test s elements least levels c _ _ _
        (λ e. nested-says (cursor (c.at + header_size vr) c.end true) (λ d.
        record {
          good = good;
          known = known;
          deep = d;
          extent = undefined;
          size = 0;
          plain = λ n. absurd (n (eqb-true vr SQ e));
          short = λ g. absurd (omega arith);
          opens = record { is = refl; fits = omega arith; even = refl; bytes = b ∙ rw (eqb-true len reader.undefined u) };
        }))
        (λ _. tt))
        (λ _. defined-says len (λ g. absurd (omega arith)) b)

module _ (s : List ℕ) (bytes : IsBytes s) where
  tag_small : (p : ℕ) → tag_at s p < 4294967296
  tag_small p = omega (arith, le16-small s bytes p, le16-small s bytes (p + 2))

  module _ (c : Cursor) (all : c.end ≤ length s) (k : c.at + 8 ≤ c.end) (least levels : ℕ) where
    typed-says : Tagged least (tag_at s c.at)
        → Says s elements least levels c (typed_at s c (tag_at s c.at) (vr_at s (c.at + 4)) (form_of (vr_at s (c.at + 4)))
        (le16 s (c.at + 6)) levels)
    unfolding typed_at
    typed-says good =
        by-test s elements least levels c _ _ _ (λ _. tt)
        (λ a. let known : form_of vr ≡ 0 → ⊥ = eqb-false (form_of vr) 0 a in
        by-test s elements least levels c _ _ _
        (λ b. let f : form_of vr ≡ 1 = eqb-true (form_of vr) 1 b in
        by_size 8 (size-short vr f)
        (λ n. defined_by c tag vr (c.at + n) (le16 s (c.at + 6)) levels)
        (defined-says s c least levels tag vr good known (omega (arith, size-short vr f)) (le16 s (c.at + 6))
        (λ _. le16-small s bytes (c.at + 6))
        (rw (size-short vr f) (short-bytes s bytes c.at (omega arith) f))))
        (λ b. by-test s elements least levels c _ _ _ (λ _. tt)
        (λ m. let f : form_of vr ≡ 2 = is-long (form vr) known (eqb-false (form_of vr) 1 b) in
        let room : 12 ≤ c.end - c.at = ltb-false (c.end - c.at) 12 m in
        by-test s elements least levels c _ _ _
        (λ z. by_size 12 (size-long vr f)
        (λ n. long_by c tag vr (c.at + n) (le32 s (c.at + 8)) levels)
        (long-says s c least levels tag vr good known (omega (arith, size-long vr f)) (le32 s (c.at + 8)) f
        (rw (size-long vr f) (long-bytes s bytes c.at (omega arith) f (eqb-true (le16 s (c.at + 6)) 0 z)))))
        (λ _. tt))))
      where
        tag : ℕ
        tag = tag_at s c.at

        vr : ℕ
        vr = vr_at s (c.at + 4)

        by_size : (k : ℕ) → header_size vr ≡ k → (h : ℕ → Result Head Fault) → Says s elements least levels c (h (header_size vr))
            → Says s elements least levels c (h k)
        by_size k e h x = subst (λ (n : ℕ). Says s elements least levels c (h n)) e x

        is-long : Form vr → (form_of vr ≡ 0 → ⊥) → (form_of vr ≡ 1 → ⊥) → form_of vr ≡ 2
        is-long (no f) a b = absurd (a f)
        is-long (short f) a b = absurd (b f)
        is-long (long f) a b = f

    tagged-says : Says s elements least levels c (tagged_at s c (tag_at s c.at) least levels)
    unfolding tagged_at
    tagged-says =
        by-test s elements least levels c _ _ _
        (λ _. delimiter-says s elements least levels c _ _ k (item-bytes s bytes c.at (omega arith)))
        (λ g. by-test s elements least levels c _ _ _ (λ _. tt)
        (λ u. typed-says (record {
          ascends = ltb-false (tag_at s c.at) least u;
          small = tag_small c.at;
          group = eqb-false (tag_at s c.at / 65536) 65534 g;
        })))

    sized-says : (len : ℕ) → drop c.at s ≡ item_header item_tag len ++ drop (c.at + 8) s → Says s items least levels c (sized_by c len)
    unfolding sized_by defined_by nested_by length_in
    sized-says len b =
        by-test s items least levels c _ _ _
        (λ u. record {
          tagged = refl;
          plain = refl;
          extent = undefined;
          size = 0;
          opens = record { is = refl; fits = omega arith; even = refl; bytes = b ∙ rw (eqb-true len reader.undefined u) };
        })
        (λ _. by-test s items least levels c _ _ _ (λ _. tt)
        (λ o. by-test s items least levels c _ _ _ (λ _. tt)
        (λ m. let fit : len ≤ c.end - (c.at + 8) = ltb-false (c.end - (c.at + 8)) len m in
        let odd : len % 2 ≡ 1 → ⊥ = eqb-false (len % 2) 1 o in
        let it : Says s items least levels c (Ok (head.Header item_tag 0 (cursor (c.at + 8) (c.at + 8 + len) false))) =
        record {
          tagged = refl;
          plain = refl;
          extent = defined;
          size = len;
          opens = record { is = refl; fits = omega arith; even = omega arith; bytes = b };
        } in
        by-test s items least levels c _ _ _ (λ _. by-test s items least levels c _ _ _ (λ _. tt) (λ _. it)) (λ _. it))))

    member-says : Says s items least levels c (member_at s c (tag_at s c.at))
    unfolding member_at
    member-says =
        let b = item-bytes s bytes c.at (omega arith) in
        by-test s items least levels c _ _ _
        (λ e. sized-says (le32 s (c.at + 4)) (b ∙ rw (eqb-true (tag_at s c.at) item_tag e)))
        (λ _. delimiter-says s items least levels c _ _ k b)

  pub element-says : (c : Cursor) → c.end ≤ length s → (least levels : ℕ) → Says s elements least levels c (element_at s c least levels)
  element-says c all least levels = header-says s elements least levels c _ (λ k. tagged-says c all k least levels)

  pub item-says : (c : Cursor) → c.end ≤ length s → (least levels : ℕ) → Says s items least levels c (item_at s c)
  item-says c all least levels = header-says s items least levels c _ (λ k. member-says c all k least levels)
