-- No two data sets are spelt alike. No reader is in this proof: a header tells its tag, VR and length, a length where a value or a
-- container
-- ends, and a delimiter is no header of a member.
use mathlib.Core.Path.{◌≡◌, refl, sym, ap, ◌∙◌}
use mathlib.Core.Bool.{cond}
use Prim.Native.Nat.{ℕ, ◌+◌, ◌<◌}
use native.Mathlib.Omega.{arith}
use lib.Dec.{eqb}
use mathlib.Core.List.{List, [], ◌++◌, append_assoc, append-nil}
use lib.ListN.{length, take, drop, length-append}
use lib.Seq.{take_at, drop_at}
use Rattle.basics.specs.Bytes.{le16, le32, tag_at, vr_at}
use Rattle.basics.specs.Vr.{form_of, SQ}
use Rattle.basics.specs.Tags.{item_tag, item_delimiter, sequence_delimiter}
use Rattle.dataset.specs.Tree.{Kind, elements, items}
use Rattle.grammar.specs.Grammar.{Extent, defined, undefined, Forest, none, element, sequence, item}
use Rattle.grammar.specs.Grammar.{element_header, header_size, item_header, length_in, closing, spell, Tagged, Valued, Valid}
use Rattle.grammar.specs.Claims.{Unique}
use Rattle.grammar.proofs.Headers.{Form, no, short, long, form, size-even, length-element, length-item, sq-long, sq-known}
use Rattle.grammar.proofs.Headers.{spelt-short, spelt-long, spelt-item, tag_back, vr-back, four-back, le-two, two}
use Rattle.grammar.proofs.Sound.{delimiter_of, length-plain, length-sequence, length-member}

-- ---- Headers

-- The length in an element's header.
size_at : List ℕ → ℕ → ℕ
size_at t vr = cond (eqb (form_of vr) 2) (le32 t 8) (le16 t 6)

abbrev Fits : ℕ → ℕ → Type 0
Fits vr n = (form_of vr ≡ 1 → n < 65536) × (n < 4294967296)

record ElementAt (t : List ℕ) (tag vr n : ℕ) (more : List ℕ) : Type 0 where
  tag_is : tag_at t 0 ≡ tag
  vr-is : vr_at t 4 ≡ vr
  size_is : size_at t vr ≡ n
  rest-is : drop (header_size vr) t ≡ more

element-at : (t : List ℕ) (tag vr n : ℕ) (more : List ℕ) → tag < 4294967296 → (form_of vr ≡ 0 → ⊥) → Fits vr n
    → t ≡ element_header tag vr n ++ more
    → ElementAt t tag vr n more
unfolding size_at
element-at t tag vr n more small known fits e = go (form vr)
  where
    rest : drop (header_size vr) t ≡ more
    rest = ap (λ (l : List ℕ). drop (header_size vr) l) e ∙ drop_at (element_header tag vr n) more (header_size vr) (length-element tag vr n)

    go : Form vr → ElementAt t tag vr n more
    go (no f) = absurd (known f)
    go (short f) =
        let h = e ∙ spelt-short tag vr n more f in
        record {
          tag_is = tag_back t 0 tag _ h small;
          vr-is = vr-back t 0 vr _ h refl refl;
          size_is = rw f (two t 0 _ h 6 6 refl ∙ le-two n (fits.0 f));
          rest-is = rest;
        }
    go (long f) =
        let h = e ∙ spelt-long tag vr n more f in
        record {
          tag_is = tag_back t 0 tag _ h small;
          vr-is = vr-back t 0 vr _ h refl refl;
          size_is = rw f (four-back t 0 8 n _ 8 h refl fits.1 refl refl refl refl);
          rest-is = rest;
        }

record SameElement (tag vr n : ℕ) (x : List ℕ) (tag' vr' n' : ℕ) (x' : List ℕ) : Type 0 where
  tags : tag ≡ tag'
  vrs : vr ≡ vr'
  sizes : n ≡ n'
  rests : x ≡ x'

same-element : (tag vr n : ℕ) (x : List ℕ) (tag' vr' n' : ℕ) (x' : List ℕ) → tag < 4294967296 → tag' < 4294967296
    → (form_of vr ≡ 0 → ⊥) → (form_of vr' ≡ 0 → ⊥) → Fits vr n → Fits vr' n'
    → element_header tag vr n ++ x ≡ element_header tag' vr' n' ++ x' → SameElement tag vr n x tag' vr' n' x'
same-element tag vr n x tag' vr' n' x' a b c d f g e =
    let t : List ℕ = element_header tag vr n ++ x in
    let p = element-at t tag vr n x a c f refl in
    let q = element-at t tag' vr' n' x' b d g e in
    let v : vr ≡ vr' = sym p.vr-is ∙ q.vr-is in
    record {
      tags = sym p.tag_is ∙ q.tag_is;
      vrs = v;
      sizes = sym p.size_is ∙ ap (size_at t) v ∙ q.size_is;
      rests = sym p.rest-is ∙ ap (λ (k : ℕ). drop (header_size k) t) v ∙ q.rest-is;
    }

record ItemAt (t : List ℕ) (tag n : ℕ) (more : List ℕ) : Type 0 where
  tag_is : tag_at t 0 ≡ tag
  size_is : le32 t 4 ≡ n
  rest-is : drop 8 t ≡ more

item-at : (t : List ℕ) (tag n : ℕ) (more : List ℕ) → tag < 4294967296 → n < 4294967296 → t ≡ item_header tag n ++ more → ItemAt t tag n more
item-at t tag n more small fits e =
    let h = e ∙ spelt-item tag n more in
    record {
      tag_is = tag_back t 0 tag _ h small;
      size_is = four-back t 0 4 n _ 4 h refl fits refl refl refl refl;
      rest-is = ap (λ (l : List ℕ). drop 8 l) e ∙ drop_at (item_header tag n) more 8 (length-item tag n);
    }

-- ---- Where a container ends

data Ending (kind : Kind) (p : List ℕ) : Type 0 where
  nothing : p ≡ [] → Ending kind p
  mark : (more : List ℕ) → p ≡ item_header (delimiter_of kind) 0 ++ more → Ending kind p

-- No member begins there.
no-element : (p : List ℕ) → Ending elements p → (least tag vr n : ℕ) (more : List ℕ) → Tagged least tag → (form_of vr ≡ 0 → ⊥) → Fits vr n
    → p ≡ element_header tag vr n ++ more → ⊥
no-element p (nothing z) least tag vr n more good known fits e =
    let l : 0 ≡ length (element_header tag vr n ++ more) = ap length (sym z ∙ e) in
    omega (arith, simp (length-append, length-element) at l, (size-even vr).1)
no-element p (mark more' z) least tag vr n more good known fits e =
    let a : tag_at p 0 ≡ tag = (element-at p tag vr n more good.small known fits e).tag_is in
    let b : tag_at p 0 ≡ item_delimiter = (item-at p item_delimiter 0 more' (omega arith) (omega arith) z).tag_is in
    good.group (omega arith)

no_item : (p : List ℕ) → Ending items p → (n : ℕ) (more : List ℕ) → n < 4294967296 → p ≡ item_header item_tag n ++ more → ⊥
no_item p (nothing z) n more fits e =
    let l : 0 ≡ length (item_header item_tag n ++ more) = ap length (sym z ∙ e) in
    omega (arith, simp (length-append, length-item) at l)
no_item p (mark more' z) n more fits e =
    let a : tag_at p 0 ≡ item_tag = (item-at p item_tag n more (omega arith) fits e).tag_is in
    let b : tag_at p 0 ≡ sequence_delimiter = (item-at p sequence_delimiter 0 more' (omega arith) (omega arith) z).tag_is in
    omega arith

-- Two containers alike: of one extent, and with what follows what is inside them in sight.
record Inside (kind : Kind) (e e' : Extent) (a a' x x' : List ℕ) : Type 0 where
  extents : e ≡ e'
  after : List ℕ
  after' : List ℕ
  joined : a ++ after ≡ a' ++ after'
  ends : Ending kind after
  ends' : Ending kind after'
  rests : after ≡ after' → x ≡ x'

inside : (kind : Kind) (e e' : Extent) (a a' x x' : List ℕ) → length a < 4294967295 → length a' < 4294967295
    → length_in e (length a) ≡ length_in e' (length a')
    → a ++ (closing e (delimiter_of kind) ++ x) ≡ a' ++ (closing e' (delimiter_of kind) ++ x')
    → Inside kind e e' a a' x x'
unfolding length_in closing
inside kind defined defined a a' x x' p q n h =
    let b : a ≡ a' = sym (take_at a x (length a) refl) ∙ ap (λ (l : List ℕ). take (length a) l) h ∙ take_at a' x' (length a) (sym n) in
    let c : x ≡ x' = sym (drop_at a x (length a) refl) ∙ ap (λ (l : List ℕ). drop (length a) l) h ∙ drop_at a' x' (length a) (sym n) in
    record {
      extents = refl;
      after = [];
      after' = [];
      joined = ap (λ (l : List ℕ). l ++ []) b;
      ends = nothing refl;
      ends' = nothing refl;
      rests = λ _. c;
    }
inside kind defined undefined a a' x x' p q n h = absurd (omega arith)
inside kind undefined defined a a' x x' p q n h = absurd (omega arith)
inside kind undefined undefined a a' x x' p q n h =
    record {
      extents = refl;
      after = item_header (delimiter_of kind) 0 ++ x;
      after' = item_header (delimiter_of kind) 0 ++ x';
      joined = h;
      ends = mark x refl;
      ends' = mark x' refl;
      rests = λ z. sym (drop_at (item_header (delimiter_of kind) 0) x 8 (length-item (delimiter_of kind) 0))
          ∙ ap (λ (l : List ℕ). drop 8 l) z ∙ drop_at (item_header (delimiter_of kind) 0) x' 8 (length-item (delimiter_of kind) 0);
    }

length_in-small : (e : Extent) (n : ℕ) → n < 4294967295 → length_in e n < 4294967296
unfolding length_in
length_in-small defined n h = omega arith
length_in-small undefined n h = omega arith

-- ---- Forests

sq-fits : (e : Extent) (n : ℕ) → n < 4294967295 → Fits SQ (length_in e n)
sq-fits e n h = (λ y. absurd (omega (arith, sq-long)), length_in-small e n h)

value-fits : {vr : ℕ} {value : List ℕ} → Valued vr value → length value < 4294967295 → Fits vr (length value)
value-fits it h = (it.short, omega arith)

-- Lists of one length in front of others.
fronts : (a a' x x' : List ℕ) → length a ≡ length a' → a ++ x ≡ a' ++ x' → (a ≡ a') × (x ≡ x')
fronts a a' x x' n h = (
  sym (take_at a x (length a) refl) ∙ ap (λ (l : List ℕ). take (length a) l) h ∙ take_at a' x' (length a) (sym n),
  sym (drop_at a x (length a) refl) ∙ ap (λ (l : List ℕ). drop (length a) l) h ∙ drop_at a' x' (length a) (sym n),
)

two-parts : (a b c d : List ℕ) → (a ++ (b ++ c)) ++ d ≡ a ++ (b ++ (c ++ d))
two-parts a b c d = simp append_assoc

three-parts : (a b c d e : List ℕ) → (a ++ (b ++ (c ++ d))) ++ e ≡ a ++ (b ++ (c ++ (d ++ e)))
three-parts a b c d e = simp append_assoc

same-items : (n n' : ℕ) (x x' : List ℕ) → n < 4294967296 → n' < 4294967296 → item_header item_tag n ++ x ≡ item_header item_tag n' ++ x'
    → (n ≡ n') × (x ≡ x')
same-items n n' x x' a b e =
    let p = item-at (item_header item_tag n ++ x) item_tag n x (omega arith) a refl in
    let q = item-at (item_header item_tag n ++ x) item_tag n' x' (omega arith) b e in
    (sym p.size_is ∙ q.size_is, sym p.rest-is ∙ q.rest-is)

abbrev sequence_rest : Extent → Forest items → Forest elements → List ℕ → List ℕ
sequence_rest e inner rest p = spell inner ++ (closing e sequence_delimiter ++ (spell rest ++ p))

abbrev item_rest : Extent → Forest elements → Forest items → List ℕ → List ℕ
item_rest e inner rest p = spell inner ++ (closing e item_delimiter ++ (spell rest ++ p))

module _ (tag : ℕ) (e : Extent) (inner : Forest items) (rest : Forest elements) where
  sequence-parts : (p : List ℕ) → spell (sequence tag e inner rest) ++ p
      ≡ element_header tag SQ (length_in e (length (spell inner))) ++ sequence_rest e inner rest p
  unfolding spell
  sequence-parts p = three-parts (element_header tag SQ (length_in e (length (spell inner)))) (spell inner) (closing e sequence_delimiter)
      (spell rest) p

module _ (e : Extent) (inner : Forest elements) (rest : Forest items) where
  item-parts : (p : List ℕ) → spell (item e inner rest) ++ p ≡ item_header item_tag (length_in e (length (spell inner))) ++ item_rest e inner
      rest p
  unfolding spell
  item-parts p = three-parts (item_header item_tag (length_in e (length (spell inner)))) (spell inner) (closing e item_delimiter) (spell rest) p

module _ (tag vr : ℕ) (value : List ℕ) (rest : Forest elements) where
  element-parts : (p : List ℕ) → spell (element tag vr value rest) ++ p ≡ element_header tag vr (length value) ++
      (value ++ (spell rest ++ p))
  unfolding spell
  element-parts p = two-parts (element_header tag vr (length value)) value (spell rest) p

same : {kind : Kind} (f g : Forest kind) (depth least depth' least' : ℕ) (p q : List ℕ) → Valid depth least f → Valid depth' least' g
    → Ending kind p → Ending kind q → length (spell f) < 4294967295 → length (spell g) < 4294967295 → spell f ++ p ≡ spell g ++ q
    → (f ≡ g) × (p ≡ q)
unfolding Valid spell
same none none depth least depth' least' p q v w ep eq lf lg h = (refl, h)
same none (element tag vr value rest) depth least depth' least' p q v (good, (it, r)) ep eq lf lg h =
    absurd (no-element p ep least' tag vr (length value) (value ++ (spell rest ++ q)) good it.known
    (value-fits it (omega (arith, length-plain tag vr value rest))) (h ∙ element-parts tag vr value rest q))
same none (sequence tag e inner rest) depth least depth' least' p q v (good, (deep, (i, r))) ep eq lf lg h =
    absurd (no-element p ep least' tag SQ (length_in e (length (spell inner))) (sequence_rest e inner rest q) good sq-known
    (sq-fits e (length (spell inner)) (omega (arith, length-sequence tag e inner rest))) (h ∙ sequence-parts tag e inner rest q))
same none (item e inner rest) depth least depth' least' p q v (i, r) ep eq lf lg h =
    absurd (no_item p ep (length_in e (length (spell inner))) (item_rest e inner rest q)
    (length_in-small e (length (spell inner)) (omega (arith, length-member e inner rest))) (h ∙ item-parts e inner rest q))
same (element tag vr value rest) none depth least depth' least' p q (good, (it, r)) w ep eq lf lg h =
    absurd (no-element q eq least tag vr (length value) (value ++ (spell rest ++ p)) good it.known
    (value-fits it (omega (arith, length-plain tag vr value rest))) (sym h ∙ element-parts tag vr value rest p))
same (element tag vr value rest) (element tag' vr' value' rest') depth least depth' least' p q (good, (it, r)) (good', (it', r')) ep eq lf
    lg h =
    let lr = length-plain tag vr value rest in
    let lr' = length-plain tag' vr' value' rest' in
    let s = same-element tag vr (length value) (value ++ (spell rest ++ p)) tag' vr' (length value') (value' ++ (spell rest' ++ q))
    good.small good'.small it.known it'.known (value-fits it (omega arith)) (value-fits it' (omega arith))
    (sym (element-parts tag vr value rest p) ∙ h ∙ element-parts tag' vr' value' rest' q) in
    let a = s.tags in
    let b = s.vrs in
    let f = fronts value value' (spell rest ++ p) (spell rest' ++ q) s.sizes s.rests in
    let c = f.0 in
    let n = same rest rest' depth (tag + 1) depth' (tag' + 1) p q r r' ep eq (omega arith) (omega arith) f.1 in
    let d = n.0 in
    (cc, n.1)
same (element tag vr value rest) (sequence tag' e inner rest') depth least depth' least' p q (good, (it, r)) (good', (deep, (i, r'))) ep eq
    lf lg h =
    let s = same-element tag vr (length value) (value ++ (spell rest ++ p)) tag' SQ (length_in e (length (spell inner)))
    (sequence_rest e inner rest' q)
    good.small good'.small it.known sq-known (value-fits it (omega (arith, length-plain tag vr value rest)))
    (sq-fits e (length (spell inner)) (omega (arith, length-sequence tag' e inner rest')))
    (sym (element-parts tag vr value rest p) ∙ h ∙ sequence-parts tag' e inner rest' q) in
    absurd (it.plain s.vrs)
same (sequence tag e inner rest) none depth least depth' least' p q (good, (deep, (i, r))) w ep eq lf lg h =
    absurd (no-element q eq least tag SQ (length_in e (length (spell inner))) (sequence_rest e inner rest p) good sq-known
    (sq-fits e (length (spell inner)) (omega (arith, length-sequence tag e inner rest))) (sym h ∙ sequence-parts tag e inner rest p))
same (sequence tag e inner rest) (element tag' vr' value' rest') depth least depth' least' p q (good, (deep, (i, r))) (good', (it, r')) ep
    eq lf lg h =
    let s = same-element tag' vr' (length value') (value' ++ (spell rest' ++ q)) tag SQ (length_in e (length (spell inner)))
    (sequence_rest e inner rest p)
    good'.small good.small it.known sq-known (value-fits it (omega (arith, length-plain tag' vr' value' rest')))
    (sq-fits e (length (spell inner)) (omega (arith, length-sequence tag e inner rest)))
    (sym (element-parts tag' vr' value' rest' q) ∙ sym h ∙ sequence-parts tag e inner rest p) in
    absurd (it.plain s.vrs)
same (sequence tag e inner rest) (sequence tag' e' inner' rest') depth least depth' least' p q (good, (deep, (i, r)))
    (good', (deep', (i', r'))) ep eq lf lg h =
    let lr = length-sequence tag e inner rest in
    let lr' = length-sequence tag' e' inner' rest' in
    let s = same-element tag SQ (length_in e (length (spell inner))) (sequence_rest e inner rest p)
    tag' SQ (length_in e' (length (spell inner'))) (sequence_rest e' inner' rest' q) good.small good'.small sq-known sq-known
    (sq-fits e (length (spell inner)) (omega arith)) (sq-fits e' (length (spell inner')) (omega arith))
    (sym (sequence-parts tag e inner rest p) ∙ h ∙ sequence-parts tag' e' inner' rest' q) in
    let j = inside items e e' (spell inner) (spell inner') (spell rest ++ p) (spell rest' ++ q) (omega arith) (omega arith) s.sizes
    s.rests in
    let m = same inner inner' (depth + 1) 0 (depth' + 1) 0 j.after j.after' i i' j.ends j.ends' (omega arith) (omega arith)
    j.joined in
    let n = same rest rest' depth (tag + 1) depth' (tag' + 1) p q r r' ep eq (omega arith) (omega arith) (j.rests m.1) in
    let a = s.tags in
    let b = j.extents in
    let c = m.0 in
    let d = n.0 in
    (cc, n.1)
same (item e inner rest) none depth least depth' least' p q (i, r) w ep eq lf lg h =
    absurd (no_item q eq (length_in e (length (spell inner))) (item_rest e inner rest p)
    (length_in-small e (length (spell inner)) (omega (arith, length-member e inner rest))) (sym h ∙ item-parts e inner rest p))
same (item e inner rest) (item e' inner' rest') depth least depth' least' p q (i, r) (i', r') ep eq lf lg h =
    let lr = length-member e inner rest in
    let lr' = length-member e' inner' rest' in
    let s = same-items (length_in e (length (spell inner))) (length_in e' (length (spell inner'))) (item_rest e inner rest p)
    (item_rest e' inner' rest' q)
    (length_in-small e (length (spell inner)) (omega arith)) (length_in-small e' (length (spell inner')) (omega arith))
    (sym (item-parts e inner rest p) ∙ h ∙ item-parts e' inner' rest' q) in
    let j = inside elements e e' (spell inner) (spell inner') (spell rest ++ p) (spell rest' ++ q) (omega arith) (omega arith) s.0 s.1
    in
    let m = same inner inner' depth 0 depth' 0 j.after j.after' i i' j.ends j.ends' (omega arith) (omega arith) j.joined in
    let n = same rest rest' depth 0 depth' 0 p q r r' ep eq (omega arith) (omega arith) (j.rests m.1) in
    let b = j.extents in
    let c = m.0 in
    let d = n.0 in
    (cc, n.1)

pub unique : Unique
unique t u h k e =
    (same t u 0 0 0 0 [] [] h.valid k.valid (nothing refl) (nothing refl) (omega (arith, h.small)) (omega (arith, k.small))
    (append-nil (spell t) ∙ e ∙ sym (append-nil (spell u)))).0
