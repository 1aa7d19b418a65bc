-- What a reading knows of the nodes of one container, and their bytes with defined lengths, built together: the tree that
-- the flat list of nodes stands for. Every law of writing is an induction over it.
use mathlib.Core.Path.{◌≡◌, refl, sym, ap, ◌∙◌}
use mathlib.Core.Bool.{Bool, true, false, cond}
use Prim.Native.Nat.{ℕ, zero, suc, ◌+◌, ◌-◌, ◌/◌, ◌%◌, ◌≤◌, ◌<◌}
use native.Mathlib.Omega.{arith}
use native.Mathlib.Nat.{zero-add, add-zero}
use borrow.Author.Tests.{ne_eqb, eqb-true}
use lib.Dec.{eqb}
use mathlib.Core.List.{List, [], ◌∷◌, ◌++◌, append_assoc, append-nil}
use lib.ListN.{length, take, length-append}
use lib.Seq.{take-append_seam}
use Rattle.dataset.specs.Reading.{depths}
use Rattle.basics.specs.Vr.{form_of, listed, SQ}
use Rattle.basics.specs.Tags.{item_tag}
use Rattle.dataset.specs.Tree.{Kind, elements, items}
use Rattle.dataset.proofs.Laws.{item-formless}
use Rattle.node.specs.Nodes.{Node}
use Rattle.canonical.specs.Written.{letters, length_of, header, head_size, own_size, written_size, node_bytes, written_of}
use Rattle.basics.specs.Bytes.{IsBytes, le}
use Rattle.basics.proofs.Bytes.{append-bytes, le_bytes}

-- A tag of 32 bits that is no item's and no end mark's.
pub record Tag (tag : ℕ) : Type 0 where
  pub small : tag < 4294967296
  pub group : tag / 65536 ≡ 65534 → ⊥

-- An element with a value of its own.
pub record Leaf (least tag vr : ℕ) (value : List ℕ) : Type 0 where
  pub ascends : least ≤ tag
  pub tagged : Tag tag
  pub known : form_of vr ≡ 0 → ⊥
  pub letters : vr < 65536
  pub plain : vr ≡ SQ → ⊥
  pub even : length value % 2 ≡ 0
  pub short : form_of vr ≡ 1 → length value < 65536
  pub bytes : IsBytes value

abbrev pub node : ℕ → ℕ → ℕ → ℕ → List ℕ → Node
node tag vr depth descendants value = record { tag = tag; vr = vr; depth = depth; descendants = descendants; value = value }

-- The nodes of one container with all that is below them, and their bytes.
pub data Shape : Kind → ℕ → ℕ → List Node → List ℕ → Type 0 where
  none : {kind : Kind} {levels least : ℕ} → Shape kind levels least [] []
  leaf : {levels least tag vr : ℕ} {value : List ℕ} {rest : List Node} {after : List ℕ}
      → Leaf least tag vr value
      → Shape elements levels (tag + 1) rest after
      → Shape elements levels least (node tag vr (depths - levels) 0 value ∷ rest) (header tag vr (length value) ++ (value ++ after))
  sequence : {levels least tag : ℕ} {below rest : List Node} {inner after : List ℕ}
      → least ≤ tag → Tag tag
      → Shape items levels 0 below inner
      → Shape elements (suc levels) (tag + 1) rest after
      → Shape elements (suc levels) least (node tag SQ (depths - suc levels) (length below) [] ∷ (below ++ rest))
      (header tag SQ (length inner) ++ (inner ++ after))
  item : {levels least : ℕ} {below rest : List Node} {inner after : List ℕ}
      → Shape elements levels 0 below inner
      → Shape items levels (item_tag + 1) rest after
      → Shape items levels least (node item_tag 0 (depths - levels) (length below) [] ∷ (below ++ rest))
      (header item_tag 0 (length inner) ++ (inner ++ after))

-- ---- A header's length

pub data Form (vr : ℕ) : Type 0 where
  no : form_of vr ≡ 0 → Form vr
  short : form_of vr ≡ 1 → Form vr
  long : form_of vr ≡ 2 → Form vr

pub form : (vr : ℕ) → Form vr
unfolding form_of
form vr = go (listed _ vr) (listed _ vr) refl
  where
    go : (a b : Bool) → form_of vr ≡ cond a 2 (cond b 1 0) → Form vr
    go true b e = long e
    go false true e = short e
    go false false e = no e

pub vr-not-0 : (vr : ℕ) → (form_of vr ≡ 0 → ⊥) → vr ≡ 0 → ⊥
vr-not-0 vr n e = n (item-formless vr e)

pub head-short : (vr : ℕ) → form_of vr ≡ 1 → head_size vr ≡ 8
unfolding head_size
head-short vr f = rw f

pub head-long : (vr : ℕ) → form_of vr ≡ 2 → head_size vr ≡ 12
unfolding head_size
head-long vr f = rw f

pub head-else : (vr : ℕ) → (form_of vr ≡ 2 → ⊥) → head_size vr ≡ 8
unfolding head_size
head-else vr f = rw (ne_eqb (form_of vr) 2 f)

pub head-least : (vr : ℕ) → 8 ≤ head_size vr
unfolding head_size
head-least vr = go (eqb (form_of vr) 2)
  where
    go : (b : Bool) → 8 ≤ cond b 12 8
    go true = omega arith
    go false = omega arith

pub sq-long : form_of SQ ≡ 2
unfolding form_of listed
sq-long = refl

pub item-short : head_size 0 ≡ 8
unfolding head_size form_of listed
item-short = refl

pub length-header : (tag vr size : ℕ) → length (header tag vr size) ≡ head_size vr
unfolding header length_of letters head_size le
length-header tag vr size = go (eqb vr 0) refl (eqb (form_of vr) 2) refl
  where
    go : (a : Bool) → eqb vr 0 ≡ a → (b : Bool) → eqb (form_of vr) 2 ≡ b
        → length (le 2 (tag / 65536) ++ (le 2 (tag % 65536) ++ cond a (le 4 size) (letters vr ++ cond b (le 2 0 ++ le 4 size) (le 2 size))))
        ≡ cond b 12 8
    go true e true f = absurd (omega (arith, item-formless vr (eqb-true vr 0 e), eqb-true (form_of vr) 2 f))
    go true e false f = refl
    go false e true f = refl
    go false e false f = refl

-- ---- The bytes are those of the definition

pub size-append : (ns ms : List Node) → written_size (ns ++ ms) ≡ written_size ns + written_size ms
unfolding written_size own_size
size-append [] ms = omega arith
size-append (n ∷ ns) ms = omega (arith, size-append ns ms)

pub shape_size : {kind : Kind} {levels least : ℕ} {ns : List Node} {bs : List ℕ} → Shape kind levels least ns bs
    → written_size ns ≡ length bs
unfolding written_size own_size
shape_size none = refl
shape_size (leaf {tag = tag} {vr = vr} {value = value} {rest = rest} {after = after} l r) =
    simp (length-append, length-header) (omega (arith, shape_size r))
shape_size (sequence {tag = tag} {below = below} {rest = rest} {inner = inner} {after = after} h t b r) =
    simp (length-append, length-header, size-append) (omega (arith, shape_size b, shape_size r))
shape_size (item {below = below} {rest = rest} {inner = inner} {after = after} b r) =
    simp (length-append, length-header, size-append) (omega (arith, shape_size b, shape_size r))

-- A container in front of what follows it.
container-written : (tag vr : ℕ) (below rest more : List Node) (inner after : List ℕ) → written_size below ≡ length inner
    → written_of (below ++ (rest ++ more)) ≡ inner ++ written_of (rest ++ more) → written_of (rest ++ more) ≡ after ++ written_of more
    → header tag vr (0 + written_size (take (length below) (below ++ rest ++ more))) ++ [] ++ written_of (below ++ rest ++ more)
    ≡ header tag vr (length inner) ++ (inner ++ after) ++ written_of more
container-written tag vr below rest more inner after p q r =
    rw (append_assoc below rest more, take-append_seam below (rest ++ more), zero-add, p, q, r) (simp (append_assoc, append-nil))

-- Whatever nodes follow, the bytes of these stand in front.
pub shape-written : {kind : Kind} {levels least : ℕ} {ns : List Node} {bs : List ℕ} → Shape kind levels least ns bs
    → (more : List Node) → written_of (ns ++ more) ≡ bs ++ written_of more
unfolding written_of node_bytes written_size
shape-written none more = refl
shape-written (leaf {tag = tag} {vr = vr} {value = value} {rest = rest} {after = after} l r) more =
    rw (shape-written r more, add-zero) (simp append_assoc)
shape-written (sequence {tag = tag} {below = below} {rest = rest} {inner = inner} {after = after} h t b r) more =
    container-written tag SQ below rest more inner after (shape_size b) (shape-written b (rest ++ more)) (shape-written r more)
shape-written (item {below = below} {rest = rest} {inner = inner} {after = after} b r) more =
    container-written item_tag 0 below rest more inner after (shape_size b) (shape-written b (rest ++ more)) (shape-written r more)

pub shape_is : {kind : Kind} {levels least : ℕ} {ns : List Node} {bs : List ℕ} → Shape kind levels least ns bs → written_of ns ≡ bs
unfolding written_of
shape_is {ns = ns} {bs = bs} h = ap written_of (sym (append-nil ns)) ∙ shape-written h [] ∙ append-nil bs

-- ---- Lengths are even

pub head-even : (vr : ℕ) → head_size vr % 2 ≡ 0
unfolding head_size
head-even vr = go (eqb (form_of vr) 2)
  where
    go : (b : Bool) → cond b 12 8 % 2 ≡ 0
    go true = refl
    go false = refl

pub shape-even : {kind : Kind} {levels least : ℕ} {ns : List Node} {bs : List ℕ} → Shape kind levels least ns bs → length bs % 2 ≡ 0
shape-even none = refl
shape-even (leaf {tag = tag} {vr = vr} {value = value} {rest = rest} {after = after} l r) =
    simp (length-append, length-header) (omega (arith, head-even vr, l.even, shape-even r))
shape-even (sequence {tag = tag} {below = below} {rest = rest} {inner = inner} {after = after} h t b r) =
    simp (length-append, length-header) (omega (arith, head-even SQ, shape-even b, shape-even r))
shape-even (item {below = below} {rest = rest} {inner = inner} {after = after} b r) =
    simp (length-append, length-header) (omega (arith, head-even 0, shape-even b, shape-even r))

-- ---- They are bytes

letters-bytes : (vr : ℕ) → IsBytes (letters vr)
unfolding letters
letters-bytes vr zero = omega arith
letters-bytes vr (suc zero) = omega arith
letters-bytes vr (suc (suc k)) = omega arith

header-bytes : (tag vr size : ℕ) → IsBytes (header tag vr size)
unfolding header length_of
header-bytes tag vr size =
    append-bytes (le 2 (tag / 65536)) (le 2 (tag % 65536) ++ length_of vr size) (le_bytes 2 (tag / 65536))
    (append-bytes (le 2 (tag % 65536)) (length_of vr size) (le_bytes 2 (tag % 65536)) (go (eqb vr 0) (eqb (form_of vr) 2)))
  where
    go : (a b : Bool) → IsBytes (cond a (le 4 size) (letters vr ++ cond b (le 2 0 ++ le 4 size) (le 2 size)))
    go true b = le_bytes 4 size
    go false true = append-bytes (letters vr) (le 2 0 ++ le 4 size) (letters-bytes vr)
        (append-bytes (le 2 0) (le 4 size) (le_bytes 2 0) (le_bytes 4 size))
    go false false = append-bytes (letters vr) (le 2 size) (letters-bytes vr) (le_bytes 2 size)

pub shape-bytes : {kind : Kind} {levels least : ℕ} {ns : List Node} {bs : List ℕ} → Shape kind levels least ns bs → IsBytes bs
shape-bytes none = λ k. omega arith
shape-bytes (leaf {tag = tag} {vr = vr} {value = value} {after = after} l r) =
    append-bytes (header tag vr (length value)) (value ++ after) (header-bytes tag vr (length value))
    (append-bytes value after l.bytes (shape-bytes r))
shape-bytes (sequence {tag = tag} {inner = inner} {after = after} h t b r) =
    append-bytes (header tag SQ (length inner)) (inner ++ after) (header-bytes tag SQ (length inner))
    (append-bytes inner after (shape-bytes b) (shape-bytes r))
shape-bytes (item {inner = inner} {after = after} b r) =
    append-bytes (header item_tag 0 (length inner)) (inner ++ after) (header-bytes item_tag 0 (length inner))
    (append-bytes inner after (shape-bytes b) (shape-bytes r))
