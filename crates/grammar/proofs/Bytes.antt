-- What spells a data set is bytes: each number in a header is cut into bytes, and a listed VR has two letters.
use mathlib.Core.Path.{◌≡◌, refl}
use mathlib.Core.Bool.{Bool, true, false, cond, ◌&&◌, ◌||◌}
use Prim.Native.Nat.{ℕ, zero, suc, ◌+◌, ◌/◌, ◌%◌, ◌<◌}
use native.Mathlib.Omega.{arith}
use borrow.Author.Tests.{eqb-true, ltb-true}
use lib.Dec.{eqb, ltb}
use mathlib.Core.List.{List, [], ◌∷◌, ◌++◌}
use lib.ListN.{length}
use Rattle.basics.specs.Bytes.{IsBytes, le}
use Rattle.basics.proofs.Bytes.{none-bytes, append-bytes, le_bytes}
use Rattle.basics.specs.Vr.{form_of, listed, long_vrs, short_vrs, SQ}
use Rattle.basics.specs.Tags.{item_tag, item_delimiter, sequence_delimiter}
use Rattle.dataset.specs.Tree.{Kind}
use Rattle.grammar.specs.Grammar.{Extent, defined, undefined, Forest, none, element, sequence, item, tag_bytes}
use Rattle.grammar.specs.Grammar.{element_header, item_header, length_in, closing, spell, Valid}
use Rattle.grammar.specs.Claims.{Bytes}
use Rattle.grammar.proofs.Headers.{sq-known}

-- ---- A listed VR has two letters

abbrev all_small : List ℕ → Bool
all_small [] = true
all_small (k ∷ ks) = ltb k 65536 && all_small ks

listed_small : (ks : List ℕ) (vr : ℕ) → all_small ks ≡ true → listed ks vr ≡ true → vr < 65536
unfolding listed
listed_small [] vr h e = let z : ◌≡◌ {A = ℕ} 0 1 = cc in absurd (omega arith)
listed_small (k ∷ ks) vr h e = go (listed_small ks vr) (ltb k 65536) refl h (eqb vr k) refl e
  where
    go : (all_small ks ≡ true → listed ks vr ≡ true → vr < 65536) → (a : Bool) → ltb k 65536 ≡ a → a && all_small ks ≡ true
        → (b : Bool) → eqb vr k ≡ b → b || listed ks vr ≡ true → vr < 65536
    go i false p h b q e = let z : ◌≡◌ {A = ℕ} 0 1 = cc in absurd (omega arith)
    go i true p h true q e = omega (arith, ltb-true k 65536 p, eqb-true vr k q)
    go i true p h false q e = i h e

pub vr-small : (vr : ℕ) → (form_of vr ≡ 0 → ⊥) → vr < 65536
unfolding form_of
vr-small vr n = go (listed long_vrs vr) refl (listed short_vrs vr) refl
  where
    go : (a : Bool) → listed long_vrs vr ≡ a → (b : Bool) → listed short_vrs vr ≡ b → vr < 65536
    go true p b q = listed_small long_vrs vr refl p
    go false p true q = listed_small short_vrs vr refl q
    go false p false q = absurd (n (rw (p, q)))

-- ---- Headers

cons-bytes : (x : ℕ) (xs : List ℕ) → x < 256 → IsBytes xs → IsBytes (x ∷ xs)
cons-bytes x xs h b zero = h
cons-bytes x xs h b (suc i) = b i

tag-bytes : (tag : ℕ) → IsBytes (tag_bytes tag)
unfolding tag_bytes
tag-bytes tag = append-bytes (le 2 (tag / 65536)) (le 2 (tag % 65536)) (le_bytes 2 (tag / 65536)) (le_bytes 2 (tag % 65536))

element-bytes : (tag vr size : ℕ) → (form_of vr ≡ 0 → ⊥) → IsBytes (element_header tag vr size)
unfolding element_header
element-bytes tag vr size n =
    let rest : List ℕ = cond (eqb (form_of vr) 2) (0 ∷ 0 ∷ le 4 size) (le 2 size) in
    append-bytes (tag_bytes tag) (vr / 256 ∷ vr % 256 ∷ rest) (tag-bytes tag)
    (cons-bytes (vr / 256) (vr % 256 ∷ rest) (omega (arith, vr-small vr n))
    (cons-bytes (vr % 256) rest (omega arith) (go (eqb (form_of vr) 2))))
  where
    go : (b : Bool) → IsBytes (cond b (0 ∷ 0 ∷ le 4 size) (le 2 size))
    go true = cons-bytes 0 (0 ∷ le 4 size) (omega arith) (cons-bytes 0 (le 4 size) (omega arith) (le_bytes 4 size))
    go false = le_bytes 2 size

item-bytes : (tag size : ℕ) → IsBytes (item_header tag size)
unfolding item_header
item-bytes tag size = append-bytes (tag_bytes tag) (le 4 size) (tag-bytes tag) (le_bytes 4 size)

closing-bytes : (extent : Extent) (delimiter : ℕ) → IsBytes (closing extent delimiter)
unfolding closing
closing-bytes defined delimiter = none-bytes
closing-bytes undefined delimiter = item-bytes delimiter 0

-- ---- Forests

spell-bytes : {kind : Kind} (depth least : ℕ) (f : Forest kind) → Valid depth least f → IsBytes (spell f)
unfolding Valid spell
spell-bytes depth least none v = none-bytes
spell-bytes depth least (element tag vr value rest) (g, (w, r)) =
    append-bytes (element_header tag vr (length value)) (value ++ spell rest) (element-bytes tag vr (length value) w.known)
    (append-bytes value (spell rest) w.bytes (spell-bytes depth (tag + 1) rest r))
spell-bytes depth least (sequence tag extent inside rest) (g, (d, (i, r))) =
    append-bytes (element_header tag SQ (length_in extent (length (spell inside))))
    (spell inside ++ (closing extent sequence_delimiter ++ spell rest))
    (element-bytes tag SQ (length_in extent (length (spell inside))) sq-known)
    (append-bytes (spell inside) (closing extent sequence_delimiter ++ spell rest) (spell-bytes (depth + 1) 0 inside i)
    (append-bytes (closing extent sequence_delimiter) (spell rest) (closing-bytes extent sequence_delimiter)
    (spell-bytes depth (tag + 1) rest r)))
spell-bytes depth least (item extent inside rest) (i, r) =
    append-bytes (item_header item_tag (length_in extent (length (spell inside))))
    (spell inside ++ (closing extent item_delimiter ++ spell rest))
    (item-bytes item_tag (length_in extent (length (spell inside))))
    (append-bytes (spell inside) (closing extent item_delimiter ++ spell rest) (spell-bytes depth 0 inside i)
    (append-bytes (closing extent item_delimiter) (spell rest) (closing-bytes extent item_delimiter) (spell-bytes depth 0 rest r)))

pub bytes : Bytes
bytes t h = spell-bytes 0 0 t h.valid
