-- Bytes, and numbers in a data set's bytes by their offset. Byte forms follow PS3.5. A byte past the end counts as 0; no definition that
-- uses this reads one.
use Rattle.std.specs.Prelude.{ℕ, zero, suc, ◌+◌, ◌*◌, ◌/◌, ◌%◌, ◌<◌, Bool, true, false, ◌&&◌, List, [], ◌∷◌, get_or, eqb}

-- Every element is a byte.
abbrev pub IsBytes : List ℕ → Type 0
IsBytes s = (i : ℕ) → get_or s i 0 < 256

-- The same bytes, and as many.
unfoldable pub same_bytes : List ℕ → List ℕ → Bool
same_bytes [] [] = true
same_bytes [] (y ∷ ys) = false
same_bytes (x ∷ xs) [] = false
same_bytes (x ∷ xs) (y ∷ ys) = eqb x y && same_bytes xs ys

-- A little-endian number of 16 bits.
unfoldable pub le16 : List ℕ → ℕ → ℕ
le16 s p = get_or s p 0 + 256 * get_or s (p + 1) 0

-- A little-endian number of 32 bits.
abbrev pub le32 : List ℕ → ℕ → ℕ
le32 s p = le16 s p + 65536 * le16 s (p + 2)

-- A little-endian number of n bytes.
unfoldable pub le_number : ℕ → List ℕ → ℕ → ℕ
le_number zero s p = 0
le_number (suc n) s p = get_or s p 0 + 256 * le_number n s (p + 1)

-- A tag as one number: group × 65,536 + element, 16 bits each.
abbrev pub tag_at : List ℕ → ℕ → ℕ
tag_at s p = 65536 * le16 s p + le16 s (p + 2)

-- A VR as one number: first letter × 256 + second.
abbrev pub vr_at : List ℕ → ℕ → ℕ
vr_at s p = 256 * get_or s p 0 + get_or s (p + 1) 0

-- The lowest n bytes of a number, little-endian.
unfoldable pub le : ℕ → ℕ → List ℕ
le zero x = []
le (suc n) x = x % 256 ∷ le n (x / 256)
