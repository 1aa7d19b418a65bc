-- Parts of bytes are bytes, bytes joined are bytes, and those of a number are; and a number of one, two or four bytes is the same by
-- either definition, since both add up the same digits to the base 256.
use mathlib.Core.Path.{◌≡◌, ap}
use mathlib.Core.List.{List, [], ◌∷◌, ◌++◌}
use Prim.Native.Nat.{ℕ, zero, suc, ◌+◌, ◌/◌}
use native.Mathlib.Omega.{arith}
use lib.ListN.{get_or, take, drop}
use lib.Seq.{get_or-drop}
use Rattle.basics.specs.Bytes.{IsBytes, le16, le32, le_number, le}

pub none-bytes : IsBytes []
none-bytes i = omega arith

pub take-bytes : (n : ℕ) (s : List ℕ) → IsBytes s → IsBytes (take n s)
take-bytes zero s b i = omega arith
take-bytes (suc n) [] b i = omega arith
take-bytes (suc n) (x ∷ s) b zero = b 0
take-bytes (suc n) (x ∷ s) b (suc i) = take-bytes n s (λ j. b (suc j)) i

pub drop-bytes : (n : ℕ) (s : List ℕ) → IsBytes s → IsBytes (drop n s)
drop-bytes n s b i = rw (get_or-drop n s i 0) (b (n + i))

pub append-bytes : (xs ys : List ℕ) → IsBytes xs → IsBytes ys → IsBytes (xs ++ ys)
append-bytes [] ys a b i = b i
append-bytes (x ∷ xs) ys a b zero = a 0
append-bytes (x ∷ xs) ys a b (suc i) = append-bytes xs ys (λ j. a (suc j)) b i

pub le_bytes : (n x : ℕ) → IsBytes (le n x)
unfolding le
le_bytes zero x i = omega arith
le_bytes (suc n) x zero = omega arith
le_bytes (suc n) x (suc i) = le_bytes n (x / 256) i

-- ---- Numbers of one, two and four bytes

pub byte-is : (s : List ℕ) (p : ℕ) → le_number 1 s p ≡ get_or s p 0
unfolding le_number
byte-is s p = omega arith

pub le16-is : (s : List ℕ) (p : ℕ) → le16 s p ≡ le_number 2 s p
unfolding le_number le16
le16-is s p = omega arith

pub le32-is : (s : List ℕ) (p : ℕ) → le32 s p ≡ le_number 4 s p
unfolding le_number le16
le32-is s p =
    let e : get_or s (p + 1 + 1) 0 ≡ get_or s (p + 2) 0 = ap (λ (k : ℕ). get_or s k 0) (omega arith) in
    let f : get_or s (p + 1 + 1 + 1) 0 ≡ get_or s (p + 2 + 1) 0 = ap (λ (k : ℕ). get_or s k 0) (omega arith) in
    omega arith
