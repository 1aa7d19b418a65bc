-- Numbers in values: US and SS in binary, IS and DS in text. A read that finds no number gives `None`.
use Rattle.std.specs.Prelude.{ℕ, zero, suc, ◌+◌, ◌-◌, ◌*◌, ◌/◌, ◌%◌, ◌^◌, Bool, true, false, cond, ◌&&◌, ◌||◌, List, [], ◌∷◌, length, eqb, leb, ltb, Option, Some, None}
use Rattle.basics.specs.Bytes.{le16}
use Rattle.value.specs.declared.Signed.{Signed}
use Rattle.value.specs.declared.Signed.TheVariants as signed
use Rattle.value.specs.declared.Function.{Function}
use Rattle.value.specs.declared.Function.TheVariants as function
use Rattle.value.specs.Text.{values_of, value_of, is_single, trimmed}

-- A number, or 0 where there is none.
abbrev pub number_or0 : Option ℕ → ℕ
number_or0 (Some n) = n
number_or0 None = 0

-- ---- US and SS

-- A single US.
unfoldable pub us_of : List ℕ → Option ℕ
us_of v = cond (eqb (length v) 2) (Some (le16 v 0)) None

-- The values of a US, two bytes each.
unfoldable pub us_values : List ℕ → List ℕ
us_values [] = []
us_values (a ∷ []) = []
us_values (a ∷ b ∷ s) = (a + 256 * b) ∷ us_values s

-- A single SS: two's complement of 16 bits.
unfoldable pub ss_of : List ℕ → Option Signed
ss_of v =
    cond (eqb (length v) 2)
    (cond (ltb (le16 v 0) 32768) (Some (signed.Plus (le16 v 0))) (Some (signed.Minus (65536 - le16 v 0))))
    None

-- No SS has this size: -32,768 is the farthest from 0.
abbrev pub ss_limit : ℕ
ss_limit = 32769

-- ---- Characters of a number

abbrev pub plus : ℕ
plus = 0x2B

abbrev pub minus : ℕ
minus = 0x2D

abbrev pub point : ℕ
point = 0x2E

abbrev pub digit0 : ℕ
digit0 = 0x30

abbrev pub digit9 : ℕ
digit9 = 0x39

abbrev pub capital_e : ℕ
capital_e = 0x45

abbrev pub small_e : ℕ
small_e = 0x65

-- ---- Digits

abbrev pub is_digit : ℕ → Bool
is_digit c = leb digit0 c && leb c digit9

-- Digits that were read: their number, how many there are, and what follows them.
pub record Digits : Type 0 where
  pub number : ℕ
  pub count : ℕ
  pub rest : List ℕ

-- Up to `limit` digits at the start, after digits that made n.
unfoldable pub digits_of : ℕ → ℕ → ℕ → List ℕ → Digits
digits_of zero n k s = record { number = n; count = k; rest = s }
digits_of (suc limit) n k [] = record { number = n; count = k; rest = [] }
digits_of (suc limit) n k (c ∷ s) =
    cond (is_digit c) (digits_of limit (10 * n + (c - digit0)) (k + 1) s) (record { number = n; count = k; rest = c ∷ s })

-- ---- A sign in front

-- What follows the sign, and whether it is a minus.
abbrev pub after_sign : List ℕ → List ℕ
after_sign [] = []
after_sign (c ∷ s) = cond (eqb c plus || eqb c minus) s (c ∷ s)

abbrev pub is_minus : List ℕ → Bool
is_minus [] = false
is_minus (c ∷ s) = eqb c minus

abbrev pub with_sign : Bool → Option ℕ → Option Signed
with_sign minus (Some n) = cond minus (Some (signed.Minus n)) (Some (signed.Plus n))
with_sign minus None = None

-- An optional sign, then what `size` reads.
unfoldable pub signed_by : (List ℕ → Option ℕ) → List ℕ → Option Signed
signed_by size s = with_sign (is_minus s) (size (after_sign s))

-- ---- IS

-- Digits and nothing after them, at least one.
abbrev pub whole_on : Digits → List ℕ → Option ℕ
whole_on d [] = cond (eqb d.count 0) None (Some d.number)
whole_on d (c ∷ s) = None

abbrev pub whole_by : Digits → Option ℕ
whole_by d = whole_on d d.rest

-- 1 to `limit` digits and nothing after them.
unfoldable pub whole_of : ℕ → List ℕ → Option ℕ
whole_of limit s = whole_by (digits_of limit 0 0 s)

-- An IS has at most 11 digits, so its number is below 10^11.
abbrev pub integer_digits : ℕ
integer_digits = 11

abbrev pub integer_limit : ℕ
integer_limit = 10 ^ integer_digits

-- A single IS: rule 15's form, 1 to 11 digits.
unfoldable pub integer_of : List ℕ → Option Signed
integer_of v = cond (is_single v) (signed_by (whole_of integer_digits) (trimmed (value_of v 0))) None

-- ---- DS

-- The unit of a DS number: it is read in millionths, that is with 6 decimals.
abbrev pub decimals : ℕ
decimals = 6

abbrev pub unit : ℕ
unit = 10 ^ decimals

-- A DS number is below one million in size: here in units.
abbrev pub size_limit : ℕ
size_limit = 1000000 * unit

-- A DS value has at most 16 characters.
abbrev pub characters : ℕ
characters = 16

-- All digits at the start, after digits that made n.
abbrev pub run_of : ℕ → List ℕ → Digits
run_of n s = digits_of (length s) n 0 s

-- A number of units, if a DS number may have that size.
abbrev pub if_small : ℕ → Option ℕ
if_small n = cond (ltb n size_limit) (Some n) None

-- n / p, if that is a whole number.
abbrev pub wholly : ℕ → ℕ → Option ℕ
wholly n p = cond (eqb (n % p) 0) (if_small (n / p)) None

-- The exact number m · 10^up / 10^down, if that is a whole number of units and within a DS number's size.
unfoldable pub exact_of : ℕ → ℕ → ℕ → Option ℕ
exact_of m up down = wholly (m * 10 ^ up) (10 ^ down)

-- In units: the number m / 10^after · 10^exponent.
abbrev pub scaled_by : ℕ → ℕ → Option Signed → Option ℕ
scaled_by m after (Some (signed.Plus e)) = exact_of m (decimals + e) after
scaled_by m after (Some (signed.Minus e)) = exact_of m decimals (after + e)
scaled_by m after None = None

-- E or e.
abbrev pub is_mark : ℕ → Bool
is_mark c = eqb c capital_e || eqb c small_e

-- What follows E or e: a sign or none, then a digit or more. (16 digits: no value has more characters.)
unfoldable pub exponent_of : List ℕ → Option Signed
exponent_of s = signed_by (whole_of characters) s

-- What follows `count` digits that made m, `after` of them after the point: nothing, or an exponent.
unfoldable pub end_of : ℕ → ℕ → ℕ → List ℕ → Option ℕ
end_of count m after [] = cond (eqb count 0) None (scaled_by m after (Some (signed.Plus 0)))
end_of count m after (c ∷ s) = cond (eqb count 0) None (cond (is_mark c) (scaled_by m after (exponent_of s)) None)

-- Digits after a point, with `before` digits before it.
abbrev pub point_by : ℕ → Digits → Option ℕ
point_by before d = end_of (before + d.count) d.number d.count d.rest

abbrev pub fraction_on : Digits → List ℕ → Option ℕ
fraction_on d [] = end_of d.count d.number 0 []
fraction_on d (c ∷ s) = cond (eqb c point) (point_by d.count (run_of d.number s)) (end_of d.count d.number 0 (c ∷ s))

abbrev pub fraction_by : Digits → Option ℕ
fraction_by d = fraction_on d d.rest

-- Digits, then optionally a point and digits, at least one digit in all, then optionally an exponent.
unfoldable pub size_of : List ℕ → Option ℕ
size_of s = fraction_by (run_of 0 s)

-- One value of a DS, without outer spaces: at most 16 characters, an optional sign and a size.
unfoldable pub decimal_of : List ℕ → Option Signed
decimal_of v = cond (leb (length (trimmed v)) characters) (signed_by size_of (trimmed v)) None

abbrev pub is_number : Option Signed → Bool
is_number (Some (signed.Plus n)) = true
is_number (Some (signed.Minus n)) = true
is_number None = false

-- The least width of a function: 1 for LINEAR; for LINEAR_EXACT a width need only be above 0.
abbrev pub least_width : Option Function → ℕ
least_width (Some function.Linear) = unit
least_width (Some function.Exact) = 1
least_width None = unit

-- A width: at least the given number of units.
abbrev pub is_width : ℕ → Option Signed → Bool
is_width least (Some (signed.Plus n)) = leb least n
is_width least (Some (signed.Minus n)) = false
is_width least None = false

-- Every value passes the test.
unfoldable pub all : (List ℕ → Bool) → List (List ℕ) → Bool
all p [] = true
all p (v ∷ vs) = p v && all p vs

-- Every value of a DS has the form; every one is a width.
unfoldable pub all_decimals : List ℕ → Bool
all_decimals v = all (λ d. is_number (decimal_of d)) (values_of v)

unfoldable pub all_widths : ℕ → List ℕ → Bool
all_widths least v = all (λ d. is_width least (decimal_of d)) (values_of v)
