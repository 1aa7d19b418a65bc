-- A DS number as rule 30 read it before: in thousandths, and without an exponent.
use Rattle.std.specs.Prelude.{ℕ, ◌+◌, ◌-◌, ◌*◌, ◌^◌, Bool, cond, List, [], ◌∷◌, eqb, Option, Some, None}
use Rattle.value.specs.declared.Signed.{Signed}
use Rattle.value.specs.declared.Signed.TheVariants as signed
use Rattle.value.specs.declared.Function.{Function}
use Rattle.value.specs.declared.Function.TheVariants as function
use Rattle.value.specs.Text.{values_of, trimmed}
use Rattle.value.specs.Number as current
use Rattle.value.specs.Number.{Digits, point, digits_of, signed_by, is_number, is_width, all}

-- Read in thousandths, that is with 3 decimals.
abbrev pub decimals_before : ℕ
decimals_before = 3

abbrev pub unit_before : ℕ
unit_before = 10 ^ decimals_before

-- Up to 6 digits, then optionally a point and up to 3 digits, at least one digit in all. After the point: `whole` is how many digits are
-- before it, and decimals that were not written are zeros.
abbrev pub point_on_before : ℕ → Digits → List ℕ → Option ℕ
point_on_before whole d [] = cond (eqb (whole + d.count) 0) None (Some (d.number * 10 ^ (decimals_before - d.count)))
point_on_before whole d (c ∷ s) = None

abbrev pub point_by_before : ℕ → Digits → Option ℕ
point_by_before whole d = point_on_before whole d d.rest

abbrev pub fraction_on_before : Digits → List ℕ → Option ℕ
fraction_on_before d [] = cond (eqb d.count 0) None (Some (d.number * unit_before))
fraction_on_before d (c ∷ s) = cond (eqb c point) (point_by_before d.count (digits_of decimals_before d.number 0 s)) None

abbrev pub fraction_by_before : Digits → Option ℕ
fraction_by_before d = fraction_on_before d d.rest

unfoldable pub size_of_before : List ℕ → Option ℕ
size_of_before s = fraction_by_before (digits_of 6 0 0 s)

-- One value of a DS.
unfoldable pub decimal_of_before : List ℕ → Option Signed
decimal_of_before v = signed_by size_of_before (trimmed v)

-- The least width of a function: 1 for LINEAR; for LINEAR_EXACT anything above 0.
abbrev pub least_width_before : Option Function → ℕ
least_width_before (Some function.Linear) = unit_before
least_width_before (Some function.Exact) = 1
least_width_before None = unit_before

-- Every value of a DS has the form; every one is a width.
unfoldable pub all_decimals_before : List ℕ → Bool
all_decimals_before v = all (λ d. is_number (decimal_of_before d)) (values_of v)

unfoldable pub all_widths_before : ℕ → List ℕ → Bool
all_widths_before least v = all (λ d. is_width least (decimal_of_before d)) (values_of v)

-- The units in a thousandth, as DS numbers are read now.
abbrev pub factor : ℕ
factor = 10 ^ (current.decimals - decimals_before)

-- So many thousandths, in those units.
abbrev pub scaled : Option Signed → Option Signed
scaled (Some (signed.Plus n)) = Some (signed.Plus (factor * n))
scaled (Some (signed.Minus n)) = Some (signed.Minus (factor * n))
scaled None = None
