-- What contracts need beside the definitions of a value's form: bounds of a number that was read, and what the code's loops compute.
use Rattle.std.specs.Prelude.{ℕ, ◌≤◌, ◌<◌, ◌≡◌, List, length, drop, Option, Some, None}
use Rattle.value.specs.declared.Run.{Run}
use Rattle.value.specs.declared.Signed.{Signed}
use Rattle.value.specs.declared.Signed.TheVariants as signed
use Rattle.value.specs.Number.{digits_of}

-- A number that was read is below n.
abbrev pub Below : ℕ → Option ℕ → Type 0
Below n (Some k) = k < n
Below n None = Unit {0}

-- The same without its sign.
abbrev pub SizeBelow : ℕ → Option Signed → Type 0
SizeBelow n (Some (signed.Plus k)) = k < n
SizeBelow n (Some (signed.Minus k)) = k < n
SizeBelow n None = Unit {0}

-- What the code read of the digits at the start of the bytes s: their number and how many there are; the rest follows.
pub record DigitsRead (limit start : ℕ) (s : List ℕ) (r : Run) : Type 0 where
  pub number : r.number ≡ (digits_of limit start 0 s).number
  pub count : r.count ≡ (digits_of limit start 0 s).count
  pub rest : (digits_of limit start 0 s).rest ≡ drop r.count s
  pub within : r.count ≤ length s
  pub few : r.count ≤ limit
