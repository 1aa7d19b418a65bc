-- Values of text (document 01, "The rule list"): a backslash separates values; then each CS, IS and DS value loses outer spaces, and UI
-- trailing zero bytes.
use Rattle.std.specs.Prelude.{ℕ, Bool, cond, List, [], ◌∷◌, length, get_or, eqb}
use Prim.Native.Char.{code}
use Prim.Native.String.{String, [] as empty, ◌∷◌ as ◌then◌}

-- A word as its bytes.
abbrev pub ascii : String → List ℕ
ascii empty = []
ascii (c then s) = code c ∷ ascii s

-- ---- Characters

abbrev pub space : ℕ
space = 0x20

abbrev pub backslash : ℕ
backslash = 0x5C

-- ---- Splitting

abbrev pub on_first : ℕ → List (List ℕ) → List (List ℕ)
on_first c [] = (c ∷ []) ∷ []
on_first c (v ∷ vs) = (c ∷ v) ∷ vs

-- The values, split at each backslash: one more than there are backslashes.
unfoldable pub values_of : List ℕ → List (List ℕ)
values_of [] = [] ∷ []
values_of (c ∷ s) = cond (eqb c backslash) ([] ∷ values_of s) (on_first c (values_of s))

-- Value k, counted from 0; empty if there are fewer.
abbrev pub value_of : List ℕ → ℕ → List ℕ
value_of v k = get_or (values_of v) k []

abbrev pub is_single : List ℕ → Bool
is_single v = eqb (length (values_of v)) 1

-- ---- Trimming

-- Without the bytes b at the start.
unfoldable pub trim_start : ℕ → List ℕ → List ℕ
trim_start b [] = []
trim_start b (c ∷ s) = cond (eqb c b) (trim_start b s) (c ∷ s)

abbrev pub before : ℕ → ℕ → List ℕ → List ℕ
before b c [] = cond (eqb c b) [] (c ∷ [])
before b c (x ∷ s) = c ∷ x ∷ s

-- Without the bytes b at the end.
unfoldable pub trim_end : ℕ → List ℕ → List ℕ
trim_end b [] = []
trim_end b (c ∷ s) = before b c (trim_end b s)

-- Without outer spaces (CS, IS, DS).
abbrev pub trimmed : List ℕ → List ℕ
trimmed v = trim_start space (trim_end space v)
