-- The fields of an answer (document 01, "What is handed back"): the numbers that the paper gives for each code, whatever the call. Each
-- answer enum has one definition `fields_of`, from its cases to these numbers, and a public call promises its answer by `Answers` with
-- that definition.
use Rattle.std.specs.Prelude.{◌≡◌, ℕ}

-- Code, offset (the paper's place), row count, rule and frame; masked is 1, native 0.
pub record Fields : Type 0 where
  pub code : ℕ
  pub offset : ℕ
  pub rows : ℕ
  pub rule : ℕ
  pub frame : ℕ
  pub masked : ℕ

-- ---- What a code names. "Fields not named are 0."

-- The code alone.
abbrev pub code_alone : ℕ → Fields
code_alone code = record { code = code; offset = 0; rows = 0; rule = 0; frame = 0; masked = 0 }

-- A code and an offset.
abbrev pub placed : ℕ → ℕ → Fields
placed code offset = record { code = code; offset = offset; rows = 0; rule = 0; frame = 0; masked = 0 }

-- Done, with a row count.
abbrev pub counted : ℕ → Fields
counted rows = record { code = 0; offset = 0; rows = rows; rule = 0; frame = 0; masked = 0 }

-- Done, with a row count and whether the picture is masked.
abbrev pub drawn : ℕ → ℕ → Fields
drawn rows masked = record { code = 0; offset = 0; rows = rows; rule = 0; frame = 0; masked = masked }

-- A rule broken, with a row count, the rule and the frame.
abbrev pub broken : ℕ → ℕ → ℕ → Fields
broken rows rule frame = record { code = 9; offset = 0; rows = rows; rule = rule; frame = frame; masked = 0 }

-- ---- What a call promises

-- The answer r is the one that a definition gives, and its fields are that answer's, in the paper's numbers.
pub record Answers {A F : Type 0} (fields_of : A → F) (r expected : A) : Type 0 where
  pub same : r ≡ expected
  pub fields : fields_of r ≡ fields_of expected
