-- What is printed, in bytes.
use Rattle.std.specs.Prelude.{ℕ, List, [], ◌∷◌, ◌++◌, codes}
use Rattle.std.specs.Fmt.{decimal}

-- A name, a space and a number.
abbrev pub field : List ℕ → ℕ → List ℕ
field name n = name ++ (32 ∷ decimal n)

-- The end of a line.
abbrev pub line_end : List ℕ
line_end = 10 ∷ []

abbrev pub code_line : ℕ → List ℕ
code_line code = field (codes "code") code ++ line_end

abbrev pub broken_line : ℕ → ℕ → ℕ → List ℕ
broken_line rows rule frame = field (codes "code 9 rule") rule ++ (field (codes " frame") frame ++ (field (codes " rows") rows ++ line_end))

abbrev pub unread_line : ℕ → ℕ → List ℕ
unread_line code offset = field (codes "code") code ++ (field (codes " place") offset ++ line_end)
