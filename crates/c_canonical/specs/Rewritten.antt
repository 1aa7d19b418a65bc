-- What a host is handed of writing: code, offset, row count, and the length of the canonical form.
use Rattle.canonical.specs.Answer as canonical
use Rattle.c_canonical.specs.declared.Rewritten.{Rewritten}

abbrev pub rewritten_of : canonical.Rewritten → Rewritten
rewritten_of a = record { code = a.answer.code; offset = a.answer.offset; rows = a.answer.rows; length = a.size }
