-- What a host is handed of comparing: the fields of the answer, then yes or no, the first cell that is off, and how many are.
use Rattle.compare.specs.Answer as comparing
use Rattle.c_answers.specs.declared.Answer.{Answer}
use Rattle.c_answers.specs.Host.{hosted}
use Rattle.c_compare.specs.declared.Compared.{Compared}

abbrev pub compared_of : comparing.Compared → Compared
compared_of a = record { answer = hosted a.answer; same = a.same; first = a.first; count = a.count }

-- An answer that names no cell.
abbrev pub no_cell : Answer → Compared
no_cell a = record { answer = a; same = 0; first = 0; count = 0 }
