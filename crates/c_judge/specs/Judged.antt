-- What a host is handed of judging, of a data set and of a file: the fields of the answer, and the sum of its searches.
use Rattle.searches.specs.Reported.{Reported}
use Rattle.c_answers.specs.declared.Answer.{Answer}
use Rattle.c_answers.specs.Host.{hosted, with_searches}

abbrev pub reported : Reported → Answer
reported a = with_searches a.searches (hosted a.answer)
