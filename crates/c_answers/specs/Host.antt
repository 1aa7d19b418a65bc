-- What a host is handed for an answer: its fields in 32 bits each, which every `fields_of` gives in the papers' numbers, and of judging the
-- sum of its searches in 64.
use Rattle.std.specs.Prelude.{ℕ}
use Rattle.basics.specs.Fields.{Fields}
use Rattle.c_answers.specs.declared.Answer.{Answer}

-- The version of the calls for hosts: one more each time that a host which was made for the last one has to be made anew.
abbrev pub host_version : ℕ
host_version = 1

-- The fields of an answer as the struct of every call. Fields that a code does not name are 0.
abbrev pub hosted : Fields → Answer
hosted a = record {
  code = a.code;
  offset = a.offset;
  rows = a.rows;
  rule = a.rule;
  frame = a.frame;
  masked = a.masked;
  searches = 0;
}

-- The same with the sum of its searches, which judging names, of a data set and of a file. No other call names it.
abbrev pub with_searches : ℕ → Answer → Answer
with_searches searches a = record {
  code = a.code;
  offset = a.offset;
  rows = a.rows;
  rule = a.rule;
  frame = a.frame;
  masked = a.masked;
  searches = searches;
}
