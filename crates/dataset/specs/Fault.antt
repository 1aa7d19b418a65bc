-- The paper's number of each fault of a header (document 01, "Codes").
use Rattle.std.specs.Prelude.{ℕ}
use Rattle.dataset.specs.declared.Fault.{Fault}
use Rattle.dataset.specs.declared.Fault.TheVariants.{CutShort, NotAscending, UnlistedVr, OddLength, NotDue, TooDeep}
use Rattle.dataset.specs.declared.Refusal.{Refusal}

abbrev pub code_of : Fault → ℕ
code_of CutShort = 1
code_of NotAscending = 2
code_of UnlistedVr = 3
code_of OddLength = 4
code_of NotDue = 5
code_of TooDeep = 6

abbrev pub refusal : Fault → ℕ → Refusal
refusal fault offset = record { fault = fault; offset = offset }
