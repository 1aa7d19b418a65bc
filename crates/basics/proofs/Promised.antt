-- An answer that is the expected one has its fields.
use mathlib.Core.Path.{◌≡◌, ap}
use Rattle.basics.specs.Fields.{Answers}

pub promised : {A F : Type 0} {fields_of : A → F} {r expected : A} → r ≡ expected → Answers fields_of r expected
promised {fields_of} e = record { same = e; fields = ap fields_of e }
