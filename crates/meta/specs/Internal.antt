-- What the functions of this crate promise each other. None of this is in the papers.
use Rattle.std.specs.Prelude.{ℕ, ◌≤◌, Option, Some, None, Result, Ok, Err}
use Rattle.dataset.specs.Reading.{Run, done, refused, unfinished}
use Rattle.meta.specs.declared.Place.{Place}
use Rattle.meta.specs.declared.HeadFindings.{HeadFindings}
use Rattle.meta.specs.declared.FileHead.{FileHead}
use Rattle.meta.specs.declared.HeadError.{HeadError}
use Rattle.meta.specs.Meta.{none_found, found_in}

-- A UID's value lies within the first `size` bytes.
abbrev pub UidWithin : ℕ → Option Place → Type 0
UidWithin size None = Unit {0}
UidWithin size (Some p) = (p.start ≤ p.stop) × (p.stop ≤ size)

pub record PlacesWithin (size : ℕ) (f : HeadFindings) : Type 0 where
  pub class-in : UidWithin size f.class
  pub syntax-in : UidWithin size f.syntax

abbrev pub FoundWithin : ℕ → Option HeadFindings → Type 0
FoundWithin size None = Unit {0}
FoundWithin size (Some f) = PlacesWithin size f

-- The result of a walk along the head's elements. None is unfinished, so that any value serves for that.
abbrev pub walk_of : Run → Option HeadFindings
walk_of (done stop next rows) = found_in none_found rows
walk_of (refused code offset) = None
walk_of unfinished = None

-- The data set starts within the file, and the SOP class lies in it.
abbrev pub MetaWithin : ℕ → Result FileHead HeadError → Type 0
MetaWithin size (Ok h) = (h.data_set ≤ size) × ((h.class.start ≤ h.class.stop) × (h.class.stop ≤ size))
MetaWithin size (Err e) = Unit {0}
