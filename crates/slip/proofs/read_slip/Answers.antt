-- `read_slip` answers `read_of`: the first five bytes and the mark decide, then the version.
use mathlib.Core.Path.{sym, ◌∙◌}
use borrow.Author.Tests.{le-leb, lt-leb}
use Rattle.slip.specs.Slip.{read_of}
use Rattle.basics.proofs.Promised.{promised}
use Rattle.slip.proofs.read_slip.Goals.{else-slip-ge-HEAD-via-then-slip-ge-HEAD+else-is_marked, else-slip-ge-HEAD-via-else-slip-ge-HEAD}
use Rattle.slip.proofs.read_slip.Goals as goal

pub returns-then-is_marked : goal.returns-then-is_marked
unfolding read_of
returns-then-is_marked c =
    promised (simp (le-leb _ _ c.if-slip-ge-HEAD.true, sym c.is_marked.ensures ∙ c.if-is_marked.true)
    c.read_version.ensures)

pub returns-else-slip-ge-HEAD : goal.returns-else-slip-ge-HEAD
unfolding read_of
returns-else-slip-ge-HEAD c = promised (elim c.else-slip-ge-HEAD.branch [
  | else-slip-ge-HEAD-via-then-slip-ge-HEAD+else-is_marked w ↦ simp (le-leb _ _ w.if-slip-ge-HEAD.true, sym w.is_marked.ensures ∙ w.if-is_marked.false)
  | else-slip-ge-HEAD-via-else-slip-ge-HEAD w ↦ simp (lt-leb _ _ w.if-slip-ge-HEAD.false)
])
