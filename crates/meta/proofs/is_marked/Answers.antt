-- A shorter file has no mark; in any other the four bytes are compared.
use mathlib.Core.Path.{sym, ◌∙◌}
use borrow.Author.Tests.{lt-leb}
use lib.ListN.{length}
use Rattle.meta.specs.Meta.{start, is_marked}
use Rattle.meta.proofs.Tests as tests
use Rattle.meta.proofs.is_marked.Goals as goal

pub returns-then-file-ge-START : goal.returns-then-file-ge-START
unfolding is_marked
returns-then-file-ge-START c = rw (c.eq.ensures, c.as_slice.ensures) (tests.pointwise-same _ _)

pub returns-else-file-ge-START : goal.returns-else-file-ge-START
returns-else-file-ge-START c =
    lt-leb start (length c.args.file.now) c.if-file-ge-START.false ∙ sym (tests.unmarked c.args.file.now c.if-file-ge-START.false)
