-- `write_slip` answers `write_of` and leaves `slip_buffer`: it tests in the order 14, 11, and stores only after all tests.
use mathlib.Core.Path.{refl, sym, ◌∙◌}
use mathlib.Core.Bool.{and-false}
use borrow.Author.Tests.{le-leb, lt-leb}
use Rattle.verdict.specs.Verdict.{writable}
use Rattle.verdict.proofs.Bounds.{possible-rows}
use Rattle.slip.specs.Slip.{write_of, slip_buffer}
use Rattle.basics.proofs.Promised.{promised}
use Rattle.slip.proofs.write_slip.Goals as goal

pub returns-in_default : goal.returns-in_default
unfolding writable write_of slip_buffer
returns-in_default c = simp (c.in_default.is, and-false) (record { answers = promised refl; slip_after = refl })

pub returns-then-not-is_possible : goal.returns-then-not-is_possible
unfolding writable write_of slip_buffer
returns-then-not-is_possible c =
    simp (sym c.is_possible.ensures ∙ c.if-not-is_possible.true) (record { answers = promised refl; slip_after = refl })

pub returns-then-slip-lt-SIZE : goal.returns-then-slip-lt-SIZE
unfolding writable write_of slip_buffer
returns-then-slip-lt-SIZE c =
    simp (sym c.is_possible.ensures ∙ c.if-not-is_possible.false, c.in-Some.is, lt-leb _ _ c.if-slip-lt-SIZE.true)
    (record { answers = promised refl; slip_after = refl })

pub slip_bytes-requires : goal.slip_bytes-requires
slip_bytes-requires c =
    let can = sym c.is_possible.ensures ∙ c.if-not-is_possible.false in
    (can, possible-rows c.args.verdict c.in-Some.n can c.in-Some.is)

pub returns : goal.returns
unfolding writable write_of slip_buffer
returns c =
    simp (sym c.is_possible.ensures ∙ c.if-not-is_possible.false, c.in-Some.is, le-leb _ _ c.if-slip-lt-SIZE.false)
    (record { answers = promised refl; slip_after = rw (c.copy_from_slice.ensures.after, c.slip_bytes.ensures) })
