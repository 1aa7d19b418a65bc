-- `read_version` answers `read_version`: at each return the tests on the version say which of its cases holds.
use mathlib.Core.Path.{sym, ◌∙◌}
use borrow.Author.Tests.{eq-eqb, ne_eqb}
use Rattle.slip.specs.Slip.{version_place, read_version}
use Rattle.basics.proofs.Bytes.{le16-is}
use Rattle.slip.proofs.read_version.Goals as goal

pub returns-then-version-eq-OLD_VERSION : goal.returns-then-version-eq-OLD_VERSION
unfolding read_version
returns-then-version-eq-OLD_VERSION c =
    let v = sym (le16-is c.args.slip.now version_place) ∙ sym c.u16_at-version.ensures.0 in
    simp (eq-eqb _ _ (v ∙ c.if-version-eq-OLD_VERSION.true)) c.read_old.ensures

pub returns-then-version-eq-VERSION : goal.returns-then-version-eq-VERSION
unfolding read_version
returns-then-version-eq-VERSION c =
    let v = c.u16_at-version.ensures.0 ∙ le16-is c.args.slip.now version_place in
    simp (ne_eqb _ _ (λ e. c.if-version-eq-OLD_VERSION.false (v ∙ e)), eq-eqb _ _ (sym v ∙ c.if-version-eq-VERSION.true)) c.read_new.ensures

pub returns-else-version-eq-VERSION : goal.returns-else-version-eq-VERSION
unfolding read_version
returns-else-version-eq-VERSION c =
    let v = c.u16_at-version.ensures.0 ∙ le16-is c.args.slip.now version_place in
    simp (ne_eqb _ _ (λ e. c.if-version-eq-OLD_VERSION.false (v ∙ e)), ne_eqb _ _ (λ e. c.if-version-eq-VERSION.false (v ∙ e)))
