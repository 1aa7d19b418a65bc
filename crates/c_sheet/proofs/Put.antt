-- What is put into a buffer that holds a sheet is the sheet, since a list is its own places, one after the other; a smaller buffer keeps
-- what it has.
use mathlib.Core.Path.{◌≡◌, sym, ap, ◌∙◌}
use mathlib.Core.List.{List, [], ◌∷◌, ◌++◌}
use Prim.Native.Nat.{ℕ, ◌≤◌, ◌<◌}
use native.Mathlib.Omega.{arith}
use lib.ListN.{length, length-append, get_or, drop}
use lib.Seq.{ext_get_or}
use borrow.Author.Tests.{le-leb, lt-leb}
use Rattle.pixel.specs.Internal.{painted}
use Rattle.basics.specs.Lists.{up_to}
use Rattle.lines.proofs.Lists.{up_to-length, up_to-at, painted-list}
use Rattle.sheet.specs.declared.Numbers.{Numbers}
use Rattle.sheet.specs.Sheet.{sheet_size, numbers_in}
use Rattle.c_sheet.specs.Sheet.{sheet_after}

own-places : (l : List ℕ) → up_to (λ k. get_or l k 0) (length l) ≡ l
own-places l = ext_get_or 0 (up_to (λ k. get_or l k 0) (length l)) l (up_to-length _ _)
    (λ k h. up_to-at (λ j. get_or l j 0) (length l) k (omega (arith, h, up_to-length (λ j. get_or l j 0) (length l))))

module _ (t : Numbers) (buffer : List ℕ) where
  pub sheet-put : length t.counts ≡ 256 → sheet_size ≤ length buffer → painted (λ k. get_or (numbers_in t) k 0) sheet_size buffer
      ≡ sheet_after t buffer
  sheet-put e h =
      let n : length (numbers_in t)
      ≡ sheet_size = length-append t.counts (t.natives ∷ t.lowest ∷ t.highest ∷ t.sum ∷ []) ∙ omega (arith, e) in
      rw (le-leb sheet_size (length buffer) h)
      (painted-list (λ k. get_or (numbers_in t) k 0) sheet_size buffer h
      ∙ ap (λ (l : List ℕ). l ++ drop sheet_size buffer) (ap (up_to (λ k. get_or (numbers_in t) k 0)) (sym n) ∙ own-places (numbers_in t)))

  pub sheet-kept : length buffer < sheet_size → buffer ≡ sheet_after t buffer
  sheet-kept h = rw (lt-leb sheet_size (length buffer) h)
