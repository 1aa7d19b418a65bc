-- Nodes that are alike and have the same Pixel Data have the same sheets, which are made of pictures alone.
use Rattle.std.specs.Prelude.{Result, Ok, Err}
use mathlib.Core.Path.{◌≡◌, refl}
use Prim.Native.Nat.{ℕ, zero, suc, ◌+◌, ◌-◌}
use mathlib.Core.List.{List}
use Rattle.node.specs.Nodes.{Node}
use Rattle.conformance.specs.declared.NotAccepted.{NotAccepted}
use Rattle.sheet.specs.declared.SheetError.{SheetError}
use Rattle.sheet.specs.Sheet.{levels_of, natives_of, frames_sheet}
use Rattle.sheet.specs.Answer.{accepted_answer, answer_for, sheet_for, with_sheet}
use Rattle.privacy.specs.Alike.{Alike, SamePixels}
use Rattle.privacy.proofs.Shown.{is-frame-same, picture-same}

module _ {ns ms : List Node} (a : Alike ns ms) (b : SamePixels ns ms) where
  levels-same : (f n : ℕ) → levels_of ns f n ≡ levels_of ms f n
  unfolding levels_of
  levels-same f zero = refl
  levels-same f (suc n) = rw (picture-same a b f, levels-same (f + 1) n)

  natives-same : (f n : ℕ) → natives_of ns f n ≡ natives_of ms f n
  unfolding natives_of
  natives-same f zero = refl
  natives-same f (suc n) = rw (picture-same a b f, natives-same (f + 1) n)

  sheet-same : (f l : ℕ) → frames_sheet ns f l ≡ frames_sheet ms f l
  unfolding frames_sheet
  sheet-same f l = rw (levels-same f (l - f + 1), natives-same f (l - f + 1))

  sheet-accepted-same : (f l n : ℕ) → accepted_answer ns f l n ≡ accepted_answer ms f l n
  unfolding accepted_answer
  sheet-accepted-same f l n = rw (is-frame-same a f, is-frame-same a l)

  answer-same : (f l : ℕ) (r : Result ℕ NotAccepted) → answer_for ns f l r ≡ answer_for ms f l r
  answer-same f l (Ok n) = sheet-accepted-same f l n
  answer-same f l (Err e) = refl

  numbers-same : (f l : ℕ) (r : Result ℕ SheetError) → sheet_for ns f l r ≡ sheet_for ms f l r
  numbers-same f l (Ok n) = sheet-same f l
  numbers-same f l (Err e) = refl

  pub sampled-same : (f l : ℕ) (r : Result ℕ NotAccepted) → with_sheet ns f l (answer_for ns f l r) ≡ with_sheet ms f l (answer_for ms f l r)
  sampled-same f l r = rw (answer-same f l r, numbers-same f l (answer_for ms f l r))
