-- Lines drawn one after another, each into its own part of the image, make the whole picture.
use mathlib.Core.Path.{◌≡◌, sym, ap, ◌∙◌, subst}
use mathlib.Core.List.{List, ◌++◌, append_assoc, append-nil}
use Prim.Native.Nat.{ℕ, ◌+◌, ◌-◌, ◌*◌, ◌≤◌}
use native.Mathlib.Omega.{arith}
use lib.ListN.{length, take, drop, length-drop, drop_of_length-le}
use lib.Seq.{take-length, drop-append_seam, drop-drop}
use Rattle.pixel.specs.Internal.{painted}
use Rattle.basics.specs.Lists.{up_to}
use Rattle.lines.proofs.Lists.{up_to-length, up_to-plus, painted-list, painted-take}

-- A picture painted up to a place, and the line that begins there.
module _ (h : ℕ → ℕ) (at n : ℕ) (image : List ℕ) (room : at + n ≤ length image) where
  behind : drop at (painted h at image) ≡ drop at image
  behind =
      ap (drop at) (painted-list h at image (omega arith))
      ∙ subst (λ (k : ℕ). drop k (up_to h at ++ drop at image) ≡ drop at image) (up_to-length h at)
      (drop-append_seam (up_to h at) (drop at image))

  joined : up_to h at ++ painted (λ c. h (at + c)) n (drop at image) ≡ painted h (at + n) image
  joined =
      ap (λ (l : List ℕ). up_to h at ++ l) (painted-list (λ c. h (at + c)) n (drop at image) (rw (length-drop at image) (omega arith))
      ∙ ap (λ (l : List ℕ). up_to (λ c. h (at + c)) n ++ l) (drop-drop n at image))
      ∙ (sym (append_assoc (up_to h at) (up_to (λ c. h (at + c)) n) (drop (at + n) image))
      ∙ (ap (λ (l : List ℕ). l ++ drop (at + n) image) (sym (up_to-plus h at n)) ∙ sym (painted-list h (at + n) image room)))

  -- What is lent of it is all from there on.
  lent : (now : List ℕ) → now ≡ painted h at image → take (length now - at) (drop at now) ≡ drop at image
  lent now e =
      ap (λ (k : ℕ). take k (drop at now)) (sym (length-drop at now)) ∙ (take-length (drop at now) ∙ (ap (drop at) e ∙ behind))

  pub line-painted : (now part : List ℕ) → now ≡ painted h at image
      → part ≡ painted (λ c. h (at + c)) n (take (length now - at) (drop at now))
      → take at now ++ (part ++ drop (length now - at) (drop at now)) ≡ painted h (at + n) image
  line-painted now part e p =
      ap (λ (l : List ℕ). take at now ++ (part ++ l))
      (drop_of_length-le (drop at now) {i = length now - at} (rw (length-drop at now) (omega arith)))
      ∙ (ap (λ (l : List ℕ). take at now ++ l) (append-nil part ∙ (p ∙ ap (painted (λ c. h (at + c)) n) (lent now e)))
      ∙ (ap (λ (l : List ℕ). l ++ painted (λ c. h (at + c)) n (drop at image)) (ap (take at) e ∙ painted-take h at image (omega arith))
      ∙ joined))

-- Row r of a picture.
pub next-line : (h : ℕ → ℕ) (r columns : ℕ) (image now part : List ℕ) → r * columns + columns ≤ length image
    → now ≡ painted h (r * columns) image
    → part ≡ painted (λ c. h (r * columns + c)) columns (take (length now - r * columns) (drop (r * columns) now))
    → take (r * columns) now ++ (part ++ drop (length now - r * columns) (drop (r * columns) now)) ≡ painted h ((r + 1) * columns) image
next-line h r columns image now part room e p =
    let m : r * columns + columns ≡ (r + 1) * columns = omega arith in
    line-painted h (r * columns) columns image room now part e p ∙ ap (λ (k : ℕ). painted h k image) m
