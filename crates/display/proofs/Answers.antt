-- Which answer an accepted object gets: codes 10 and 11 where their tests say so, and else the picture.
use Rattle.std.specs.Prelude.{Some, None, Ok, Err}
use mathlib.Core.Path.{◌≡◌, refl}
use mathlib.Core.Bool.{false, ◌&&◌, and-false}
use mathlib.Core.List.{List}
use Prim.Native.Nat.{ℕ, zero, suc, ◌*◌, ◌≤◌, ◌<◌}
use native.Mathlib.Nat.{mul-le-mul}
use native.Mathlib.Omega.{arith}
use lib.ListN.{length}
use lib.Dec.{leb}
use borrow.Author.Tests.{le-leb, lt-leb}
use Rattle.node.specs.Nodes.{Node}
use Rattle.element.specs.Frames.{frames_of}
use Rattle.display.specs.declared.ShowError.TheVariants as error
use Rattle.display.specs.Show.{image_size, picture_of, accepted_answer}

-- A number that is no frame does not pass the test of code 10.
pub none-frame : (f : ℕ) → leb 1 f && leb f 0 ≡ false
none-frame zero = refl
none-frame (suc f) = rw (lt-leb (suc f) 0 (omega arith), and-false)

pub high-frame : (f n : ℕ) → n < f → leb 1 f && leb f n ≡ false
high-frame f n h = rw (lt-leb f n h, and-false)

pub low-frame : (f n : ℕ) → f < 1 → leb 1 f && leb f n ≡ false
low-frame f n h = rw (lt-leb 1 f h)

module _ (ns : List Node) (f : ℕ) (image : List ℕ) (count : ℕ) where
  pub no_frames : frames_of ns ≡ None → Err error.NoFrame ≡ accepted_answer ns f image count
  unfolding accepted_answer
  no_frames e = rw (e, none-frame f)

  module _ (n : ℕ) (e : frames_of ns ≡ Some n) where
    pub below-frames : f < 1 → Err error.NoFrame ≡ accepted_answer ns f image count
    unfolding accepted_answer
    below-frames h = rw (e, low-frame f n h)

    pub above-frames : n < f → Err error.NoFrame ≡ accepted_answer ns f image count
    unfolding accepted_answer
    above-frames h = rw (e, high-frame f n h)

    module _ (low : 1 ≤ f) (high : f ≤ n) where
      pub no_room : length image < image_size ns → Err error.NoImageRoom ≡ accepted_answer ns f image count
      unfolding accepted_answer
      no_room h = rw (e, le-leb 1 f low, le-leb f n high, lt-leb (image_size ns) (length image) h)

      pub is-drawn : image_size ns ≤ length image → Ok (record { rows = count; masked = (picture_of ns f).masked }) ≡ accepted_answer ns f image count
      unfolding accepted_answer
      is-drawn h = rw (e, le-leb 1 f low, le-leb f n high, le-leb (image_size ns) (length image) h)

-- ---- The product of two US fits

pub product-fits : (a b : ℕ) → a < 65536 → b < 65536 → a * b < 18446744073709551616
product-fits a b h k =
    let c : a * b ≤ 4294836225 = mul-le-mul {n₁ = a} {m₁ = b} {n₂ = 65535} {m₂ = 65535} (omega arith) (omega arith) in
    omega arith
