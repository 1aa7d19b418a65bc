-- Sample cells: their window, whether 255 - y is shown, x, and the shade.
use Rattle.std.specs.Prelude.{Some}
use Prim.Native.Nat.{ℕ, ◌*◌}
use mathlib.Core.Path.{◌≡◌, refl}
use mathlib.Core.Bool.{Bool, true, false}
use mathlib.Core.List.{List, [], ◌∷◌, map}
use lib.IntN.{pos}
use Rattle.value.specs.declared.Signed.TheVariants as signed
use Rattle.value.specs.declared.Function.TheVariants.{Linear, Exact}
use Rattle.value.specs.Number.{unit}
use Rattle.window.specs.declared.Window.{Window}
use Rattle.window.specs.Window.{full_window, level_of, level_half, shade_of, shaded}

pub record Cell : Type 0 where
  pub window : Window
  pub inverse : Bool
  pub x : ℕ
  pub shade : ℕ

-- Width 1 and centre 50; width 10 and centre 40.
narrow : Window
narrow = record { center = Some (signed.Plus (50 * unit)); width = Some (signed.Plus (1 * unit)); function = Some Linear }

wide : Window
wide = record { center = Some (signed.Plus (40 * unit)); width = Some (signed.Plus (10 * unit)); function = Some Linear }

abbrev cell : Window → Bool → ℕ → ℕ → Cell
cell w i x s = record { window = w; inverse = i; x = x; shade = s }

-- Width 10 and centre 40, exact: 35 gives 0, 36 gives floor((255 · 2 + 10) / 20) = 26, 40 gives 128, 45 gives 255.
exact : Window
exact = record { center = Some (signed.Plus (40 * unit)); width = Some (signed.Plus (10 * unit)); function = Some Exact }

pub samples : List Cell
samples =
    cell narrow false 49 0
    ∷ cell narrow false 50 255
    ∷ cell wide false 35 0
    ∷ cell wide false 36 28
    ∷ cell wide false 40 142
    ∷ cell wide false 44 255
    ∷ cell wide false 45 255
    ∷ cell wide true 40 113
    ∷ cell exact false 35 0
    ∷ cell exact false 36 26
    ∷ cell exact false 40 128
    ∷ cell exact false 44 230
    ∷ cell exact false 45 255
    ∷ cell (full_window 8) false 0 0
    ∷ cell (full_window 8) false 128 128
    ∷ cell (full_window 8) false 255 255
    ∷ []

pub sample-shades : map (λ (c : Cell). shaded c.inverse (level_of c.window (pos c.x))) samples
    ≡ map (λ (c : Cell). Some c.shade) samples
unfolding samples narrow wide exact full_window level_of shade_of
sample-shades = refl

-- 0 bits stored: a native x is 0 and a masked one 1/2, in the full window and in one of centre 0 and width 10.
pub middle : Window
middle = record { center = Some (signed.Plus 0); width = Some (signed.Plus (10 * unit)); function = Some Linear }

pub no_bits : map (λ (w : Window). level_of w (pos 0)) (full_window 0 ∷ middle ∷ []) ≡ (Some (pos 0) ∷ Some (pos 142) ∷ [])
unfolding middle full_window level_of
no_bits = refl

pub no-bits-masked : map (λ (w : Window). level_half w (pos 0)) (full_window 0 ∷ middle ∷ []) ≡ (Some (pos 255) ∷ Some (pos 156) ∷ [])
unfolding middle full_window level_half
no-bits-masked = refl
