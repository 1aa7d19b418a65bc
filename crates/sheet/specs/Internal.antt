-- What the counting functions require and promise. None of this is in the papers.
use Rattle.std.specs.Prelude.{◌≡◌, Bool, ◌⊎◌, List, [], ◌∷◌, ℕ, ◌+◌, ◌-◌, ◌≤◌, ◌<◌, ◌^◌, length, get_or, set, drop, replicate, Option}
use Rattle.value.specs.Number.{number_or0}
use Rattle.node.specs.Nodes.{Node, nodes_of}
use Rattle.element.specs.declared.Items.{Items}
use Rattle.element.specs.Internal.{Along}
use Rattle.element.specs.Frames.{frame_items, frames_of}
use Rattle.window.specs.Internal.{shade_places}
use Rattle.pixel.specs.Internal.{longest_row}
use Rattle.lines.specs.Internal.{Shaded}
use Rattle.display.specs.declared.Scene.{Scene}
use Rattle.display.specs.Internal.{IsObject, IsScene}
use Rattle.ranges.specs.declared.ToldItem.{ToldItem}
use Rattle.ranges.specs.Internal.{Applied, Known}
use Rattle.sheet.specs.declared.Held.{Held}
use Rattle.sheet.specs.declared.Counted.{Counted}
use Rattle.sheet.specs.declared.Span.{Span}
use Rattle.sheet.specs.declared.Span.TheVariants as span

-- ---- Counts

-- Counts with one place changed for each level of a list.
unfoldable pub tallied : List ℕ → List ℕ → List ℕ
tallied [] counts = counts
tallied (y ∷ ys) counts = tallied ys (set counts y (get_or counts y 0 + 1))

-- No count passes 64 bits within n more cells.
pub record Room (counts : List ℕ) (n : ℕ) : Type 0 where
  pub below : (y : ℕ) → get_or counts y 0 + n < 2 ^ 64

-- No sum of 256 of them, times their places, passes 64 bits.
pub record Few (counts : List ℕ) : Type 0 where
  pub size : length counts ≡ 256
  pub below : (y : ℕ) → get_or counts y 0 ≤ 281474976710656

-- The first and the last place with a count above 0, or the end of the search.
pub record First (counts : List ℕ) (r : ℕ) : Type 0 where
  pub most : r ≤ 255
  pub none_below : (y : ℕ) → y < r → get_or counts y 0 ≡ 0
  pub found : (1 ≤ get_or counts r 0) ⊎ (r ≡ 255)

pub record Last (counts : List ℕ) (r : ℕ) : Type 0 where
  pub most : r ≤ 255
  pub none_above : (y : ℕ) → r < y → y < 256 → get_or counts y 0 ≡ 0
  pub found : (1 ≤ get_or counts r 0) ⊎ (r ≡ 0)

-- ---- What is worked out ahead

-- What is worked out ahead, for all frames at once.
pub record IsAhead (ns : List Node) (n : ℕ) (which : List ℕ) (known : List (Option ToldItem)) : Type 0 where
  pub applied : Applied ns n which
  pub size : n < length which
  pub is-known : Known ns known

-- Frames a to b of an accepted object of n frames, with the items from frame a's on.
pub record RangeReady (s : List ℕ) (n : ℕ) (c : Scene) (start : Items) (a b : ℕ) : Type 0 where
  pub object : IsObject s n
  pub scene : IsScene (nodes_of s) c
  pub items : Along (nodes_of s) (drop (a - 1) (frame_items (nodes_of s))) start
  pub low : 1 ≤ a
  pub order : a ≤ b
  pub high : b ≤ n

-- ---- Buffers

-- The lengths of all buffers.
pub record LineRooms (table upper lower line : List ℕ) : Type 0 where
  pub shades : length table ≡ shade_places
  pub above : longest_row ≤ length upper
  pub below : longest_row ≤ length lower
  pub wide : 65535 ≤ length line

-- The shades that are kept, with a table that is filled if they say so.
pub record IsHeld (stored : ℕ) (inverse : Bool) (h : Held) (table : List ℕ) : Type 0 where
  pub shaded : Shaded h.shades stored table
  pub inverse-is : h.shades.inverse ≡ inverse
  pub spent-few : h.spent < shade_places

-- Nothing counted yet.
pub record IsNothing (stored : ℕ) (inverse : Bool) (c : Counted) : Type 0 where
  pub counts-are : c.counts ≡ replicate 256 0
  pub natives-are : c.natives ≡ 0
  pub held-is : (table : List ℕ) → IsHeld stored inverse c.held table

-- ---- Spans

-- The first and the last frame of a span, in the object of the nodes.
abbrev pub first_in : Span → ℕ
first_in span.All = 1
first_in (span.From a b) = a

abbrev pub last_in : List Node → Span → ℕ
last_in ns span.All = number_or0 (frames_of ns)
last_in ns (span.From a b) = b
