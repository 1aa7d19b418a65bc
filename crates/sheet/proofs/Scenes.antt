-- An accepted object leaves room in the counts for each of its frames, and lacks
-- no mask item.
use mathlib.Core.Path.{sym, subst}
use mathlib.Core.List.{List}
use Prim.Native.Nat.{ℕ, ◌≤◌}
use Rattle.node.specs.Nodes.{nodes_of}
use Rattle.pixel.specs.Pixel.{samples_of}
use Rattle.display.specs.Show.{image_size}
use Rattle.display.specs.Internal.{IsObject, IsScene}
use Rattle.display.proofs.Answering.{applying-some}
use Rattle.ranges.specs.Internal.{Answering}
use Rattle.sheet.specs.Internal.{Room}
use Rattle.display.specs.declared.Scene.{Scene}
use Rattle.display.proofs.Scenes.{objects, based}

pub room_for : (s : List ℕ) (n f : ℕ) (h : IsObject s n) (low : 1 ≤ f) (high : f ≤ n) (c : Scene) (q : IsScene (nodes_of s) c)
    (counts : List ℕ) → Room counts (image_size (nodes_of s)) → Room counts (samples_of c.g)
room_for s n f h low high c q counts r = subst (Room counts) (sym (based s n f h low high c q).size) r

-- Step 2 lacks nothing at any of its frames.
pub answering : (s : List ℕ) (n : ℕ) → IsObject s n → Answering (nodes_of s) n
answering s n h = record { each = λ f low high e. applying-some (nodes_of s) f n e (objects s n f h low high).mask }
