-- The row of Pixel Data is no sequence and no item, so its node's value is the part of the data set that the row names; and the view of a
-- frame is a part of that part.
use mathlib.Core.Path.{◌≡◌, refl, ap, ◌∙◌, subst}
use mathlib.Core.Bool.{Bool, true, false}
use mathlib.Core.List.{List}
use mathlib.Core.Logic.{◌⊎◌, inl, inr}
use Prim.Native.Nat.{ℕ, ◌<◌}
use native.Mathlib.Omega.{arith}
use lib.ListN.{length, get_or-eq_default}
use lib.Dec.{ltb}
use borrow.Author.Tests.{ltb-true, ltb-false}
use Rattle.basics.specs.Vr.{OB, OW}
use Rattle.dataset.specs.Answer.{flat}
use Rattle.dataset.specs.Tree.{rows_of}
use Rattle.node.specs.Nodes.{Node, nodes_of, node_at, no_node}
use Rattle.node.proofs.Laws.{table}
use Rattle.frame.specs.View.{InDataSet}
use Rattle.frame.proofs.Lent.{in-data-set}
use Rattle.steps.proofs.Given.{same_some}
use Rattle.display.specs.Internal.{IsPixels}
use Rattle.display.specs.FrameBytes.{FrameBytes}
use Rattle.display.proofs.Scenes.{pixels-of, pixel-bytes}

-- A row with such a VR is one of the rows.
pixels-below : (ns : List Node) (p : ℕ) → ((node_at ns p).vr ≡ OW) ⊎ ((node_at ns p).vr ≡ OB) → p < length ns
pixels-below ns p vr = go (ltb p (length ns)) refl
  where
    beyond : ltb p (length ns) ≡ false → (node_at ns p).vr ≡ 0
    beyond h = ap (λ (n : Node). n.vr) (get_or-eq_default ns no_node (ltb-false p (length ns) h))

    none-such : ((node_at ns p).vr ≡ OW) ⊎ ((node_at ns p).vr ≡ OB) → (node_at ns p).vr ≡ 0 → ⊥
    none-such (inl e) z = omega (arith, e, z)
    none-such (inr e) z = omega (arith, e, z)

    go : (t : Bool) → ltb p (length ns) ≡ t → p < length ns
    go true h = ltb-true p (length ns) h
    go false h = absurd (none-such vr (beyond h))

pub frame-bytes : FrameBytes
frame-bytes bytes p g l lent pixels f v hand =
    let s = bytes.now in
    let found = pixels-of (nodes_of s) p l lent.row lent.pixels in
    let row : IsPixels (nodes_of s) p = record { below = pixels-below (nodes_of s) p found.vr; is = found.vr } in
    let same : pixels.now ≡ l = hand.value.bytes ∙ pixel-bytes s (flat (rows_of s)) (table s (flat (rows_of s)) refl) p row
    ∙ same_some found.is lent.pixels in
    record {
      pixels-are = same;
      frame = subst (λ (x : List ℕ). InDataSet bytes p g x f v) same (in-data-set bytes pixels p g f v hand.value hand.frame);
    }
