-- Two lists of nodes that no rule can tell apart: they may differ in values that no rule reads. None of this is in the papers.
use Rattle.std.specs.Prelude.{◌≡◌, ℕ, true, List, length}
use Rattle.node.specs.Nodes.{Node, node_at}
use Rattle.basics.specs.Tags
use Rattle.privacy.specs.Read.{is_read}

-- Equally many nodes, with the same tags, VRs and nodes below them; the same values at tags that are read, and Pixel Data of the same
-- length.
pub record Alike (ns ms : List Node) : Type 0 where
  pub size : length ns ≡ length ms
  pub tag : (i : ℕ) → (node_at ns i).tag ≡ (node_at ms i).tag
  pub vr : (i : ℕ) → (node_at ns i).vr ≡ (node_at ms i).vr
  pub descendants : (i : ℕ) → (node_at ns i).descendants ≡ (node_at ms i).descendants
  pub value : (i : ℕ) → is_read (node_at ns i).tag ≡ true → (node_at ns i).value ≡ (node_at ms i).value
  pub long : (i : ℕ) → (node_at ns i).tag ≡ Tags.PixelData → length (node_at ns i).value ≡ length (node_at ms i).value

-- The same Pixel Data too, which drawing and the mapping need.
pub record SamePixels (ns ms : List Node) : Type 0 where
  pub pixels : (i : ℕ) → (node_at ns i).tag ≡ Tags.PixelData → (node_at ns i).value ≡ (node_at ms i).value
