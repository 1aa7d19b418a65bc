-- Rule 38: the pixel data.
use Rattle.std.specs.Prelude.{ℕ, ◌+◌, ◌*◌, ◌/◌, ◌%◌, List, Bool, ◌&&◌, ◌||◌, length, eqb}
use Rattle.node.specs.Nodes.{Node, node_at, root}
use Rattle.node.specs.Find.{holds, find}
use Rattle.basics.specs.Tags
use Rattle.basics.specs.Vr.{OW, OB}
use Rattle.element.specs.Elements.{value_at, us_in}
use Rattle.element.specs.Frames.{frames_of}

-- Plus 1 if odd.
abbrev pub padded : ℕ → ℕ
padded n = n + n % 2

-- OW, or OB at 8 bits.
unfoldable pub is_pixel_vr : ℕ → ℕ → Bool
is_pixel_vr vr allocated = eqb vr OW || (eqb vr OB && eqb allocated 8)

-- Rule 38. Pixel Data (7FE0,0010) OW, or OB at 8 bits, length N × Rows × Columns × bytes per cell, plus 1 if odd.
unfoldable pub is_pixel_data : List Node → ℕ → ℕ → ℕ → ℕ → ℕ → Bool
is_pixel_data ns n rows columns allocated p =
    is_pixel_vr (node_at ns p).vr allocated && eqb (length (value_at ns p)) (padded (n * rows * columns * (allocated / 8)))

unfoldable pub rule38 : List Node → Bool
rule38 ns =
    holds (frames_of ns) (λ n.
    holds (us_in ns Tags.Rows (root ns)) (λ r.
    holds (us_in ns Tags.Columns (root ns)) (λ c.
    holds (us_in ns Tags.BitsAllocated (root ns)) (λ a.
    holds (find ns Tags.PixelData (root ns)) (is_pixel_data ns n r c a)))))
