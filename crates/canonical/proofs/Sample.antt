-- A sequence and an item of undefined length with an element in it, then an empty sequence of undefined length: 68 bytes become 42.
use mathlib.Core.Path.{◌≡◌, refl}
use Prim.Native.Nat.{ℕ}
use mathlib.Core.List.{List, [], ◌∷◌}
use Rattle.basics.specs.Bytes.{le16, le}
use Rattle.basics.specs.Vr.{listed, form_of}
use Rattle.dataset.specs.Header.{when, header_by, delimiter_by, nested_by, defined_by, long_by, typed_at, tagged_at, sized_by, member_at}
use Rattle.dataset.specs.Reading.{level, value_run, reading_of}
use Rattle.dataset.specs.Tree.{rows_of}
use Rattle.node.specs.Nodes.{nodes_of}
use Rattle.canonical.specs.Written.{letters, length_of, header, head_size, own_size, written_size, node_bytes, written_of}

unfoldable pub mixed : List ℕ
mixed =
    0x28 ∷ 0x00 ∷ 0x00 ∷ 0x61 ∷ 0x53 ∷ 0x51 ∷ 0 ∷ 0 ∷ 0xFF ∷ 0xFF ∷ 0xFF ∷ 0xFF ∷ 0xFE ∷ 0xFF ∷ 0x00 ∷ 0xE0 ∷ 0xFF ∷ 0xFF ∷ 0xFF ∷ 0xFF
    ∷ 0x28 ∷ 0x00 ∷ 0x10 ∷ 0x00 ∷ 0x55 ∷ 0x53 ∷ 0x02 ∷ 0x00 ∷ 0x02 ∷ 0x00 ∷ 0xFE ∷ 0xFF ∷ 0x0D ∷ 0xE0 ∷ 0 ∷ 0 ∷ 0 ∷ 0 ∷ 0xFE ∷ 0xFF ∷ 0xDD
    ∷ 0xE0 ∷ 0 ∷ 0 ∷ 0 ∷ 0
    ∷ 0x00 ∷ 0x52 ∷ 0x29 ∷ 0x92 ∷ 0x53 ∷ 0x51 ∷ 0 ∷ 0 ∷ 0xFF ∷ 0xFF ∷ 0xFF ∷ 0xFF ∷ 0xFE ∷ 0xFF ∷ 0xDD ∷ 0xE0 ∷ 0 ∷ 0 ∷ 0 ∷ 0 ∷ []

pub sample : written_of (nodes_of mixed) ≡
    0x28 ∷ 0x00 ∷ 0x00 ∷ 0x61 ∷ 0x53 ∷ 0x51 ∷ 0 ∷ 0 ∷ 18 ∷ 0 ∷ 0 ∷ 0 ∷ 0xFE ∷ 0xFF ∷ 0x00 ∷ 0xE0 ∷ 10 ∷ 0 ∷ 0 ∷ 0
    ∷ 0x28 ∷ 0x00 ∷ 0x10 ∷ 0x00 ∷ 0x55 ∷ 0x53 ∷ 0x02 ∷ 0x00 ∷ 0x02 ∷ 0x00
    ∷ 0x00 ∷ 0x52 ∷ 0x29 ∷ 0x92 ∷ 0x53 ∷ 0x51 ∷ 0 ∷ 0 ∷ 0 ∷ 0 ∷ 0 ∷ 0 ∷ []
unfolding le16 listed form_of when header_by delimiter_by nested_by defined_by long_by typed_at tagged_at sized_by member_at level value_run reading_of
    rows_of nodes_of le letters length_of header head_size own_size written_size node_bytes written_of mixed
sample = refl
