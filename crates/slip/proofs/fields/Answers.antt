-- `fields` answers `recorded`: each field is the number read at its place.
use mathlib.Core.Path.{sym, ◌∙◌}
use Rattle.slip.specs.Slip.{code_place, rule_place, frame_place, offset_place}
use Rattle.basics.proofs.Bytes.{byte-is, le16-is, le32-is}
use Rattle.slip.proofs.fields.Goals as goal

pub returns : goal.returns
returns c =
    let s = c.args.s.now in
    simp (
      c.into.ensures ∙ sym (byte-is s code_place),
      c.into-2.ensures ∙ sym (byte-is s rule_place),
      c.u16_at.ensures.0 ∙ le16-is s frame_place,
      c.u32_at.ensures.0 ∙ le32-is s offset_place,
    )
