use Rattle.std.proofs.Common.{◌∙◌, sym}
use Rattle.vb_ram.{proofs.Outcome.at_ok, proofs.FieldLaws.field_4}
use Rattle.vb_ram.proofs.fields.read_u32.Goals as goal

pub returns : goal.returns
returns g c = c.from_le_bytes.ensures ∙ sym (field_4 _ _ _ c.read.new.out
    (at_ok c.read.result _ c.read.ensures.bytes (c.read.ensures.answers c.requires)))
