use Rattle.std.proofs.Common.{◌∙◌, sym}
use Rattle.vb_ram.{proofs.Outcome.at_ok, proofs.FieldLaws.field_2}
use Rattle.vb_ram.proofs.fields.read_u16.Goals as goal

pub returns : goal.returns
returns g c = c.from_le_bytes.ensures ∙ sym (field_2 _ _ _ c.read.new.out
    (at_ok c.read.result _ c.read.ensures.bytes (c.read.ensures.answers c.requires)))
