use Rattle.std.{proofs.Common.{arith, slice_index}, proofs.lemmas.Bool.cases_eq}
use Rattle.vb_ram.proofs.FieldLaws.{field_in, same_below, but_trans, but_wider}
use Rattle.vb_driver.proofs.memory.write_numbers.Goals as goal

pub loop-k-preserved : goal.loop-k-preserved
loop-k-preserved g c =
    grind (arith, cases_eq, slice_index, field_in, same_below, but_trans, but_wider)
