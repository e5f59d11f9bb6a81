use Rattle.vb_frames.proofs.Least.{table_gives}
use Rattle.vb_frames.proofs.table.a_table_gives_the_least.Goals as goal

pub returns : goal.returns
returns c = λ out claims h. table_gives claims out h
