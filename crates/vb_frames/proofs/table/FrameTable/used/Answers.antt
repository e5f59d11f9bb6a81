use Rattle.std.{proofs.Common.{List, Bool, ap, arith}, specs.Prelude.count_by}
use Rattle.vb_frames.proofs.Free.{count_out}
use Rattle.vb_frames.proofs.table.FrameTable.used.Goals as goal

pub returns : goal.returns
returns c = omega (
  arith,
  count_out c.self.inside.free,
  ap (λ (out : List Bool). count_by (λ b. b) out) c.self.view_is,
  c.bound.ensures,
  c.len.ensures,
)
