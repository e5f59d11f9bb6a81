use Rattle.std.{proofs.Common.{None, arith}, proofs.lemmas.List.take-replicate}
use Rattle.vb_ring.proofs.KeptLaws.{fresh_kept}
use Rattle.vb_ring.proofs.owners.Owners.new.Goals as goal

pub invariant_of-result : goal.invariant_of-result
invariant_of-result c =
    fresh_kept _ c.args.count _ (omega arith) (take-replicate c.args.count 256 None (omega arith))

pub returns : goal.returns
returns c = take-replicate c.args.count 256 None (omega arith)
