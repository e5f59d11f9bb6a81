use Rattle.std.{proofs.Common.{sym, arith, ◌-◌, length}, proofs.lemmas.List.length-take-le}
use Rattle.vb_core.proofs.saved.has_sum.Goals as goal

pub slice_bounds-checksum-end : goal.slice_bounds-checksum-end
slice_bounds-checksum-end c =
    sym (length-take-le (length c.args.bytes.now - 8) c.args.bytes.now (omega arith))
