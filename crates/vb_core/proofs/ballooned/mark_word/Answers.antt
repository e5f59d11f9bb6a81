use Rattle.std.proofs.Common.{◌<◌, ◌^◌, get_or, arith}
use Rattle.vb_core.proofs.MarkLemmas.{put_word}
use Rattle.vb_core.specs.Ballooned.{is_entering}
use Rattle.vb_core.proofs.ballooned.mark_word.Goals as goal

pub returns : goal.returns
returns c = let old : get_or c.args.set.now c.args.place 0 < 2 ^ 64 = omega arith in
    let new : c.with_bits-new.result < 2 ^ 64 = omega arith in
    put_word c.args.set.now c.args.place c.args.bits c.with_bits-new.result
    (is_entering c.args.marking) c.requires old new c.with_bits-new.ensures
