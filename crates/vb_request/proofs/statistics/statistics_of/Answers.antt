use Rattle.std.{proofs.Common.{◌∙◌, ◌<◌, ◌/◌, ap, arith, length}, proofs.lemmas.List.take_all}
use Rattle.vb_request.specs.Statistics.{statistics_of, last_of}
use Rattle.vb_request.proofs.LastStatistics.{last_more, statistics_of-length}
use Rattle.vb_request.proofs.statistics.statistics_of.Goals as goal

pub loop-k-preserved : goal.loop-k-preserved
loop-k-preserved c =
    let lt : c.loop-k.k < length c.args.bytes.now / 10 = omega (arith, c.loop-k-test.true) in
    record {
      free = last_more 4 c.tag_at.result c.value_at.result c.loop-k.k c.args.bytes.now
          c.loop-k.said.free c.note.new.self.free lt c.tag_at.ensures c.value_at.ensures
          c.loop-k.invariant.free c.note.ensures.free;
      total = last_more 5 c.tag_at.result c.value_at.result c.loop-k.k c.args.bytes.now
          c.loop-k.said.total c.note.new.self.total lt c.tag_at.ensures c.value_at.ensures
          c.loop-k.invariant.total c.note.ensures.total;
    }

pub returns-clause-free : goal.returns-clause-free
returns-clause-free c =
    c.loop-k.invariant.free ∙ ap (last_of 4) (take_all c.loop-k.k (statistics_of c.args.bytes.now)
    (omega (arith, statistics_of-length c.args.bytes.now, c.loop-k-test.false)))

pub returns-clause-total : goal.returns-clause-total
returns-clause-total c =
    c.loop-k.invariant.total ∙ ap (last_of 5) (take_all c.loop-k.k (statistics_of c.args.bytes.now)
    (omega (arith, statistics_of-length c.args.bytes.now, c.loop-k-test.false)))
