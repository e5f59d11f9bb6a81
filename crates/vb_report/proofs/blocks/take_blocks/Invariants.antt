use Rattle.vb_report.proofs.Taking.{IsTaking}
use Rattle.vb_report.proofs.blocks.take_blocks.Given as goal

abbrev pub invariant-loop-count : goal.invariant-loop-count
invariant-loop-count l =
    IsTaking l.initial.pages l.pages l.from l.room l.next l._count l.blocks.items
