use Rattle.std.proofs.Common.{drop}
use Rattle.vb_report.proofs.Giving.{IsGiving}
use Rattle.vb_report.proofs.blocks.give_all.Given as goal

abbrev pub invariant-loop-block : goal.invariant-loop-block
invariant-loop-block l = IsGiving l.initial.pages l.pages l.blocks (drop l.block-index l.blocks)
