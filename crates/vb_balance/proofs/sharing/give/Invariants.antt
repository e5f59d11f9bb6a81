use Rattle.vb_balance.specs.Levels.{AreGiven}
use Rattle.vb_balance.proofs.sharing.give.Given as goal

abbrev pub invariant-loop-i : goal.invariant-loop-i
invariant-loop-i l = AreGiven l.needs l.level l.rest l.i l.targets l.left
