use Rattle.std.proofs.Common.{take}
use Rattle.vb_command.specs.Threads.{AreWithin}
use Rattle.vb_command.proofs.ports.are_within.Given as goal

abbrev pub invariant-loop-report : goal.invariant-loop-report
invariant-loop-report l = AreWithin l.frames (take l.report-index l.reports)
