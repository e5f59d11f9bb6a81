use Rattle.{std.proofs.Common.{◌≡◌, take}, vb_device.specs.Discards.flagged}
use Rattle.vb_device.proofs.flags.set_all.Given as goal

abbrev pub invariant-loop-k : goal.invariant-loop-k
invariant-loop-k l = l.ballooned ≡ flagged (take l.k l.request.pages) l.member l.initial.ballooned
