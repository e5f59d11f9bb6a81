use Rattle.std.proofs.Common.{◌≡◌, length, take}
use Rattle.vb_run.proofs.script.are_same.Given as goal

abbrev pub invariant-loop-place : goal.invariant-loop-place
invariant-loop-place l =
    (take l.place l.calls ≡ take l.place l.others) × (length l.calls ≡ length l.others)
