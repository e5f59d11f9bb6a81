use Rattle.std.{proofs.Common.{◌≡◌, ◌≤◌, take}, specs.Prelude.vec_capacity}
use Rattle.vb_run.proofs.room.claims_in.Given as goal

abbrev pub invariant-loop-claim : goal.invariant-loop-claim
invariant-loop-claim g l =
    (l.taken.items ≡ take l.claim-index l.claims) × (17 ≤ vec_capacity l.taken)
