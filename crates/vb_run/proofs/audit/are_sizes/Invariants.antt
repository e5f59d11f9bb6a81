use Rattle.std.proofs.Common.{◌≡◌, take, map, length}
use Rattle.vb_run.proofs.audit.are_sizes.Given as goal

abbrev pub invariant-loop-place : goal.invariant-loop-place
invariant-loop-place l = (map (λ n. n.pages) (take l.place l.needs) ≡ map
    (λ g. g.config.pages) (take l.place l.guests)) × (length l.needs ≡ length l.guests)
