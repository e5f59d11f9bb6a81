use Rattle.std.proofs.Common.{◌≡◌, ◌≤◌, ◌*◌, List, ℕ, take, length, sum_by}
use Rattle.vb_virtio.specs.Limits.{max_request_pages}
use Rattle.vb_driver.proofs.queue.count_named.Given as goal

abbrev pub invariant-loop-request : goal.invariant-loop-request
invariant-loop-request l = (l.count ≡ sum_by (λ (pages : List ℕ). length pages)
    (take l.request-index l.sent)) × (l.count ≤ max_request_pages * l.request-index)
