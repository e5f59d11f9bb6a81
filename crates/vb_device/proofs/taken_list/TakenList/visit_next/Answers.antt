use Rattle.std.proofs.Common.{◌≡◌, ◌∙◌, ◌<◌, ℕ, true, List, Some, None, get_or, take, sym, ap, arith}
use Rattle.std.{proofs.Common.slice_get, proofs.Math.ListN.set, proofs.Math.Seq.take-set-lt}
use Rattle.std.{proofs.lemmas.List.{get_or-take, length-take}, specs.List.position}
use Rattle.vb_virtio.specs.Queues.{Request, is_unvisited}
use Rattle.vb_model.specs.Device.{visiting, next_page}
use Rattle.vb_device.proofs.Visits.{once_more, visits_at, visits_none}
use Rattle.vb_device.proofs.taken_list.TakenList.visit_next.Goals as goal

pub returns-in_err-oldest-clause-page : goal.returns-in_err-oldest-clause-page
returns-in_err-oldest-clause-page c =
    let none : position is_unvisited c.args.self.now ≡ None =
    ap (position is_unvisited) (sym c.as_slice.ensures.requests) ∙ sym c.in_err-oldest.ensures in
    c.from_residual.ensures ∙ sym (visits_none c.args.self.now none).1

pub returns-in_err-oldest-clause-taken : goal.returns-in_err-oldest-clause-taken
returns-in_err-oldest-clause-taken c = grind (arith, visits_none)

-- the oldest request with a page that isn't visited, where the list is the first part of an array
oldest_at : (rs : List Request) (len : ℕ) {oldest : ℕ} (d : Request) {now shown : List Request}
    → take len rs ≡ now → shown ≡ now → Some oldest ≡ position is_unvisited shown
    → (oldest < len) × (is_unvisited (get_or rs oldest d) ≡ true)
    × (set (take len rs) oldest (once_more (get_or rs oldest d)) ≡ visiting now)
    × (slice_get (get_or rs oldest d).pages (get_or rs oldest d).visited ≡ next_page now)
oldest_at rs len {oldest} d view same found = let at = visits_at (take len rs) oldest d
    (ap (position is_unvisited) (view ∙ sym same) ∙ sym found) in
    let lt : oldest < len = omega (arith, at.0, length-take len rs) in
    rw (← view, ← get_or-take len rs oldest d lt) (lt, at.1, sym at.2, sym at.3)

pub visit-requires : goal.visit-requires
visit-requires c = (oldest_at _ _ c.index-self-oldest.result c.self.view_is c.as_slice.ensures.requests
    c.in_ok-oldest.ensures).1

pub returns-clause-page : goal.returns-clause-page
returns-clause-page c = let oldest = oldest_at _ _ c.index-self-oldest.result c.self.view_is
    c.as_slice.ensures.requests c.in_ok-oldest.ensures in sym c.visit.ensures.page ∙ oldest.3

pub returns-clause-taken : goal.returns-clause-taken
returns-clause-taken c = let oldest = oldest_at _ _ c.index-self-oldest.result c.self.view_is
    c.as_slice.ensures.requests c.in_ok-oldest.ensures in
    take-set-lt c.self.inside.len c.self.inside.requests c.in_ok-oldest.oldest c.visit.new.self oldest.0
    ∙ (ap (set _ c.in_ok-oldest.oldest) c.visit.ensures.visited ∙ oldest.2)
