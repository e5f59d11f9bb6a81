use Rattle.std.{proofs.Common.{◌≡◌, ◌-◌, ◌≤◌}, specs.List.range_with_len}
use Rattle.vb_model.specs.Pages.{placed}
use Rattle.vb_driver.proofs.places.PlaceTable.set_range.Given as goal

abbrev pub invariant-loop-page : goal.invariant-loop-page
invariant-loop-page l = (l.start ≤ l.page) × (l.page ≤ l.end)
    × (l.self ≡ placed (range_with_len l.start (l.page - l.start)) l.place l.initial.self)

abbrev pub decreases-loop-page : goal.decreases-loop-page
decreases-loop-page l = l.end - l.page
