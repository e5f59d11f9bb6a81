use Rattle.{std.{proofs.Common.{◌≡◌, ◌-◌}, specs.List.range_with_len}, vb_model.specs.Pages.placed}
use Rattle.vb_driver.proofs.places.ranges.put_all.Given as goal

abbrev pub invariant-loop-page : goal.invariant-loop-page
invariant-loop-page l =
    l.places ≡ placed (range_with_len l.start (l.page - l.start)) l.place l.initial.places
