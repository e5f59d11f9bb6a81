use Rattle.{std.proofs.Common.{◌≡◌, ◌<◌, ◌≤◌, ℕ}, vb_model.specs.Pages.place_of}
use Rattle.vb_driver.proofs.places.ranges.end_of_run.Given as goal

abbrev pub invariant-loop-page : goal.invariant-loop-page
invariant-loop-page l =
    (page : ℕ) → l.start ≤ page → page < l.page → place_of l.places page ≡ l.place
