use Rattle.{std.proofs.Common.{◌≡◌, take}, vb_model.specs.Pages.placed}
use Rattle.vb_driver.proofs.places.PlaceTable.set_all.Given as goal

abbrev pub invariant-loop-page : goal.invariant-loop-page
invariant-loop-page l = l.self ≡ placed (take l.page-index l.pages) l.place l.initial.self
