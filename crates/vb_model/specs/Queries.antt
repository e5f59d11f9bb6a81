-- What a question is answered: the state's values (profile).
-- The headline of a host needs all of it.
use Rattle.std.specs.Prelude.{◌≡◌, ℕ, suc, ◌==◌}
use Rattle.std.specs.Prelude.{List, [], ◌∷◌, if◌then◌else◌}
use Rattle.std.specs.Prelude.{◌⊎◌, count_by}
use Rattle.vb_model.specs.declared.places.Place.TheVariants.{Free, Used, Giving, Lent}
use Rattle.vb_model.specs.declared.places.Place.TheVariants.{Taking, Stranded, Reporting}
use Rattle.vb_model.specs.declared.calls.Query.{Query}
use Rattle.vb_model.specs.declared.calls.Query.TheVariants.{Places as QueryPlaces, PagesAt}
use Rattle.vb_model.specs.declared.calls.Query.TheVariants.{PagesBallooned, Balloon as QueryBalloon}
use Rattle.vb_model.specs.declared.calls.Query.TheVariants.{Memory as QueryMemory}
use Rattle.vb_model.specs.declared.calls.Query.TheVariants.{Backing as QueryBacking}
use Rattle.vb_virtio.specs.declared.refusals.Refusal.TheVariants.{NoMemory}
use Rattle.vb_virtio.specs.Tests.{pages_where}
use Rattle.vb_model.specs.declared.replies.Reply.{Reply}
use Rattle.vb_model.specs.declared.replies.Reply.TheVariants.{Places, Pages}
use Rattle.vb_model.specs.declared.replies.Reply.TheVariants.{Balloon, Statistics, Backing}
use Rattle.vb_model.specs.declared.replies.Reply.TheVariants.{Refused}
use Rattle.vb_model.specs.declared.places.PageRun.{PageRun}
use Rattle.vb_model.specs.declared.places.PlaceCounts.{PlaceCounts}
pub use Rattle.vb_model.specs.Pages.{is_place}
use Rattle.vb_model.specs.Guest.{Guest, frame_of, ballooned_count}

-- the maximal runs of these rising pages
abbrev pub runs_with : ℕ → List PageRun → List PageRun
runs_with page [] = record { first = page; last = page } ∷ []
runs_with page (r ∷ rs) =
    if suc page == r.first then record { first = page; last = r.last } ∷ rs
    else record { first = page; last = page } ∷ r ∷ rs

abbrev pub runs : List ℕ → List PageRun
runs [] = []
runs (page ∷ pages) = runs_with page (runs pages)

abbrev pub place_counts : Guest → PlaceCounts
place_counts g =
    record {
      free = count_by (is_place Free) g.places;
      used = count_by (is_place Used) g.places;
      giving = count_by (is_place Giving) g.places;
      lent = count_by (is_place Lent) g.places;
      taking = count_by (is_place Taking) g.places;
      stranded = count_by (is_place Stranded) g.places;
      reporting = count_by (is_place Reporting) g.places;
    }

-- the state's values; a list of runs may find no memory
abbrev pub Answers : Query → Guest → Reply → Type 0
Answers QueryPlaces g reply = reply ≡ Places (place_counts g)
Answers (PagesAt place) g reply =
    (reply ≡ Pages (runs (pages_where (is_place place) g.places))) ⊎ (reply ≡ Refused NoMemory)
Answers PagesBallooned g reply =
    (reply ≡ Pages (runs (pages_where (λ b. b) g.ballooned))) ⊎ (reply ≡ Refused NoMemory)
Answers QueryBalloon g reply = reply ≡ Balloon (record
    { ballooned = ballooned_count g; actual = g.actual; target = g.target; status = g.status })
Answers QueryMemory g reply = reply ≡ Statistics g.last
Answers (QueryBacking page) g reply = reply ≡ Backing (frame_of g.frames page)
