-- A driver's counts of places are the guest's.
use Rattle.{std.specs.Prelude.{◌≡◌, ℕ, List, Bool, count_by}, vb_guest.proofs.Standing.by_guest}
use Rattle.{std.proofs.Common.{◌∙◌, ap, subst}, vb_model.specs.declared.places.Place.Place}
use Rattle.vb_model.specs.declared.places.Place.TheVariants.{Free, Used, Giving, Lent, Taking}
use Rattle.vb_model.specs.declared.places.{Place.TheVariants.Stranded, PlaceCounts.PlaceCounts}
use Rattle.vb_model.specs.{declared.replies.Reply.TheVariants.Places, Guest.Guest}
use Rattle.{vb_model.specs.Queries.{place_counts, is_place}, vb_ram.specs.{Pages.Pages, Part.Part}}
use Rattle.{vb_driver.specs.{State.DriverState, Calls.AreCountsOf}, vb_guest.specs.Stands.Stands}

-- how many pages are at the place
abbrev count_at : Place → Guest → ℕ
count_at place g = count_by (is_place place) g.places

counts_are : {counts : PlaceCounts} (g : Guest)
    → AreCountsOf counts g.places → counts ≡ place_counts g
counts_are {counts} g are =
    let whole : ℕ → ℕ → ℕ → ℕ → ℕ → ℕ → ℕ → PlaceCounts = λ a b c d e f h.
    record { free = a; used = b; giving = c; lent = d; taking = e; stranded = f; reporting = h } in
    ap (λ x. whole x counts.used counts.giving counts.lent counts.taking counts.stranded
    counts.reporting) are.free ∙ ap (λ x. whole (count_at Free g) x counts.giving counts.lent
    counts.taking counts.stranded counts.reporting) are.used ∙ ap (λ x. whole (count_at Free g)
    (count_at Used g) x counts.lent counts.taking counts.stranded counts.reporting) are.giving
    ∙ ap (λ x. whole (count_at Free g) (count_at Used g) (count_at Giving g) x counts.taking
    counts.stranded counts.reporting) are.lent ∙ ap (λ x. whole (count_at Free g) (count_at Used g)
    (count_at Giving g) (count_at Lent g) x counts.stranded counts.reporting) are.taking ∙ ap
    (λ x. whole (count_at Free g) (count_at Used g) (count_at Giving g) (count_at Lent g) (count_at
    Taking g) x counts.reporting) are.stranded ∙ ap (λ x. whole (count_at Free g) (count_at Used g)
    (count_at Giving g) (count_at Lent g) (count_at Taking g) (count_at Stranded g) x) are.reporting

pub places_answered : {keeps : Bool}
    {m : Pages} {p : Part} {d : DriverState} {g : Guest} {counts : PlaceCounts}
    → AreCountsOf counts d.places → Stands keeps m p d g → Places counts ≡ Places (place_counts g)
places_answered {d} {g} {counts} are stands =
    let A : List Place → Type 0 = λ places. AreCountsOf counts places in
    let same : d.places ≡ g.places = by_guest stands
    (λ honest. honest.ties.parts.driver.places) (λ rogue. rogue.places) in
    ap Places (counts_are g (subst A same are))
