-- Worked facts of the answers to queries.
use Rattle.std.proofs.Common.{[], false, inl, inr, refl, replicate, true, ℕ, ◌++◌, ◌∷◌, ◌≡◌, ◌⊎◌}
use Rattle.std.specs.Prelude.{None, Option, Some}
use Rattle.vb_model.proofs.Samples.{HappensJustSo}
use Rattle.vb_model.specs.declared.places.Place.TheVariants.{Free, Giving, Lent, Reporting}
use Rattle.vb_model.specs.declared.places.Place.TheVariants.{Reserved, Stranded, Taking, Used}
use Rattle.vb_model.specs.declared.calls.Query.TheVariants.{Backing as QueryBacking}
use Rattle.vb_model.specs.declared.calls.Query.TheVariants.{Balloon as QueryBalloon}
use Rattle.vb_model.specs.declared.calls.Query.TheVariants.{Memory as QueryMemory, PagesAt}
use Rattle.vb_model.specs.declared.calls.Query.TheVariants.{PagesBallooned, Places as QueryPlaces}
use Rattle.vb_model.specs.declared.replies.Reply.TheVariants.{Backing, Balloon, Pages, Places}
use Rattle.vb_model.specs.{Queries.runs, declared.replies.Reply.TheVariants.{Refused, Statistics}}
use Rattle.vb_model.{proofs.Samples.{mixed, ready}, specs.{Guest.Guest, Queries.Answers}}
use Rattle.vb_model.specs.{World.World, declared.calls.Query.Query}
use Rattle.vb_model.specs.declared.{calls.Event.TheVariants.Query as OnQuery, replies.Reply.Reply}
use Rattle.vb_virtio.specs.declared.refusals.Refusal.TheVariants.{NoMemory}
use Rattle.vb_model.specs.declared.places.PageRun.{PageRun}

abbrev run : ℕ → ℕ → PageRun
run first last = record { first = first; last = last }

-- ---- places

-- seven different counts, each in its own field
seven_counts : Answers QueryPlaces mixed (Places
    (record { free = 21; used = 2; giving = 3; lent = 4; taking = 5; stranded = 6; reporting = 7 }))
seven_counts = refl

-- the pages of each place
pages_are : Answers (PagesAt Reserved) mixed (Pages (run 0 15 ∷ []))
    × Answers (PagesAt Free) mixed (Pages (run 16 36 ∷ []))
    × Answers (PagesAt Used) mixed (Pages (run 37 38 ∷ []))
    × Answers (PagesAt Giving) mixed (Pages (run 39 41 ∷ []))
    × Answers (PagesAt Lent) mixed (Pages (run 42 45 ∷ []))
    × Answers (PagesAt Taking) mixed (Pages (run 46 50 ∷ []))
    × Answers (PagesAt Stranded) mixed (Pages (run 51 56 ∷ []))
    × Answers (PagesAt Reporting) mixed (Pages (run 57 63 ∷ []))
    × Answers (PagesAt Lent) ready (Pages [])
pages_are =
    (inl refl, inl refl, inl refl, inl refl, inl refl, inl refl, inl refl, inl refl, inl refl)

-- ---- runs of pages: maximal, rising, a single page by itself

maximal_runs : runs (0 ∷ 2 ∷ 3 ∷ 5 ∷ 6 ∷ 7 ∷ 9 ∷ []) ≡ run 0 0 ∷ run 2 3 ∷ run 5 7 ∷ run 9 9 ∷ []
maximal_runs = refl

-- ---- ballooned pages, wherever the driver has them

abbrev ballooned : Guest
ballooned = record mixed
    { ballooned = replicate 41 false ++ (true ∷ true ∷ false ∷ true ∷ replicate 19 false) }

ballooned_pages_are : Answers PagesBallooned ballooned (Pages (run 41 42 ∷ run 44 44 ∷ []))
ballooned_pages_are = inl refl

-- the ballooned pages are counted, `actual` and the target are as they are
four_numbers : Answers QueryBalloon (record ballooned { actual = 9; target = 11; status = 131 })
    (Balloon (record { ballooned = 3; actual = 9; target = 11; status = 131 }))
four_numbers = refl

-- ---- statistics: what is free, then the total; each may be missing

abbrev last_is : Option ℕ → Option ℕ → Guest
last_is free total = record ready { last = record { free = free; total = total } }

free_then_total : Answers QueryMemory (last_is (Some 196608) (Some 262144))
    (Statistics (record { free = Some 196608; total = Some 262144 }))
    × Answers QueryMemory (last_is (Some 8192) None)
    (Statistics (record { free = Some 8192; total = None }))
    × Answers QueryMemory ready (Statistics (record { free = None; total = None }))
free_then_total = (refl, refl, refl)

-- ---- the frame of a page; there is none past the end

abbrev backed : Guest
backed = record ready { frames = replicate 16 None ++ (Some 13 ∷ replicate 47 None) }

frames_are : Answers (QueryBacking 16) backed (Backing (Some 13))
    × Answers (QueryBacking 17) backed (Backing None)
    × Answers (QueryBacking 64) backed (Backing None)
frames_are = (refl, refl, refl)

-- ---- an allocation failure may be the answer where a list is, and only there; nothing changes

abbrev NoMemoryFor : Query → Type 0
NoMemoryFor query = Answers query mixed (Refused NoMemory)

for_lists : NoMemoryFor (PagesAt Free) × NoMemoryFor PagesBallooned
for_lists = (inr refl, inr refl)

for_nothing_else : (NoMemoryFor QueryPlaces → ⊥) × (NoMemoryFor QueryBalloon → ⊥)
    × (NoMemoryFor QueryMemory → ⊥) × (NoMemoryFor (QueryBacking 16) → ⊥)
for_nothing_else = ((λ e. cc), (λ e. cc), (λ e. cc), (λ e. cc))

-- ---- and no other answer is one

abbrev JustThis : Query → Guest → Reply → Type 0
JustThis query g answer = (reply : Reply) → Answers query g reply → reply ≡ answer

no_other_answer : JustThis QueryPlaces mixed (Places
    (record { free = 21; used = 2; giving = 3; lent = 4; taking = 5; stranded = 6; reporting = 7 }))
    × JustThis QueryBalloon (record ballooned { actual = 9; target = 11; status = 131 })
    (Balloon (record { ballooned = 3; actual = 9; target = 11; status = 131 }))
    × JustThis QueryMemory (last_is (Some 196608) (Some 262144))
    (Statistics (record { free = Some 196608; total = Some 262144 }))
    × JustThis (QueryBacking 16) backed (Backing (Some 13))
    × JustThis (QueryBacking 17) backed (Backing None)
no_other_answer = ((λ r a. a), (λ r a. a), (λ r a. a), (λ r a. a), (λ r a. a))

no_other_pages : (reply : Reply) → Answers (PagesAt Taking) mixed reply
    → (reply ≡ Pages (run 46 50 ∷ [])) ⊎ (reply ≡ Refused NoMemory)
no_other_pages reply a = a

no_other_ballooned_pages : (reply : Reply) → Answers PagesBallooned ballooned reply
    → (reply ≡ Pages (run 41 42 ∷ run 44 44 ∷ [])) ⊎ (reply ≡ Refused NoMemory)
no_other_ballooned_pages reply a = a

-- a rogue guest is asked like any other, and a query leaves the world as it is
abbrev world : World
world = record {
  frames = 64;
  guests = Some ready ∷ Some (record backed { rogue = true }) ∷ [];
  spares = true ∷ [];
  vacated = Some 7;
}

asked_in_the_world : HappensJustSo world (OnQuery 1 (QueryBacking 16)) (Backing (Some 13)) world
asked_in_the_world = ((refl, refl), λ reply v s. s)
