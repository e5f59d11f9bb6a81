-- How a chain is given back, and what comes before, worked out, and what isn't done.
use Rattle.std.proofs.Common.{◌≡◌, refl, ap, arith, ℕ, true, false, List, [], ◌∷◌, map, Some, None, Ok, Err}
use Rattle.vb_core.specs.declared.{kinds.Kind.Kind, name.Named.Named}
use Rattle.vb_core.specs.declared.kinds.Kind.TheVariants.{Inflate, Deflate, Statistics, Hint, Report}
use Rattle.vb_core.specs.{declared.device.Denial.TheVariants.BadArgument, Rings.used_entry}
use Rattle.vb_core.specs.Devices.{ring_of}
use Rattle.vb_core.specs.declared.ring.UsedEntry.{UsedEntry}
use Rattle.vb_monitor.specs.declared.outcome.Tally.{Tally}
use Rattle.vb_monitor.specs.declared.{cuts.Cut.Cut, regions.Region.Region}
use Rattle.vb_monitor.specs.declared.giving.UsedSpots.{UsedSpots}
use Rattle.vb_monitor.specs.declared.outcome.Outcome.{Outcome}
use Rattle.vb_monitor.specs.Accesses.{Access, Acquire, Release, TellPages, Discard, WriteNumber, WriteWord}
use Rattle.vb_monitor.specs.Ends.{Whole}
use Rattle.vb_monitor.specs.Giving.{Then, used_spots, used_accesses, WritesUsed, with_given, after_use, GivesBack, cuts_for, DiscardsThen, TellsThen, spent, AfterName, with_held, with_named}
use Rattle.vb_monitor.proofs.Samples.{Same, two, at, ring, ready, settings, chain_of, tally, page_5, over_the_hole, cut_5, cut_20, cut_22, one_page, pages, discard, id, used_length, used_index}

-- ---- the used element

abbrev spots : UsedSpots
spots = record { id = at 0x204; length = at 0x208; index = at 0x202 }

-- the id at the element, the length four bytes after it, the index two bytes into the ring
places : used_spots two (used_entry ring 3) ≡ Some spots
places = refl

tenth : used_spots two (used_entry (record ring { next_used = 9 }) 3) ≡
    Some (record { id = at 0x20c; length = at 0x210; index = at 0x202 })
tenth = refl

-- each of the three is guest memory, or there is no place
id_over_the_hole : used_spots two (record { element_at = 0x14ffe; index_at = 0x202; id = 3; length = 0; index = 1 }) ≡ None
id_over_the_hole = refl

length_in_the_hole : used_spots two (record { element_at = 0x14ffc; index_at = 0x202; id = 3; length = 0; index = 1 }) ≡ None
length_in_the_hole = refl

index_in_the_hole : used_spots two (record { element_at = 0x204; index_at = 0x15000; id = 3; length = 0; index = 1 }) ≡ None
index_in_the_hole = refl

to_the_end_of_a_region : used_spots two (record { element_at = 0x14ff8; index_at = 0x14ffe; id = 3; length = 0; index = 1 }) ≡
    Some (record { id = at 0x14ff8; length = at 0x14ffc; index = at 0x14ffe })
to_the_end_of_a_region = refl

-- the id lies in one region and the length in the next one; no number lies in both, and no index in
-- half
abbrev halves : List Region
halves = record { guest = 0; length = 0x1000; in_file = 0 } ∷ record { guest = 0x1000; length = 0x1000; in_file = 0 } ∷ []

abbrev element : ℕ → UsedEntry
element a = record { element_at = a; index_at = 0x202; id = 3; length = 0; index = 1 }

in_two_regions : used_spots halves (element 0xffc) ≡
    Some (record { id = at 0xffc; length = record { region = 1; offset = 0 }; index = at 0x202 })
in_two_regions = refl

id_in_both : used_spots halves (element 0xffe) ≡ None
id_in_both = refl

half_an_index : used_spots halves (record (element 0x204) { index_at = 0xfff }) ≡ None
half_an_index = refl

-- id and length, and after a release fence the index
in_their_order : used_accesses spots (record { element_at = 0x204; index_at = 0x202; id = 3; length = 7; index = 9 }) ≡
    WriteNumber (at 0x204) 3 ∷ WriteNumber (at 0x208) 7 ∷ Release ∷ WriteWord (at 0x202) 9 ∷ []
in_their_order = refl

-- the device has gone on by one element of that queue alone
gone_on : after_use Inflate ready ≡ record ready { inflate = record ring { next_used = 1 } }
gone_on = refl

around : ring_of Report (after_use Report (record ready { report = record ring { next_used = 65535 } })) ≡ ring
around = refl

-- ---- tallies

given : with_given (record tally { held = chain_of 3 2 }) ≡ record tally { given = true; held = chain_of 3 2 }
given = refl

now_held : with_held 3 2 tally ≡ record tally { held = chain_of 3 2 }
now_held = refl

abbrev named_of : ℕ → ℕ → Named
named_of pages skipped = record { runs = 1; pages = pages; skipped = skipped }

-- once its pages are named, a chain is held where its kind's are: deflates by the setting
abbrev of_kind : ℕ → Kind → Tally
of_kind setting kind = with_named kind (record settings { holds_deflates = setting }) 3 (named_of 2 0) tally

named_and_held : map (of_kind 1) (Inflate ∷ Deflate ∷ Statistics ∷ Hint ∷ Report ∷ []) ≡
    record tally { pages = 1; told = 2 } ∷ record tally { pages = 1; told = 2; held = chain_of 3 2 }
    ∷ record tally { pages = 1; told = 2; held = chain_of 3 2 } ∷ record tally { pages = 1; told = 2 }
    ∷ record tally { pages = 1; told = 2 } ∷ []
named_and_held = refl

named_alone : of_kind 0 Deflate ≡ record tally { pages = 1; told = 2 }
named_alone = refl

-- with the pages of its portions that were told before
with_all_pages : with_named Deflate (record settings { holds_deflates = 1 }) 3 (named_of 2 0) (record tally { told = 256 }) ≡
    record tally { pages = 1; told = 258; held = chain_of 3 258 }
with_all_pages = refl

one_spent : spent (named_of 1 0) tally ≡ record tally { pages = 2; told = 1 }
one_spent = refl

-- a number that is skipped counts as well, and isn't told
with_one_skipped : spent (named_of 1 1) tally ≡ record tally { pages = 1; told = 1 }
with_one_skipped = refl

no_less_than_none : spent (named_of 300 0) tally ≡ record tally { pages = 0; told = 300 }
no_less_than_none = refl

-- 32 bits count them
no_more_than_all : (spent (named_of 3 0) (record tally { told = 0xfffffffe })).told ≡ 0xffffffff
no_more_than_all = refl

-- ---- what is discarded

abbrev of_each : Kind → List Cut
of_each kind = cuts_for kind false two (over_the_hole ∷ page_5 ∷ [])

what_is_given_up : map of_each (Inflate ∷ Deflate ∷ Statistics ∷ Hint ∷ Report ∷ []) ≡
    (cut_20 ∷ cut_22 ∷ cut_5 ∷ []) ∷ [] ∷ [] ∷ (cut_20 ∷ cut_22 ∷ cut_5 ∷ []) ∷ (cut_20 ∷ cut_22 ∷ cut_5 ∷ []) ∷ []
what_is_given_up = refl

-- nothing of what is kept
abbrev of_each_kept : Kind → List Cut
of_each_kept kind = cuts_for kind true two (page_5 ∷ [])

none_kept : map of_each_kept (Inflate ∷ Deflate ∷ Statistics ∷ Hint ∷ Report ∷ []) ≡ [] ∷ [] ∷ [] ∷ [] ∷ [] ∷ []
none_kept = refl

-- ---- what is done, in its order

abbrev outcome : Outcome
outcome = record { tally = with_given tally; why = None; interrupt = false; more = false }

abbrev whole : Whole
whole = record { regions = two; kind = Inflate; device = after_use Inflate ready; outcome = outcome }

-- nothing comes after it
abbrev last : Then
last = λ d t log. (d ≡ after_use Inflate ready) × ((t ≡ with_given tally) × (log ≡ []))

gives_back : GivesBack whole last ready tally 3 (id ∷ used_length ∷ Release ∷ used_index ∷ [])
unfolding lib.Count.ones
gives_back = record { rest = []; asks = refl; goes_on = (refl, (refl, refl)) }

told_discarded_given : TellsThen whole last ready tally 3 (page_5 ∷ []) one_page
    (pages ∷ discard ∷ id ∷ used_length ∷ Release ∷ used_index ∷ [])
unfolding lib.Count.ones
told_discarded_given = record {
  rest = discard ∷ id ∷ used_length ∷ Release ∷ used_index ∷ [];
  asks = refl;
  goes_on = record {
    rest = id ∷ used_length ∷ Release ∷ used_index ∷ [];
    asks = refl;
    goes_on = gives_back;
  };
}

-- ---- what isn't

-- a chain of no descriptor isn't given back
no_descriptor : GivesBack whole last ready tally 8 (id ∷ used_length ∷ Release ∷ used_index ∷ []) → ⊥
unfolding lib.Count.ones
no_descriptor h = let e = h.nothing in absurd cc

-- the last descriptor's is
last_descriptor_kept : GivesBack whole last ready tally 7 [] → ⊥
unfolding lib.Count.ones
last_descriptor_kept h = let e = h.asks in absurd cc

-- the element after its index, its numbers exchanged, no fence, another fence, the fence too early
-- or too late
abbrev Writes : List Access → Type 0
Writes log = WritesUsed (λ rest. Unit {0}) spots (used_entry ring 3) log

abbrev offset_of : List Access → ℕ
offset_of (WriteNumber at n ∷ xs) = at.offset
offset_of xs = 0

index_first : Writes (used_index ∷ id ∷ used_length ∷ Release ∷ []) → ⊥
index_first h = let e = h.asks in absurd cc

length_first : Writes (used_length ∷ id ∷ Release ∷ used_index ∷ []) → ⊥
length_first h = let e : Same 0x208 0x204 = ap offset_of h.asks in omega arith

no_length : Writes (id ∷ Release ∷ used_index ∷ []) → ⊥
no_length h = let e = h.asks in absurd cc

no_fence : Writes (id ∷ used_length ∷ used_index ∷ []) → ⊥
no_fence h = let e = h.asks in absurd cc

another_fence : Writes (id ∷ used_length ∷ Acquire ∷ used_index ∷ []) → ⊥
another_fence h = let e = h.asks in absurd cc

fence_too_early : Writes (Release ∷ id ∷ used_length ∷ used_index ∷ []) → ⊥
fence_too_early h = let e = h.asks in absurd cc

fence_too_late : Writes (id ∷ used_length ∷ used_index ∷ Release ∷ []) → ⊥
fence_too_late h = let e = h.asks in absurd cc

id_alone : Writes (id ∷ []) → ⊥
id_alone h = let e = h.asks in absurd cc

-- discards after giving back, one left out, two exchanged, one of another page
abbrev Cuts : List Cut → List Access → Type 0
Cuts cuts log = DiscardsThen (GivesBack whole last ready tally 3) cuts log

abbrev cut_at : List Access → ℕ
cut_at (Discard cut ∷ xs) = cut.offset
cut_at xs = 0

discarded_after : Cuts (cut_5 ∷ []) (id ∷ used_length ∷ Release ∷ used_index ∷ discard ∷ []) → ⊥
discarded_after h = let e = h.asks in absurd cc

not_discarded : Cuts (cut_20 ∷ cut_5 ∷ []) (Discard cut_20 ∷ id ∷ used_length ∷ Release ∷ used_index ∷ []) → ⊥
not_discarded h = let e = h.asks in absurd cc

exchanged : Cuts (cut_20 ∷ cut_5 ∷ []) (Discard cut_5 ∷ Discard cut_20 ∷ id ∷ used_length ∷ Release ∷ used_index ∷ []) → ⊥
exchanged h = let e : Same 0x5000 0x14000 = ap cut_at h.asks in omega arith

-- pages that aren't told, or only once they were discarded
untold : TellsThen whole last ready tally 3 (page_5 ∷ []) one_page (discard ∷ id ∷ used_length ∷ Release ∷ used_index ∷ []) → ⊥
untold h = let e = h.asks in absurd cc

told_after : TellsThen whole last ready tally 3 (page_5 ∷ []) one_page
    (discard ∷ pages ∷ id ∷ used_length ∷ Release ∷ used_index ∷ []) → ⊥
told_after h = let e = h.asks in absurd cc

told_as_a_deflate : TellsThen whole last ready tally 3 (page_5 ∷ []) one_page (TellPages Deflate (page_5 ∷ []) one_page ∷ []) → ⊥
told_as_a_deflate h = let e = h.asks in absurd cc

-- other counts than those that are named
abbrev skipped_in : List Access → ℕ
skipped_in (TellPages kind runs named ∷ xs) = named.skipped
skipped_in xs = 0

abbrev pages_in : List Access → ℕ
pages_in (TellPages kind runs named ∷ xs) = named.pages
pages_in xs = 0

one_skipped : TellsThen whole last ready tally 3 (page_5 ∷ []) one_page
    (TellPages Inflate (page_5 ∷ []) (record one_page { skipped = 1 }) ∷ []) → ⊥
one_skipped h = let e : Same 1 0 = ap skipped_in h.asks in omega arith

two_pages : TellsThen whole last ready tally 3 (page_5 ∷ []) one_page
    (TellPages Inflate (page_5 ∷ []) (record one_page { pages = 2 }) ∷ []) → ⊥
two_pages h = let e : Same 2 1 = ap pages_in h.asks in omega arith

-- ---- what was named

-- what may not be named ends the notice
refused : AfterName (record whole {
  device = ready;
  outcome = record { tally = tally; why = Some BadArgument; interrupt = false; more = false };
}) last ready tally 3 [] (Err BadArgument) []
refused = record { nothing = refl; device = refl; outcome = refl }

refused_and_told : AfterName whole last ready tally 3 (page_5 ∷ []) (Err BadArgument) (pages ∷ []) → ⊥
refused_and_told h = let e = h.nothing in absurd cc

-- the first runs alone count, and the pages and the skipped numbers are taken off the budget
abbrev two_skipped : Named
two_skipped = record { runs = 1; pages = 2; skipped = 2 }

first_run : AfterName whole (λ d t log. (t ≡ with_given (record tally { pages = 0; told = 2 })) × (log ≡ [])) ready tally 3 (page_5 ∷ over_the_hole ∷ [])
    (Ok two_skipped) (TellPages Inflate (page_5 ∷ []) two_skipped ∷ discard ∷ id ∷ used_length ∷ Release ∷ used_index ∷ [])
unfolding lib.Count.ones
first_run = record {
  rest = discard ∷ id ∷ used_length ∷ Release ∷ used_index ∷ [];
  asks = refl;
  goes_on = record {
    rest = id ∷ used_length ∷ Release ∷ used_index ∷ [];
    asks = refl;
    goes_on = record { rest = []; asks = refl; goes_on = (refl, refl) };
  };
}
