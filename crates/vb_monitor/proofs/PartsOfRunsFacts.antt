-- Which pages a part of a run is, worked out, and which it isn't.
use Rattle.std.proofs.Common.{refl, ap, arith, inl, inr, ℕ, [], ◌∷◌, Option, Some, None}
use Rattle.vb_monitor.specs.declared.regions.Region.{Region}
use Rattle.vb_monitor.specs.PartsOfRuns.{IsPartOf, IsPartOfOne, ArePartsOf}
use Rattle.vb_monitor.proofs.Samples.{Same, low, high, two, page_5, over_the_hole, cut_5, cut_20, cut_22}

-- of pages 20 to 22 the first lies in the first region, the last in the second
in_the_first : IsPartOf two over_the_hole cut_20
in_the_first = record {
  region = low;
  first = 20;
  count = 1;
  there = refl;
  begins = refl;
  long = refl;
  in_file = refl;
  above = omega arith;
  below = omega arith;
}

in_the_second : IsPartOf two over_the_hole cut_22
in_the_second = record {
  region = high;
  first = 22;
  count = 1;
  there = refl;
  begins = refl;
  long = refl;
  in_file = refl;
  above = omega arith;
  below = omega arith;
}

both : ArePartsOf two (page_5 ∷ over_the_hole ∷ []) (cut_20 ∷ cut_22 ∷ [])
both = (inr (inl in_the_first), (inr (inl in_the_second), tt))

no_part : ArePartsOf two [] []
no_part = tt

-- ---- what is no part of page 5

abbrev guest_in : Option Region → ℕ
guest_in None = 0
guest_in (Some r) = r.guest

abbrev file_in : Option Region → ℕ
file_in None = 0
file_in (Some r) = r.in_file

-- page 6, page 4, two pages, half a page
another_page : IsPartOf two page_5 (record cut_5 { offset = 0x6000; in_file = 0x6000 }) → ⊥
another_page h =
    let e : Same 0 h.region.guest = ap guest_in h.there in
    omega (arith, e, h.begins, h.long, h.below)

page_before : IsPartOf two page_5 (record cut_5 { offset = 0x4000; in_file = 0x4000 }) → ⊥
page_before h =
    let e : Same 0 h.region.guest = ap guest_in h.there in
    omega (arith, e, h.begins, h.above)

two_pages : IsPartOf two page_5 (record cut_5 { length = 0x2000 }) → ⊥
two_pages h =
    let e : Same 0 h.region.guest = ap guest_in h.there in
    omega (arith, e, h.begins, h.long, h.below)

half_a_page : IsPartOf two page_5 (record cut_5 { length = 0x800 }) → ⊥
half_a_page h = omega (arith, h.long)

begun_in_its_midst : IsPartOf two page_5 (record cut_5 { offset = 0x5800; in_file = 0x5800 }) → ⊥
begun_in_its_midst h =
    let e : Same 0 h.region.guest = ap guest_in h.there in
    omega (arith, e, h.begins)

-- at another place of the file, in the other region, in none
another_place : IsPartOf two page_5 (record cut_5 { in_file = 0 }) → ⊥
another_place h = let e : Same 0 h.region.in_file = ap file_in h.there in omega (arith, e, h.in_file)

the_other_region : IsPartOf two page_5 (record cut_5 { region = 1 }) → ⊥
the_other_region h =
    let e : Same 0x16000 h.region.guest = ap guest_in h.there in
    omega (arith, e, h.begins, h.long, h.below)

no_region : IsPartOf two page_5 (record cut_5 { region = 2 }) → ⊥
no_region h = let e = h.there in absurd cc

-- ---- of no run, and one of several that is none

of_no_run : IsPartOfOne two [] cut_5 → ⊥
of_no_run h = absurd h

of_another_run : IsPartOfOne two (record page_5 { first = 6 } ∷ []) cut_5 → ⊥
of_another_run (inl h) =
    let e : Same 0 h.region.guest = ap guest_in h.there in
    omega (arith, e, h.begins, h.above)
of_another_run (inr h) = absurd h

the_second_too : ArePartsOf two (page_5 ∷ []) (cut_5 ∷ record cut_5 { region = 2 } ∷ []) → ⊥
the_second_too (one, (inl h, rest)) = no_region h
the_second_too (one, (inr h, rest)) = absurd h
