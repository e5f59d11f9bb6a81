-- Which bytes accesses touch, and how many accesses a list has, worked out.
use Rattle.std.proofs.Common.{◌≡◌, ◌∙◌, refl, ap, arith, ℕ, Bool, true, false, [], ◌∷◌, map, Option, Some, None}
use Rattle.vb_monitor.specs.{declared.regions.Region.Region, Accesses.{ReadWord, CopyBytes}}
use Rattle.vb_monitor.specs.Accesses.{Acquire, Release, Full, Discard, WriteNumber, WriteWord}
use Rattle.vb_monitor.specs.{Regions.is_region, Touched.{IsWithin, Touches}, Counts.no_discard}
use Rattle.vb_monitor.{specs.Counts.others, proofs.Samples.{Same, low, high, two, at, index, part}}
use Rattle.vb_monitor.proofs.Samples.{pages, figures, discard, id, used_index}

-- ---- within a region

-- the last two bytes of each region
end_of_the_first : IsWithin two 0 0x14ffe 2
end_of_the_first = record { region = low; there = refl; possible = refl; inside = omega arith }

end_of_the_second : IsWithin two 1 0x9ffe 2
end_of_the_second = record { region = high; there = refl; possible = refl; inside = omega arith }

abbrev length_in : Option Region → ℕ
length_in None = 0
length_in (Some r) = r.length

-- one byte past it, in a region that isn't there, and in one that isn't whole pages
past_the_first : IsWithin two 0 0x14fff 2 → ⊥
past_the_first h = let e : Same 0x15000 h.region.length = ap length_in h.there in omega (arith, e, h.inside)

no_such_region : IsWithin two 2 0 2 → ⊥
no_such_region h = let e = h.there in absurd cc

abbrev half : Region
half = record low { length = 0x800 }

abbrev is_possible : Option Region → Bool
is_possible None = true
is_possible (Some r) = is_region r

half_a_page : IsWithin (half ∷ []) 0 0 2 → ⊥
half_a_page h = let e : false ≡ true = ap is_possible h.there ∙ h.possible in absurd cc

-- ---- what accesses touch

-- two bytes of a word that is read or written, four of a number, those that are copied, and those
-- that are discarded
word_read : Touches two (ReadWord (at 0x14ffe) 7)
word_read = end_of_the_first

word_over_the_end : Touches two (ReadWord (at 0x14fff) 7) → ⊥
word_over_the_end = past_the_first

word_written : Touches two (WriteWord (at 0x14ffe) 7)
word_written = end_of_the_first

word_written_over_the_end : Touches two (WriteWord (at 0x14fff) 7) → ⊥
word_written_over_the_end = past_the_first

number_written : Touches two (WriteNumber (at 0x14ffc) 7)
number_written = record { region = low; there = refl; possible = refl; inside = omega arith }

number_over_the_end : Touches two (WriteNumber (at 0x14ffe) 7) → ⊥
number_over_the_end h = let e : Same 0x15000 h.region.length = ap length_in h.there in omega (arith, e, h.inside)

copied : Touches two (CopyBytes (at 0x14ffd) (1 ∷ 2 ∷ 3 ∷ []))
copied = record { region = low; there = refl; possible = refl; inside = omega arith }

copied_over_the_end : Touches two (CopyBytes (at 0x14ffe) (1 ∷ 2 ∷ 3 ∷ [])) → ⊥
copied_over_the_end h = let e : Same 0x15000 h.region.length = ap length_in h.there in omega (arith, e, h.inside)

elsewhere : Touches two (ReadWord (record { region = 2; offset = 0 }) 7) → ⊥
elsewhere = no_such_region

last_page : Touches two (Discard (record { region = 1; offset = 0x9000; in_file = 0; length = 0x1000 }))
last_page = record { region = high; there = refl; possible = refl; inside = omega arith }

page_past_the_end : Touches two (Discard (record { region = 1; offset = 0x9000; in_file = 0; length = 0x2000 })) → ⊥
page_past_the_end h = let e : Same 0xa000 h.region.length = ap length_in h.there in omega (arith, e, h.inside)

-- fences, and what is told, touch nothing: no region is wanted
fence : Touches [] Full
fence = tt

told : Touches [] pages
told = tt

-- ---- how many

one_each : map no_discard (index ∷ part ∷ Acquire ∷ Release ∷ Full ∷ pages ∷ figures ∷ discard ∷ id ∷ used_index ∷ []) ≡
    1 ∷ 1 ∷ 1 ∷ 1 ∷ 1 ∷ 1 ∷ 1 ∷ 0 ∷ 1 ∷ 1 ∷ []
one_each = refl

all_but_two : others (index ∷ discard ∷ part ∷ discard ∷ index ∷ []) ≡ 3
all_but_two = refl
