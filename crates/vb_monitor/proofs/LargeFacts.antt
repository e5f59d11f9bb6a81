-- Large pages, worked out.
use Rattle.std.proofs.Common.{◌≡◌, ◌⊎◌, refl, sym, subst, arith, ℕ, ◌+◌, ◌<◌, ◌≤◌, Bool, true}
use Rattle.std.{proofs.Common.{false, List, [], ◌∷◌, map, inl, inr}, specs.Prelude.◌||◌}
use Rattle.std.proofs.lemmas.Bool.{cases_order}
use Rattle.vb_core.specs.{declared.device.Device.Device, Devices.new_device, Ballooned.is_ballooned}
use Rattle.vb_monitor.specs.Large.{is_page_size, is_made_of, is_part_of, is_of_large, is_of}
use Rattle.vb_monitor.specs.Large.{outside, counted, Goes, all_wait, LargeBy}
use Rattle.vb_monitor.{specs.declared.large.TheConstants.LARGEST_PAGE, specs.declared.cuts.Cut.Cut}
use Rattle.vb_monitor.{specs.declared.regions.Region.Region, proofs.LargeLaws.{largest, wholly_given}}
use Rattle.vb_monitor.{specs.declared.large.Large.Large, proofs.LargeLemmas.between_says}

-- ---- sizes

largest_is : LARGEST_PAGE ≡ 1073741824
largest_is = refl

sizes : map is_page_size (4096 ∷ 8192 ∷ 16384 ∷ []) ≡ true ∷ true ∷ true ∷ []
unfolding lib.Count.ones
sizes = refl

no_sizes : map is_page_size (0 ∷ 1 ∷ 2048 ∷ 4097 ∷ 12288 ∷ 2147483648 ∷ [])
    ≡ false ∷ false ∷ false ∷ false ∷ false ∷ false ∷ []
unfolding lib.Count.ones
no_sizes = refl

-- ---- regions and parts: four pages of 16 KiB from 64 KiB on, 128 KiB into their file

abbrev region : Region
region = record { guest = 0x10000; length = 0x10000; in_file = 0x20000 }

made_of : is_made_of 0x4000 region ∷ is_made_of 0x10000 region ∷ is_made_of 0x1000 region ∷ []
    ≡ true ∷ true ∷ true ∷ []
made_of = refl

-- it isn't one page of 128 KiB; nor is one of whole pages that begins, ends or is elsewhere
not_made_of : is_made_of 0x20000 region ∷ is_made_of 0x4000 (record region { guest = 0x12000 })
    ∷ is_made_of 0x4000 (record region { length = 0xf000 }) ∷ is_made_of 0x4000
    (record region { in_file = 0x21000 }) ∷ [] ≡ false ∷ false ∷ false ∷ false ∷ []
not_made_of = refl

abbrev part : ℕ → ℕ → Cut
part offset len = record { region = 3; offset = offset; in_file = 0x20000 + offset; length = len }

parts : map (is_part_of region) (part 0 0x10000 ∷ part 0x5000 0x1000 ∷ part 0xf000 0x1000 ∷ part 0x10000 0 ∷ [])
    ≡ true ∷ true ∷ true ∷ true ∷ []
parts = refl

no_parts : map (is_part_of region) (part 0 0x11000 ∷ part 0xf000 0x2000 ∷ part 0x800 0x1000 ∷ part 0 0x800 ∷ part 0x11000 0 ∷ [])
    ≡ false ∷ false ∷ false ∷ false ∷ false ∷ []
no_parts = refl

-- ---- pages: those of the large page 5 are 20 to 23

of_large : map (is_of_large 4 5) (20 ∷ 23 ∷ 19 ∷ 24 ∷ []) ≡ true ∷ true ∷ false ∷ false ∷ []
of_large = refl

-- 20 KiB into the region is page 21
of_part : map (is_of region (part 0x5000 0x2000)) (20 ∷ 21 ∷ 22 ∷ 23 ∷ [])
    ≡ false ∷ true ∷ true ∷ false ∷ []
of_part = refl

-- of pages 18 to 25 six aren't in 20 and 21
left_over : outside 18 26 20 22 ∷ outside 18 26 0 100 ∷ outside 18 26 18 20 ∷ [] ≡ 6 ∷ 0 ∷ 6 ∷ []
left_over = refl

-- ---- the set counts only with MUST_TELL_HOST

abbrev device : Device
device = new_device (record {
  memory_end = 0x20000;
  offered = 0x100000001;
  reserved_pages = 0;
  needs_must_tell = 0;
  skips_bad_pages = 0;
  holds_deflates = 0;
  discards_hints = 0;
})

counts : counted (record device { features = 0x100000001 }) (7 ∷ []) ≡ 7 ∷ []
counts = refl

counts_not : counted (record device { features = 0x100000026 }) (7 ∷ []) ≡ []
counts_not = refl

-- ---- all of a part waits

waits : all_wait (part 0x5000 0x2000)
    ≡ record { cut = record { region = 3; offset = 0; in_file = 0; length = 0 }; waiting = 2 }
waits = refl

-- ---- what goes: pages 20 and 21 are given up, and 22 and 23 are in the balloon, or aren't

abbrev half : Cut
half = part 0x4000 0x2000

-- bits 22 and 23, and bit 22 alone
abbrev both : List ℕ
both = 0xc00000 ∷ []

abbrev one : List ℕ
one = 0x400000 ∷ []

last : (p : ℕ) → 20 ≤ p → p < 24 → (p < 20) ⊎ (20 < p) → (p < 21) ⊎ (21 < p) →
    (p < 22) ⊎ (22 < p) → p ≡ 23
last p from to (inl l) y z = absurd (omega (arith, from, l))
last p from to (inr l) (inl m) z = absurd (omega (arith, l, m))
last p from to (inr l) (inr m) (inl k) = absurd (omega (arith, m, k))
last p from to (inr l) (inr m) (inr k) = omega (arith, to, k)

four : (f : ℕ → Bool) → f 20 ≡ true → f 21 ≡ true → f 22 ≡ true → f 23 ≡ true → (p : ℕ) →
    20 ≤ p → p < 24 → f p ≡ true
four f a b c d p from to = elim (cases_order p 20) [
  | inl e ↦ subst (λ (k : ℕ). f k ≡ true) (sym e) a
  | inr x ↦ elim (cases_order p 21) [
    | inl e ↦ subst (λ (k : ℕ). f k ≡ true) (sym e) b
    | inr y ↦ elim (cases_order p 22) [
      | inl e ↦ subst (λ (k : ℕ). f k ≡ true) (sym e) c
      | inr z ↦ let e : p ≡ 23 = last p from to x y z in subst (λ (k : ℕ). f k ≡ true) (sym e) d
    ]
  ]
]

it_goes : Goes 0x4000 region half both 5
it_goes = record {
  page = 20;
  there = refl;
  of_part = refl;
  given = λ p there.
      let says = between_says 20 24 p there in
      four (λ k. is_of region half k || is_ballooned both k) refl refl refl refl p says.0 says.1;
}

not_without_one : Goes 0x4000 region half one 5 → ⊥
not_without_one goes = let e = goes.given 23 refl in cc

not_without_a_set : Goes 0x4000 region half [] 5 → ⊥
not_without_a_set goes = let e = goes.given 22 refl in cc

not_the_next : Goes 0x4000 region half both 6 → ⊥
not_the_next goes =
    let there = between_says 24 28 goes.page goes.there in
    let of_part = between_says 20 22 goes.page goes.of_part in omega (arith, there.0, of_part.1)

-- a body that discards nothing isn't right, nor one that discards a page that isn't given up
not_nothing : LargeBy 0x4000 region half both (all_wait half) → ⊥
unfolding lib.Count.ones
not_nothing is =
    let e = largest 0x4000 region half both (all_wait half) is refl 5 it_goes 20 refl in cc

abbrev page_five : Large
page_five = record {
  cut = record { region = 3; offset = 0x4000; in_file = 0x24000; length = 0x4000 };
  waiting = 0;
}

not_early : LargeBy 0x4000 region half one page_five → ⊥
not_early is = let e = wholly_given 0x4000 region half one page_five is 23 refl in cc

-- where the region isn't pages of this size, all waits
misfit : (answer : Large) →
    LargeBy 0x4000 (record region { in_file = 0x21000 }) half both answer → answer ≡ all_wait half
unfolding lib.Count.ones
misfit answer is = is
