-- Worked facts of what a write, a supply and a discard make of guest memory, and of what they leave.
use Rattle.std.proofs.Common.{◌≡◌, ◌≢◌, ℕ, zero, suc, ◌<◌, ◌≤◌, List, [], ◌∷◌, arith, refl, map, ap}
use Rattle.std.specs.Prelude.{◌+◌, Option, Some, None, length, slice_index}
use Rattle.vb_virtio.specs.Memory.{zero_page}
use Rattle.vb_ram.specs.Pages.{Pages, byte_of, byte_at, page_at, frame_at, contents_at, number_of}
use Rattle.vb_ram.specs.Pages.{field, IsWhole, Covers, SameBut, Wrote, Cleared}
use Rattle.vb_ram.specs.Pages.{PutField, SameIn, Supplied, Discarded}
use Rattle.vb_ram.specs.{Put.PutAt, Memory.IsMemory, Limits.AreWithinLimits}
use Rattle.vb_ram.proofs.Contents.{zero_page-at, length-zero_page}

-- memory of a page with these bytes in the frame of this number, and one with no frame
abbrev held : ℕ → List ℕ → Pages
held number bytes = Some (record { number = number; bytes = bytes }) ∷ None ∷ []

-- memory of two pages with no frame, and one of a page
abbrev bare : Pages
bare = None ∷ None ∷ []

abbrev bare_one : Pages
bare_one = None ∷ []

abbrev or_zero : Option ℕ → ℕ
or_zero None = 0
or_zero (Some n) = n

numbers : map (λ n. field n (held 5 (1 ∷ 2 ∷ 3 ∷ [])) 0 0) (0 ∷ 1 ∷ 2 ∷ 3 ∷ [])
    ≡ 0 ∷ 1 ∷ 513 ∷ 197121 ∷ []
unfolding field byte_at
numbers = refl

no_page_past_the_end : Covers bare 2 0 1 → ⊥
no_page_past_the_end covers = omega (arith, covers.page)

no_byte_of_the_next_page : Covers bare 0 4095 2 → ⊥
no_byte_of_the_next_page covers = omega (arith, covers.bytes)

the_last_byte : Covers bare 1 4095 1
the_last_byte = record { page = omega arith; bytes = omega arith }

short_page : IsWhole (held 5 (1 ∷ [])) → ⊥
short_page whole = omega (arith, whole.sizes 0)

-- ---- what is as before

below : SameBut (held 5 (1 ∷ 2 ∷ 3 ∷ [])) (held 5 (9 ∷ 2 ∷ 3 ∷ [])) 0 1 3 → ⊥
unfolding byte_at
below same = (let wrong : 9 ≡ 1 = same.below 0 (omega arith) in omega (arith, wrong))

above : SameBut (held 5 (1 ∷ 2 ∷ 3 ∷ [])) (held 5 (1 ∷ 2 ∷ 9 ∷ [])) 0 0 2 → ⊥
unfolding byte_at
above same = (let wrong : 9 ≡ 3 = same.above 2 (omega arith) in omega (arith, wrong))

another_page : SameBut (held 5 (1 ∷ [])) (held 5 (2 ∷ [])) 1 0 4096 → ⊥
another_page same =
    omega (arith, ap (λ page. byte_of page 0) (same.others 0 (omega arith)))

another_frame : SameBut (held 5 (1 ∷ [])) (held 6 (1 ∷ [])) 0 0 1 → ⊥
another_frame same = omega (arith, ap or_zero (same.backing 0))

a_byte_more : SameBut (held 5 (1 ∷ [])) (held 5 (1 ∷ 0 ∷ [])) 0 0 2 → ⊥
a_byte_more same = (let wrong : 2 ≡ 1 = same.sizes 0 in omega (arith, wrong))

a_page_fewer : SameBut bare bare_one 0 0 4096 → ⊥
a_page_fewer same = omega (arith, same.count)

within : SameIn (held 5 (1 ∷ 2 ∷ [])) (held 5 (1 ∷ 9 ∷ [])) 0 1 2 → ⊥
unfolding byte_at
within same = (let wrong : 9 ≡ 2 = same.bytes 1 (omega arith) (omega arith) in omega (arith, wrong))

-- ---- what is written

the_first_byte : Wrote (held 5 (1 ∷ 2 ∷ [])) (held 5 (7 ∷ 2 ∷ [])) 0 0 (7 ∷ [])
unfolding byte_at
the_first_byte = record { written = written; rest = rest } where
  before : Pages
  before = held 5 (1 ∷ 2 ∷ [])

  after : Pages
  after = held 5 (7 ∷ 2 ∷ [])

  written : (k : ℕ) → k < 1 → byte_at after 0 (0 + k) ≡ slice_index (7 ∷ []) k
  written zero few = refl
  written (suc k) few = absurd (omega (arith, few))

  others : (q : ℕ) → q ≢ 0 → page_at after q ≡ page_at before q
  others zero differs = absurd (differs refl)
  others (suc q) differs = refl

  behind : (o : ℕ) → 1 ≤ o → byte_at after 0 o ≡ byte_at before 0 o
  behind zero from = absurd (omega (arith, from))
  behind (suc o) from = refl

  backing : (q : ℕ) → frame_at after q ≡ frame_at before q
  backing zero = refl
  backing (suc q) = refl

  sizes : (q : ℕ) → length (contents_at after q) ≡ length (contents_at before q)
  sizes zero = refl
  sizes (suc q) = refl

  rest : SameBut before after 0 0 1
  rest = record {
    below = λ o from. absurd (omega (arith, from));
    above = behind;
    others = others;
    backing = backing;
    sizes = sizes;
    count = refl;
  }

not_what_was_said : Wrote (held 5 (1 ∷ [])) (held 5 (2 ∷ [])) 0 0 (7 ∷ []) → ⊥
unfolding byte_at
not_what_was_said wrote =
    (let wrong : 2 ≡ 7 = wrote.written 0 (omega arith) in omega (arith, wrong))

nor_more_than_was_said : Wrote (held 5 (1 ∷ 2 ∷ [])) (held 5 (7 ∷ 7 ∷ [])) 0 0 (7 ∷ []) → ⊥
unfolding byte_at
nor_more_than_was_said wrote =
    (let wrong : 7 ≡ 2 = wrote.rest.above 1 (omega arith) in omega (arith, wrong))

not_cleared : Cleared (held 5 (1 ∷ [])) (held 5 (1 ∷ [])) 0 → ⊥
unfolding byte_at
not_cleared cleared = (let wrong : 1 ≡ 0 = cleared.zero 0 (omega arith) in omega (arith, wrong))

cleared_with_another : Cleared (held 5 (1 ∷ [])) bare 1 → ⊥
cleared_with_another cleared =
    omega (arith, ap (λ page. byte_of page 0) (cleared.rest.others 0 (omega arith)))

another_number : PutField 1 (held 5 (1 ∷ [])) (held 5 (2 ∷ [])) 0 0 3 → ⊥
unfolding field byte_at
another_number put = (let wrong : 2 ≡ 3 = put.value in omega (arith, wrong))

a_number_and_more : PutField 1 (held 5 (1 ∷ 2 ∷ [])) (held 5 (3 ∷ 4 ∷ [])) 0 0 3 → ⊥
unfolding byte_at
a_number_and_more put = (let wrong : 4 ≡ 2 = put.rest.above 1 (omega arith) in omega (arith, wrong))

-- ---- what is supplied, and what is discarded

abbrev supplied : ℕ → Pages
supplied number = Some (record { number = number; bytes = zero_page }) ∷ None ∷ []

a_frame_of_zeros : Supplied bare (supplied 5) 0 5
unfolding byte_at
a_frame_of_zeros = record {
  zero = zero_page-at;
  contents = refl;
  backed = refl;
  others = others;
  count = refl;
} where
  others : (q : ℕ) → q ≢ 0 → page_at (supplied 5) q ≡ page_at bare q
  others zero differs = absurd (differs refl)
  others (suc q) differs = refl

not_zeros : Supplied bare (held 5 (1 ∷ [])) 0 5 → ⊥
unfolding byte_at
not_zeros is = (let wrong : 1 ≡ 0 = is.zero 0 in omega (arith, wrong))

not_a_whole_page : Supplied bare (held 5 []) 0 5 → ⊥
not_a_whole_page is =
    omega (arith, ap (λ (bytes : List ℕ). length bytes) is.contents, length-zero_page)

not_that_frame : Supplied bare (supplied 6) 0 5 → ⊥
not_that_frame is = omega (arith, ap or_zero is.backed)

another_one_supplied : Supplied bare (supplied 5) 1 5 → ⊥
another_one_supplied is =
    omega (arith, ap (λ page. or_zero (number_of page)) (is.others 0 (omega arith)))

supplied_and_longer : Supplied bare_one (supplied 5) 0 5 → ⊥
supplied_and_longer is = omega (arith, is.count)

with_no_frame : Discarded (held 5 (1 ∷ [])) bare 0
with_no_frame = record { bare = refl; others = others; count = refl } where
  others : (q : ℕ) → q ≢ 0 → page_at bare q ≡ page_at (held 5 (1 ∷ [])) q
  others zero differs = absurd (differs refl)
  others (suc q) differs = refl

not_discarded : Discarded (held 5 (1 ∷ [])) (held 5 (1 ∷ [])) 0 → ⊥
not_discarded is = omega (arith, ap (λ page. or_zero (number_of page)) is.bare)

another_discarded : Discarded (held 5 (1 ∷ [])) bare 1 → ⊥
another_discarded is =
    omega (arith, ap (λ page. or_zero (number_of page)) (is.others 0 (omega arith)))

discarded_and_shorter : Discarded bare bare_one 0 → ⊥
discarded_and_shorter is = omega (arith, is.count)

-- ---- a list of bytes

put_another : PutAt (1 ∷ []) (2 ∷ []) 0 (7 ∷ []) → ⊥
put_another put = (let wrong : 2 ≡ 7 = put.written 0 (omega arith) in omega (arith, wrong))

put_before : PutAt (1 ∷ 2 ∷ []) (9 ∷ 7 ∷ []) 1 (7 ∷ []) → ⊥
put_before put = (let wrong : 9 ≡ 1 = put.below 0 (omega arith) in omega (arith, wrong))

put_past : PutAt (1 ∷ 2 ∷ []) (7 ∷ 9 ∷ []) 0 (7 ∷ []) → ⊥
put_past put = (let wrong : 9 ≡ 2 = put.above 1 (omega arith) in omega (arith, wrong))

-- ---- sizes

too_many_pages : IsMemory 4294967296 [] → ⊥
too_many_pages is = omega (arith, is.few)

no_whole_pages : IsMemory 2 (held 5 (1 ∷ [])) → ⊥
no_whole_pages is = omega (arith, is.whole.sizes 0)

the_least : AreWithinLimits 64 2 1
the_least = grind (arith)

the_most : AreWithinLimits 65536 256 4
the_most = grind (arith)

too_few_pages : AreWithinLimits 63 2 1 → ⊥
too_few_pages are = omega (arith, are.pages_least)

too_many : AreWithinLimits 65537 2 1 → ⊥
too_many are = omega (arith, are.pages_most)

too_small_queue : AreWithinLimits 64 1 1 → ⊥
too_small_queue are = omega (arith, are.queue_least)

too_large_queue : AreWithinLimits 64 257 1 → ⊥
too_large_queue are = omega (arith, are.queue_most)

no_processor : AreWithinLimits 64 2 0 → ⊥
no_processor are = omega (arith, are.processors_least)

a_processor_too_many : AreWithinLimits 64 2 5 → ⊥
a_processor_too_many are = omega (arith, are.processors_most)
