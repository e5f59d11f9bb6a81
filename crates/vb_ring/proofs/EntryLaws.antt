-- What a write does to the lists that the rings show, and what is next in them.
use Rattle.std.proofs.lemmas.List.{length_push, get_or_append_left, get_or_push, length-map}
use Rattle.std.proofs.lemmas.{Bool.cases_eq, Option.{slice_get-get_or, slice_get_past}}
use Rattle.std.proofs.{Math.Nat.{mod-mod_of_dvd, dvd_of_mod-eq-zero}, lemmas.List.get_or-map}
use Rattle.std.{proofs.lemmas.Grind.common_steps, specs.Prelude.{length, slice_get, Some, None, Ok}}
use Rattle.{std.proofs.Common.{sym, ◌∙◌, ap, arith, inl, inr}, vb_ring.proofs.FrameLaws.outside_in}
use Rattle.std.specs.Prelude.{◌≡◌, ◌≢◌, ℕ, ◌+◌, ◌-◌, ◌*◌, ◌%◌, ◌<◌, ◌≤◌, List, ◌∷◌, [], ◌++◌}
use Rattle.vb_ram.proofs.FieldLaws.{same_page, field_in}
use Rattle.vb_ram.specs.Pages.{byte_at, page_at, Pages, field, SameIn}
use Rattle.vb_chain.{proofs.TableLaws.descriptor_kept, specs.Table.descriptor_at}
use Rattle.vb_ring.specs.Entries.{avail_index, avail_place, used_index, used_place, ahead}
use Rattle.vb_ring.specs.{Calls.{PutsUsed, Publishes}, declared.layout.Layout.Layout}
use Rattle.vb_ring.specs.Meaning.{UsedElem, no_elem, ids, ShowsAvail, ShowsUsed, ShowsEntries}
use Rattle.vb_ring.specs.{Entries.{used_ahead, next_by, next_entry, next_id}, Layout.{IsSize, Fits}}

-- ---- places

-- An index that has wrapped has the place of the number itself.
pub place_wraps : (n q : ℕ) → 65536 % q ≡ 0 → n % 65536 % q ≡ n % q
place_wraps n q e = mod-mod_of_dvd q n (dvd_of_mod-eq-zero q e)

-- Fewer than q numbers apart, two numbers have different places.
pub place_apart : (k n q : ℕ) → k < n → n < k + q → k % q ≢ n % q
place_apart k n q lt near e = grind arith

-- ---- bytes that are as before

pub avail_kept : (old new : Pages) (l : Layout) (q : ℕ) (heads : List ℕ) → IsSize q
    → SameIn old new l.avail.page (l.avail.offset + 2) (l.avail.offset + (6 + 2 * q))
    → ShowsAvail old l q heads → ShowsAvail new l q heads
avail_kept old new l q heads size same shows = grind (arith, field_in)

pub used_kept : (old new : Pages) (l : Layout) (q : ℕ) (elems : List UsedElem) → IsSize q
    → SameIn old new l.used.page (l.used.offset + 2) (l.used.offset + (6 + 8 * q))
    → ShowsUsed old l q elems → ShowsUsed new l q elems
used_kept old new l q elems size same shows = grind (arith, field_in)

-- ---- one entry more

-- The entry at the next place and the index: one more head is shown.
pub avail_grown : (old new : Pages) (l : Layout) (q next head : ℕ) (heads : List ℕ) → IsSize q
    → length heads % 65536 ≡ next → field 2 new l.avail.page (avail_place l q next) ≡ head
    → field 2 new l.avail.page (avail_index l) ≡ (next + 1) % 65536 → ((k : ℕ) → k % q ≢ next % q
    → field 2 new l.avail.page (avail_place l q k) ≡ field 2 old l.avail.page (avail_place l q k))
    → ShowsAvail old l q heads → ShowsAvail new l q (heads ++ head ∷ [])
avail_grown old new l q next head heads size at entry index others shows =
    grind (arith, length_push, place_wraps, get_or_push, place_apart, get_or_append_left)

-- The element at the next place and the index: one more used element is shown.
pub used_grown : (old new : Pages) (l : Layout) (q next head count : ℕ) (elems : List UsedElem)
    → IsSize q → length elems % 65536 ≡ next → field 4 new l.used.page (used_place l q next) ≡ head
    → field 4 new l.used.page (used_place l q next + 4) ≡ count
    → field 2 new l.used.page (used_index l) ≡ (next + 1) % 65536 → ((k : ℕ) → k % q ≢ next % q
    → SameIn old new l.used.page (used_place l q k) (used_place l q k + 8))
    → ShowsUsed old l q elems → ShowsUsed new l q (elems ++ record { id = head; len = count } ∷ [])
used_grown old new l q next head count elems size at id written index others shows = grind (
  arith,
  length_push,
  place_wraps,
  place_apart,
  cases_eq,
  get_or_push,
  field_in,
  get_or_append_left,
)

-- ---- what the two writes leave

-- What a publication writes shows one head more, and the same used elements.
pub publishes_entries : (old new : Pages) (l : Layout) (q next head : ℕ) (heads : List ℕ)
    (elems : List UsedElem) → Fits l q → Publishes old new l q next head → length heads % 65536
    ≡ next → ShowsEntries old l q heads elems → ShowsEntries new l q (heads ++ head ∷ []) elems
publishes_entries old new l q next head heads elems fits w at shows = record {
  avail = avail_grown old new l q next head heads fits.size at w.entry w.index (λ k apart.
      grind (arith, field_in)) shows.avail;
  used = used_kept old new l q elems fits.size (outside_in old new _ l.used.page
      (l.used.offset + 2) (l.used.offset + (6 + 8 * q)) w.rest (λ o low high.
      grind arith)) shows.used;
}

-- What a use writes shows one element more, and the same heads.
pub puts_entries : (old new : Pages) (l : Layout) (q next head count : ℕ) (heads : List ℕ)
    (elems : List UsedElem) → Fits l q → PutsUsed old new l q next head count
    → length elems % 65536 ≡ next → ShowsEntries old l q heads elems
    → ShowsEntries new l q heads (elems ++ record { id = head; len = count } ∷ [])
puts_entries old new l q next head count heads elems fits w at shows = record {
  avail = avail_kept old new l q heads fits.size (outside_in old new _ l.avail.page
      (l.avail.offset + 2) (l.avail.offset + (6 + 2 * q)) w.rest (λ o low high. grind arith))
      shows.avail;
  used = used_grown old new l q next head count elems fits.size at w.id w.len w.index (λ k apart.
      outside_in old new _ l.used.page (used_place l q k) (used_place l q k + 8) w.rest
      (λ o low high.
      ((λ i. omega (arith, i.from, i.to, apart)), ((λ i. omega (arith, i.to)), tt)))) shows.used;
}

-- The used ring's bytes lie outside the descriptors.
pub puts_descriptors : (old new : Pages) (l : Layout) (q next head count i : ℕ) → Fits l q
    → PutsUsed old new l q next head count → i < q
    → descriptor_at new l.table i ≡ descriptor_at old l.table i
puts_descriptors old new l q next head count i fits w lt = grind (arith, descriptor_kept)

-- ---- what is next

-- How far a list's number, modulo 65,536, is ahead of a smaller number.
pub ahead_by : (n t index taken : ℕ) → index ≡ n % 65536 → t % 65536 ≡ taken → t ≤ n → n ≤ t + 65535
    → ahead index taken ≡ n - t
ahead_by n t index taken e f low near = omega arith

-- The answers, by how far the index is ahead.
pub next_none : {E : Type 0} (a most x : ℕ) (fault : E) → a ≡ 0 → next_by a most fault x ≡ Ok None
next_none a most x fault e = grind (arith, common_steps)

pub next_some : {E : Type 0} (a most x : ℕ) (fault : E) → a ≢ 0 → a ≤ most
    → next_by a most fault x ≡ Ok (Some x)
next_some a most x fault e h = grind (arith, common_steps)

-- The head after the first t is the next entry.
pub entry_shown : (mem : Pages) (l : Layout) (q : ℕ) (heads : List ℕ) (t taken : ℕ) → IsSize q
    → ShowsAvail mem l q heads → t % 65536 ≡ taken → t ≤ length heads → length heads ≤ t + q
    → next_entry mem l q taken ≡ Ok (slice_get heads t)
entry_shown mem l q heads t taken size shows at low near =
    grind (arith, slice_get_past, place_wraps, slice_get-get_or)

-- The id of the element after the first s is the next id.
pub id_shown : (mem : Pages) (l : Layout) (q most : ℕ) (elems : List UsedElem) (s seen : ℕ)
    → IsSize q → most ≤ q → ShowsUsed mem l q elems → s % 65536 ≡ seen → s ≤ length elems
    → length elems ≤ s + most → next_id mem l q seen most ≡ Ok (slice_get (ids elems) s)
id_shown mem l q most elems s seen size fits shows at low near =
    let gap = ahead_by (length elems) s (field 2 mem l.used.page (used_index l)) seen shows.index at
    low (omega (arith, size.most)) in
    let len : length (ids elems) ≡ length elems = length-map elems (λ e. e.id) in
    elim (cases_eq (length elems) s) [
      | inl all ↦ next_none (used_ahead mem l seen) most _ _ (omega (arith, gap))
          ∙ ap Ok (sym (slice_get_past (ids elems) s (omega (arith, len))))
      | inr ne ↦
          let lt : s < length elems = omega (arith, ne) in
          let place : used_place l q seen ≡ used_place l q s = ap (λ r. l.used.offset + 4 + 8 * r)
          (ap (λ n. n % q) (sym at) ∙ place_wraps s q size.divides) in
          next_some (used_ahead mem l seen) most _ _ (omega (arith, gap)) (omega (arith, gap))
          ∙ ap (λ x. Ok (Some x)) (ap (field 4 mem l.used.page) place ∙ shows.ids s lt (omega arith)
          ∙ sym (get_or-map (λ e. e.id) elems s no_elem 0 lt))
          ∙ ap Ok (sym (slice_get-get_or (ids elems) s 0 (omega (arith, len))))
    ]

-- ---- fresh and untouched pages

-- Two zeros are the number 0.
pub index_zero : (mem : Pages) (p o : ℕ) → byte_at mem p o ≡ 0 → byte_at mem p (o + 1) ≡ 0
    → field 2 mem p o ≡ 0
unfolding field
index_zero mem p o a b = omega (arith, a, b)

-- Where the rings' pages are as before, they show what they showed.
pub entries_apart : (old new : Pages) (l : Layout) (q : ℕ) (heads : List ℕ) (elems : List UsedElem)
    → IsSize q → page_at new l.avail.page ≡ page_at old l.avail.page → page_at new l.used.page
    ≡ page_at old l.used.page → ShowsEntries old l q heads elems → ShowsEntries new l q heads elems
entries_apart old new l q heads elems size a u shows =
    search (arith, avail_kept, same_page, used_kept)
