-- A write to a page of the guest's own.
use Rattle.std.specs.Prelude.{◌≡◌, ◌≢◌, ℕ, ◌+◌, ◌<◌, ◌≤◌, ◌==◌, true, if◌then◌else◌, List, length}
use Rattle.std.specs.Prelude.{Option, Some, None, slice_set, slice_index_or, count_by, refl, ◌⊎◌}
use Rattle.std.proofs.{Common.{sym, ◌∙◌, ap, arith, inl, inr}, lemmas.List.ext_get_or}
use Rattle.std.proofs.lemmas.List.{length-set, get_or-set_same, get_or-set_other, Sums.sum_by-set}
use Rattle.vb_virtio.specs.Tests.{one_if, each_page}
use Rattle.vb_virtio.specs.Layout.{reserved_pages}
use Rattle.vb_virtio.specs.Memory.{overwritten}
use Rattle.vb_virtio.proofs.Tables.{length-each_from, each_page-get}
use Rattle.std.proofs.lemmas.Bool.{cases_eq, cases_lt}
use Rattle.vb_model.specs.Pages.{place_of, is_used}
use Rattle.vb_model.specs.Guest.{Guest, frame_of, backed}
use Rattle.vb_model.specs.Orderly.{IsOrderly}
use Rattle.vb_ram.specs.Pages.{Pages, frame_at, number_of, Wrote, Supplied}
use Rattle.{vb_ram.proofs.Contents.contents_wrote, vb_guest.specs.{Stands.HasPages, Steps.is_frame}}

-- a used page isn't reserved
pub used_high : (g : Guest) (page : ℕ) → IsOrderly g → is_used (place_of g.places page) ≡ true
    → page < g.config.pages → reserved_pages g.config.queue_size ≤ page
used_high g page orderly used lt = grind arith

-- ---- one entry of a table

-- the table with one entry changed
abbrev pub at_page : {A : Type 0} → ℕ → (A → A) → List A → List A
at_page page f xs = each_page (λ p old. if p == page then f old else old) xs

pub length-at_page : {A : Type 0} (page : ℕ) (f : A → A) (xs : List A)
    → length (at_page page f xs) ≡ length xs
length-at_page page f xs = length-each_from 0 (λ p old. if p == page then f old else old) xs

at_page-get : {A : Type 0} (page : ℕ) (f : A → A) (xs : List A) (i : ℕ) (d : A) → i < length xs
    → slice_index_or (at_page page f xs) i d
    ≡ (if i == page then f (slice_index_or xs i d) else slice_index_or xs i d)
at_page-get page f xs i d lt =
    each_page-get (λ p old. if p == page then f old else old) xs i d (λ past. absurd (omega arith))

pub at_page-same : {A : Type 0} {page : ℕ} (f : A → A) (xs : List A) {i : ℕ} (d : A)
    → i < length xs → i ≡ page → slice_index_or (at_page page f xs) i d ≡ f (slice_index_or xs i d)
at_page-same f xs d lt e = grind (arith, at_page-get)

pub at_page-other : {A : Type 0} (page : ℕ) (f : A → A) (xs : List A) (i : ℕ) (d : A)
    → i < length xs → i ≢ page → slice_index_or (at_page page f xs) i d ≡ slice_index_or xs i d
at_page-other page f xs i d lt ne = grind (arith, at_page-get)

-- a frame that backs a page is one entry
pub backed-set : (page frame : ℕ) (frames : List (Option ℕ))
    → page < length frames → backed page frame frames ≡ slice_set frames page (Some frame)
backed-set page frame frames lt = ext_get_or None (backed page frame frames)
    (slice_set frames page (Some frame)) (length-at_page page (λ old. Some frame) frames
    ∙ sym (length-set frames page (Some frame))) (λ i h.
    let inside : i < length frames =
    omega (arith, length-at_page page (λ (old : Option ℕ). Some frame) frames) in
    elim (cases_eq i page) [
      | inl same ↦ at_page-same (λ old. Some frame) frames None inside same
          ∙ sym (ap (λ (k : ℕ). slice_index_or (slice_set frames page (Some frame)) k None) same
          ∙ get_or-set_same frames page (Some frame) None lt)
      | inr ne ↦ at_page-other page (λ old. Some frame) frames i None inside ne
          ∙ sym (get_or-set_other frames page i (Some frame) None ne)
    ])

-- a frame enters a page that has none
pub count_backed : (n page frame : ℕ) (frames : List (Option ℕ)) → page < length frames
    → frame_of frames page ≡ None → count_by (is_frame n) (backed page frame frames)
    ≡ count_by (is_frame n) frames + one_if (frame == n)
count_backed n page frame frames lt bare = grind (arith, sum_by-set, backed-set)

-- ---- memory

pub pages_wrote : {m1 m2 : Pages} {size n page off : ℕ} {bs : List ℕ}
    {frames : List (Option ℕ)} {contents : List (List ℕ)} → reserved_pages size ≤ page → page < n
    → off + length bs ≤ 4096 → HasPages m1 size n frames contents → Wrote m1 m2 page off bs
    → HasPages m2 size n frames (at_page page (overwritten off bs) contents)
pages_wrote high lt fits has wrote =
    search (arith, length-at_page, contents_wrote, at_page-same, at_page-other)

-- the pages of memory have these frames
pub record HasFrames (mem : Pages) (count : ℕ) (frames : List (Option ℕ)) : Type 0 where
  pub length_is : length mem ≡ count
  pub framed : length frames ≡ count
  pub behind : (page : ℕ) → frame_at mem page ≡ frame_of frames page

pub frames_of : {mem : Pages} {size count : ℕ} {frames : List (Option ℕ)} {contents : List (List ℕ)}
    → HasPages mem size count frames contents → HasFrames mem count frames
frames_of has = record { length_is = has.length_is; framed = has.framed; behind = has.behind }

-- a page has a frame more
pub frames_supplied : {m1 m2 : Pages} {n page frame : ℕ} {frames : List (Option ℕ)} → page < n
    → HasFrames m1 n frames → Supplied m1 m2 page frame → HasFrames m2 n (backed page frame frames)
frames_supplied {m2} {page} {frame} {frames} lt has did = record {
  length_is = did.count ∙ has.length_is;
  framed = length-at_page page (λ (old : Option ℕ). Some frame) frames ∙ has.framed;
  behind = λ p. elim (cases_eq p page) [
    | inl same ↦ ap (λ (k : ℕ). frame_at m2 k) same ∙ did.backed
        ∙ sym (ap (λ (k : ℕ). frame_of (backed page frame frames) k) same ∙ at_page-same
        (λ (old : Option ℕ). Some frame) frames None (omega (arith, has.framed)) refl)
    | inr ne ↦ ap number_of (did.others p ne) ∙ has.behind p
        ∙ sym (past_or p ne (cases_lt p (length frames)))
  ];
} where
  past_or : (p : ℕ) → p ≢ page → (p < length frames) ⊎ (length frames ≤ p)
      → frame_of (backed page frame frames) p ≡ frame_of frames p
  past_or p ne (inl inside) =
      at_page-other page (λ (old : Option ℕ). Some frame) frames p None inside ne
  past_or p ne (inr past) = Rattle.std.proofs.lemmas.List.get_or_past (backed page frame frames)
      p None (omega (arith, length-at_page page (λ (old : Option ℕ). Some frame) frames))
      ∙ sym (Rattle.std.proofs.lemmas.List.get_or_past frames p None past)

-- a page with no frame holds zeros, and so it does with a new one
pub pages_supplied : {m1 m2 : Pages}
    {size n page frame : ℕ} {frames : List (Option ℕ)} {contents : List (List ℕ)}
    → page < n → frame_at m1 page ≡ None → HasPages m1 size n frames contents
    → Supplied m1 m2 page frame → HasPages m2 size n (backed page frame frames) contents
pages_supplied lt bare has did = grind (arith, frames_supplied lt (frames_of has) did)
