-- The requests that are out name as many pages as the driver remembers.
use Rattle.std.specs.Prelude.{◌≡◌, ℕ, zero, suc, ◌<◌, ◌≤◌, ◌==◌, false, Bool, List}
use Rattle.std.specs.Prelude.{[], ◌∷◌, ◌++◌, length, All, sum_by, slice_set, slice_index_or, refl}
use Rattle.std.proofs.{Common.{sym, ◌∙◌, ap, arith, inl, inr, get_or}, lemmas.Bool.cases_eq}
use Rattle.std.proofs.lemmas.{Bool.ne_eqb, List.{length-set, get_or-set_same, get_or-set_other}}
use Rattle.vb_virtio.specs.Tests.{one_if}
use Rattle.vb_virtio.specs.Queues.{Request}
use Rattle.std.proofs.lemmas.List.Sums.{sum_by-set, sum_by-cons}
use Rattle.vb_model.specs.Requests.{Requests, all_requests, headed, pages_named}
use Rattle.{vb_ram.specs.{Pages.Pages, Part.QueuePart}, vb_ring.specs.Entries.is_head}
use Rattle.vb_driver.specs.State.{RequestSide, AreRequests, pages_named as pages_sent}
use Rattle.vb_guest.specs.Line.{Line, IsRequest}
use Rattle.vb_guest.proofs.{Heads.headed-cons, Posting.headed_once, RingHeads.at_most_one}

abbrev count_all : List (List ℕ) → ℕ
count_all sent = sum_by (λ (pages : List ℕ). length pages) sent

nothing_sent : (sent : List (List ℕ)) → ((h : ℕ) → get_or sent h [] ≡ []) → count_all sent ≡ 0
nothing_sent [] none = refl
nothing_sent (x ∷ xs) none = let first : length x ≡ 0 = ap (λ (l : List ℕ). length l) (none 0) in
    omega (
      arith,
      first,
      sum_by-cons (λ (pages : List ℕ). length pages) x xs,
      nothing_sent xs (λ h. none (suc h)),
    )

-- its pages are remembered by its head
record IsKept (sent : List (List ℕ)) (r : Request) : Type 0 where
  few : r.head < length sent
  remembered : get_or sent r.head [] ≡ r.pages

not_again : {h : ℕ} (r : Request) (rest : List Request)
    → headed h (r ∷ rest) ≤ 1 → r.head ≡ h → headed h rest ≡ 0
not_again {h} r rest once e = grind (arith, headed-cons h r rest)

headed_some : (k : ℕ) (rs : List Request) (d : Request) → k < length rs
    → headed (slice_index_or rs k d).head rs ≡ 0 → ⊥
headed_some zero [] d lt none = absurd (omega arith)
headed_some zero (r ∷ rs) d lt none = grind (arith, headed-cons r.head r rs)
headed_some (suc k) [] d lt none = absurd (omega arith)
headed_some (suc k) (r ∷ rs) d lt none = grind (
  arith,
  headed_some k rs d
      (omega arith) (omega (arith, none, headed-cons (slice_index_or rs k d).head r rs)),
)

named_sent : (sent : List (List ℕ)) (rs : List Request)
    → ((h : ℕ) → headed h rs ≤ 1) → ((h : ℕ) → headed h rs ≡ 0 → get_or sent h [] ≡ [])
    → All (IsKept sent) rs → count_all sent ≡ pages_named rs
named_sent sent [] once none kept = nothing_sent sent (λ h. none h refl)
named_sent sent (r ∷ rest) once none kept = let first : IsKept sent r = kept 0 r (omega arith) in
    let fewer = named_sent (slice_set sent r.head []) rest
    (λ h. omega (arith, once h, headed-cons h r rest)) (λ h out. elim (cases_eq h r.head) [
      | inl same ↦ ap (λ (k : ℕ). get_or (slice_set sent r.head []) k []) same
          ∙ get_or-set_same sent r.head [] [] first.few
      | inr other ↦ get_or-set_other sent r.head h [] [] other ∙ none h
          (let no : one_if (r.head == h) ≡ 0 = ap one_if (ne_eqb r.head h (λ e. other (sym e))) in
          omega (arith, no, out, headed-cons h r rest))
    ]) (λ k d lt. still_kept k d lt (kept (suc k) d (omega (arith, lt)))) in
    omega (
      arith,
      fewer,
      sum_by-set (λ (pages : List ℕ). length pages) sent r.head [] [] first.few,
      ap (λ (l : List ℕ). length l) first.remembered,
    ) where
      still_kept : (k : ℕ) (d : Request) → k < length rest → IsKept sent (slice_index_or rest k d)
          → IsKept (slice_set sent r.head []) (slice_index_or rest k d)
      still_kept k d lt one = record {
        few = omega (arith, one.few, length-set sent r.head []);
        remembered = get_or-set_other sent r.head (slice_index_or rest k d).head [] []
            (λ e. headed_some k rest d lt (not_again r rest
            (once (slice_index_or rest k d).head) (sym e))) ∙ one.remembered;
      }

all_both : {A : Type 0} (P : A → Type 0) (xs ys : List A) → All P xs → All P ys → All P (xs ++ ys)
all_both P [] ys a b k d lt = b k d lt
all_both P (x ∷ xs) ys a b zero d lt = a zero x (omega arith)
all_both P (x ∷ xs) ys a b (suc k) d lt =
    all_both P xs ys (λ i e l. a (suc i) e (omega (arith, l))) b k d (omega (arith, lt))

out_as_often : (b : Bool) → one_if b ≡ 0 → b ≡ false
out_as_often x e = grind arith

pub line_named : (mem : Pages) (q n : ℕ) {side : RequestSide} (part : QueuePart) (rs : Requests)
    → Line mem q n side part rs → AreRequests side → pages_sent side ≡ pages_named (all_requests rs)
line_named mem q n {side} part rs line out = named_sent side.sent (all_requests rs) (λ h. omega (
  arith,
  headed_once mem q side.ring part rs h line.ring,
  at_most_one (is_head side.ring.owner h),
)) (λ h none. out.unsent h (out_as_often (is_head side.ring.owner h)
    (sym (headed_once mem q side.ring part rs h line.ring) ∙ none))) (all_both
    (IsKept side.sent) rs.posted (rs.taken ++ rs.done) (kept rs.posted line.posted) (all_both
    (IsKept side.sent) rs.taken rs.done (kept rs.taken line.taken) (kept rs.done line.done))) where
      kept : (xs : List Request) → All (IsRequest side.ring.size n side.sent) xs
          → All (IsKept side.sent) xs
      kept xs all k d lt = record {
        few = omega (arith, (all k d lt).few, line.keeps);
        remembered = (all k d lt).remembered;
      }
