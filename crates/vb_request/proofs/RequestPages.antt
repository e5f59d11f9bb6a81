-- Laws of requests, for the crates above.
use Rattle.std.specs.Prelude.{◌≡◌, ℕ, zero, suc, slice_index_or, ◌<◌, ◌≤◌, Bool, true, false, not}
use Rattle.std.specs.Prelude.{◌==◌, ◌||◌, nat_le, nat_lt, IsTrue, List, [], ◌∷◌, All, length}
use Rattle.std.specs.Prelude.{filter, if◌then◌else◌, Option, Some, None, Ok, Err, refl, cond}
use Rattle.std.{proofs.Common.{rules, sym, subst, arith}, proofs.lemmas.Bool.{ltb-false, leb-false}}
use Rattle.std.proofs.lemmas.List.Elements.{All-filter}
use Rattle.vb_virtio.specs.Tests.{is_in, AllDistinct}
use Rattle.vb_ram.specs.Pages.{Pages}
use Rattle.vb_chain.specs.declared.fault.ChainFault.TheVariants.{WrongDirection, BadLength, BadPage}
use Rattle.vb_chain.{specs.declared.pieces.Piece.Piece, specs.declared.fault.ChainFault.ChainFault}
use Rattle.vb_chain.specs.declared.fault.ChainFault.TheVariants.{ReservedPage}
use Rattle.vb_request.specs.Request.{ArePages, each_once, number_fault, first_of_both}
use Rattle.vb_request.specs.Request.{first_number_fault, unless_fault, pages_of_numbers}
use Rattle.vb_request.specs.Request.{page_request}

unless_ok : (fault : Option ChainFault) (ns pages : List ℕ) → unless_fault fault ns ≡ Ok pages →
    (fault ≡ None) × (ns ≡ pages)
unless_ok None ns pages e = (refl, cc)
unless_ok (Some f) ns pages e = absurd cc

none_of_both : (a b : Option ChainFault) → first_of_both a b ≡ None → (a ≡ None) × (b ≡ None)
none_of_both None b e = (refl, e)
none_of_both (Some f) b e = absurd cc

neither : (b c : Bool) → (if b then Some BadPage else (if c then Some ReservedPage else None))
    ≡ None → (b ≡ false) × (c ≡ false)
neither b c e = search (arith)

all_cons : (P : ℕ → Type 0) (x : ℕ) (xs : List ℕ) → P x → All P xs → (k d : ℕ) →
    k < length (x ∷ xs) → P (slice_index_or (x ∷ xs) k d)
all_cons P x xs here rest zero d lt = here
all_cons P x xs here rest (suc k) d lt = rest k d (omega arith)

right_above : (reserved count n : ℕ) → number_fault reserved count n ≡ None → reserved ≤ n
right_above reserved count n e =
    ltb-false n reserved (neither (nat_le count n) (nat_lt n reserved) e).1

right_below : (reserved count n : ℕ) → number_fault reserved count n ≡ None → n < count
right_below reserved count n e =
    leb-false count n (neither (nat_le count n) (nat_lt n reserved) e).0

each_right : (reserved count : ℕ) (ns : List ℕ) → first_number_fault reserved count ns ≡ None
    → All (λ n. number_fault reserved count n ≡ None) ns
each_right reserved count [] e = λ k d lt. absurd (omega arith)
each_right reserved count (n ∷ ns) e =
    let both =
    none_of_both (number_fault reserved count n) (first_number_fault reserved count ns) e in
    all_cons (λ m. number_fault reserved count m ≡ None) n ns both.0
    (each_right reserved count ns both.1)

pub once_all : (P : ℕ → Type 0) (ns : List ℕ) → All P ns → All P (each_once ns)
once_all P [] all = λ k d lt. absurd (omega arith)
once_all P (n ∷ ns) all = all_cons P n (filter (λ m. not (m == n)) (each_once ns))
    (all 0 n (omega arith)) (All-filter (λ m. not (m == n)) P (each_once ns)
    (once_all P ns (λ k d lt. all (suc k) d (omega arith))))

true_false : true ≡ false → ⊥
true_false e = cc

filter_step : (n : ℕ) (p : ℕ → Bool) (x : ℕ) (xs : List ℕ) (c b : Bool) → (x == n) ≡ c →
    ((x == n) || is_in n xs) ≡ false → (is_in n xs ≡ false → is_in n (filter p xs) ≡ false) →
    is_in n (cond b (x ∷ filter p xs) (filter p xs)) ≡ false
filter_step n p x xs c b e h ih = grind (arith, true_false)

out_of_filter : (n : ℕ) (p : ℕ → Bool) (ns : List ℕ) → is_in n ns ≡ false →
    is_in n (filter p ns) ≡ false
out_of_filter n p [] e = refl
out_of_filter n p (x ∷ xs) e = filter_step n p x xs (x == n) (p x) refl e (out_of_filter n p xs)

but_step : (n x : ℕ) (xs : List ℕ) (b : Bool) → (x == n) ≡ b →
    is_in n (filter (λ m. not (m == n)) xs) ≡ false →
    is_in n (cond (not (x == n)) (x ∷ filter (λ m. not (m == n)) xs)
    (filter (λ m. not (m == n)) xs)) ≡ false
but_step n x xs b e ih = search (arith)

out_of_but : (n : ℕ) (ns : List ℕ) → is_in n (filter (λ m. not (m == n)) ns) ≡ false
out_of_but n [] = refl
out_of_but n (x ∷ xs) = but_step n x xs (x == n) refl (out_of_but n xs)

apart : (x : ℕ) (p : ℕ → Bool) (xs : List ℕ) (b : Bool) → is_in x xs ≡ b → IsTrue (not b) →
    IsTrue (not (is_in x (filter p xs)))
apart x p xs true e h = absurd (search rules)
apart x p xs false e h = subst (λ (v : Bool). IsTrue (not v)) (sym (out_of_filter x p xs e)) h

distinct_step : (p : ℕ → Bool) (x : ℕ) (xs : List ℕ) (b : Bool) → IsTrue (not (is_in x xs)) →
    AllDistinct (filter p xs) → AllDistinct (cond b (x ∷ filter p xs) (filter p xs))
distinct_step p x xs true h ih = (apart x p xs (is_in x xs) refl h, ih)
distinct_step p x xs false h ih = ih

distinct_filter : (p : ℕ → Bool) (ns : List ℕ) → AllDistinct ns → AllDistinct (filter p ns)
distinct_filter p [] d = tt
distinct_filter p (x ∷ xs) d = distinct_step p x xs (p x) d.0 (distinct_filter p xs d.1)

pub once_distinct : (ns : List ℕ) → AllDistinct (each_once ns)
once_distinct [] = tt
once_distinct (n ∷ ns) = grind (
  arith,
  out_of_but n (each_once ns),
  distinct_filter (λ m. not (m == n)) (each_once ns) (once_distinct ns),
  once_distinct ns,
)

-- What the numbers of a request are.
pub numbers_are_pages : (reserved count : ℕ) (ns pages : List ℕ)
    → pages_of_numbers reserved count ns ≡ Ok pages → ArePages reserved count pages
numbers_are_pages reserved count ns pages e =
    let both = unless_ok (first_number_fault reserved count ns) (each_once ns) pages e in record {
      above = subst (λ (xs : List ℕ). All (λ page. reserved ≤ page) xs) both.1 (once_all
          (λ page. reserved ≤ page) ns (λ k d lt. right_above reserved count (slice_index_or ns k d)
          (each_right reserved count ns both.0 k d lt)));
      below = subst (λ (xs : List ℕ). All (λ page. page < count) xs) both.1 (once_all
          (λ page. page < count) ns (λ k d lt. right_below reserved count (slice_index_or ns k d)
          (each_right reserved count ns both.0 k d lt)));
      distinct = subst AllDistinct both.1 (once_distinct ns);
    }

pages_step : (reserved count : ℕ) (ns pages : List ℕ) (b c : Bool) → (if b then Err WrongDirection
    else (if c then Err BadLength else pages_of_numbers reserved count ns)) ≡ Ok pages
    → ArePages reserved count pages
pages_step reserved count ns pages true c e = absurd cc
pages_step reserved count ns pages false true e = absurd cc
pages_step reserved count ns pages false false e = numbers_are_pages reserved count ns pages e

-- A request names pages of the guest that aren't reserved, each once, whatever the bytes are.
pub request_pages : (mem : Pages) (pieces : List Piece) (reserved : ℕ) (pages : List ℕ)
    → page_request mem pieces reserved ≡ Ok pages → ArePages reserved (length mem) pages
unfolding page_request
request_pages mem pieces reserved pages e = search (arith, pages_step)
