-- A guest that tells the host takes the steps of the rules that speak of no other.
use Rattle.std.proofs.Common.{List, [], ap, arith, get_or, length, refl, suc, sym, true, ℕ, ◌++◌}
use Rattle.std.{proofs.Common.{◌+◌, ◌<◌, ◌∙◌, ◌∷◌, ◌≡◌}, specs.Prelude.{MatchOption, Option}}
use Rattle.std.specs.Prelude.{count_by, ◌↔◌}
use Rattle.vb_virtio.proofs.Distinct.{distinct_once}
use Rattle.vb_virtio.proofs.Tables.{count_by-cons}
use Rattle.vb_virtio.specs.FirstRefusal.{first_refusal}
use Rattle.vb_virtio.specs.Queues.{Deflating, Inflating, Kind, Reporting_free, Request}
use Rattle.vb_virtio.specs.Tests.{one_if}
use Rattle.vb_virtio.specs.declared.refusals.Refusal.{Refusal}
use Rattle.vb_model.proofs.Counts.{inside, inside-all}
use Rattle.vb_model.proofs.{GuestSteps.{below_end, kept_by_reap}, OrderlySteps.kept_reap}
use Rattle.vb_model.proofs.{PageSteps.{naming-cons, taking_named}, Performed.HonestCase}
use Rattle.vb_model.proofs.Performed.{Performed, honest_case, honest_step, performed, performs}
use Rattle.vb_model.specs.Consistent.{IsConsistent}
use Rattle.vb_model.specs.Driver.{Reaps}
use Rattle.vb_model.specs.Driver.{reaped}
use Rattle.vb_model.specs.Guest.{Guest, requests}
use Rattle.vb_model.specs.{Guest.tells_host, Orderly.{AllRequestsSound, IsOrderly}, Pages.is_lent}
use Rattle.vb_model.specs.Pages.{is_taking, place_of}
use Rattle.vb_model.specs.Refusals.{refusal_of}
use Rattle.vb_model.specs.Requests.{all_requests}
use Rattle.vb_model.specs.{Requests.{given_away, names, naming, pages_named}, Step.HonestStep}
use Rattle.vb_model.specs.Telling.{ToldPerforms, ToldReaps, ToldStep, is_lent_or_taking}
use Rattle.vb_model.specs.Telling.{told_causes, told_reaped}
use Rattle.vb_model.specs.declared.calls.{Call.{Call, TheVariants.{Inflate, Sweep}}, Claim.Claim}
use Rattle.vb_model.specs.declared.places.Place.{Place, TheVariants.Reserved}
use Rattle.vb_model.specs.declared.replies.Reply.{Reply}

-- ---- as many pages are taking as deflate requests name

both_counts : (xs : List Place)
    → count_by is_lent_or_taking xs ≡ count_by is_lent xs + count_by is_taking xs
both_counts [] = refl
both_counts (x ∷ xs) = grind (
  arith,
  both_counts xs,
  count_by-cons is_lent_or_taking x xs,
  count_by-cons is_lent x xs,
  count_by-cons is_taking x xs,
)

-- of n pages from the first one on, how many these requests name
abbrev within : ℕ → ℕ → List Request → ℕ
within first n [] = 0
within first n (r ∷ rs) = inside first n r.pages + within first n rs

within-none : (first : ℕ) (rs : List Request) → within first 0 rs ≡ 0
within-none first [] = refl
within-none first (r ∷ rs) = omega (arith, within-none first rs)

within-more : (first n : ℕ) (rs : List Request)
    → within first (suc n) rs ≡ naming first rs + within (suc first) n rs
within-more first n [] = omega arith
within-more first n (r ∷ rs) = omega (arith, within-more first n rs, naming-cons first r rs)

taking_within : (first : ℕ) (xs : List Place) (rs : List Request)
    → ((i : ℕ) → i < length xs → one_if (is_taking (get_or xs i Reserved)) ≡ naming (first + i) rs)
    → count_by is_taking xs ≡ within first (length xs) rs
taking_within first [] rs same = sym (within-none first rs)
taking_within first (x ∷ xs) rs same =
    let here : one_if (is_taking x) ≡ naming first rs =
    same 0 (omega arith) ∙ ap (λ (p : ℕ). naming p rs) (omega arith) in
    omega (
      arith,
      here,
      count_by-cons is_taking x xs,
      within-more first (length xs) rs,
      taking_within (suc first) xs rs (λ i l. same (suc i) (omega (arith, l))
          ∙ ap (λ (p : ℕ). naming p rs) (omega arith)),
    )

within_all : (n : ℕ) (rs : List Request) → AllRequestsSound rs
    → ((page : ℕ) → 0 < naming page rs → page < n) → within 0 n rs ≡ pages_named rs
within_all n [] sound below = refl
within_all n (r ∷ rs) sound below = omega (
  arith,
  inside-all n r.pages (distinct_once r.pages sound.0.distinct)
      (λ page k. below page (let one : one_if (names page r) ≡ 1 = ap one_if k in
      omega (arith, one, naming-cons page r rs))),
  within_all n rs sound.1 (λ page k. below page (omega (arith, k, naming-cons page r rs))),
)

all_sound : (xs ys : List Request) → AllRequestsSound xs → AllRequestsSound ys
    → AllRequestsSound (xs ++ ys)
all_sound [] ys a b = b
all_sound (x ∷ xs) ys a b = (a.0, all_sound xs ys a.1 b)

taking_is_unreserved : (place : Place) → 0 < one_if (is_taking place) → place ≡ Reserved → ⊥
taking_is_unreserved place some e = grind arith

pub told_count : (g : Guest) → IsConsistent g → IsOrderly g → tells_host g ≡ true
    → given_away g.places g.deflate ≡ count_by is_lent_or_taking g.places
told_count g c o told = let rs = all_requests g.deflate in
    let same : (page : ℕ) → naming page rs ≡ one_if (is_taking (place_of g.places page)) = λ page.
    taking_named page (tells_host g) _ _ g told (c.pages page) in
    let sound : AllRequestsSound rs =
    all_sound g.deflate.posted (g.deflate.taken ++ g.deflate.done) o.deflating.posted
    (all_sound g.deflate.taken g.deflate.done o.deflating.taken o.deflating.done) in
    omega (
      arith,
      both_counts g.places,
      taking_within 0 g.places rs (λ i l. sym (same i) ∙ ap (λ (p : ℕ). naming p rs) (omega arith)),
      within_all (length g.places) rs sound (λ page some. below_end g.places page
          (taking_is_unreserved (place_of g.places page) (omega (arith, some, same page)))),
    )

-- ---- the steps

-- a used request
same_reaped : (kind : Kind) (r : Request) (rest : List Request) (g : Guest) → IsConsistent g
    → IsOrderly g → tells_host g ≡ true → (requests kind g).done ≡ r ∷ rest
    → reaped kind r rest g ≡ told_reaped kind r rest g
same_reaped Inflating r rest g c o told e =
    grind (
      arith,
      told_count (reaped Inflating r rest g) (kept_by_reap Inflating g r rest c e) (kept_reap Inflating g r rest c o e) told,
    )
same_reaped Reporting_free r rest g c o told e =
    grind (
      arith,
      told_count (reaped Reporting_free r rest g) (kept_by_reap Reporting_free g r rest c e) (kept_reap Reporting_free g r rest c o e) told,
    )
same_reaped Deflating r rest g c o told e =
    grind (
      arith,
      told_count (reaped Deflating r rest g) (kept_by_reap Deflating g r rest c e) (kept_reap Deflating g r rest c o e) told,
    )

reaps_ways : (kind : Kind) (done : List Request) (g : Guest) (reply : Reply) (new : Guest)
    → IsConsistent g → IsOrderly g → tells_host g ≡ true → (requests kind g).done ≡ done
    → Reaps kind done g reply new ↔ ToldReaps kind done g reply new
reaps_ways kind done g reply new c o told e = grind (arith, same_reaped)

performs_ways : (g : Guest) (call : Call) (claims : List Claim) (reply : Reply) (new : Guest)
    → IsConsistent g → IsOrderly g → tells_host g ≡ true
    → Performed call g claims reply new ↔ ToldPerforms call g claims reply new
performs_ways g call claims reply new c o told = grind (arith, reaps_ways, performed, performs)

-- what it is refused for
same_refusals : (g : Guest) (call : Call) → tells_host g ≡ true
    → refusal_of g call ≡ first_refusal (told_causes g call)
same_refusals g (Inflate n) told = grind arith
same_refusals g (Sweep page) told = grind arith
same_refusals g call told = refl

ways : (o p : Option Refusal) (P Q : Type 0) (R : Refusal → Type 0) → o ≡ p → P ↔ Q
    → MatchOption o P R ↔ MatchOption p Q R
ways o p P Q R e both = grind arith

case_ways : (g : Guest) (call : Call) (claims : List Claim) (reply : Reply) (new : Guest)
    → IsConsistent g → IsOrderly g → tells_host g ≡ true
    → HonestCase g call claims reply new ↔ ToldStep g call claims reply new
case_ways g call claims reply new c o told = grind (arith, ways, same_refusals, performs_ways)

pub told_agree : (g : Guest) (call : Call) (claims : List Claim) (reply : Reply) (new : Guest)
    → IsConsistent g → IsOrderly g → tells_host g ≡ true
    → HonestStep g call claims reply new ↔ ToldStep g call claims reply new
told_agree g call claims reply new c o told = grind (arith, case_ways, honest_case, honest_step)
