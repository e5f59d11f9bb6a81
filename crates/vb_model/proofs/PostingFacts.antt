-- What posts a request and what doesn't: another head than the least that none of its kind has, a
-- page twice, another number; and what an allocation hands out.
use Rattle.std.proofs.Common.{List, [], ap, arith, false, refl, replicate, subst, sym, true, ℕ}
use Rattle.std.proofs.Common.{◌++◌, ◌∷◌, ◌≡◌}
use Rattle.vb_virtio.specs.Tests.{marked, AllDistinct}
use Rattle.vb_virtio.specs.Queues.{Deflating, Inflating, Kind, Reporting_free}
use Rattle.vb_virtio.proofs.Differ.{differ}
use Rattle.vb_model.specs.Driver.{with_block}
use Rattle.vb_model.specs.Pages.{block_at, pages_of}
use Rattle.vb_model.specs.declared.places.Place.TheVariants.{Free, Lent, Reserved, Stranded, Used}
use Rattle.vb_model.specs.Driver.{Allocates, Inflates, Posts, Reports, after_posting}
use Rattle.vb_model.specs.Requests.{IsLeastHead}
use Rattle.vb_model.{proofs.Agreeing.{least_same}, specs.Guest.{Guest, requests}}
use Rattle.vb_model.proofs.Samples.{ready, request}
use Rattle.vb_model.specs.Requests.{Requests, no_requests}
use Rattle.vb_model.specs.declared.replies.Reply.{Reply, TheVariants.{Page, Posted}}

-- ---- heads: posted, taken and used ones are gone, and the least other one is next

abbrev heads : ℕ → ℕ → ℕ → Requests
heads a b c =
    record { posted = request a [] 0 ∷ []; taken = request b [] 0 ∷ []; done = request c [] 0 ∷ [] }

no_new_head : (IsLeastHead (heads 0 2 1) 0 → ⊥) × (IsLeastHead (heads 0 2 1) 2 → ⊥)
    × (IsLeastHead (heads 0 2 1) 1 → ⊥)
no_new_head = (λ l. differ 1 0 refl l.new, λ l. differ 1 0 refl l.new, λ l. differ 1 0 refl l.new)

not_the_least : (IsLeastHead (heads 0 2 1) 4 → ⊥) × (IsLeastHead (heads 3 0 2) 4 → ⊥)
    × (IsLeastHead (heads 1 2 3) 4 → ⊥) × (IsLeastHead no_requests 1 → ⊥)
not_the_least = (
  λ l. omega (arith, l.least 3 (omega arith)),
  λ l. omega (arith, l.least 1 (omega arith)),
  λ l. omega (arith, l.least 0 (omega arith)),
  λ l. omega (arith, l.least 0 (omega arith)),
)

-- ---- no page twice, be it at the start, at the end or apart

one_page_twice : (AllDistinct (19 ∷ 19 ∷ 22 ∷ []) → ⊥) × (AllDistinct (22 ∷ 19 ∷ 19 ∷ []) → ⊥)
    × (AllDistinct (19 ∷ 22 ∷ 19 ∷ []) → ⊥) × (AllDistinct (22 ∷ 19 ∷ 23 ∷ 19 ∷ []) → ⊥)
one_page_twice = (
  λ d. (let e : false ≡ true = d.0 in cc),
  λ d. (let e : false ≡ true = d.1.0 in cc),
  λ d. (let e : false ≡ true = d.0 in cc),
  λ d. (let e : false ≡ true = d.1.0 in cc),
)

each_page_once : AllDistinct (22 ∷ 19 ∷ 23 ∷ [])
each_page_once = (refl, (refl, (refl, tt)))

-- ---- a post is answered with its head and how many pages it names, and is the last posted one

abbrev pub head_of : Reply → ℕ
head_of (Posted head count) = head
head_of reply = 0

abbrev pub count_of : Reply → ℕ
count_of (Posted head count) = count
count_of reply = 0

abbrev page_of : Reply → ℕ
page_of (Page start) = start
page_of reply = 0

another_head : (new : Guest) → (Posts Inflating (16 ∷ []) 1 ready (Posted 1 1) new → ⊥)
    × (Posts Deflating (16 ∷ []) 1 ready (Posted 1 1) new → ⊥)
    × (Posts Reporting_free (16 ∷ []) 1 ready (Posted 1 1) new → ⊥)
another_head new = (
  λ p. omega (arith, p.1.least 0 (omega (arith, ap head_of p.2))),
  λ p. omega (arith, p.1.least 0 (omega (arith, ap head_of p.2))),
  λ p. omega (arith, p.1.least 0 (omega (arith, ap head_of p.2))),
)

another_count : (new : Guest) → Posts Inflating (16 ∷ []) 1 ready (Posted 0 2) new → ⊥
another_count new p = differ 2 1 refl (ap count_of p.2)

-- a report of all 48 free pages, which are in two blocks
not_reported_so : (new : Guest) → (Reports 0 ready (Posted 1 48) new → ⊥)
    × (Reports 0 ready (Posted 0 47) new → ⊥) × (Reports 17 ready (Posted 0 48) new → ⊥)
not_reported_so new = (
  λ p. omega (arith, p.1.least 0 (omega (arith, ap head_of p.2))),
  λ p. differ 47 48 refl (ap count_of p.2),
  λ p. differ 48 32 refl (ap count_of p.2),
)

-- where a head is the least, the answer and what is left are one
pub just_posted : (kind : Kind) (pages : List ℕ) (count : ℕ) (g : Guest) (head : ℕ)
    → IsLeastHead (requests kind g) head → (reply : Reply) (new : Guest)
    → Posts kind pages count g reply new
    → (reply ≡ Posted head count) × (new ≡ after_posting kind head pages g)
just_posted kind pages count g head least reply new p =
    let e : p.0 ≡ head = least_same (requests kind g) p.0 head p.1 least in (
      subst (λ (h : ℕ). reply ≡ Posted h count) e p.2,
      subst (λ (h : ℕ). new ≡ after_posting kind h pages g) e p.3,
    )

-- ---- pages 20 and 21 are stranded, and two free pages come after them

abbrev two_stranded : Guest
two_stranded = record ready {
  places = replicate 16 Reserved ++ (Free ∷ Lent ∷ Free ∷ Free ∷ Stranded ∷ Stranded
      ∷ replicate 42 Free);
  target = 5;
  inflate = heads 0 2 1;
}

abbrev offers : List ℕ → Requests
offers pages = record (heads 0 2 1) { posted = request 0 [] 0 ∷ request 3 pages 0 ∷ [] }

others_are : (others : List ℕ) (new : Guest) (s : Inflates 4 two_stranded (Posted 3 4) new)
    → new.inflate ≡ offers (20 ∷ 21 ∷ others) → s.0 ≡ others
others_are others new s e = grind arith

-- not the same one twice, nor a stranded one once more
page_19_twice : (new : Guest) → Inflates 4 two_stranded (Posted 3 4) new
    → new.inflate ≡ offers (20 ∷ 21 ∷ 19 ∷ 19 ∷ []) → ⊥
page_19_twice new s e = let d : AllDistinct (19 ∷ 19 ∷ []) =
    subst AllDistinct (others_are (19 ∷ 19 ∷ []) new s e) s.2 in
    let t : false ≡ true = d.0 in cc

page_20_twice : (new : Guest) → Inflates 4 two_stranded (Posted 3 4) new
    → new.inflate ≡ offers (20 ∷ 21 ∷ 19 ∷ 20 ∷ []) → ⊥
page_20_twice new s e = grind (arith, others_are)

-- the block that is answered is the one that is held from then on, and nothing else is changed
just_allocated : (g new : Guest) (order start : ℕ) → Allocates order g (Page start) new
    → new ≡ record g {
      places = marked (pages_of (block_at start order)) Used g.places;
      held = with_block (block_at start order) g.held;
    }
just_allocated g new order start (other, free, answer, same) =
    let e : other ≡ start = sym (ap page_of answer) in
    subst (λ (s : ℕ). new ≡ record g {
      places = marked (pages_of (block_at s order)) Used g.places;
      held = with_block (block_at s order) g.held;
    }) e same

-- where two blocks are held, by rising start
by_start : with_block (block_at 20 1) (block_at 16 2 ∷ block_at 32 0 ∷ [])
    ≡ block_at 16 2 ∷ block_at 20 1 ∷ block_at 32 0 ∷ []
by_start = refl

-- ---- a block that is handed out starts at a multiple of its size, and is free to its end

abbrev HandsOut : ℕ → ℕ → Type 0
HandsOut start order = (new : Guest) → Allocates order two_stranded (Page start) new → ⊥

not_handed_out : HandsOut 19 1 × HandsOut 16 1 × HandsOut 16 2 × HandsOut 20 0 × HandsOut 64 0
    × HandsOut 15 0
not_handed_out = grind arith
