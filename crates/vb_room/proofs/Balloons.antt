-- How many pages count as ballooned after each call.
use Rattle.std.proofs.Common.{Bool, List, [], ap, arith, cond, false, inl, inr, length, refl, replicate, subst, suc, sym, true, zero, ℕ, ◌+◌, ◌∙◌, ◌∷◌, ◌<◌, ◌≤◌, ◌≡◌}
use Rattle.std.proofs.lemmas.Bool.{eqb-true}
use Rattle.std.specs.Prelude.{None, Some, count_by, not, slice_get, ◌==◌, ◌&&◌, ◌||◌}
use Rattle.vb_model.proofs.Cases.{match_cases}
use Rattle.vb_model.proofs.Counts.{inside}
use Rattle.vb_virtio.proofs.Tables.{count_by-cons}
use Rattle.vb_virtio.specs.Features.{must_tell_host}
use Rattle.vb_virtio.specs.Queues.{Deflating, Inflating, Kind, Reporting_free, Request}
use Rattle.vb_virtio.specs.Tests.{each_from, is_in, one_if}
use Rattle.vb_model.specs.Device.{TakesBuffer, TakesRequest, ReturnsBuffer, Works, settled, used, visited, next_page}
use Rattle.vb_model.specs.Driver.{Fills, Reaps}
use Rattle.vb_model.specs.Guest.{Guest, ballooned_count, is_ballooned, tells_host, with_requests}
use Rattle.vb_model.specs.Requests.{BufferDone, BufferPosted, BufferTaken, Requests}
use Rattle.vb_model.specs.Requests.{StatisticsBuffer}
use Rattle.vb_model.specs.declared.calls.Call.{Call}
use Rattle.vb_model.specs.declared.replies.Reply.{Reply}
use Rattle.vb_room.specs.Counts.{CountsSo, pages_of_request}
use Rattle.vb_room.specs.Tie.{counted}

-- ---- flags that are set or cleared at pages

inside_cons : (n first x : ℕ) (xs : List ℕ) → inside first n (x ∷ xs) ≤ inside first n (x ∷ []) + inside first n xs
inside_cons zero first x xs = omega arith
inside_cons (suc n) first x xs = omega (arith, here (x == first) (is_in first xs), inside_cons n (suc first) x xs) where
  here : (a b : Bool) → one_if (a || b) ≤ one_if (a || false) + one_if b
  here true b = omega arith
  here false b = omega arith

inside_past : (n first x : ℕ) → x < first → inside first n (x ∷ []) ≡ 0
inside_past zero first x l = refl
inside_past (suc n) first x l = grind (arith, inside_past n (suc first) x (omega arith))

inside_one : (n first x : ℕ) → inside first n (x ∷ []) ≤ 1
inside_one zero first x = omega arith
inside_one (suc n) first x = step (x == first) refl (inside_one n (suc first) x) where
  step : (v : Bool) → (x == first) ≡ v → inside (suc first) n (x ∷ []) ≤ 1 → one_if (v || false) + inside (suc first) n (x ∷ []) ≤ 1
  step true e ih = omega (arith, inside_past n (suc first) x (let same : x ≡ first = eqb-true x first e in omega (arith, same)))
  step false e ih = omega (arith, ih)

inside_none : (n first : ℕ) → inside first n [] ≡ 0
inside_none zero first = refl
inside_none (suc n) first = omega (arith, inside_none n (suc first))

pub inside_few : (n first : ℕ) (xs : List ℕ) → inside first n xs ≤ length xs
inside_few n first [] = omega (arith, inside_none n first)
inside_few n first (x ∷ xs) = omega (arith, inside_cons n first x xs, inside_one n first x, inside_few n first xs)

abbrev set_from : ℕ → List ℕ → Bool → List Bool → List Bool
set_from first pages flag flags = each_from first (λ page old. cond (is_in page pages) flag old) flags

pub cleared : (pages : List ℕ) (first : ℕ) (flags : List Bool)
    → count_by (λ b. b) flags ≤ count_by (λ b. b) (set_from first pages false flags) + inside first (length flags) pages
cleared pages first [] = omega arith
cleared pages first (b ∷ flags) = omega (
  arith,
  here (is_in first pages) b,
  cleared pages (suc first) flags,
  count_by-cons {A = Bool} (λ x. x) b flags,
  count_by-cons {A = Bool} (λ x. x) (cond (is_in first pages) false b) (set_from (suc first) pages false flags),
) where
  here : (v b : Bool) → one_if b ≤ one_if (cond v false b) + one_if v
  here true true = omega arith
  here true false = omega arith
  here false b = omega arith

cleared_less : (pages : List ℕ) (first : ℕ) (flags : List Bool)
    → count_by (λ b. b) (set_from first pages false flags) ≤ count_by (λ b. b) flags
cleared_less pages first [] = omega arith
cleared_less pages first (b ∷ flags) = omega (
  arith,
  here (is_in first pages) b,
  cleared_less pages (suc first) flags,
  count_by-cons {A = Bool} (λ x. x) b flags,
  count_by-cons {A = Bool} (λ x. x) (cond (is_in first pages) false b) (set_from (suc first) pages false flags),
) where
  here : (v b : Bool) → one_if (cond v false b) ≤ one_if b
  here true b = omega arith
  here false b = omega arith

pub set_more : (pages : List ℕ) (first : ℕ) (flags : List Bool)
    → count_by (λ b. b) (set_from first pages true flags) ≤ count_by (λ b. b) flags + inside first (length flags) pages
set_more pages first [] = omega arith
set_more pages first (b ∷ flags) = omega (
  arith,
  here (is_in first pages) b,
  set_more pages (suc first) flags,
  count_by-cons {A = Bool} (λ x. x) b flags,
  count_by-cons {A = Bool} (λ x. x) (cond (is_in first pages) true b) (set_from (suc first) pages true flags),
) where
  here : (v b : Bool) → one_if (cond v true b) ≤ one_if b + one_if v
  here true b = omega arith
  here false b = omega arith

pub set_no_less : (pages : List ℕ) (first : ℕ) (flags : List Bool)
    → count_by (λ b. b) flags ≤ count_by (λ b. b) (set_from first pages true flags)
set_no_less pages first [] = omega arith
set_no_less pages first (b ∷ flags) = omega (
  arith,
  here (is_in first pages) b,
  set_no_less pages (suc first) flags,
  count_by-cons {A = Bool} (λ x. x) b flags,
  count_by-cons {A = Bool} (λ x. x) (cond (is_in first pages) true b) (set_from (suc first) pages true flags),
) where
  here : (v b : Bool) → one_if b ≤ one_if (cond v true b)
  here true true = omega arith
  here true false = omega arith
  here false b = omega arith

pub no_flag : (flags : List Bool) → ((page : ℕ) → is_ballooned flags page ≡ false) → count_by (λ b. b) flags ≡ 0
no_flag [] h = refl
no_flag (b ∷ flags) h = omega (arith, count_by-cons {A = Bool} (λ x. x) b flags, ap one_if (h zero), no_flag flags (λ page. h (suc page)))

pub no_flags : (n : ℕ) → count_by (λ b. b) (replicate n false) ≡ 0
no_flags zero = refl
no_flags (suc n) = no_flags n

-- ---- what counts, of its parts

abbrev count_of : Bool → ℕ → List Bool → ℕ
count_of rogue features flags = cond (not rogue && must_tell_host features) (count_by (λ b. b) flags) 0

-- no flag, no count; a rogue guest has none either
few : (b : Bool) (k : ℕ) → cond b k 0 ≤ k
few true k = omega arith
few false k = omega arith

pub counted_few : (g : Guest) → counted g ≤ ballooned_count g
counted_few g = few (not g.rogue && tells_host g) (ballooned_count g)

pub counted_rogue : (g : Guest) → g.rogue ≡ true → counted g ≡ 0
counted_rogue g e = ap (λ (r : Bool). count_of r g.features g.ballooned) e

-- by as many more or less as the flags are
pub by_flags : (b : Bool) (k l most : ℕ) → l ≤ k + most → cond b l 0 ≤ cond b k 0 + most
by_flags true k l most h = h
by_flags false k l most h = omega arith

-- what counts by is the same
pub record SameBalloon (g new : Guest) : Type 0 where
  pub flags : new.ballooned ≡ g.ballooned
  pub features : new.features ≡ g.features
  pub rogue : new.rogue ≡ g.rogue

pub same_count : (g new : Guest) → SameBalloon g new → counted new ≡ counted g
same_count g new s = ap (λ (r : Bool). count_of r new.features new.ballooned) s.rogue
    ∙ (ap (λ (f : ℕ). count_of g.rogue f new.ballooned) s.features
    ∙ ap (λ (flags : List Bool). count_of g.rogue g.features flags) s.flags)

pub same_by : (g new x : Guest) → new ≡ x → SameBalloon g x → SameBalloon g new
same_by g new x e s = subst (SameBalloon g) (sym e) s

pub same_so : (call : Call) (g new : Guest) → SameBalloon g new → CountsSo call g new
same_so call g new s = let e = same_count g new s in record { least = omega (arith, e); most = omega (arith, e) }

pub itself : (g : Guest) → SameBalloon g g
itself g = record { flags = refl; features = refl; rogue = refl }

pub with_same : (kind : Kind) (rs : Requests) (g : Guest) → SameBalloon g (with_requests kind rs g)
with_same Inflating rs g = record { flags = refl; features = refl; rogue = refl }
with_same Deflating rs g = record { flags = refl; features = refl; rogue = refl }
with_same Reporting_free rs g = record { flags = refl; features = refl; rogue = refl }

-- the same where other fields of the guest with these requests change
pub beside_requests : (kind : Kind) (rs : Requests) (g x : Guest) → SameBalloon (with_requests kind rs g) x → SameBalloon g x
beside_requests kind rs g x s = let w = with_same kind rs g in
    record { flags = s.flags ∙ w.flags; features = s.features ∙ w.features; rogue = s.rogue ∙ w.rogue }

-- ---- parts of calls

pub fills_same : (buffer : StatisticsBuffer) (g : Guest) (reply : Reply) (new : Guest) → Fills buffer g reply new → SameBalloon g new
fills_same (BufferDone old) g reply new s = same_by g new _ s.1 (record { flags = refl; features = refl; rogue = refl })
fills_same _ g reply new s = same_by g new _ s.1 (itself g)

pub takes_buffer_same : (buffer : StatisticsBuffer) (g : Guest) (reply : Reply) (new : Guest) → TakesBuffer buffer g reply new → SameBalloon g new
takes_buffer_same (BufferPosted figures) g reply new s = same_by g new _ s.1 (record { flags = refl; features = refl; rogue = refl })
takes_buffer_same _ g reply new s = same_by g new _ s.1 (itself g)

pub returns_same : (buffer : StatisticsBuffer) (g : Guest) (reply : Reply) (new : Guest) → ReturnsBuffer buffer g reply new → SameBalloon g new
returns_same (BufferTaken figures) g reply new s = same_by g new _ s.1 (record { flags = refl; features = refl; rogue = refl })
returns_same _ g reply new s = absurd s

pub reaps_same : (kind : Kind) (done : List Request) (g : Guest) (reply : Reply) (new : Guest) → Reaps kind done g reply new → SameBalloon g new
reaps_same kind [] g reply new s = same_by g new _ s.1 (itself g)
reaps_same kind (r ∷ rest) g reply new s = same_by g new _ s.1
    (beside_requests kind _ g _ (record { flags = refl; features = refl; rogue = refl }))

pub takes_same : (kind : Kind) (posted : List Request) (g : Guest) (reply : Reply) (new : Guest) → TakesRequest kind posted g reply new → SameBalloon g new
takes_same kind [] g reply new s = same_by g new _ s.1 (itself g)
takes_same kind (r ∷ rest) g reply new s = same_by g new _ s.1 (with_same kind _ g)

visited_same : (kind : Kind) (page : ℕ) (g : Guest) → SameBalloon g (visited kind page g)
visited_same kind page g = beside_requests kind _ g _ (record { flags = refl; features = refl; rogue = refl })

pub works_same : (g : Guest) (reply : Reply) (new : Guest) → Works g reply new → SameBalloon g new
works_same g reply new s = elim (match_cases (cond g.config.paced (next_page g.inflate.taken) None) _ _ s) [
  | inr v ↦ same_by g new _ v.2.1 (visited_same Inflating v.0 g)
  | inl m ↦ elim (match_cases (cond g.config.paced (next_page g.report.taken) None) _ _ m.1) [
    | inr v ↦ same_by g new _ v.2.1 (visited_same Reporting_free v.0 g)
    | inl i ↦ same_by g new _ i.1.1 (itself g)
  ]
]

-- ---- a finish

pub clears : (r : Request) (i : ℕ) (g new : Guest) → slice_get g.deflate.taken i ≡ Some r
    → new ≡ settled Deflating r.pages (used Deflating i r g)
    → (counted g ≤ counted new + pages_of_request g.deflate.taken i) × (counted new ≤ counted g)
clears r i g new is e = rw (is, e) (
  by_flags (not g.rogue && tells_host g) _ _ _ (omega (arith, cleared r.pages 0 g.ballooned, inside_few (length g.ballooned) 0 r.pages)),
  less (not g.rogue && tells_host g) _ _ (cleared_less r.pages 0 g.ballooned),
) where
  less : (b : Bool) (k l : ℕ) → k ≤ l → cond b k 0 ≤ cond b l 0
  less true k l h = h
  less false k l h = omega arith
