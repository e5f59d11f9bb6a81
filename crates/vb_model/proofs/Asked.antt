-- An offered page is handed out again only after it was requested back.
use Rattle.std.proofs.Common.{◌≡◌, ℕ, zero, suc, ◌+◌, ◌-◌, ◌<◌, ◌≤◌, Bool, true, false, List, []}
use Rattle.std.proofs.Common.{◌∷◌, refl, sym, ap, subst, ◌∙◌, arith, ◌≢◌}
use Rattle.std.specs.Prelude.{Option, Some, None, slice_get}
use Rattle.vb_model.proofs.{Courses.{EntryAt, Positions, some_own}, Offered.{Offered, is_offered}}
use Rattle.vb_model.proofs.Offered.{Only, only_done, Reaping, PageMove, Stays, Strands, Gives}
use Rattle.vb_model.{proofs.Offered.{Lends, TakesBack, Frees, honest_moves}, specs.Courses.Course}
use Rattle.vb_model.specs.Courses.{guest_after, BringsTo, ReapedAt, DeflatePostedAt, WasAskedBack}
use Rattle.vb_model.specs.{Guest.{Guest, tells_host}, GuestRun.{Entry, Called, Looked, OwnStep}}
use Rattle.vb_virtio.specs.Queues.{Kind, Inflating, Deflating}
use Rattle.vb_model.specs.Pages.{place_of}
use Rattle.vb_model.specs.Requests.{place_posted}
use Rattle.vb_model.specs.declared.calls.{Actor.Actor, Call.Call, Claim.Claim}
use Rattle.vb_model.specs.declared.places.Place.{Place, TheVariants.{Taking, Stranded}}
use Rattle.vb_model.specs.declared.replies.Reply.{Reply}
use Rattle.vb_model.specs.declared.places.Place.TheVariants.{Free as FreePlace, Used, Giving, Lent}

-- where there is a state, there are all before it
there_below : {A : Type 0} (xs : List A) (i j : ℕ) (x : A) → i ≤ j → slice_get xs j ≡ Some x
    → (y : A) × (slice_get xs i ≡ Some y)
there_below [] i j x le at = absurd cc
there_below (first ∷ xs) zero j x le at = (first, refl)
there_below (first ∷ xs) (suc i) zero x le at = absurd (omega (arith, le))
there_below (first ∷ xs) (suc i) (suc j) x le at = there_below xs i j x (omega (arith, le)) at

-- offered, or stranded by a reset since
abbrev pub is_away : Place → Bool
is_away Giving = true
is_away Stranded = true
is_away _ = false

-- a page that isn't back yet is offered
pub away_offered : (place : Place) → is_away place ≡ true → is_offered place ≡ true
away_offered place e = grind arith

-- what event m did to a page that was offered
data Turn (c : Course) (page m : ℕ) (g new : Guest) : Type 0 where
  Kept : place_of new.places page ≡ place_of g.places page → ((head : ℕ) (pages : List ℕ)
      → Only page head pages g.deflate → Only page head pages new.deflate) → Turn c page m g new
  Gone : is_away (place_of new.places page) ≡ true → Turn c page m g new
  Given : place_of new.places page ≡ Lent → ReapedAt Inflating c page m → Turn c page m g new
  Wanted : place_of g.places page ≡ Lent → place_of new.places page
      ≡ place_posted (tells_host g) Deflating → (posts : DeflatePostedAt c page m) → posts.before
      ≡ g → Only page posts.request.head posts.request.pages new.deflate → Turn c page m g new
  Returned : place_of g.places page ≡ Taking → place_of new.places page ≡ FreePlace
      → (reaps : ReapedAt Deflating c page m)
      → ((head : ℕ) (pages : List ℕ) → Only page head pages g.deflate
      → (reaps.request.head ≡ head) × (reaps.request.pages ≡ pages)) → Turn c page m g new

abbrev reaped_at : (kind : Kind) (c : Course) (page m : ℕ) (g : Guest) (actor : Actor) (call : Call)
    (claims : List Claim) (reply : Reply) → guest_after c m ≡ Some g
    → slice_get c.entries m ≡ Some (Some (Called actor call claims reply))
    → Reaping kind page g call reply → ReapedAt kind c page m
reaped_at kind c page m g actor call claims reply here at r = grind (arith)

call_turns : (c : Course) (page m : ℕ) (g new : Guest) (actor : Actor) (call : Call)
    (claims : List Claim) (reply : Reply) → guest_after c m ≡ Some g → guest_after c (m + 1)
    ≡ Some new → slice_get c.entries m ≡ Some (Some (Called actor call claims reply))
    → PageMove page g new call reply → Turn c page m g new
call_turns c page m g new actor call claims reply here next at (Stays e keeps) = Kept e keeps
call_turns c page m g new actor call claims reply here next at (Strands e) = Gone (ap is_away e)
call_turns c page m g new actor call claims reply here next at (Gives e) = Gone (ap is_away e)
call_turns c page m g new actor call claims reply here next at (Lends e r) =
    Given e (reaped_at Inflating c page m g actor call claims reply here at r)
call_turns c page m g new actor call claims reply here next at (TakesBack was e a) =
    Wanted was e (record {
      before = g;
      after = new;
      call = call;
      request = a.request;
      called = (
        actor,
        claims,
        at ∙ ap (λ (x : Reply). some_own (Some (Called actor call claims x))) a.reply_is,
      );
      asks = a.asks;
      is_there = here;
      follows = next;
      posted = a.posted;
      named = a.named;
    }) refl a.only
call_turns c page m g new actor call claims reply here next at (Frees was e r) =
    Returned was e (reaped_at Deflating c page m g actor call claims reply here at r)
    (λ head pages o. only_done page head pages r.request r.others g.deflate r.done r.named o)

-- one entry
turns : (c : Course) (page m : ℕ) (g new : Guest) → Positions c → guest_after c m ≡ Some g
    → guest_after c (m + 1) ≡ Some new → Offered page g → Turn c page m g new
turns c page m g new p here next offered = by s.own s.own_is s.step where
  s : EntryAt c.entries m g new
  s = p.step m g new here next

  same : new ≡ g → Turn c page m g new
  same e = Kept (ap (λ (x : Guest). place_of x.places page) e)
      (λ head pages o. subst (λ (x : Guest). Only page head pages x.deflate) (sym e) o)

  by : (own : Option Entry) → slice_get c.entries m ≡ Some own → OwnStep g own new
      → Turn c page m g new
  by None at s = same s
  by (Some (Looked floor answer)) at s = same s.1
  by (Some (Called actor call claims reply)) at s = call_turns c page m g new actor call claims
      reply here next at (honest_moves call page g claims reply new (p.fit m g here).consistent s.1
      (p.fit (m + 1) new next).honest offered)

-- where the page is in state m, and what happened since event i offered it
data Since (c : Course) (page i m : ℕ) : Type 0 where
  Away : (g : Guest) → guest_after c m ≡ Some g → is_away (place_of g.places page) ≡ true
      → Since c page i m
  AtHost : (g : Guest) → guest_after c m ≡ Some g → place_of g.places page ≡ Lent
      → (lent : ℕ) → i < lent → lent < m → ReapedAt Inflating c page lent → Since c page i m
  OnTheWay : (g : Guest) → guest_after c m ≡ Some g → place_of g.places page ≡ Taking
      → (lent asked : ℕ) → i < lent → lent < asked → asked < m → ReapedAt Inflating c page lent
      → (posts : DeflatePostedAt c page asked)
      → Only page posts.request.head posts.request.pages g.deflate → Since c page i m
  CameBack : WasAskedBack c page i m → Since c page i m

-- a later event comes after all that happened
longer : (c : Course) (page i m : ℕ) → WasAskedBack c page i m → WasAskedBack c page i (m + 1)
longer c page i m b = record {
  lent = b.lent;
  asked = b.asked;
  since = b.since;
  later = b.later;
  before = omega (arith, b.before);
  inflate = b.inflate;
  deflate = b.deflate;
  told = λ t. let r = b.told t in (r.0, r.1, omega (arith, r.2), r.3, r.4, r.5);
}

-- from one state to the next
away_turns : (c : Course) (page i m : ℕ) (g new : Guest) → i < m → guest_after c (m + 1) ≡ Some new
    → is_away (place_of g.places page) ≡ true → Turn c page m g new → Since c page i (m + 1)
away_turns c page i m g new lt next at (Kept e keeps) = Away new next (ap is_away e ∙ at)
away_turns c page i m g new lt next at (Gone e) = Away new next e
away_turns c page i m g new lt next at (Given e reaps) = AtHost new next e m lt (omega arith) reaps
away_turns c page i m g new lt next at (Wanted was e posts q only) = absurd cc
away_turns c page i m g new lt next at (Returned was e reaps same) = absurd cc

host_turns : (c : Course) (page i m : ℕ) (g new : Guest) → i < m
    → guest_after c (m + 1) ≡ Some new → place_of g.places page ≡ Lent → (lent : ℕ) → i < lent
    → lent < m → ReapedAt Inflating c page lent → Turn c page m g new → Since c page i (m + 1)
host_turns c page i m g new lt next at lent a b reaped (Kept e keeps) =
    AtHost new next (e ∙ at) lent a (omega (arith, b)) reaped
host_turns c page i m g new lt next at lent a b reaped (Gone e) = Away new next e
host_turns c page i m g new lt next at lent a b reaped (Given e reaps) =
    AtHost new next e m lt (omega arith) reaps
host_turns c page i m g new lt next at lent a b reaped (Wanted was e posts q only) =
    cases (tells_host g) refl
  where
    cases : (told : Bool) → tells_host g ≡ told → Since c page i (m + 1)
    cases true u = OnTheWay new next
        (e ∙ ap (λ (v : Bool). place_posted v Deflating) u) lent m a b (omega arith) reaped posts only
    cases false u = CameBack (record {
      lent = lent;
      asked = m;
      since = a;
      later = b;
      before = omega arith;
      inflate = reaped;
      deflate = posts;
      told = λ t. absurd cc;
    })
host_turns c page i m g new lt next at lent a b reaped (Returned was e reaps same) = absurd cc

way_turns : (c : Course) (page i m : ℕ) (g new : Guest) → i < m → guest_after c (m + 1) ≡ Some new
    → place_of g.places page ≡ Taking → (lent asked : ℕ) → i < lent → lent < asked
    → asked < m → ReapedAt Inflating c page lent → (posts : DeflatePostedAt c page asked)
    → Only page posts.request.head posts.request.pages g.deflate
    → Turn c page m g new → Since c page i (m + 1)
way_turns c page i m g new lt next at lent asked a b o reaped posts only (Kept e keeps) =
    OnTheWay new next (e ∙ at) lent asked a b (omega (arith, o)) reaped posts
    (keeps posts.request.head posts.request.pages only)
way_turns c page i m g new lt next at lent asked a b o reaped posts only (Gone e) = Away new next e
way_turns c page i m g new lt next at lent asked a b o reaped posts only (Given e reaps) =
    AtHost new next e m lt (omega arith) reaps
way_turns c page i m g new lt next at lent asked a b o reaped posts only (Wanted was e other q u)
    = absurd (let bad : Lent ≡ Taking = sym was ∙ at in cc)
way_turns c page i m g new lt next at lent asked a b o reaped posts only
    (Returned was e reaps same) =
    let r = same posts.request.head posts.request.pages only in
    CameBack (record {
      lent = lent;
      asked = asked;
      since = a;
      later = b;
      before = omega (arith, o);
      inflate = reaped;
      deflate = posts;
      told = λ t. (m, o, omega arith, reaps, r.0, r.1);
    })

since_step : (c : Course) (page i m : ℕ) (new : Guest) → Positions c → i < m
    → guest_after c (m + 1) ≡ Some new → Since c page i m → Since c page i (m + 1)
since_step c page i m new p lt next (CameBack b) = CameBack (longer c page i m b)
since_step c page i m new p lt next (Away g here at) = search (
  arith,
  away_turns c page i m g new lt next,
  turns c page m g new p here next (away_offered (place_of g.places page) at),
)
since_step c page i m new p lt next (AtHost g here at lent a b reaped) = host_turns c
    page i m g new lt next at lent a b reaped (turns c page m g new p here next (ap is_offered at))
since_step c page i m new p lt next (OnTheWay g here at lent asked a b o reaped posts only) =
    way_turns c page i m g new lt next at lent asked a b o reaped posts only
    (turns c page m g new p here next (ap is_offered at))

since_until : (c : Course) (page i k : ℕ) (last : Guest) → Positions c → guest_after c (k + 1)
    ≡ Some last → BringsTo c page Giving i → (d m : ℕ) → m ≡ i + 1 + d → m ≤ k → Since c page i m
since_until c page i k last p end giving zero m e hi = let q : i + 1 ≡ m = omega arith in
    Away giving.1 (subst (λ (x : ℕ). guest_after c x ≡ Some giving.1) q giving.3)
    (ap is_away giving.5)
since_until c page i k last p end giving (suc d) m e hi =
    let q : (i + 1 + d) + 1 ≡ m = omega arith in
    let new = there_below (c.first ∷ c.after) (i + 1 + d + 1) (k + 1) last (omega (arith, e, hi)) end in
    subst (λ (x : ℕ). Since c page i x) q
    (since_step c page i (i + 1 + d) new.0 p (omega arith) new.1
    (since_until c page i k last p end giving d (i + 1 + d) refl (omega arith)))

-- no turn hands an offered page out
never_used : (c : Course) (page m : ℕ) (g new : Guest) → Offered page g → Turn c page m g new
    → place_of new.places page ≢ Used
never_used c page m g new offered h6 used = grind arith

pub told_first : (c : Course) → Positions c → (page i k : ℕ) → i < k → BringsTo c page Giving i
    → BringsTo c page Used k → WasAskedBack c page i k
told_first c p page i k lt giving used =
    cases (since_until c page i k used.1 p used.3 giving (k - (i + 1)) k (omega arith) (omega arith))
  where
    refused : (g : Guest) → guest_after c k ≡ Some g → Offered page g → WasAskedBack c page i k
    refused g here offered = absurd (never_used c page k g used.1 offered
        (turns c page k g used.1 p here used.3 offered) used.5)

    cases : Since c page i k → WasAskedBack c page i k
    cases (CameBack b) = b
    cases (Away g here at) = refused g here (away_offered (place_of g.places page) at)
    cases (AtHost g here at lent a b reaped) = refused g here (ap is_offered at)
    cases (OnTheWay g here at lent asked a b o reaped posts only) =
        refused g here (ap is_offered at)
