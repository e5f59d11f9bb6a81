-- What a call of an honest guest leaves, whatever becomes of its places, its blocks and its
-- requests.
use Rattle.std.proofs.Common.{List, [], ap, arith, inl, inr, refl, subst, suc, sym, true, zero, ℕ}
use Rattle.std.{proofs.Common.{◌∙◌, ◌∷◌, ◌≡◌, ◌≢◌, ◌≤◌, ◌⊎◌}, specs.Prelude.{None, Option, Some}}
use Rattle.std.specs.Prelude.{slice_get}
use Rattle.std.proofs.Common.{Bool, cond, ◌++◌}
use Rattle.std.specs.Prelude.{◌||◌}
use Rattle.vb_model.proofs.{Deeds.served, Performed.Performed}
use Rattle.vb_model.specs.declared.calls.Call.TheVariants.{Serve}
use Rattle.vb_model.proofs.{Deeds.Has_served, PageSteps.{SameNamed-take, after_take, finished, same_all}}
use Rattle.vb_virtio.proofs.Tables.{is_in-append}
use Rattle.vb_virtio.specs.Memory.{zero_page}
use Rattle.vb_virtio.specs.Tests.{each_from, marked, is_in}
use Rattle.vb_virtio.specs.Status.{feature_refusal}
use Rattle.vb_virtio.specs.Queues.{Kind, Deflating, Inflating, Reporting_free, Request}
use Rattle.vb_virtio.specs.declared.refusals.Refusal.{Refusal}
use Rattle.vb_model.proofs.PageSteps.{naming-all}
use Rattle.vb_model.proofs.Serving.{serving_keeps}
use Rattle.vb_model.specs.Device.{ServesRequests}
use Rattle.vb_model.specs.Requests.{all_requests}
use Rattle.vb_model.proofs.{Cases.supplied, Deeds.{Aimed, Allocated, Buffered, Deed, Freed, Stayed}}
use Rattle.vb_model.proofs.Deeds.{Has_finished, Has_posted, Has_reaped, Has_scribbled, Has_swept}
use Rattle.vb_model.proofs.Deeds.{Has_taken, Has_written, Initialised, Visited, Was_reset, deed}
use Rattle.vb_model.{proofs.PageSteps.naming-cons, specs.Device.{settled, used, visited}}
use Rattle.vb_model.specs.{Driver.{AreClaimsFor, Written, claim_refusal, pages_needed}, Guest.Guest}
use Rattle.vb_model.specs.Guest.{is_ballooned, requests, tells_host, unbacked, with_requests}
use Rattle.vb_model.specs.Life.{Negotiates, after_reset, lacking}
use Rattle.vb_model.specs.Refusals.{refusal_of}
use Rattle.vb_model.specs.Requests.{Requests, naming}
use Rattle.vb_model.specs.Rogue.{Scribbled}
use Rattle.vb_model.specs.Step.{HonestStep}
use Rattle.vb_model.specs.declared.calls.Call.{Call}
use Rattle.vb_model.specs.declared.calls.Call.TheVariants.{Init, Scribble}
use Rattle.vb_model.specs.declared.calls.{Call.TheVariants.{SetTarget, Write}, Claim.Claim}
use Rattle.vb_model.specs.declared.places.Place.{Place}
use Rattle.vb_model.specs.declared.replies.Reply.{Reply}

-- the guest with the other one's places, blocks, requests, buffer and ballooned pages
abbrev pub shuffled : (g x : Guest) → Guest
shuffled g x = record g {
  places = x.places;
  held = x.held;
  inflate = x.inflate;
  deflate = x.deflate;
  report = x.report;
  buffer = x.buffer;
  ballooned = x.ballooned;
  actual = x.actual;
  last = x.last;
}

-- the page may lose its frame: an inflate or a report names it, or it is ballooned and the guest
-- tells the host
abbrev pub MayLose : ℕ → Guest → Type 0
MayLose page g = (1 ≤ naming page (all_requests g.inflate))
    ⊎ (1 ≤ naming page (all_requests g.report))
    ⊎ ((is_ballooned g.ballooned page ≡ true) × (tells_host g ≡ true))

-- places, blocks, requests, the buffer and ballooned pages may be others, and pages have lost their
-- frames; or another target, a reset, a start, a write or a scribble
pub data Outcome (call : Call) (g : Guest) (claims : List Claim) (reply : Reply) (new : Guest) :
    Type 0 where
  Shuffled : new ≡ shuffled g new → Outcome call g claims reply new
  Emptied : (pages : List ℕ) → ((page : ℕ) → is_in page pages ≡ true → MayLose page g)
      → new ≡ shuffled (unbacked pages g) new → Outcome call g claims reply new
  Retargeted : (n : ℕ) → call ≡ SetTarget n → new ≡ record g { target = n }
      → Outcome call g claims reply new
  Cleared : new ≡ after_reset g → Outcome call g claims reply new
  Begun : (wanted : ℕ) → call ≡ Init wanted → refusal_of g call ≡ None
      → new ≡ record (supplied (lacking g) claims g)
      { status = new.status; features = new.features; buffer = new.buffer }
      → Outcome call g claims reply new
  Put : (page offset : ℕ) (bytes : List ℕ) → call ≡ Write page offset bytes
      → refusal_of g call ≡ None → AreClaimsFor (pages_needed page bytes g) claims
      → claim_refusal claims ≡ None
      → Written page offset bytes (supplied (pages_needed page bytes g) claims g) reply new
      → Outcome call g claims reply new
  Turned : (page offset : ℕ) (bytes : List ℕ) → call ≡ Scribble page offset bytes
      → refusal_of g call ≡ None
      → Scribbled (supplied (pages_needed page bytes g) claims g) reply new
      → Outcome call g claims reply new

-- no page loses its frame
unmarked : {A : Type 0} (x : A) (k : ℕ) (xs : List A)
    → each_from k (λ page old. cond (is_in page []) x old) xs ≡ xs
unmarked x k [] = refl
unmarked {A = A} x k (y ∷ xs) = ap (λ (ys : List A). y ∷ ys) (unmarked x (suc k) xs)

none_unbacked : (g : Guest) → unbacked [] g ≡ g
none_unbacked g = ap (λ (frames : List (Option ℕ)). record g
    { frames = frames; contents = marked [] zero_page g.contents }) (unmarked None 0 g.frames)
    ∙ ap (λ (contents : List (List ℕ)). record g { contents = contents })
    (unmarked zero_page 0 g.contents)

is_in-both : (page : ℕ) (ps qs : List ℕ) → is_in page (ps ++ qs) ≡ (is_in page ps || is_in page qs)
is_in-both page [] qs = refl
is_in-both page (p ∷ ps) qs = grind (arith, is_in-both page ps qs)

both_parts : {A : Type 0} (a b : A) (xs ys : List A) → a ≡ b → xs ≡ ys → a ∷ xs ≡ b ∷ ys
both_parts a b xs ys e f = grind arith

put_twice : {A : Type 0} (x y : A) (a b c : Bool) → c ≡ (a || b)
    → cond b x (cond a x y) ≡ cond c x y
put_twice x y a b c e = grind arith

-- pages of one list, then of another one
marked_again : {A : Type 0} (x : A) (k : ℕ) (ps qs : List ℕ) (xs : List A)
    → each_from k (λ page old. cond (is_in page qs) x old)
    (each_from k (λ page old. cond (is_in page ps) x old) xs)
    ≡ each_from k (λ page old. cond (is_in page (ps ++ qs)) x old) xs
marked_again x k ps qs [] = refl
marked_again {A = A} x k ps qs (y ∷ xs) = both_parts _ _ _ _
    (put_twice x y (is_in k ps) (is_in k qs) (is_in k (ps ++ qs)) (is_in-both k ps qs))
    (marked_again x (suc k) ps qs xs)

both_unbacked : (g y : Guest) (ps qs : List ℕ)
    → shuffled (unbacked qs (unbacked ps g)) y ≡ shuffled (unbacked (ps ++ qs) g) y
both_unbacked g y ps qs = ap (λ (frames : List (Option ℕ)). shuffled (record g {
  frames = frames;
  contents = marked qs zero_page (marked ps zero_page g.contents);
}) y) (marked_again None 0 ps qs g.frames)
    ∙ ap (λ (contents : List (List ℕ)). shuffled (record g {
      frames = marked (ps ++ qs) None g.frames;
      contents = contents;
    }) y) (marked_again zero_page 0 ps qs g.contents)

shuffles : (call : Call) (g : Guest) (claims : List Claim) (reply : Reply) (new x : Guest) → new ≡ x
    → x ≡ shuffled g x → Outcome call g claims reply new
shuffles call g claims reply new x e same =
    Shuffled (subst (λ (y : Guest). y ≡ shuffled g y) (sym e) same)

empties : (call : Call) (g : Guest) (claims : List Claim) (reply : Reply) (new x : Guest)
    (pages : List ℕ) → ((page : ℕ) → is_in page pages ≡ true → MayLose page g) → new ≡ x
    → x ≡ shuffled (unbacked pages g) x → Outcome call g claims reply new
empties call g claims reply new x pages why e same =
    Emptied pages why (subst (λ (y : Guest). y ≡ shuffled (unbacked pages g) y) (sym e) same)

-- the one page of these
the_page : (page p : ℕ) → is_in page (p ∷ []) ≡ true → p ≡ page
the_page page p k = grind arith

-- a taken request is one of all
a_taken_one : (page : ℕ) (rs : Requests) → 1 ≤ naming page rs.taken
    → 1 ≤ naming page (all_requests rs)
a_taken_one page rs some = omega (arith, some, naming-all page rs)

visits : (kind : Kind) (page : ℕ) (call : Call) (g : Guest) (claims : List Claim) (reply : Reply)
    (new : Guest) → 1 ≤ naming page (requests kind g).taken → kind ≢ Deflating
    → new ≡ visited kind page g → Outcome call g claims reply new
visits Inflating page call g claims reply new named other e =
    empties call g claims reply new _ (page ∷ [])
    (λ p k. inl (a_taken_one p g.inflate
    (subst (λ (q : ℕ). 1 ≤ naming q g.inflate.taken) (the_page p page k) named))) e refl
visits Deflating page call g claims reply new named other e = absurd (other refl)
visits Reporting_free page call g claims reply new named other e =
    empties call g claims reply new _ (page ∷ [])
    (λ p k. inr (inl (a_taken_one p g.report
    (subst (λ (q : ℕ). 1 ≤ naming q g.report.taken) (the_page p page k) named)))) e refl

-- a page of a taken request
taken_names : (rs : List Request) (i : ℕ) (r : Request) (page : ℕ) → slice_get rs i ≡ Some r
    → is_in page r.pages ≡ true → 1 ≤ naming page rs
taken_names [] i r page e k = absurd cc
taken_names (x ∷ rs) zero r page e k = grind (arith, naming-cons page x rs)
taken_names (x ∷ rs) (suc i) r page e k =
    omega (arith, naming-cons page x rs, taken_names rs i r page e k)

finishes : (kind : Kind) (i : ℕ) (r : Request) (call : Call) (g : Guest) (claims : List Claim)
    (reply : Reply) (new : Guest) → slice_get (requests kind g).taken i ≡ Some r
    → new ≡ settled kind r.pages (used kind i r g) → Outcome call g claims reply new
finishes Inflating i r call g claims reply new is e = empties call g claims reply new _ r.pages
    (λ p k. inl (a_taken_one p g.inflate (taken_names g.inflate.taken i r p is k))) e refl
finishes Deflating i r call g claims reply new is e = shuffles call g claims reply new _ e refl
finishes Reporting_free i r call g claims reply new is e = empties call g claims reply new _ r.pages
    (λ p k. inr (inl (a_taken_one p g.report (taken_names g.report.taken i r p is k)))) e refl

-- ---- requests are served

-- what is served loses frames of pages that a request names
record IsServed (g x : Guest) : Type 0 where
  pages : List ℕ
  why : (page : ℕ) → is_in page pages ≡ true → MayLose page g
  is : x ≡ shuffled (unbacked pages g) x
  inflate : (page : ℕ) → naming page (all_requests x.inflate) ≡ naming page (all_requests g.inflate)
  report : (page : ℕ) → naming page (all_requests x.report) ≡ naming page (all_requests g.report)

-- the same pages lost their frames, and the same pages are named
same_served : (g x y : Guest) → IsServed g x → y ≡ shuffled x y
    → ((page : ℕ) → naming page (all_requests y.inflate) ≡ naming page (all_requests x.inflate))
    → ((page : ℕ) → naming page (all_requests y.report) ≡ naming page (all_requests x.report))
    → IsServed g y
same_served g x y h e inflates reports = record {
  pages = h.pages;
  why = h.why;
  is = e ∙ ap (λ (z : Guest). shuffled z y) h.is;
  inflate = λ page. inflates page ∙ h.inflate page;
  report = λ page. reports page ∙ h.report page;
}

-- more pages lost theirs
more_served : (g x y : Guest) (pages : List ℕ) → IsServed g x
    → ((page : ℕ) → is_in page pages ≡ true → MayLose page g) → y ≡ shuffled (unbacked pages x) y
    → ((page : ℕ) → naming page (all_requests y.inflate) ≡ naming page (all_requests x.inflate))
    → ((page : ℕ) → naming page (all_requests y.report) ≡ naming page (all_requests x.report))
    → IsServed g y
more_served g x y pages h why e inflates reports = record {
  pages = h.pages ++ pages;
  why = λ page k. elim (is_in-append page h.pages pages k) [
    | inl a ↦ h.why page a
    | inr b ↦ why page b
  ];
  is = e ∙ (ap (λ (z : Guest). shuffled (unbacked pages z) y) h.is ∙ both_unbacked g y h.pages pages);
  inflate = λ page. inflates page ∙ h.inflate page;
  report = λ page. reports page ∙ h.report page;
}

served_take : (kind : Kind) (g x : Guest) (r : Request) (rest : List Request)
    → (requests kind x).posted ≡ r ∷ rest → IsServed g x
    → IsServed g (with_requests kind (after_take r rest (requests kind x)) x)
served_take Inflating g x r rest e h = same_served g x _ h refl
    (λ page. same_all page x.inflate _ (SameNamed-take page r rest x.inflate e)) (λ page. refl)
served_take Deflating g x r rest e h = same_served g x _ h refl (λ page. refl) (λ page. refl)
served_take Reporting_free g x r rest e h = same_served g x _ h refl (λ page. refl)
    (λ page. same_all page x.report _ (SameNamed-take page r rest x.report e))

served_finish : (kind : Kind) (g x : Guest) (r : Request)
    → slice_get (requests kind x).taken 0 ≡ Some r → IsServed g x
    → IsServed g (settled kind r.pages (used kind 0 r x))
served_finish Inflating g x r e h = more_served g x _ r.pages h
    (λ page k. inl (let some = a_taken_one page x.inflate (taken_names x.inflate.taken 0 r page e k)
    in omega (arith, some, h.inflate page))) refl
    (λ page. (finished page 0 r x.inflate e).all) (λ page. refl)
served_finish Deflating g x r e h = same_served g x _ h refl (λ page. refl) (λ page. refl)
served_finish Reporting_free g x r e h = more_served g x _ r.pages h
    (λ page k. inr (inl (let some = a_taken_one page x.report
    (taken_names x.report.taken 0 r page e k) in omega (arith, some, h.report page)))) refl
    (λ page. refl) (λ page. (finished page 0 r x.report e).all)

serves : (kind : Kind) (call : Call) (g : Guest) (claims : List Claim) (reply : Reply)
    (new : Guest) → ServesRequests kind (requests kind g).posted 0 g reply new
    → Outcome call g claims reply new
serves kind call g claims reply new s =
    let none : IsServed g g = record {
      pages = [];
      why = λ page k. absurd cc;
      is = ap (λ (x : Guest). shuffled x g) (sym (none_unbacked g));
      inflate = λ page. refl;
      report = λ page. refl;
    } in
    let all = serving_keeps kind (IsServed g) (λ x r rest e h. served_take kind g x r rest e h)
    (λ x r e h. served_finish kind g x r e h) (requests kind g).posted 0 g reply new refl s none in
    Emptied all.pages all.why all.is

-- of another kind's requests, each field but for these stays
same_kind : (kind : Kind) (rs : Requests) (places : List Place) (actual : ℕ) (g : Guest)
    → record (with_requests kind rs g) { places = places; actual = actual }
    ≡ shuffled g (record (with_requests kind rs g) { places = places; actual = actual })
same_kind Inflating rs places actual g = refl
same_kind Deflating rs places actual g = refl
same_kind Reporting_free rs places actual g = refl

pub begun : (o : Option Refusal) (wanted : ℕ) (m : Guest) (reply : Reply) (new : Guest)
    → Negotiates o wanted m reply new
    → new ≡ record m { status = new.status; features = new.features; buffer = new.buffer }
begun None wanted m reply new s = grind arith
begun (Some refusal) wanted m reply new s = grind arith

outcomes : (call : Call) (g : Guest) (claims : List Claim) (reply : Reply) (new : Guest)
    → Deed call g claims reply new → Outcome call g claims reply new
outcomes call g claims reply new (Stayed why e) = shuffles call g claims reply new g e refl
outcomes call g claims reply new (Aimed n is told e) = Retargeted n is e
outcomes call g claims reply new (Was_reset told e) = Cleared e
outcomes call g claims reply new (Allocated b small free told e) =
    shuffles call g claims reply new _ e refl
outcomes call g claims reply new (Freed b held told e) = shuffles call g claims reply new _ e refl
outcomes call g claims reply new (Has_posted kind head pages p told e) =
    shuffles call g claims reply new _ e (same_kind kind _ _ _ g)
outcomes call g claims reply new (Has_reaped kind r rest is done told e) =
    shuffles call g claims reply new _ e (same_kind kind _ _ _ g)
outcomes call g claims reply new (Has_taken kind r rest posted told e) =
    shuffles call g claims reply new _ e (same_kind kind _ _ _ g)
outcomes call g claims reply new (Buffered b last has told e) =
    shuffles call g claims reply new _ e refl
outcomes call g claims reply new (Visited kind page named other told e) =
    visits kind page call g claims reply new named other e
outcomes call g claims reply new (Has_finished kind i r is told e) =
    finishes kind i r call g claims reply new is e
outcomes call g claims reply new (Has_served kind chains s told) =
    serves kind call g claims reply new s
outcomes call g claims reply new (Has_swept page flag tells told e) =
    empties call g claims reply new _ (page ∷ []) (λ p k. inr (inr
    (ap (is_ballooned g.ballooned) (sym (the_page p page k)) ∙ flag, tells))) e refl
outcomes call g claims reply new (Initialised wanted is passed n) =
    Begun wanted is passed (begun (feature_refusal wanted) wanted _ reply new n)
outcomes call g claims reply new (Has_written page offset bytes is passed are none w) =
    Put page offset bytes is passed are none w
outcomes call g claims reply new (Has_scribbled page offset bytes is passed s) =
    Turned page offset bytes is passed s

pub serve_outcome : (q : ℕ) (g : Guest) (claims : List Claim) (reply : Reply) (new : Guest)
    → Performed (Serve q) g claims reply new → Outcome (Serve q) g claims reply new
serve_outcome q g claims reply new s =
    outcomes (Serve q) g claims reply new (served q g claims reply new s)

pub outcome : (g : Guest) (call : Call) (claims : List Claim) (reply : Reply) (new : Guest)
    → HonestStep g call claims reply new → Outcome call g claims reply new
outcome g call claims reply new s =
    outcomes call g claims reply new (deed g call claims reply new s)
