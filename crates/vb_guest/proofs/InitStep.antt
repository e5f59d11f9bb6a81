-- A guest's initialisation is a step of the definitions.
use Rattle.{std.specs.Prelude.{◌≡◌, ◌==◌, Ok}, vb_ram.specs.Pages.{Pages, frame_at, number_of}}
use Rattle.std.specs.Prelude.{◌≢◌, ℕ, ◌<◌, Bool, true, ◌-◌, ◌∷◌, Some, None, IsSome, is_none, Err}
use Rattle.std.specs.Prelude.{◌≤◌, ◌&&◌, List, [], Option, is_some, Result, filter, count_by, refl}
use Rattle.std.specs.{Prelude.{false, not, length, MatchOption}, List.{range_with_len, list_all}}
use Rattle.std.proofs.{lemmas.Bool.cases_Bool, Common.{◌∙◌, subst, arith, inl, inr}}
use Rattle.vb_virtio.proofs.Shapes.{reserved_most, start_reserved}
use Rattle.vb_virtio.specs.Layout.{reserved_pages, is_start_page, start_pages}
use Rattle.vb_virtio.specs.FirstRefusal.{◌⇒◌, first_refusal}
use Rattle.vb_virtio.specs.Features.{stats_vq}
use Rattle.vb_virtio.specs.Tests.{is_in}
use Rattle.vb_virtio.specs.Status.{feature_refusal}
use Rattle.vb_virtio.specs.declared.refusals.Refusal.TheVariants.{AlreadyUp}
use Rattle.vb_virtio.specs.declared.refusals.Refusal.{Refusal}
use Rattle.std.proofs.Common.{sym, ap}
use Rattle.vb_model.proofs.Performed.{Supplying}
use Rattle.vb_model.specs.Driver.{given, figures}
use Rattle.vb_model.specs.Guest.{all_backed}
use Rattle.vb_model.specs.Refusals.{refusal_of}
use Rattle.vb_model.specs.Guest.{Guest, frame_of}
use Rattle.vb_model.specs.Life.{lacking, accepted_before, Negotiates}
use Rattle.vb_model.specs.declared.{calls.{Call.TheVariants.Init, Claim.Claim}, replies.Reply.Reply}
use Rattle.vb_model.specs.declared.replies.Reply.TheVariants.{Ready, Refused}
use Rattle.{vb_ram.specs.{Part.Part, declared.shape.Shape.Shape}, vb_guest.specs.Lives.AllSupplied}
use Rattle.vb_frames.specs.declared.keeper.Refused.{Refused as WhyRefused}
use Rattle.vb_driver.specs.{State.DriverState, Calls.{InitsBy, InitRefused, GivesUp}}
use Rattle.{vb_driver.specs.Answers.{has_frames, init_causes}, vb_guest.proofs.Writing.frames_of}
use Rattle.vb_guest.specs.{Stands.{Honest, Ties, HasParts, HasPages, beside_sides}, Steps.StepsOver}
use Rattle.vb_guest.specs.{Stands.{IsIdle, beside_queues, beside_requests}, Supply.{Supply, Moves}}
use Rattle.vb_guest.specs.{Replies.ready_reply, Steps.{is_frame, backing_count, StepsAlone}}
use Rattle.vb_guest.specs.{Supply.supply_of, Lives.{is_bare, bare_from, why_unsupplied, SuppliesBy}}
use Rattle.vb_guest.proofs.Supplying.{all_distinct, supplied_count, supplied_other, supplied_backed}
use Rattle.vb_guest.proofs.{Supplying.{bounded, among, pages_filled, frames_filled}, Freed.large}
use Rattle.vb_guest.proofs.{Closing.{honest_performed, guest_step, still_stands}, Moving.moves_as}
use Rattle.vb_guest.proofs.{Kept.SameOwn, Starting.{first_buffer, started, stopped}}

-- ---- a device that isn't new

pub init_up : {m : Pages} {p : Part} {d : DriverState} {g : Guest} {wanted : ℕ}
    → p.status ≢ 0 → Honest m p d g → StepsAlone (Honest m p d) g (Init wanted) (Refused AlreadyUp)
init_up up stands = grind arith

new_test : (g : Guest) (wanted : ℕ) → g.status ≡ 0 → refusal_of g (Init wanted) ≡ None
new_test g wanted e = ap (λ (s : ℕ). first_refusal ((not (s == 0) ⇒ AlreadyUp) ∷ [])) e

-- a device whose status is 0 isn't initialised
new_is_idle : {m : Pages} {p : Part} {d : DriverState} {g : Guest}
    → g.status ≡ 0 → Honest m p d g → IsIdle g
new_is_idle e stands = grind arith

-- ---- the pages that lack frames

filter_both : (f h : ℕ → Bool) (xs : List ℕ) → filter f (filter h xs) ≡ filter (λ x. h x && f x) xs
filter_both f h [] = refl
filter_both f h (x ∷ xs) = grind (arith, filter_both f h xs)

pub bare_is : {size : ℕ} (m : Pages) (g : Guest) → size ≡ g.config.queue_size
    → ((p : ℕ) → frame_at m p ≡ frame_of g.frames p) → bare_from size m 0 ≡ lacking g
bare_is m g same behind = grind arith

-- once they have frames, each page of rings and buffers has one
pub now_backed : (size : ℕ) (m1 m2 : Pages) (numbers : List ℕ) (page : ℕ) → AllSupplied
    (bare_from size m1 0) numbers m1 m2 → is_start_page size page ≡ true → IsSome (frame_at m2 page)
now_backed size m1 m2 numbers page supplied start =
    elim (cases_Bool (is_in page (bare_from size m1 0))) [
      | inl there ↦ supplied_backed (bare_from size m1 0) numbers m1 m2 page supplied there
      | inr out ↦ ap (λ o. is_some (number_of o)) (supplied_other
          (bare_from size m1 0) numbers m1 m2 page supplied out) ∙ was (frame_at m1 page) refl out
    ] where
      was : (o : Option ℕ) → frame_at m1 page ≡ o → is_in page (bare_from size m1 0) ≡ false
          → is_some (frame_at m1 page) ≡ true
      was x e out = grind (arith, among, start_reserved)

-- there are at most 17 of them
few_passing : (test : ℕ → Bool) (xs : List ℕ) → length (filter test xs) ≤ length xs
few_passing test [] = omega arith
few_passing test (x ∷ xs) = grind (arith, few_passing test xs)

few_start : (size : ℕ) → length (start_pages size) ≤ 17
few_start size = grind arith

pub few_bare : (size : ℕ) (m : Pages) → length (bare_from size m 0) ≤ 17
few_bare size m = let none : ℕ → Bool = λ page. is_none (frame_at m page) in
    let same : bare_from size m 0 ≡ filter none (start_pages size) = search (arith, filter_both) in
    omega (
      arith,
      ap (λ (l : List ℕ). length l) same,
      few_passing none (start_pages size),
      few_start size,
    )

-- what holds of all that pass a test holds of those that were kept
all_kept : (keep test : ℕ → Bool) (xs : List ℕ) → ((p : ℕ) → keep p ≡ true → test p ≡ true)
    → list_all test (filter keep xs) ≡ true
all_kept keep test [] holds = refl
all_kept keep test (x ∷ xs) holds = grind (arith, all_kept keep test xs holds)

pub has_all : (size : ℕ) (m : Pages)
    → ((p : ℕ) → is_start_page size p ≡ true → IsSome (frame_at m p)) → has_frames size m ≡ true
has_all size m backed = all_kept (is_start_page size) (λ page. is_some (frame_at m page))
    (range_with_len 0 (reserved_pages size)) backed

-- ---- no frames: nothing is changed

pub known_answer : {Answers : List Bool → Claim → Type 0} {s1 s2 : Supply} {l1 l2 : List Claim}
    {pages : List ℕ} {m1 m2 : Pages} {result value : Result (Unit {0}) WhyRefused}
    → result ≡ value → SuppliesBy Answers s1 s2 l1 l2 pages m1 m2 result
    → SuppliesBy Answers s1 s2 l1 l2 pages m1 m2 value
known_answer {Answers} {s1} {s2} {l1} {l2} {pages} {m1} {m2} is did =
    subst
    (λ (r : Result (Unit {0}) WhyRefused). SuppliesBy Answers s1 s2 l1 l2 pages m1 m2 r) is did

-- the pages by the driver's own shape
pub by_size : {Answers : List Bool → Claim → Type 0} {s1 s2 : Supply} {l1 l2 : List Claim}
    {m1 m2 : Pages} {shape : Shape} (size : ℕ) {result : Result (Unit {0}) WhyRefused}
    → shape ≡ record { queue_size = size }
    → SuppliesBy Answers s1 s2 l1 l2 (bare_from shape.queue_size m1 0) m1 m2 result
    → SuppliesBy Answers s1 s2 l1 l2 (bare_from size m1 0) m1 m2 result
by_size size same did = grind arith

pub first_noted : {Answers : List Bool → Claim → Type 0} {s1 s2 : Supply}
    {l1 l2 : List Claim} {pages : List ℕ} {m1 m2 : Pages} {result : Result (Unit {0}) WhyRefused}
    → l1 ≡ [] → SuppliesBy Answers s1 s2 l1 l2 pages m1 m2 result
    → SuppliesBy Answers s1 s2 [] l2 pages m1 m2 result
first_noted {Answers} {s1} {s2} {l2} {pages} {m1} {m2} {result} none did =
    subst (λ (l : List Claim). SuppliesBy Answers s1 s2 l l2 pages m1 m2 result) none did

pub init_unsupplied : {Answers : List Bool → Claim → Type 0} (out1 out2 : List Bool)
    {l : List Claim} {m1 m2 : Pages} {p1 p2 : Part} {d : DriverState} {g : Guest} {wanted : ℕ}
    (why : WhyRefused) {refusal : Refusal} → why_unsupplied {T = Unit {0}} (Err why) ≡ Some refusal
    → p1.status ≡ 0 → SuppliesBy {T = Unit {0}} Answers
    (supply_of p1 out1) (supply_of p2 out2) [] l (bare_from d.queue_size m1 0) m1 m2 (Err why)
    → p2 ≡ record p1 { own = p2.own } → Honest m1 p1 d g → StepsOver (Honest m2 p2 d) Answers
    (supply_of p1 out1) (supply_of p2 out2) l g (Init wanted) (Refused refusal)
init_unsupplied out1 out2 why is new did part stands = search (arith, bare_is)

-- ---- the driver's answer

pub given_up : {m1 m2 : Pages} {p1 p2 : Part} {d1 d2 : DriverState} (wanted : ℕ) (why : Refusal)
    → feature_refusal wanted ≡ Some why → InitRefused why m1 m2 p1 p2 d1 d2 wanted
    → GivesUp m1 m2 p1 p2 d1 d2 (accepted_before why wanted)
given_up wanted why e did = grind arith

pub driver_causes : (size : ℕ) (m : Pages) (p : Part) (wanted : ℕ) → p.status ≡ 0
    → has_frames size m ≡ true
    → first_refusal (init_causes size m p wanted) ≡ feature_refusal wanted
driver_causes size m p wanted new backed = grind arith

-- ---- the step

-- what the driver's initialisation leaves of a guest whose pages have these frames
record Leaves (m : Pages) (p1 p : Part) (d : DriverState) (g : Guest) (frames : List (Option ℕ))
    (wanted : ℕ) (reply : Reply) : Type 0 where
  new : Guest
  same : SameOwn p1 p
  ties : Ties m p d new
  does : Negotiates (feature_refusal wanted) wanted (record g { frames = frames }) reply new
  kept : new.frames ≡ frames

initialised : {m2 m3 : Pages} {p1 p3 : Part} {d1 d2 : DriverState}
    {g : Guest} {frames : List (Option ℕ)} {wanted : ℕ} (result : Result (Unit {0}) Refusal)
    → HasPages m2 g.config.queue_size g.config.pages frames g.contents
    → ((p : ℕ) → is_start_page g.config.queue_size p ≡ true → IsSome (frame_at m2 p))
    → p1.status ≡ 0 → IsIdle g → HasParts (beside_queues p1) (beside_sides d1) (beside_requests g)
    → InitsBy m2 m3 p1 p3 d1 d2 wanted result
    → Leaves m3 p1 p3 d2 g frames wanted (ready_reply result)
initialised {m2} {p1} {d1} {g} {frames} {wanted} (Ok x) has backed new idle parts did =
    let fine : None ≡ feature_refusal wanted =
    did.refusal ∙ driver_causes d1.queue_size m2 p1 wanted new (has_all d1.queue_size m2
    (λ p start. backed p (subst (λ k. is_start_page k p ≡ true) parts.driver.queue_size start))) in
    let after : Guest = record g {
      frames = frames;
      status = 15;
      features = wanted;
      buffer = first_buffer (stats_vq wanted) (figures g);
    } in
    record {
      new = after;
      same = record {
        flag = ap (λ (p : Part). p.keeps) did.starts.part;
        numbers = ap (λ (p : Part). p.own) did.starts.part;
      };
      ties = started has backed idle did.driver parts did.starts;
      does = subst (λ (o : Option Refusal). Negotiates o wanted (record g { frames = frames }) Ready
          after) fine (refl, refl);
      kept = refl;
    }
initialised {m2} {m3} {p1} {p3} {d1} {d2} {g} {frames} {wanted}
    (Err why) has backed new idle parts did =
    let wrong : Some why ≡ feature_refusal wanted =
    did.refusal ∙ driver_causes d1.queue_size m2 p1 wanted new (has_all d1.queue_size m2
    (λ p start. backed p (subst (λ k. is_start_page k p ≡ true) parts.driver.queue_size start))) in
    let accepted = accepted_before why wanted in
    let after : Guest = record g { frames = frames; status = 131; features = accepted } in
    let given : GivesUp m2 m3 p1 p3 d1 d2 accepted = given_up wanted why (sym wrong) did.refused in
    record {
      new = after;
      same = record {
        flag = ap (λ (p : Part). p.keeps) given.part;
        numbers = ap (λ (p : Part). p.own) given.part;
      };
      ties = stopped has idle parts given;
      does = subst (λ (o : Option Refusal). Negotiates o wanted (record g { frames = frames })
          (Refused why) after) wrong (refl, refl);
      kept = refl;
    }

pub init_supplied : {Answers : List Bool → Claim → Type 0}
    (out1 out2 : List Bool) {l : List Claim} {m1 m2 m3 : Pages} {p1 p2 p3 : Part}
    {d1 d2 : DriverState} {g : Guest} {wanted features : ℕ} {result : Result (Unit {0}) Refusal}
    → features ≡ wanted → p1.status ≡ 0 → SuppliesBy {T = Unit {0}} Answers
    (supply_of p1 out1) (supply_of p2 out2) [] l (bare_from d1.queue_size m1 0) m1 m2 (Ok tt)
    → p2 ≡ record p1 { own = p2.own } → InitsBy m2 m3 p2 p3 d1 d2 features result
    → Honest m1 p1 d1 g → StepsOver (Honest m3 p3 d2) Answers
    (supply_of p1 out1) (supply_of p3 out2) l g (Init wanted) (ready_reply result)
init_supplied {Answers} out1 out2 {l} {m1} {m2} {m3}
    {p1} {p2} {p3} {d1} {d2} {g} {wanted} {features} {result} named status did part inits stands =
    let ties = stands.ties in let n = g.config.pages in let size = d1.queue_size in
    let pages = bare_from size m1 0 in let claims = did.claims in
    let frames : List (Option ℕ) = all_backed pages (given claims) g.frames in
    let new_status : g.status ≡ 0 = sym ties.parts.device.status ∙ status in
    let idle = new_is_idle new_status stands in
    let distinct = all_distinct (is_bare size m1) 0 (reserved_pages size - 0) in
    let below : (p : ℕ) → is_in p pages ≡ true → p < n =
    grind (arith, bounded, large, reserved_most) in
    let has = pages_filled pages (given claims) distinct below did.supplied.0 ties.pages in
    let same_size : size ≡ g.config.queue_size = ties.parts.driver.queue_size in
    let backed : (p : ℕ) → is_start_page g.config.queue_size p ≡ true → IsSome (frame_at m2 p) =
    λ p start. now_backed size m1 m2 (given claims) p did.supplied.0
    (subst (λ k. is_start_page k p ≡ true) (sym same_size) start) in
    let between : Part = record p1 { own = p2.own } in
    let same : InitsBy m2 m3 between p3 d1 d2 wanted result =
    subst (λ (f : ℕ). InitsBy m2 m3 between p3 d1 d2 f result) named
    (subst (λ (p : Part). InitsBy m2 m3 p p3 d1 d2 features result) part inits) in
    let left = initialised result has backed status idle ties.parts same in
    let reply = ready_reply result in
    let P : Option Refusal
    → Type 0 = λ o. MatchOption o (Negotiates (feature_refusal wanted) wanted
    (record g { frames = frames }) reply left.new) (λ r. (reply ≡ Refused r) × (left.new ≡ g)) in
    let does : Supplying pages g claims reply left.new
    (λ supplied. Negotiates (feature_refusal wanted) wanted supplied reply left.new) =
    (did.made, subst P (sym did.answer) left.does) in
    let S : List ℕ → Type 0 =
    λ l. Supplying l g claims reply left.new
    (λ supplied. Negotiates (feature_refusal wanted) wanted supplied reply left.new) in
    let step = honest_performed g (Init wanted) claims reply left.new (new_test g wanted new_status)
    (subst S (bare_is m1 g same_size ties.pages.behind) does) in
    let after : supply_of p3 out2 ≡ supply_of p2 out2 =
    ap (λ (k : Bool). record { keeps = k; own = p3.own; out = out2 })
    (left.same.flag ∙ sym (ap (λ (p : Part). p.keeps) part))
    ∙ ap (λ (o : List ℕ). record { keeps = p2.keeps; own = o; out = out2 }) left.same.numbers in
    subst (λ (c : List Claim). StepsOver (Honest m3 p3 d2) Answers (supply_of p1 out1)
    (supply_of p3 out2) c g (Init wanted) (ready_reply result)) (sym did.noted) (record {
      new = left.new;
      stands = still_stands (Init wanted) claims reply stands step left.ties;
      step = guest_step g (Init wanted) claims reply left.new ties.parts.guest.honest step;
      answered = did.answered;
      moves = subst (λ (s : Supply). Moves (supply_of p1 out1) s (λ n. backing_count n left.new)
          (λ n. backing_count n g)) (sym after) (moves_as did.supplied.1 (λ x. omega (
            arith,
            frames_filled x pages claims m2 did.answer did.made distinct below
                did.supplied.0 (frames_of ties.pages),
            ap (λ (l : List (Option ℕ)). count_by (is_frame x) l) left.kept,
          )));
    })

-- memory is as large as it was
pub still_large : {Answers : List Bool → Claim → Type 0} {s1 s2 : Supply}
    {l1 l2 : List Claim} {m1 m2 : Pages} {p : Part} {d : DriverState} {g : Guest} → Honest m1 p d g
    → SuppliesBy {T = Unit {0}} Answers s1 s2 l1 l2 (bare_from d.queue_size m1 0) m1 m2 (Ok tt)
    → 64 ≤ length m2
still_large {m1} {m2} {d} stands did = grind (
  arith,
  large stands,
  supplied_count (bare_from d.queue_size m1 0) (given did.claims) m1 m2 did.supplied.0,
)
