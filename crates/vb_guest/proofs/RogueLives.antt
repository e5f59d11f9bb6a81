-- A guest that wrote past its driver is initialised; an honest guest becomes one.
use Rattle.std.specs.Prelude.{◌≡◌, ℕ, ◌-◌, ◌<◌, Bool, true, false, List, [], length, Option, Some}
use Rattle.std.specs.Prelude.{Result, Ok, Err, IsSome, MatchOption, refl, ◌≤◌, ◌≢◌, not, ◌==◌, ◌∷◌}
use Rattle.{std.specs.Prelude.None, vb_guest.proofs.{Supplying.frames_filled, Fresh.everywhere}}
use Rattle.std.proofs.lemmas.{Bool.ne_eqb, List.{length-replicate, Elements.All-nil}}
use Rattle.{vb_guest.specs.{Stands.Rogue, Replies.ready_reply}, vb_ram.proofs.Limits.config_limits}
use Rattle.{std.proofs.Common.{sym, ◌∙◌, ap, subst, arith}, vb_ram.specs.Pages.{Pages, frame_at}}
use Rattle.vb_guest.proofs.Supplying.{supplied_count, all_distinct, bounded, frames_given}
use Rattle.vb_virtio.proofs.Shapes.{reserved_most}
use Rattle.vb_virtio.specs.Tests.{AllDistinct, is_in}
use Rattle.vb_virtio.specs.FirstRefusal.{◌⇒◌, first_refusal}
use Rattle.vb_virtio.specs.Features.{stats_vq}
use Rattle.vb_virtio.specs.Layout.{reserved_pages, is_start_page}
use Rattle.vb_virtio.specs.Status.{feature_causes, feature_refusal}
use Rattle.vb_virtio.specs.declared.statistics.LastStatistics.{LastStatistics}
use Rattle.vb_virtio.specs.declared.refusals.Refusal.{Refusal}
use Rattle.vb_virtio.specs.declared.refusals.Refusal.TheVariants.{AlreadyUp, NoFrame, NoMemory}
use Rattle.vb_model.proofs.Wanting.{wants, no_want, refused_otherwise}
use Rattle.vb_model.specs.Driver.{given, AreClaimsFor, claim_refusal}
use Rattle.vb_model.specs.Guest.{Guest, all_backed}
use Rattle.vb_model.specs.declared.calls.Claim.{Claim}
use Rattle.vb_model.specs.Life.{lacking, accepted_before}
use Rattle.{vb_model.specs.Refusals.refusal_of, vb_status.specs.After.part_after_reset}
use Rattle.vb_model.specs.Rogue.{LosesFrames, pages_to_back, unless_refused, after_refused}
use Rattle.vb_model.specs.declared.{calls.Call.TheVariants.Init, replies.Reply.TheVariants.Refused}
use Rattle.{vb_ram.specs.Part.Part, vb_frames.specs.declared.keeper.Refused.Refused as WhyRefused}
use Rattle.vb_driver.specs.{State.DriverState, Calls.{InitsBy, Starts, FirstBuffer, GivesUp}}
use Rattle.vb_guest.proofs.Rogues.{shape_of, shaped, Keeps, DeviceSame, driver_same, rogue_after}
use Rattle.vb_guest.proofs.Rogues.{rogue_stands, rogue_steps, device_alike, kept_of_rogue}
use Rattle.vb_guest.proofs.{Moving.moves_as, InitStep.{bare_is, now_backed, has_all, driver_causes}}
use Rattle.vb_guest.{proofs.Writing.HasFrames, specs.Steps.{backing_count, StepsAlone, StepsOver}}
use Rattle.vb_guest.{proofs.InitStep.given_up as stopped, specs.Supply.{Supply, supply_of, Moves}}
use Rattle.vb_guest.specs.Lives.{is_bare, bare_from, AllSupplied, why_unsupplied, SuppliesBy}

pub init_up_rogue : {m : Pages} {p : Part} {d : DriverState} {g : Guest} {wanted : ℕ}
    → p.status ≢ 0 → Rogue m p d g → StepsAlone (Rogue m p d) g (Init wanted) (Refused AlreadyUp)
init_up_rogue up rogue = grind (arith, ne_eqb)

-- a device that isn't started
none_refuses : {p : Part} {m : Pages} {d : DriverState} {g : Guest} (wanted : ℕ)
    → p.status ≡ 0 → Rogue m p d g → refusal_of g (Init wanted) ≡ None
none_refuses wanted new rogue =
    ap (λ (n : ℕ). first_refusal ((not (n == 0) ⇒ AlreadyUp) ∷ [])) (sym rogue.status ∙ new)

pub init_unsupplied_rogue : {Answers : List Bool → Claim → Type 0} (out1 out2 : List Bool)
    {l : List Claim} {m1 m2 : Pages} {p1 p2 : Part} {d : DriverState} {g : Guest} {wanted : ℕ}
    (why : WhyRefused) {refusal : Refusal} → why_unsupplied {T = Unit {0}} (Err why) ≡ Some refusal
    → p1.status ≡ 0 → SuppliesBy {T = Unit {0}} Answers
    (supply_of p1 out1) (supply_of p2 out2) [] l (bare_from d.queue_size m1 0) m1 m2 (Err why)
    → p2 ≡ record p1 { own = p2.own } → Rogue m1 p1 d g → StepsOver (Rogue m2 p2 d) Answers
    (supply_of p1 out1) (supply_of p2 out2) l g (Init wanted) (Refused refusal)
init_unsupplied_rogue out1 out2 why is new did part rogue = search (arith, bare_is)

-- ---- with frames

-- what an initialisation, or one whose features are refused, leaves
record Leaves (size : ℕ) (m2 m3 : Pages) (p2 p3 : Part) (d1 d2 : DriverState) : Type 0 where
  keeps : Keeps size m2 m3 p2 p3 d1 d2
  count : length m3 ≡ length m2
  same : (page : ℕ) → frame_at m3 page ≡ frame_at m2 page
  target : p3.target ≡ p2.target
  flag : p3.keeps ≡ p2.keeps
  numbers : p3.own ≡ p2.own

-- what the device says of a rogue guest
record Said : Type 0 where
  status : ℕ
  features : ℕ
  target : ℕ
  last : LastStatistics
  flags : List Bool

-- the driver gave up
abbrev GaveUp : Part → Part → DriverState → DriverState → ℕ → Refusal → Type 0
GaveUp p2 p3 d1 d2 wanted why = (d2.places ≡ d1.places) × (d2.actual ≡ 0)
    × (p3 ≡ record (part_after_reset p2) { status = 131; features = accepted_before why wanted })

-- the part after a reset, with another status
reset_device : {size : ℕ} {p p2 : Part} (state features : ℕ) → p2
    ≡ record (part_after_reset p) { status = state; features = features } → DeviceSame size p p2
reset_device state features is = grind (arith, length-replicate, everywhere)

first_buffer_frames : (stats : Bool) (m1 m2 : Pages) (d1 d2 : DriverState)
    → FirstBuffer stats m1 m2 d1 d2
    → (length m2 ≡ length m1) × ((page : ℕ) → frame_at m2 page ≡ frame_at m1 page)
first_buffer_frames stats m1 m2 d1 d2 first = grind arith

started_leaves : {size : ℕ} {m2 m3 : Pages} {p2 p3 : Part} {d1 d2 : DriverState} {wanted : ℕ}
    → ((page : ℕ) → is_start_page size page ≡ true → IsSome (frame_at m2 page))
    → Starts m2 m3 p2 p3 d1 d2 wanted → Leaves size m2 m3 p2 p3 d1 d2
started_leaves {m2} {m3} {d1} {d2} {wanted} backed starts =
    let first = first_buffer_frames (stats_vq wanted) starts.zeroed m3 d1 d2 starts.buffer in
    let same : (page : ℕ) → frame_at m3 page ≡ frame_at m2 page = search arith in
    record {
      keeps = record {
        driver = shaped (ap shape_of starts.driver);
        device = reset_device 15 wanted starts.part;
        up = search (arith, All-nil);
      };
      count = first.0 ∙ starts.rings.count;
      same = same;
      target = ap (λ (p : Part). p.target) starts.part;
      flag = ap (λ (p : Part). p.keeps) starts.part;
      numbers = ap (λ (p : Part). p.own) starts.part;
    }

stopped_leaves : {size : ℕ} {m2 m3 : Pages} {p2 p3 : Part} {d1 d2 : DriverState} {features : ℕ}
    → GivesUp m2 m3 p2 p3 d1 d2 features → Leaves size m2 m3 p2 p3 d1 d2
stopped_leaves {features} stops = record {
  keeps = record {
    driver = shaped (ap shape_of stops.driver);
    device = reset_device 131 features stops.part;
    up = search arith;
  };
  count = ap (λ (m : Pages). length m) stops.mem;
  same = λ page. ap (λ (m : Pages). frame_at m page) stops.mem;
  target = ap (λ (p : Part). p.target) stops.part;
  flag = ap (λ (p : Part). p.keeps) stops.part;
  numbers = ap (λ (p : Part). p.own) stops.part;
}

inits_leave : {size : ℕ} {m2 m3 : Pages} {p2 p3 : Part}
    {d1 d2 : DriverState} {wanted : ℕ} (result : Result (Unit {0}) Refusal) → d1.queue_size ≡ size
    → p2.status ≡ 0 → ((page : ℕ) → is_start_page size page ≡ true → IsSome (frame_at m2 page))
    → InitsBy m2 m3 p2 p3 d1 d2 wanted result
    → Leaves size m2 m3 p2 p3 d1 d2 × (wants (ready_reply result) ≡ false) × ((why : Refusal)
    → ready_reply result ≡ Refused why → GaveUp p2 p3 d1 d2 wanted why)
inits_leave (Ok x) same new backed did = grind (arith, started_leaves backed did.starts)
inits_leave {m2} {p2} {d1} {wanted} (Err why) same new backed did =
    let is : Some why ≡ feature_refusal wanted = search (arith, driver_causes, has_all) in
    let stops = stopped wanted why (sym is) did.refused in (
      stopped_leaves stops,
      refused_otherwise (feature_causes wanted) why refl (sym is),
      (search arith),
    )

-- what a refusal of the features leaves
gives_up : {m : Pages} {p1 p2 : Part} (p3 : Part) {d1 : DriverState} (d2 : DriverState)
    {g : Guest} (wanted : ℕ) (claims : List Claim) (why : Refusal) → Rogue m p1 d1 g → p1.status ≡ 0
    → claim_refusal claims ≡ None → p2 ≡ record p1 { own = p2.own } → GaveUp p2 p3 d1 d2 wanted why
    → rogue_after g (all_backed (lacking g) (given claims) g.frames) p3 d2
    ≡ after_refused (Init wanted) why claims g
gives_up p3 d2 wanted claims why rogue status all part gave = grind arith

pub init_supplied_rogue : {Answers : List Bool → Claim → Type 0}
    (out1 out2 : List Bool) {l : List Claim} {m1 m2 m3 : Pages} {p1 p2 p3 : Part}
    {d1 d2 : DriverState} {g : Guest} {wanted features : ℕ} {result : Result (Unit {0}) Refusal}
    → features ≡ wanted → p1.status ≡ 0 → SuppliesBy {T = Unit {0}} Answers
    (supply_of p1 out1) (supply_of p2 out2) [] l (bare_from d1.queue_size m1 0) m1 m2 (Ok tt)
    → p2 ≡ record p1 { own = p2.own } → InitsBy m2 m3 p2 p3 d1 d2 features result
    → Rogue m1 p1 d1 g → StepsOver (Rogue m3 p3 d2) Answers
    (supply_of p1 out1) (supply_of p3 out2) l g (Init wanted) (ready_reply result)
init_supplied_rogue {Answers} out1 out2 {l} {m1}
    {m2} {m3} {p1} {p2} {p3} {d1} {d2} {g} {wanted} {result} named status did part inits rogue =
    let n = g.config.pages in let pages = lacking g in let claims = did.claims in
    let size = d1.queue_size in
    let bare : bare_from size m1 0 ≡ lacking g = bare_is m1 g rogue.queue_size rogue.behind in
    let made : AreClaimsFor pages claims = grind arith in
    let supplied : AllSupplied pages (given claims) m1 m2 =
    subst (λ (x : List ℕ). AllSupplied x (given claims) m1 m2) bare did.supplied.0 in
    let frames : List (Option ℕ) = all_backed pages (given claims) g.frames in
    let distinct =
    subst AllDistinct bare (all_distinct (is_bare size m1) 0 (reserved_pages size - 0)) in
    let below : (p : ℕ) → is_in p pages ≡ true → p < n =
    search (arith, bounded, reserved_most, config_limits) in
    let before : HasFrames m1 n g.frames =
    record { length_is = rogue.length_is; framed = rogue.framed; behind = rogue.behind } in
    let has = frames_given pages (given claims) distinct below supplied before in
    let backed : (p : ℕ) → is_start_page g.config.queue_size p ≡ true → IsSome (frame_at m2 p) =
    λ p start. now_backed size m1 m2 (given claims) p did.supplied.0
    (subst (λ k. is_start_page k p ≡ true) (sym rogue.queue_size) start) in
    let new : p2.status ≡ 0 = ap (λ (p : Part). p.status) part ∙ status in
    let same : InitsBy m2 m3 p2 p3 d1 d2 wanted result =
    subst (λ (f : ℕ). InitsBy m2 m3 p2 p3 d1 d2 f result) named inits in
    let (left, answer, left_so) = inits_leave result rogue.queue_size new backed same in
    let none_before = none_refuses wanted status rogue in
    let needs : pages_to_back (Init wanted) g ≡ pages =
    ap (λ (o : Option Refusal). unless_refused o pages) none_before in
    let given_frames : Rogue m2 p2 d1 (rogue_after g frames p2 d1) = rogue_stands frames rogue
    (search (arith, driver_same, device_alike, kept_of_rogue))
    (has.length_is ∙ sym rogue.length_is) (has.framed ∙ sym rogue.framed) has.behind in
    let after : Guest = rogue_after g frames p3 d2 in
    let stands : Rogue m3 p3 d2 after = rogue_stands
    frames given_frames left.keeps left.count refl (λ page. left.same page ∙ has.behind page) in
    let P : Option Refusal → Type 0 = λ o. MatchOption o (LosesFrames frames frames)
    (λ refusal. (ready_reply result ≡ Refused refusal) × (frames ≡ g.frames)) in
    let step = rogue_steps (Init wanted) claims (ready_reply result) rogue stands refl (left.target
    ∙ ap (λ (p : Part). p.target) part) (subst (λ (l : List ℕ). AreClaimsFor l claims) (sym needs)
    made) (subst (λ (l : List ℕ). MatchOption (claim_refusal claims) (LosesFrames (all_backed l
    (given claims) g.frames) frames) (λ refusal. (ready_reply result ≡ Refused refusal)
    × (frames ≡ g.frames))) (sym needs) (subst P (sym did.answer) (λ page frame e. e)))
    (no_want _ NoFrame answer refl) (no_want _ NoMemory answer refl) (λ why e. gives_up p3 d2 wanted
    claims why rogue status did.answer part (left_so why e)) (λ page offset bytes e. absurd cc) in
    let same_supply : supply_of p3 out2 ≡ supply_of p2 out2 = search arith in
    subst (λ (c : List Claim). StepsOver (Rogue m3 p3 d2) Answers (supply_of p1 out1)
    (supply_of p3 out2) c g (Init wanted) (ready_reply result)) (sym did.noted) (record {
      new = after;
      stands = stands;
      step = step;
      answered = did.answered;
      moves = subst (λ (s : Supply). Moves (supply_of p1 out1) s (λ n. backing_count n after)
          (λ n. backing_count n g)) (sym same_supply) (moves_as did.supplied.1 (λ x. omega (
            arith,
            frames_filled x pages claims m2 did.answer made distinct below supplied before,
          )));
    })

-- memory is as large as it was
pub still_large_rogue : {Answers : List Bool → Claim → Type 0} {s1 s2 : Supply}
    {l1 l2 : List Claim} {m1 m2 : Pages} {p : Part} {d : DriverState} {g : Guest} → Rogue m1 p d g
    → SuppliesBy {T = Unit {0}} Answers s1 s2 l1 l2 (bare_from d.queue_size m1 0) m1 m2 (Ok tt)
    → 64 ≤ length m2
still_large_rogue rogue did = grind (arith, config_limits, supplied_count)
