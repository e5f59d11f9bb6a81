-- A call on a guest that wrote past its driver: what it keeps is enough.
use Rattle.std.specs.Prelude.{◌≡◌, ◌≢◌, ℕ, ◌<◌, Bool, true, false, List, [], length, All}
use Rattle.std.specs.Prelude.{Option, Some, refl, is_some, is_none, ◌⊎◌, MatchOption, MatchBool}
use Rattle.std.{specs.Prelude.if◌then◌else◌, proofs.Common.{sym, ◌∙◌, ap, subst, arith, inl, inr}}
use Rattle.vb_virtio.proofs.Shapes.{start_reserved}
use Rattle.vb_virtio.specs.Layout.{reserved_pages}
use Rattle.vb_virtio.specs.Status.{contains, driver_ok}
use Rattle.vb_virtio.specs.declared.refusals.Refusal.{Refusal}
use Rattle.vb_virtio.specs.declared.refusals.Refusal.TheVariants.{NoFrame, NoMemory, Broken}
use Rattle.vb_virtio.specs.declared.refusals.Refusal.TheVariants.{RingBroken}
use Rattle.vb_model.proofs.Refusing.{is_refused, not_this}
use Rattle.vb_model.proofs.Wanting.{wants}
use Rattle.vb_model.{proofs.Wanting.no_want, specs.Driver.{given, claim_refusal, AreClaimsFor}}
use Rattle.vb_model.specs.Guest.{Guest, frame_of, is_ballooned, all_backed}
use Rattle.vb_model.specs.{Refusals.refusal_of, Rogue.{LosesFrames, pages_to_back, is_read}}
use Rattle.vb_model.specs.Rogue.{target_after, after_refused, with_fault, GuestStep, RogueStep}
use Rattle.vb_model.specs.Step.{HonestStep, bare_pages}
use Rattle.vb_model.specs.declared.calls.{Call.{Call, TheVariants.{Read, Scribble}}, Claim.Claim}
use Rattle.vb_model.specs.declared.replies.Reply.{Reply}
use Rattle.{vb_model.specs.declared.replies.Reply.TheVariants.Refused, vb_ram.specs.Pages.Pages}
use Rattle.{vb_ram.specs.{Pages.frame_at, Part.{Part, no_part}}, vb_driver.specs.State.DriverState}
use Rattle.vb_guest.specs.{Stands.{IsOwnRequest, IsRogueUp, Rogue}, Steps.{StepsAlone, StepsOver}}
use Rattle.vb_guest.{specs.Supply.{AreClaimed, supply_of, Moves, nothing}, proofs.Moving.moves_as}

-- ---- what a call keeps

-- the driver is as large, and has as many places
pub record DriverSame (d1 d2 : DriverState) : Type 0 where
  pub pages : d2.pages ≡ d1.pages
  pub queue_size : d2.queue_size ≡ d1.queue_size
  pub processors : d2.processors ≡ d1.processors
  pub table : length d2.places ≡ length d1.places

-- the device is as large, and has no reserved page ballooned
pub record DeviceSame (size : ℕ) (p1 p2 : Part) : Type 0 where
  pub sized : p2.queue_size ≡ p1.queue_size
  pub paced : p2.paced ≡ p1.paced
  pub loose : p1.loose ≡ [] → p2.loose ≡ []
  pub flagged : length p2.ballooned ≡ length p1.ballooned
  pub unreserved : (page : ℕ) → page < reserved_pages size → is_ballooned p1.ballooned page ≡ false
      → is_ballooned p2.ballooned page ≡ false

pub record Keeps (size : ℕ) (m1 m2 : Pages) (p1 p2 : Part) (d1 d2 : DriverState) : Type 0 where
  pub driver : DriverSame d1 d2
  pub device : DeviceSame size p1 p2
  pub up : (contains p1.status driver_ok ≡ true → IsRogueUp size m1 p1)
      → contains p2.status driver_ok ≡ true → IsRogueUp size m2 p2

-- how large a driver is
abbrev pub shape_of : DriverState → ℕ × ℕ × ℕ × ℕ
shape_of d = (d.pages, d.queue_size, d.processors, length d.places)

pub shaped : {d1 d2 : DriverState} → shape_of d2 ≡ shape_of d1 → DriverSame d1 d2
shaped e = record {
  pages = ap (λ (s : ℕ × ℕ × ℕ × ℕ). s.0) e;
  queue_size = ap (λ (s : ℕ × ℕ × ℕ × ℕ). s.1) e;
  processors = ap (λ (s : ℕ × ℕ × ℕ × ℕ). s.2) e;
  table = ap (λ (s : ℕ × ℕ × ℕ × ℕ). s.3) e;
}

pub driver_same : {d1 d2 : DriverState} → d2 ≡ d1 → DriverSame d1 d2
driver_same e = grind arith

-- what of a device is known where its guest is rogue, but what it answers to queries
abbrev pub kept_of_rogue : Part → Part
kept_of_rogue p = record no_part {
  queue_size = p.queue_size;
  paced = p.paced;
  loose = p.loose;
  ballooned = p.ballooned;
}

pub device_alike : {size : ℕ} {p1 p2 : Part}
    → kept_of_rogue p2 ≡ kept_of_rogue p1 → DeviceSame size p1 p2
device_alike e = grind arith

-- ---- the guest afterwards

-- what its driver and its device say of it then
abbrev pub rogue_after : Guest → List (Option ℕ) → Part → DriverState → Guest
rogue_after g frames part d = record g {
  places = d.places;
  actual = d.actual;
  status = part.status;
  features = part.features;
  target = part.target;
  last = part.last;
  ballooned = part.ballooned;
  frames = frames;
}

pub rogue_stands : {m1 m2 : Pages} {p1 p2 : Part} {d1 d2 : DriverState} {g : Guest}
    (frames : List (Option ℕ)) → Rogue m1 p1 d1 g → Keeps g.config.queue_size m1 m2 p1 p2 d1 d2
    → length m2 ≡ length m1 → length frames ≡ length g.frames → ((page : ℕ)
    → frame_at m2 page ≡ frame_of frames page) → Rogue m2 p2 d2 (rogue_after g frames p2 d2)
rogue_stands frames rogue keeps count framed behind = grind arith

-- what a device says of its guest where that is rogue, but its status
abbrev pub said : Part → Part
said p = record no_part {
  features = p.features;
  target = p.target;
  last = p.last;
  ballooned = p.ballooned;
}

-- where driver and device say what they said, the guest has other frames and another status at most
pub rogue_same : {m : Pages} {p1 : Part}
    (p2 : Part) {d1 : DriverState} (d2 : DriverState) {g : Guest} (frames : List (Option ℕ))
    → Rogue m p1 d1 g → d2.places ≡ d1.places → d2.actual ≡ d1.actual → said p2 ≡ said p1
    → rogue_after g frames p2 d2 ≡ record g { frames = frames; status = p2.status }
rogue_same p2 d2 frames rogue places told same = grind arith

-- the device is as it was
pub rogue_unchanged : {m : Pages} {p1 p2 : Part} {d1 : DriverState} (d2 : DriverState) {g : Guest}
    → Rogue m p1 d1 g
    → d2.places ≡ d1.places → d2.actual ≡ d1.actual → p2 ≡ p1 → rogue_after g g.frames p2 d2 ≡ g
rogue_unchanged d2 rogue places told part = grind arith

-- ---- its step

-- it is no scribble
abbrev pub IsOther : Call → Type 0
IsOther call = (page offset : ℕ) (bytes : List ℕ) → call ≢ Scribble page offset bytes

-- the guest is as a refusal leaves it, where the reply is one
abbrev pub IsLeft : Call → Reply → List Claim → Guest → Guest → Type 0
IsLeft call reply claims g new = (why : Refusal) → reply ≡ Refused why
    → new ≡ after_refused call why claims g

-- this refusal
pub left_by : (call : Call) (why : Refusal) (claims : List Claim) (g : Guest) {new : Guest}
    → new ≡ after_refused call why claims g → IsLeft call (Refused why) claims g new
left_by call why claims g left other e = grind arith

-- none
pub no_refusal : {A : Type 0} {reply : Reply} (why : Refusal)
    → is_refused reply ≡ false → reply ≡ Refused why → A
no_refusal {reply} why none e = not_this why reply (sym e) none

-- a refusal that leaves the status alone, and one that isn't of a broken rule
abbrev pub keeps_status : Refusal → Bool
keeps_status (Broken fault) = false
keeps_status RingBroken = false
keeps_status _ = true

abbrev pub is_of_driver : Refusal → Bool
is_of_driver (Broken fault) = false
is_of_driver _ = true

pub without_fault : (why : Refusal) {g : Guest} → keeps_status why ≡ true → with_fault why g ≡ g
without_fault why e = grind arith

-- a call that needs no frame claims none
pub nothing_backed : (call : Call) (g : Guest) → bare_pages call g ≡ [] → pages_to_back call g ≡ []
nothing_backed call g none = by (is_none (refusal_of g call)) where
  by : (b : Bool) → (if b then bare_pages call g else []) ≡ []
  by x = grind arith

-- the read that it is
read_call : (call : Call) → is_read call ≡ true
    → (page : ℕ) × (offset : ℕ) × (len : ℕ) × (call ≡ Read page offset len)
read_call x e = grind arith

-- the guest afterwards is bound by what the call claimed
pub rogue_steps : {m1 m2 : Pages} {p1 p2 : Part} {d1 d2 : DriverState}
    {g new : Guest} (call : Call) (claims : List Claim) (reply : Reply) → Rogue m1 p1 d1 g
    → Rogue m2 p2 d2 new → new.config ≡ g.config → p2.target ≡ target_after call p1.target
    → AreClaimsFor (pages_to_back call g) claims → MatchOption (claim_refusal claims) (LosesFrames
    (all_backed (pages_to_back call g) (given claims) g.frames) new.frames) (λ refusal. (reply
    ≡ Refused refusal) × (new.frames ≡ g.frames)) → (reply ≡ Refused NoFrame
    → claim_refusal claims ≡ Some NoFrame) → (reply ≡ Refused NoMemory → (claim_refusal claims
    ≡ Some NoMemory) ⊎ (is_read call ≡ true)) → IsLeft call reply claims g new
    → ((page offset : ℕ) (bytes : List ℕ) → call ≡ Scribble page offset bytes → HonestStep g
    (Scribble page offset bytes) claims reply new) → GuestStep g call claims reply new
rogue_steps {g} {new}
    call claims reply old after config target claimed frames no_frame no_memory left scribble =
    let S : Bool → Type 0 =
    λ b. MatchBool b (RogueStep g call claims reply new) (HonestStep g call claims reply new) in
    subst S (sym old.rogue) (search arith) where
      by_read : (claim_refusal claims ≡ Some NoMemory) ⊎ (is_read call ≡ true) → (claim_refusal claims
          ≡ Some NoMemory) ⊎ ((page : ℕ) × (offset : ℕ) × (len : ℕ) × (call ≡ Read page offset len))
      by_read (inl e) = inl e
      by_read (inr e) = inr (read_call call e)

-- it claims nothing
pub rogue_step : {m1 m2 : Pages} {p1 p2 : Part}
    {d1 d2 : DriverState} {g : Guest} (frames : List (Option ℕ)) (call : Call) (reply : Reply)
    → Rogue m1 p1 d1 g → Rogue m2 p2 d2 (rogue_after g frames p2 d2)
    → p2.target ≡ target_after call p1.target → LosesFrames g.frames frames → wants reply ≡ false
    → IsOther call → bare_pages call g ≡ [] → IsLeft call reply [] g (rogue_after g frames p2 d2)
    → GuestStep g call [] reply (rogue_after g frames p2 d2)
rogue_step {g} frames call reply old new target loses answer other none left =
    rogue_steps call [] reply old new refl target (subst (λ (l : List ℕ). AreClaimsFor l [])
    (sym (nothing_backed call g none)) refl) (subst (λ (l : List ℕ). LosesFrames
    (all_backed l [] g.frames) frames) (sym (nothing_backed call g none)) loses)
    (no_want reply NoFrame answer refl) (no_want reply NoMemory answer refl) left
    (λ page offset bytes e. absurd (other page offset bytes e))

-- and no page changes its frame
pub rogue_alone : {m1 m2 : Pages} {p1 p2 : Part} {d1 d2 : DriverState} {g : Guest}
    {call : Call} {reply : Reply} → Rogue m1 p1 d1 g → Keeps g.config.queue_size m1 m2 p1 p2 d1 d2
    → length m2 ≡ length m1 → ((page : ℕ) → frame_at m2 page ≡ frame_at m1 page)
    → p2.target ≡ target_after call p1.target → wants reply ≡ false
    → IsOther call → bare_pages call g ≡ [] → IsLeft call reply [] g (rogue_after g g.frames p2 d2)
    → StepsAlone (Rogue m2 p2 d2) g call reply
rogue_alone {g} rogue keeps count same target answer other none left =
    let stands = rogue_stands g.frames rogue keeps count refl
    (λ page. same page ∙ rogue.behind page) in (search (arith, rogue_step))

-- ---- pages that stay backed

-- where the pages of rings and buffers keep their frames, and nothing is taken
pub up_kept : {size : ℕ} {m1 m2 : Pages} {p1 p2 : Part} → length m2 ≡ length m1
    → ((page : ℕ) → page < reserved_pages size → frame_at m2 page ≡ frame_at m1 page)
    → p2.inflate.taken ≡ p1.inflate.taken
    → p2.report.taken ≡ p1.report.taken → IsRogueUp size m1 p1 → IsRogueUp size m2 p2
up_kept {size} {m1} {p2} count same inflates reports up = record {
  backed = λ page start.
      ap is_some (same page (start_reserved size page start)) ∙ up.backed page start;
  inflates = subst (λ (n : ℕ). All (IsOwnRequest size n) p2.inflate.taken) (sym count)
      (subst (All (IsOwnRequest size (length m1))) (sym inflates) up.inflates);
  reports = subst (λ (n : ℕ). All (IsOwnRequest size n) p2.report.taken) (sym count)
      (subst (All (IsOwnRequest size (length m1))) (sym reports) up.reports);
}

-- the device's part is as it was
pub keeps_part : {size : ℕ} {m1 m2 : Pages} {p1 p2 : Part} {d1 d2 : DriverState}
    → DriverSame d1 d2 → p2 ≡ p1 → length m2 ≡ length m1
    → ((page : ℕ) → frame_at m2 page ≡ frame_at m1 page) → Keeps size m1 m2 p1 p2 d1 d2
keeps_part driver part count same = record {
  driver = driver;
  device = device_alike (ap kept_of_rogue part);
  up = λ up ok. up_kept count (λ page low. same page)
      (ap (λ (p : Part). p.inflate.taken) part) (ap (λ (p : Part). p.report.taken) part)
      (up (ap (λ (p : Part). contains p.status driver_ok) (sym part) ∙ ok));
}

-- ---- a target is set, and frames of the device's own go out or back

pub rogue_changed : {m1 m2 : Pages} {p1 p2 : Part} {d : DriverState}
    {g : Guest} (n : ℕ) (own : List ℕ) → m2 ≡ m1 → p2 ≡ record p1 { target = n; own = own }
    → Rogue m1 p1 d g → Rogue m2 p2 d (record g { target = n })
rogue_changed {m1} {p1} {p2} {d} {g} n own memory part rogue =
    let now : Part = record p1 { target = n; own = own } in
    let up : contains p1.status driver_ok ≡ true → IsRogueUp g.config.queue_size m1 now =
    λ ok. let up = rogue.up ok in
    record { backed = up.backed; inflates = up.inflates; reports = up.reports } in
    subst (λ (m : Pages). Rogue m p2 d (record g { target = n })) (sym memory)
    (subst (λ (p : Part). Rogue m1 p d (record g { target = n })) (sym part) (assumption up))

-- the device's own frames are none of what it keeps of a guest
pub rogue_own : {m1 m2 : Pages} {p1 p2 : Part} {d : DriverState} {g : Guest}
    → m2 ≡ m1 → p2 ≡ record p1 { own = p2.own } → Rogue m1 p1 d g → Rogue m2 p2 d g
rogue_own {p1} {p2} memory part rogue =
    grind (arith, rogue_changed p1.target p2.own memory part rogue)

-- ---- frames that it claims

-- a claim was refused: nothing is changed
pub rogue_unclaimed : {Answers : List Bool → Claim → Type 0} (out1 out2 : List Bool) {m1 m2 : Pages}
    {p1 p2 : Part} {d : DriverState} {g : Guest} {call : Call} {claims : List Claim} {why : Refusal}
    → Rogue m1 p1 d g → m2 ≡ m1 → p2 ≡ record p1 { own = p2.own } → AreClaimsFor
    (pages_to_back call g) claims → claim_refusal claims ≡ Some why → target_after call p1.target
    ≡ p1.target → after_refused call why claims g ≡ g → ((page offset : ℕ) (bytes : List ℕ) → call
    ≡ Scribble page offset bytes → HonestStep g (Scribble page offset bytes) claims (Refused why) g)
    → AreClaimed Answers (supply_of p1 out1) claims
    → Moves (supply_of p1 out1) (supply_of p2 out2) nothing nothing → StepsOver
    (Rogue m2 p2 d) Answers (supply_of p1 out1) (supply_of p2 out2) claims g call (Refused why)
rogue_unclaimed out1 out2
    {g} {call} {claims} {why} rogue memory part made refused still left scribble answered moves =
    let stands = rogue_own memory part rogue in
    let F : Option Refusal → Type 0 = λ o. MatchOption o
    (LosesFrames (all_backed (pages_to_back call g) (given claims) g.frames) g.frames)
    (λ refusal. (Refused why ≡ Refused refusal) × (g.frames ≡ g.frames)) in
    record {
      new = g;
      stands = stands;
      step = rogue_steps call claims (Refused why) rogue stands refl
          (ap (λ (p : Part). p.target) part ∙ sym still) made (subst F (sym refused) (refl, refl))
          (λ e. refused ∙ (let same : why ≡ NoFrame = cc in ap (λ (r : Refusal). Some r) same))
          (λ e. inl (refused ∙ (let same : why ≡ NoMemory = cc in ap
          (λ (r : Refusal). Some r) same))) (left_by call why claims g (sym left)) scribble;
      answered = answered;
      moves = moves_as moves (λ n. omega arith);
    }
