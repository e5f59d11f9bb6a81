-- A rogue guest reads and writes bytes of its pages.
use Rattle.std.specs.Prelude.{◌≡◌, ◌≢◌, ℕ, ◌<◌, Bool, true, false, List, [], ◌∷◌, length, None, All}
use Rattle.std.{specs.Prelude.{is_some, refl, Err}, proofs.Common.{sym, ◌∙◌, ap, subst, arith, inr}}
use Rattle.{std.proofs.lemmas.Bool.cases_eq, vb_model.specs.Driver.{AreClaimsFor, pages_needed}}
use Rattle.{vb_model.specs.Rogue.{LosesFrames, pages_to_back, with_fault}, vb_ram.specs.Part.Part}
use Rattle.vb_model.specs.{Guest.{Guest, frame_of, backed, all_backed}, Refusals.refusal_of}
use Rattle.vb_virtio.specs.declared.refusals.Refusal.{Refusal}
use Rattle.vb_virtio.specs.declared.refusals.Refusal.TheVariants.{OutOfRam, NotHeld}
use Rattle.vb_virtio.specs.declared.refusals.Refusal.TheVariants.{NoFrame as NoFrameLeft}
use Rattle.vb_virtio.specs.Status.{contains, driver_ok}
use Rattle.vb_model.specs.declared.replies.Reply.{Reply}
use Rattle.vb_model.{specs.declared.replies.Reply.TheVariants.{Done, Refused}, proofs.Wanting.wants}
use Rattle.vb_model.specs.{declared.calls.Call.TheVariants.{Read, Write}, Pages.{place_of, is_used}}
use Rattle.vb_model.specs.declared.calls.Claim.{Claim}
use Rattle.{vb_model.specs.declared.calls.Claim.TheVariants.Gave, vb_driver.specs.State.DriverState}
use Rattle.vb_ram.specs.Pages.{Pages, frame_at, Covers, Wrote, Supplied}
use Rattle.vb_frames.specs.{declared.keeper.Refused.Refused as KeeperRefused, Out.claim_in}
use Rattle.vb_guest.proofs.Rogues.{driver_same, device_alike, keeps_part, rogue_after, rogue_stands}
use Rattle.vb_guest.proofs.Rogues.{kept_of_rogue, rogue_unchanged, no_refusal, keeps_status}
use Rattle.vb_guest.proofs.Rogues.{without_fault, rogue_alone, rogue_unclaimed, nothing_backed}
use Rattle.vb_guest.{proofs.Rogues.rogue_steps, specs.Steps.{backing_count, StepsAlone, StepsOver}}
use Rattle.vb_guest.proofs.WriteStep.{inside_is, outside_is, needs_one, refusal_of_claim}
use Rattle.vb_guest.proofs.{Writing.{frames_supplied, count_backed}, Moving.times_one}
use Rattle.vb_guest.specs.{Supply.{supply_of, IsClaimed, Moves}, Stands.{IsOwnRequest, Rogue}}

-- ---- a rogue guest reads and writes

-- a page that has a frame, or no bytes, needs none
pub needs_nothing : (m : Pages) (g : Guest) (page : ℕ) (bs : List ℕ)
    → ((q : ℕ) → frame_at m q ≡ frame_of g.frames q)
    → (0 < length bs → frame_at m page ≡ None → ⊥) → pages_needed page bs g ≡ []
needs_nothing m g page bs behind never = grind arith

-- the reply is no refusal that changes the status
abbrev pub keeps_reply : Reply → Bool
keeps_reply (Refused why) = keeps_status why
keeps_reply _ = true

plainly_left : {reply : Reply} (why : Refusal) {g : Guest}
    → keeps_reply reply ≡ true → reply ≡ Refused why → with_fault why g ≡ g
plainly_left why plain e = without_fault why (sym (ap keeps_reply e) ∙ plain)

pub read_rogue : {m : Pages} {p : Part} {d : DriverState} {g : Guest}
    {page off len : ℕ} {reply : Reply} → reply ≢ Refused NoFrameLeft → keeps_reply reply ≡ true
    → Rogue m p d g → StepsAlone (Rogue m p d) g (Read page off len) reply
read_rogue {g} {page} {off} {len} {reply} answer plain rogue =
    let none = nothing_backed (Read page off len) g refl in record {
      new = g;
      stands = rogue;
      step = rogue_steps (Read page off len) [] reply rogue rogue refl refl (subst (λ (l : List
          ℕ). AreClaimsFor l []) (sym none) refl) (subst (λ (l : List ℕ). LosesFrames (all_backed
          l [] g.frames) g.frames) (sym none) (λ q frame e. e)) (λ e. absurd (answer e)) (λ
          e. inr refl) (λ why e. sym (plainly_left why plain e)) (λ page offset bytes e. absurd cc);
      frames = refl;
    }

-- frames are as they were, and none is claimed
write_rogue : {m1 m2 : Pages}
    {p1 p2 : Part} {d : DriverState} {g : Guest} {page off : ℕ} {bs : List ℕ} {reply : Reply}
    → length m2 ≡ length m1 → ((page : ℕ) → frame_at m2 page ≡ frame_at m1 page)
    → p2 ≡ p1 → wants reply ≡ false → keeps_reply reply ≡ true → pages_needed page bs g ≡ []
    → Rogue m1 p1 d g → StepsAlone (Rogue m2 p2 d) g (Write page off bs) reply
write_rogue {d} {page} count same part answer plain none rogue =
    rogue_alone rogue (keeps_part (driver_same refl) part count same) count same
    (ap (λ (p : Part). p.target) part) answer (λ page offset bytes e. cc) none
    (λ why e. rogue_unchanged d rogue refl refl part ∙ sym (plainly_left why plain e))

-- the page isn't used
pub write_unheld_rogue : {m : Pages} {p : Part} {d : DriverState}
    {g : Guest} {page off : ℕ} {bs : List ℕ} → is_used (place_of d.places page) ≡ false
    → Rogue m p d g → StepsAlone (Rogue m p d) g (Write page off bs) (Refused NotHeld)
write_unheld_rogue unused rogue = grind arith

-- the bytes don't lie in a page
pub write_outside_rogue : {m1 m2 : Pages} {p1 p2 : Part} {d : DriverState}
    {g : Guest} {page off : ℕ} {bs : List ℕ} → is_used (place_of d.places page) ≡ true
    → m2 ≡ m1 → p2 ≡ p1 → (Covers m1 page off (length bs) → ⊥)
    → Rogue m1 p1 d g → StepsAlone (Rogue m2 p2 d) g (Write page off bs) (Refused OutOfRam)
write_outside_rogue used m part out rogue = search (arith, outside_is)

-- no frame is wanting
pub write_done_rogue : {m1 m2 : Pages} {p1 p2 : Part} {d : DriverState} {g : Guest} {page off : ℕ}
    {bs : List ℕ} → (0 < length bs → frame_at m1 page ≡ None → ⊥) → Wrote m1 m2 page off bs
    → p2 ≡ p1 → Rogue m1 p1 d g → StepsAlone (Rogue m2 p2 d) g (Write page off bs) Done
write_done_rogue {m1} {g} {page} {bs} never wrote part rogue =
    write_rogue wrote.rest.count wrote.rest.backing part refl refl
    (needs_nothing m1 g page bs rogue.behind never) rogue

-- a page that is used, and bytes that lie in it
write_fits : {m : Pages} {p : Part} {d : DriverState} {g : Guest} {page off : ℕ} (bs : List ℕ)
    → Rogue m p d g → is_used (place_of d.places page) ≡ true
    → Covers m page off (length bs) → refusal_of g (Write page off bs) ≡ None
write_fits bs rogue used covers = grind (arith, inside_is)

-- ---- a page got a frame first

-- what the guest is then
pub supplied_rogue : {m1 m2 m3 : Pages} {p1 p2 : Part} {d : DriverState}
    {g : Guest} {page off frame : ℕ} {bs : List ℕ} → Covers m1 page off (length bs)
    → Supplied m1 m2 page frame → Wrote m2 m3 page off bs → p2 ≡ record p1 { own = p2.own }
    → Rogue m1 p1 d g → Rogue m3 p2 d (rogue_after g (backed page frame g.frames) p2 d)
supplied_rogue {m1} {m2} {m3} {p2} {g} {page} {frame} covers supplied wrote part rogue =
    let lt : page < g.config.pages = omega (arith, covers.page, rogue.length_is) in
    let has = frames_supplied lt (record
    { length_is = rogue.length_is; framed = rogue.framed; behind = rogue.behind }) supplied in
    let count : length m3 ≡ length m1 = wrote.rest.count ∙ supplied.count in
    let size = g.config.queue_size in
    let still : (q : ℕ) → is_some (frame_at m1 q) ≡ true → is_some (frame_at m3 q) ≡ true =
    search (arith, cases_eq) in
    rogue_stands (backed page frame g.frames) rogue (record {
      driver = driver_same refl;
      device = device_alike (ap kept_of_rogue part);
      up = λ was ok.
          let up = was (ap (λ (p : Part). contains p.status driver_ok) (sym part) ∙ ok) in record {
            backed = λ q low. still q (up.backed q low);
            inflates = subst (λ (n : ℕ). All (IsOwnRequest size n) p2.inflate.taken) (sym count)
                (subst (All (IsOwnRequest size (length m1)))
                (sym (ap (λ (p : Part). p.inflate.taken) part)) up.inflates);
            reports = subst (λ (n : ℕ). All (IsOwnRequest size n) p2.report.taken) (sym count)
                (subst (All (IsOwnRequest size (length m1)))
                (sym (ap (λ (p : Part). p.report.taken) part)) up.reports);
          };
    }) count (has.framed ∙ sym rogue.framed) (λ q. wrote.rest.backing q ∙ has.behind q)

-- the frames that went out
pub supplied_moves : {Answers : List Bool → Claim → Type 0} (out1 out2 : List Bool)
    (p1 p2 : Part) (g new : Guest) (page : ℕ) {frame : ℕ} → IsClaimed Answers
    (supply_of p1 out1) (supply_of p2 out2) (Gave frame) → page < length g.frames
    → frame_of g.frames page ≡ None → new.frames ≡ backed page frame g.frames → Moves
    (supply_of p1 out1) (supply_of p2 out2) (λ n. backing_count n new) (λ n. backing_count n g)
supplied_moves out1 out2 p1 p2 g new page answer lt bare frames =
    grind (arith, count_backed, times_one)

pub write_supplied_rogue : {Answers : List Bool → Claim → Type 0} (out1 out2 : List Bool)
    {m1 m2 m3 : Pages} {p1 p2 : Part} {d : DriverState} {g : Guest} {page off frame : ℕ}
    {bs : List ℕ} → IsClaimed Answers (supply_of p1 out1) (supply_of p2 out2) (Gave frame)
    → is_used (place_of d.places page) ≡ true → Rogue m1 p1 d g → Covers m1 page off (length bs)
    → 0 < length bs → frame_at m1 page ≡ None → Supplied m1 m2 page frame
    → Wrote m2 m3 page off bs → p2 ≡ record p1 { own = p2.own } → StepsOver (Rogue m3 p2 d) Answers
    (supply_of p1 out1) (supply_of p2 out2) (Gave frame ∷ []) g (Write page off bs) Done
write_supplied_rogue out1 out2 {p1}
    {p2} {d} {g} {page} {off} {frame} {bs} answer used rogue covers some bare supplied wrote part =
    let bare_too : frame_of g.frames page ≡ None = sym (rogue.behind page) ∙ bare in
    let needs : pages_to_back (Write page off bs) g ≡ page ∷ [] =
    grind (arith, write_fits, needs_one) in
    let new : Guest = rogue_after g (backed page frame g.frames) p2 d in
    let stands = supplied_rogue covers supplied wrote part rogue in
    record {
      new = new;
      stands = stands;
      step = rogue_steps (Write page off bs) (Gave frame ∷ []) Done rogue stands refl
          (ap (λ (p : Part). p.target) part) (subst (λ (l : List ℕ). AreClaimsFor l
          (Gave frame ∷ [])) (sym needs) refl) (subst (λ (l : List ℕ). LosesFrames (all_backed l
          (frame ∷ []) g.frames) new.frames) (sym needs) (λ page frame e. e)) (λ e. absurd cc)
          (λ e. absurd cc) (λ why e. no_refusal why refl e) (λ page offset bytes e. absurd cc);
      answered = (supply_of p2 out2, answer, tt);
      moves = supplied_moves out1 out2 p1 p2 g new page answer
          (omega (arith, covers.page, rogue.length_is, rogue.framed)) bare_too refl;
    }

pub write_unsupplied_rogue : {Answers : List Bool → Claim → Type 0}
    (out1 out2 : List Bool) {m1 m2 : Pages}
    {p1 p2 : Part} {d : DriverState} {g : Guest} {page off : ℕ} {bs : List ℕ} (why : KeeperRefused)
    → IsClaimed Answers (supply_of p1 out1) (supply_of p2 out2) (claim_in (Err why))
    → is_used (place_of d.places page) ≡ true → Rogue m1 p1 d g → Covers m1 page off (length bs)
    → 0 < length bs → frame_at m1 page ≡ None → m2 ≡ m1 → p2 ≡ record p1 { own = p2.own }
    → StepsOver (Rogue m2 p2 d) Answers (supply_of p1 out1) (supply_of p2 out2) (claim_in (Err why)
    ∷ []) g (Write page off bs) (Refused (refusal_of_claim why))
write_unsupplied_rogue out1 out2 why answer used rogue covers some bare m p =
    search (arith, write_fits, rogue_unclaimed)
