-- A guest's write is a step of the definitions.
use Rattle.std.specs.Prelude.{◌≡◌, ℕ, ◌≤◌, true, false, List, [], ◌∷◌, length, Result, IsOk, refl}
use Rattle.std.{specs.Prelude.{◌<◌, Err, ◌⊎◌}, proofs.Common.{sym, ◌∙◌, ap, subst, arith, inl, inr}}
use Rattle.{std.specs.Prelude.{Bool, Option, Some, None, IsSome}, vb_ram.specs.Part.Part}
use Rattle.{std.proofs.lemmas.Bool.{cases_lt, Decides.nat_tests}, vb_guest.specs.Supply.supply_of}
use Rattle.vb_virtio.specs.FirstRefusal.{◌⇒◌, first_refusal}
use Rattle.vb_virtio.specs.Memory.{overwritten}
use Rattle.vb_virtio.specs.Layout.{reserved_pages}
use Rattle.vb_virtio.specs.declared.refusals.Refusal.{Refusal}
use Rattle.vb_virtio.specs.declared.refusals.Refusal.TheVariants.{OutOfRam, NoMemory, NotHeld}
use Rattle.vb_virtio.specs.declared.refusals.Refusal.TheVariants.{NoFrame as NoFrameLeft}
use Rattle.vb_model.proofs.Performed.{Supplying}
use Rattle.vb_model.specs.Refusals.{refusal_of, is_outside}
use Rattle.vb_model.specs.Driver.{pages_needed, Written}
use Rattle.vb_model.specs.Guest.{Guest, backed}
use Rattle.vb_model.specs.{Guest.frame_of, declared.replies.Reply.TheVariants.{Done, Refused}}
use Rattle.vb_model.specs.Pages.{place_of, is_used}
use Rattle.vb_model.specs.declared.calls.{Call.TheVariants.Write, Claim.{Claim, TheVariants.Gave}}
use Rattle.{vb_ram.specs.Pages.{Pages, Covers, Supplied}, vb_driver.specs.State.DriverState}
use Rattle.vb_ram.specs.{Pages.{frame_at, Wrote}, declared.fault.RamFault.TheVariants.NeedsFrame}
use Rattle.vb_ram.specs.declared.fault.RamFault.{RamFault, TheVariants.OutOfRam as OutOfMemory}
use Rattle.vb_frames.specs.{declared.keeper.Refused.Refused as KeeperRefused, Out.claim_in}
use Rattle.vb_frames.specs.declared.keeper.Refused.TheVariants.{NoFrame, Memory}
use Rattle.vb_guest.proofs.{Closing.{honest_performed, steps_alone}, Moving.{moves_as, times_one}}
use Rattle.vb_guest.proofs.{Closing.{guest_step, still_stands, honest_own}, Running.runs_on}
use Rattle.vb_guest.proofs.Writing.{at_page, used_high, pages_wrote, pages_supplied, count_backed}
use Rattle.vb_guest.specs.{Supply.IsClaimed, Steps.{StepsAlone, StepsOver}, Stands.{Honest, Ties}}

-- how a refused claim is replied
abbrev pub refusal_of_claim : KeeperRefused → Refusal
refusal_of_claim NoFrame = NoFrameLeft
refusal_of_claim Memory = NoMemory

-- the bytes lie in a page, or don't
pub outside_is : (g : Guest) {mem : Pages} {page off len : ℕ}
    → length mem ≡ g.config.pages → is_outside g page off len ≡ false → Covers mem page off len
outside_is g {page} e inside =
    record { page = grind (arith, nat_tests); bytes = grind (arith, nat_tests) }

pub inside_is : (g : Guest) {mem : Pages} {page off len : ℕ}
    → length mem ≡ g.config.pages → Covers mem page off len → is_outside g page off len ≡ false
inside_is g e covers = let lt = covers.page in grind (arith, nat_tests)

-- a page that isn't used
pub write_not_held : {m : Pages} {p : Part} {d : DriverState}
    {g : Guest} {page off : ℕ} {bs : List ℕ} → is_used (place_of d.places page) ≡ false
    → Honest m p d g → StepsAlone (Honest m p d) g (Write page off bs) (Refused NotHeld)
write_not_held free stands = grind arith

-- what is tested where the page is used
pub write_causes : (g : Guest) (page off : ℕ) (bs : List ℕ) → is_used (place_of g.places page) ≡ true
    → refusal_of g (Write page off bs)
    ≡ first_refusal ((is_outside g page off (length bs) ⇒ OutOfRam) ∷ [])
write_causes g page off bs used = grind arith

pub write_outside : {m1 m2 : Pages} {p1 p2 : Part} {d : DriverState}
    {g : Guest} {page off : ℕ} {bs : List ℕ} → is_used (place_of d.places page) ≡ true
    → Honest m1 p1 d g → m2 ≡ m1 → p2 ≡ p1 → (Covers m1 page off (length bs) → ⊥)
    → StepsAlone (Honest m2 p2 d) g (Write page off bs) (Refused OutOfRam)
write_outside used stands m p out = search (arith, outside_is)

-- which pages need a frame
needs_none : (g : Guest) (page frame : ℕ) (bs : List ℕ) → frame_of g.frames page ≡ Some frame
    → pages_needed page bs g ≡ []
needs_none g page frame u is = grind arith

needs_empty : (g : Guest) (page : ℕ) (bs : List ℕ) → length bs ≡ 0 → pages_needed page bs g ≡ []
needs_empty g page z e = grind arith

pub needs_one : (g : Guest) (page : ℕ) (bs : List ℕ) → 0 < length bs → frame_of g.frames page ≡ None
    → pages_needed page bs g ≡ page ∷ []
needs_one g page z some is = grind arith

-- a write that was made leaves the guest that wrote
written_ties : {m1 m2 : Pages} {p1 p2 : Part} {d : DriverState}
    {g : Guest} {page off : ℕ} {bs : List ℕ} → reserved_pages g.config.queue_size ≤ page
    → Covers m1 page off (length bs) → Ties m1 p1 d g → Wrote m1 m2 page off bs
    → p2 ≡ p1 → Ties m2 p2 d (record g { contents = at_page page (overwritten off bs) g.contents })
written_ties {m2} {p1} {d} {g} {page} {off} {bs} high covers ties wrote part =
    let new : Guest = record g { contents = at_page page (overwritten off bs) g.contents } in
    let there : Ties m2 p1 d new = record {
      parts = ties.parts;
      pages = pages_wrote high
          (omega (arith, covers.page, ties.pages.length_is)) covers.bytes ties.pages wrote;
      queues = elim ties.queues [
        | inl idle ↦ inl assumption
        | inr run ↦ (let still = runs_on run
            (λ p lt. wrote.rest.others p (omega (arith, lt, high))) in inr assumption)
      ];
    } in subst (λ p. Ties m2 p d new) (sym part) there

pub write_backed : {m1 m2 : Pages} {p1 p2 : Part} {d : DriverState} {g : Guest}
    {page off : ℕ} {bs : List ℕ} → is_used (place_of d.places page) ≡ true → Honest m1 p1 d g
    → Covers m1 page off (length bs) → (0 < length bs → frame_at m1 page ≡ None → ⊥)
    → Wrote m1 m2 page off bs → p2 ≡ p1 → StepsAlone (Honest m2 p2 d) g (Write page off bs) Done
write_backed {m1} {g} {page} {off} {bs} used stands covers never wrote part =
    let held : is_used (place_of g.places page) ≡ true =
    ap (λ l. is_used (place_of l page)) (sym stands.ties.parts.driver.places) ∙ used in
    let high = used_high g page stands.orderly held
    (omega (arith, covers.page, stands.ties.pages.length_is)) in
    let new : Guest = record g { contents = at_page page (overwritten off bs) g.contents } in
    let free : refusal_of g (Write page off bs) ≡ None = grind (arith, write_causes, inside_is) in
    let needs : pages_needed page bs g ≡ [] = need
    (frame_of g.frames page) refl (stands.ties.pages.behind page) never (cases_lt 0 (length bs)) in
    let W : List ℕ → Type 0 =
    λ l. Supplying l g [] Done new (λ supplied. Written page off bs supplied Done new) in
    let step = honest_performed g (Write page off bs) [] Done new free
    (subst W (sym needs) (refl, (refl, refl))) in
    steps_alone stands step (written_ties high covers stands.ties wrote part) refl where
      need : (o : Option ℕ) → frame_of g.frames page ≡ o → frame_at m1 page ≡ frame_of g.frames page
          → (0 < length bs → frame_at m1 page ≡ None → ⊥) → (0 < length bs) ⊎ (length bs ≤ 0)
          → pages_needed page bs g ≡ []
      need x is behind never cases = grind (arith, needs_none, needs_empty)

-- a claim that was refused
pub write_unsupplied : {Answers : List Bool → Claim → Type 0}
    (out1 out2 : List Bool) {m1 m2 : Pages}
    {p1 p2 : Part} {d : DriverState} {g : Guest} {page off : ℕ} {bs : List ℕ} (why : KeeperRefused)
    → IsClaimed Answers (supply_of p1 out1) (supply_of p2 out2) (claim_in (Err why))
    → is_used (place_of d.places page) ≡ true → Honest m1 p1 d g → Covers m1 page off (length bs)
    → 0 < length bs → frame_at m1 page ≡ None → m2 ≡ m1 → p2 ≡ record p1 { own = p2.own }
    → StepsOver (Honest m2 p2 d) Answers (supply_of p1 out1) (supply_of p2 out2) (claim_in (Err why)
    ∷ []) g (Write page off bs) (Refused (refusal_of_claim why))
write_unsupplied out1 out2 why answer used stands covers some bare m p = search (arith, inside_is)

-- a page that got a frame, and then was written
pub write_supplied : {Answers : List Bool → Claim → Type 0} (out1 out2 : List Bool)
    {m1 m2 m3 : Pages} {p1 p2 : Part} {d : DriverState} {g : Guest} {page off frame : ℕ}
    {bs : List ℕ} → IsClaimed Answers (supply_of p1 out1) (supply_of p2 out2) (Gave frame)
    → is_used (place_of d.places page) ≡ true → Honest m1 p1 d g → Covers m1 page off (length bs)
    → 0 < length bs → frame_at m1 page ≡ None → Supplied m1 m2 page frame
    → Wrote m2 m3 page off bs → p2 ≡ record p1 { own = p2.own } → StepsOver (Honest m3 p2 d) Answers
    (supply_of p1 out1) (supply_of p2 out2) (Gave frame ∷ []) g (Write page off bs) Done
write_supplied out1 out2 {m2} {p1}
    {p2} {d} {g} {page} {off} {frame} {bs} answer used stands covers some bare supplied wrote part =
    let held : is_used (place_of g.places page) ≡ true =
    ap (λ l. is_used (place_of l page)) (sym stands.ties.parts.driver.places) ∙ used in
    let lt : page < g.config.pages = omega (arith, covers.page, stands.ties.pages.length_is) in
    let high = used_high g page stands.orderly held lt in
    let free : refusal_of g (Write page off bs) ≡ None = write_causes g page off bs held
    ∙ ap (λ (b : Bool). first_refusal ((b ⇒ OutOfRam) ∷ []))
    (inside_is g stands.ties.pages.length_is covers) in
    let bare_too : frame_of g.frames page ≡ None = sym (stands.ties.pages.behind page) ∙ bare in
    let needs : pages_needed page bs g ≡ page ∷ [] = needs_one g page bs some bare_too in
    let after : Guest = record g { frames = backed page frame g.frames } in
    let new : Guest = record after { contents = at_page page (overwritten off bs) g.contents } in
    let mid : Ties m2 p1 d after = record {
      parts = stands.ties.parts;
      pages = pages_supplied lt bare stands.ties.pages supplied;
      queues = elim stands.ties.queues [
        | inl idle ↦ inl assumption
        | inr run ↦ (let still = runs_on run
            (λ p low. supplied.others p (omega arith)) in inr assumption)
      ];
    } in
    let W : List ℕ → Type 0 = λ l. Supplying l g (Gave frame ∷ []) Done new
    (λ supplied. Written page off bs supplied Done new) in
    let step = honest_performed g (Write page off bs) (Gave frame ∷ []) Done new free
    (subst W (sym needs) (refl, (refl, refl))) in
    let covers2 : Covers m2 page off (length bs) =
    record { page = omega (arith, covers.page, supplied.count); bytes = covers.bytes } in
    let written = still_stands (Write page off bs)
    (Gave frame ∷ []) Done stands step (written_ties high covers2 mid wrote refl) in
    record {
      new = new;
      stands = honest_own refl part written;
      step = guest_step g (Write page off bs) (Gave frame ∷ []) Done new
          stands.ties.parts.guest.honest step;
      answered = (supply_of p2 out2, answer, tt);
      moves = search (arith, moves_as, count_backed, times_one);
    }

-- ---- what the memory answered

-- a refusal for lack of a frame
pub needs_frame : {mem : Pages} {page off len : ℕ} {r : Result (Unit {0}) RamFault}
    → (Covers mem page off len → IsSome (frame_at mem page) → IsOk r) → ((Covers mem page off len
    → ⊥) → r ≡ Err OutOfMemory) → (Covers mem page off len → len ≡ 0 → IsOk r)
    → r ≡ Err NeedsFrame → Covers mem page off len × (0 < len) × (frame_at mem page ≡ None)
needs_frame backed out empty is = grind arith

-- any other refusal
pub not_covered : {mem : Pages} {page off len : ℕ} {r : Result (Unit {0}) RamFault}
    (fault : RamFault) → (Covers mem page off len → IsSome (frame_at mem page) → IsOk r)
    → (Covers mem page off len → 0 < len → frame_at mem page ≡ None → r ≡ Err NeedsFrame)
    → (Covers mem page off len → len ≡ 0 → IsOk r)
    → r ≡ Err fault → (fault ≡ NeedsFrame → ⊥) → Covers mem page off len → ⊥
not_covered fault backed needs empty is other covers = grind arith
