-- Bytes are written past a guest's driver, and any guest is a rogue one from then on.
use Rattle.std.specs.Prelude.{◌≡◌, ℕ, ◌<◌, Bool, true, false, List, [], ◌∷◌, length, Option, Some}
use Rattle.{std.specs.Prelude.{None, All, ◌≤◌, refl, Err}, vb_driver.specs.State.DriverState}
use Rattle.std.proofs.Common.{sym, ◌∙◌, ap, subst, arith, inl, inr}
use Rattle.vb_model.specs.Rogue.{LosesFrames, pages_to_back, with_fault, GuestStep}
use Rattle.vb_model.specs.Driver.{given, claim_refusal, AreClaimsFor, pages_needed}
use Rattle.vb_model.specs.Guest.{Guest, frame_of, backed, all_backed, is_ballooned}
use Rattle.vb_virtio.specs.declared.refusals.Refusal.TheVariants.{OutOfRam}
use Rattle.vb_virtio.specs.Layout.{reserved_pages}
use Rattle.vb_virtio.specs.FirstRefusal.{◌⇒◌, first_refusal}
use Rattle.vb_virtio.specs.Status.{contains, driver_ok}
use Rattle.vb_virtio.specs.Queues.{Request}
use Rattle.vb_model.specs.declared.replies.Reply.{Reply, TheVariants.{Done, Refused}}
use Rattle.vb_model.specs.{declared.calls.{Call.TheVariants.Scribble, Claim.Claim}, Step.HonestStep}
use Rattle.vb_model.specs.declared.calls.Claim.TheVariants.{Gave}
use Rattle.vb_model.specs.Refusals.{refusal_of, is_outside}
use Rattle.vb_model.proofs.Wanting.{not_refused_pages, refused_backs}
use Rattle.vb_ram.specs.{Pages.{Pages, frame_at, Covers, Wrote, Supplied}, Part.Part}
use Rattle.vb_frames.specs.{declared.keeper.Refused.Refused as KeeperRefused, Out.claim_in}
use Rattle.vb_guest.proofs.Rogues.{driver_same, keeps_part, rogue_after, left_by, rogue_stands}
use Rattle.vb_guest.proofs.{Rogues.{rogue_steps, rogue_unclaimed}, Moving.moves_as, Kept.as_it_was}
use Rattle.vb_guest.proofs.Standing.{by_guest, rogue_is, stands_with, stands_of, own_moved}
use Rattle.vb_guest.proofs.{Standing.{alone_stands, over_stands}, Freed.down_not_ok}
use Rattle.vb_guest.{proofs.SweepStep.ballooned_free, specs.Steps.{StepsAlone, StepsOver}}
use Rattle.vb_guest.proofs.{WriteStep.{outside_is, needs_one, refusal_of_claim}, Offered.high_page}
use Rattle.vb_guest.proofs.{Closing.{guest_step, refused_alone, honest_own}, OwnBlocks.own_pages}
use Rattle.vb_guest.specs.Supply.{supply_of, AreClaimed, IsClaimed, Moves, nothing}
use Rattle.vb_guest.specs.Stands.{Honest, IsOwnRequest, IsRogueUp, Rogue, Stands}
use Rattle.vb_guest.proofs.RogueMemory.{needs_nothing, supplied_rogue, supplied_moves}

-- ---- any guest as a rogue one

-- an honest guest's requests name its own pages
up_honest : {m : Pages} {p : Part} {d : DriverState} {g : Guest}
    → Honest m p d g → contains p.status driver_ok ≡ true → IsRogueUp g.config.queue_size m p
up_honest {m} {p} {d} {g} honest ok = elim honest.ties.queues [
  | inl idle ↦ (let P : ℕ → Type 0 = λ s. contains s driver_ok ≡ true in
      absurd (down_not_ok g.status idle.state (subst P honest.ties.parts.device.status ok)))
  | inr run ↦
      let n = g.config.pages in let size = g.config.queue_size in
      let sized : (k : ℕ) (rs : List Request) → k ≡ size → All (IsOwnRequest k n) rs
      → All (IsOwnRequest size (length m)) rs =
      λ k rs same all. subst (λ (c : ℕ). All (IsOwnRequest size c) rs)
      (sym honest.ties.pages.length_is) (subst (λ (s : ℕ). All (IsOwnRequest s n) rs) same all) in
      record {
        backed = run.backed;
        inflates = sized d.inflate.ring.size p.inflate.taken run.inflate_size
            (subst (All (IsOwnRequest d.inflate.ring.size n)) (sym run.inflate.remembers)
            (λ k r lt. let is = run.inflate.taken k r lt in
            record { above = is.pages.above; below = is.pages.below }));
        reports = sized d.report.ring.size p.report.taken run.report_size
            (subst (All (IsOwnRequest d.report.ring.size n)) (sym run.report.remembers)
            (λ k r lt. let is = run.report.taken k r lt in
            let own = own_pages d.report.ring.size n d.report.blocks is.blocks_are in
            (search arith)));
      }
]

-- and no reserved page is ballooned
low_honest : (g : Guest) (page : ℕ) (flag : Bool) → is_ballooned g.ballooned page ≡ flag
    → ((e : is_ballooned g.ballooned page ≡ true) → reserved_pages g.config.queue_size ≤ page)
    → page < reserved_pages g.config.queue_size → is_ballooned g.ballooned page ≡ false
low_honest g page z is high low = grind arith

abbrev pub marked : Guest → Guest
marked g = record g { rogue = true }

pub as_rogue : {keeps : Bool} {m : Pages} {p : Part} {d : DriverState} {g : Guest}
    → Stands keeps m p d g → Rogue m p d (marked g)
as_rogue {g} stands = by_guest stands (λ honest.
    let low : (page : ℕ) → page < reserved_pages g.config.queue_size
    → is_ballooned g.ballooned page ≡ false =
    λ page lt. low_honest g page (is_ballooned g.ballooned page) refl
    (λ e. (high_page g page honest.orderly (ballooned_free g page honest.consistent e)).0) lt in
    assumption (low, up_honest honest)) (λ rogue. assumption)

-- ---- a scribble

-- bytes that lie in a page aren't refused for it
scribble_fits : {m : Pages} (g : Guest) {page off : ℕ} (bs : List ℕ) → length m ≡ g.config.pages
    → Covers m page off (length bs) → refusal_of g (Scribble page off bs) ≡ None
scribble_fits g bs size covers = grind arith

-- two scribbles of the same bytes
same_scribble : {page off : ℕ} {bs : List ℕ}
    (q o : ℕ) (b : List ℕ) (g : Guest) (claims : List Claim) (reply : Reply) (new : Guest)
    → Scribble page off bs ≡ Scribble q o b → HonestStep g (Scribble page off bs) claims reply new
    → HonestStep g (Scribble q o b) claims reply new
same_scribble q o b g claims reply new e step = grind arith

-- the step is one of an honest guest, and of a rogue one as well
scribble_step : {m1 m2 : Pages} {p1 p2 : Part} {d : DriverState} {g new : Guest} (page off : ℕ)
    (bs : List ℕ) (claims : List Claim) {keeps : Bool} → Stands keeps m1 p1 d g → Rogue m2 p2 d new
    → AreClaimsFor (pages_needed page bs g) claims → claim_refusal claims ≡ None → new ≡ record g {
      frames = all_backed (pages_needed page bs g) (given claims) g.frames;
      contents = new.contents;
      rogue = true;
    } → refusal_of g (Scribble page off bs) ≡ None
    → GuestStep g (Scribble page off bs) claims Done new
scribble_step page off bs claims stands rogue made all left free = grind arith

-- where driver and device are as they were, but for the device's own frames
marked_after : {m : Pages} {p1 p2 : Part} {d : DriverState} (g : Guest) (frames : List (Option ℕ))
    → Rogue m p1 d (marked g) → p2 ≡ record p1 { own = p2.own }
    → rogue_after (marked g) frames p2 d ≡ record g { frames = frames; rogue = true }
marked_after g frames rogue part = grind arith

-- no frame was wanting
pub scribble_alone : {keeps : Bool} {m1 m2 : Pages} {p1 p2 : Part} {d : DriverState} {g : Guest}
    {page off : ℕ} {bs : List ℕ} → Stands keeps m1 p1 d g → Covers m1 page off (length bs)
    → (0 < length bs → frame_at m1 page ≡ None → ⊥) → Wrote m1 m2 page off bs
    → p2 ≡ p1 → StepsAlone (Stands keeps m2 p2 d) g (Scribble page off bs) Done
scribble_alone {m1} {m2} {p1} {p2} {d} {g} {page} {off} {bs} stands covers never wrote part =
    let old = as_rogue stands in let rest = wrote.rest in
    let new : Guest = rogue_after (marked g) g.frames p2 d in
    let rogue : Rogue m2 p2 d new = rogue_stands g.frames old (keeps_part (driver_same refl)
    part rest.count rest.backing) rest.count refl (λ q. rest.backing q ∙ old.behind q) in
    let needs : pages_needed page bs g ≡ [] = needs_nothing m1 g page bs old.behind never in
    record {
      new = new;
      stands = stands_with stands (ap (λ (p : Part). p.keeps) part)
          (ap (λ (p : Part). p.own) part) refl (rogue_is new rogue);
      step = scribble_step page off bs [] stands rogue (subst
          (λ (l : List ℕ). AreClaimsFor l []) (sym needs) refl) refl (marked_after g g.frames old
          (part ∙ ap (λ (l : List ℕ). record p1 { own = l }) (sym (ap (λ (p : Part). p.own) part)))
          ∙ ap (λ (l : List ℕ). record g { frames = all_backed l [] g.frames; rogue = true })
          (sym needs)) (scribble_fits g bs old.length_is covers);
      frames = refl;
    }

-- the bytes don't lie in a page
pub scribble_outside : {keeps : Bool} {m1 m2 : Pages} {p1 p2 : Part} {d : DriverState} {g : Guest}
    {page off : ℕ} {bs : List ℕ} → Stands keeps m1 p1 d g → m2 ≡ m1 → p2 ≡ p1 → (Covers m1 page off
    (length bs) → ⊥) → StepsAlone (Stands keeps m2 p2 d) g (Scribble page off bs) (Refused OutOfRam)
scribble_outside {m1} {m2} {p2} {d} {g} {page} {off} {bs} stands m p out =
    alone_stands stands (as_it_was p)
    (λ honest. refused_alone honest refused m p refl) (λ rogue. (let same : Rogue m2 p2 d g = subst
    (λ (x : Pages). Rogue x p2 d g) (sym m) (subst (λ (x : Part). Rogue m1 x d g) (sym p) rogue) in
    record {
      new = g;
      stands = same;
      step = rogue_steps (Scribble page off bs) [] (Refused OutOfRam) rogue same refl (ap
          (λ (x : Part). x.target) p) (subst (λ (l : List ℕ). AreClaimsFor l []) (sym none) refl)
          (subst (λ (l : List ℕ). LosesFrames (all_backed l [] g.frames) g.frames) (sym none)
          (λ q frame e. e)) (λ e. absurd cc) (λ e. absurd cc) (left_by (Scribble page off bs)
          OutOfRam [] g refl) (λ q o b e. same_scribble q o b g [] (Refused OutOfRam) g e step);
      frames = refl;
    })) where
      size : length m1 ≡ g.config.pages
      size = (as_rogue stands).length_is

      outside : (b : Bool) → is_outside g page off (length bs) ≡ b
          → is_outside g page off (length bs) ≡ true
      outside x e = grind (arith, outside_is)

      refused : refusal_of g (Scribble page off bs) ≡ Some OutOfRam
      refused = ap (λ (b : Bool). first_refusal ((b ⇒ OutOfRam) ∷ []))
          (outside (is_outside g page off (length bs)) refl)

      none : pages_to_back (Scribble page off bs) g ≡ []
      none = refused_backs (Scribble page off bs) g OutOfRam refused

      step : HonestStep g (Scribble page off bs) [] (Refused OutOfRam) g
      step = search arith

refused_for : (why : KeeperRefused) (page : ℕ) → AreClaimsFor (page ∷ []) (claim_in (Err why) ∷ [])
    × (claim_refusal (claim_in (Err why) ∷ []) ≡ Some (refusal_of_claim why))
refused_for x page = grind arith

-- it leaves the status alone
claim_fault : (why : KeeperRefused) (g : Guest) → with_fault (refusal_of_claim why) g ≡ g
claim_fault x g = grind arith

refused_claimed : {Answers : List Bool → Claim → Type 0} (out1 out2 : List Bool)
    (p1 p2 : Part) (why : KeeperRefused) → IsClaimed Answers (supply_of p1 out1) (supply_of p2 out2)
    (claim_in (Err why)) → AreClaimed Answers (supply_of p1 out1) (claim_in (Err why) ∷ [])
    × Moves (supply_of p1 out1) (supply_of p2 out2) nothing nothing
refused_claimed out1 out2 p1 p2 v a = grind arith

-- a claim was refused
pub scribble_unsupplied : {keeps : Bool}
    {Answers : List Bool → Claim → Type 0} (out1 out2 : List Bool) {m1 m2 : Pages}
    {p1 p2 : Part} {d : DriverState} {g : Guest} {page off : ℕ} {bs : List ℕ} (why : KeeperRefused)
    → IsClaimed Answers (supply_of p1 out1) (supply_of p2 out2) (claim_in (Err why))
    → Stands keeps m1 p1 d g → Covers m1 page off (length bs)
    → 0 < length bs → frame_at m1 page ≡ None → m2 ≡ m1 → p2 ≡ record p1 { own = p2.own }
    → StepsOver (Stands keeps m2 p2 d) Answers (supply_of p1 out1) (supply_of p2 out2)
    (claim_in (Err why) ∷ []) g (Scribble page off bs) (Refused (refusal_of_claim why))
scribble_unsupplied {Answers} out1 out2 {p1} {p2} {g} {page} {off}
    {bs} why answer stands covers some bare m p = over_stands out1 out2 stands (λ honest. record {
      new = g;
      stands = honest_own m p honest;
      step = guest_step g (Scribble page off bs) (claim_in (Err why) ∷ [])
          (Refused (refusal_of_claim why)) g honest.ties.parts.guest.honest step;
      answered = claimed.0;
      moves = moves_as claimed.1 (λ n. omega arith);
    }) (λ rogue. search (
      arith,
      rogue_unclaimed,
      refusal_of_claim,
      not_refused_pages,
      scribble_fits,
      refused_for,
      claim_fault,
      same_scribble,
    )) where
      claimed : AreClaimed Answers (supply_of p1 out1) (claim_in (Err why) ∷ [])
          × Moves (supply_of p1 out1) (supply_of p2 out2) nothing nothing
      claimed = refused_claimed out1 out2 p1 p2 why answer

      step : HonestStep g
          (Scribble page off bs) (claim_in (Err why) ∷ []) (Refused (refusal_of_claim why)) g
      step = search (arith, refusal_of_claim, refused_for, scribble_fits)

-- a page got a frame, and then was written
pub scribble_supplied : {keeps : Bool} {Answers : List Bool → Claim → Type 0}
    (out1 out2 : List Bool) {m1 m2 m3 : Pages} {p1 p2 : Part} {d : DriverState}
    {g : Guest} {page off frame : ℕ} {bs : List ℕ} → IsClaimed Answers (supply_of p1 out1)
    (supply_of p2 out2) (Gave frame) → Stands keeps m1 p1 d g → Covers m1 page off (length bs)
    → 0 < length bs → frame_at m1 page ≡ None → Supplied m1 m2 page frame → Wrote m2 m3 page off bs
    → p2 ≡ record p1 { own = p2.own } → StepsOver (Stands keeps m3 p2 d) Answers
    (supply_of p1 out1) (supply_of p2 out2) (Gave frame ∷ []) g (Scribble page off bs) Done
scribble_supplied out1 out2
    {p1} {p2} {d} {g} {page} {off} {frame} {bs} answer stands covers some bare supplied wrote part =
    let old = as_rogue stands in
    let bare_too : frame_of g.frames page ≡ None = sym (old.behind page) ∙ bare in
    let needs : pages_needed page bs g ≡ page ∷ [] = needs_one g page bs some bare_too in
    let new : Guest = rogue_after (marked g) (backed page frame g.frames) p2 d in
    let rogue = supplied_rogue covers supplied wrote part old in
    let moves = supplied_moves out1 out2 p1 p2 g new page answer
    (omega (arith, covers.page, old.length_is, old.framed)) bare_too refl in
    search (arith, stands_of, rogue_is, own_moved, scribble_step, marked_after, scribble_fits)
