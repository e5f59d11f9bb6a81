-- What is served of a guest that wrote past its driver, chain by chain.
use Rattle.std.proofs.Common.{◌≡◌, ℕ, Bool, true, false, List, [], ◌∷◌, Option, Some, None, Result}
use Rattle.std.proofs.Common.{Ok, Err, refl, sym, ◌∙◌, ap, subst, arith, inl, inr}
use Rattle.std.proofs.{Common.length, lemmas.Bool.MatchBool-at_true}
use Rattle.vb_model.specs.Step.{HonestStep}
use Rattle.std.specs.Prelude.{count_by, is_none, not}
use Rattle.vb_virtio.specs.FirstRefusal.{◌⇒◌, first_refusal}
use Rattle.vb_virtio.specs.Tests.{times}
use Rattle.vb_virtio.specs.Status.{contains, driver_ok, failed, has_fault, is_not_ready}
use Rattle.vb_virtio.specs.Queues.{has_chains, is_queue_of_requests, lacks_feature}
use Rattle.vb_virtio.specs.declared.refusals.Refusal.{Refusal}
use Rattle.vb_virtio.specs.declared.refusals.Refusal.TheVariants.{Broken, Busy, NeedsReset, NoQueue}
use Rattle.vb_virtio.specs.declared.refusals.Refusal.TheVariants.{NotReady, NotTaken, NotWorked}
use Rattle.vb_model.specs.Guest.{Guest}
use Rattle.vb_model.specs.Driver.{AreClaimsFor}
use Rattle.vb_model.specs.Guest.{all_backed, frame_of}
use Rattle.vb_model.specs.Rogue.{GuestStep, IsRogueAfter, LosesFrames, RogueStep, after_refused}
use Rattle.vb_model.specs.Rogue.{pages_to_back, target_after}
use Rattle.vb_model.specs.Tables.{serve_causes}
use Rattle.vb_model.proofs.Wanting.{refused_otherwise, wants}
use Rattle.vb_model.specs.declared.calls.Call.{Call, TheVariants.{Serve, Take}}
use Rattle.vb_model.specs.declared.replies.Reply.{Reply, TheVariants.{Refused, Served}}
use Rattle.vb_ram.specs.{Pages.Pages, Part.Part}
use Rattle.vb_device.proofs.ServeCases.{Did, Not_served, Only_took, Took_and_used, what_it_did}
use Rattle.{vb_device.proofs.Serves.ready_to_use, vb_driver.specs.State.DriverState}
use Rattle.vb_device.specs.{Calls.{ServesBy}, Conditions.{negotiated, serve_refusal, taken_at}}
use Rattle.vb_device.specs.Queues.{queue_part}
use Rattle.vb_guest.proofs.{Handing.{handed_back, loose_none}, RogueDevice.{none_freed, ok_of}}
use Rattle.vb_guest.proofs.{RogueDriver.left_same, RogueQueues.{take_rogue, uses_rogue}}
use Rattle.vb_guest.proofs.Rogues.{nothing_backed}
use Rattle.vb_guest.specs.{Replies.taken_reply, Serving.first_reply, Stands.Rogue}
use Rattle.vb_guest.specs.Steps.{Frees, StepsFreeing, is_frame}

-- ---- steps that claim nothing, whatever is replied

pub record RogueMoves (g new : Guest) : Type 0 where
  pub stays : IsRogueAfter g new
  pub target : new.target ≡ g.target
  pub loses : LosesFrames g.frames new.frames

pub rogue_is : {g : Guest} {call : Call} {reply : Reply} {new : Guest} → g.rogue ≡ true
    → GuestStep g call [] reply new → RogueStep g call [] reply new
rogue_is {g} {call} {reply} {new} is step = MatchBool-at_true (RogueStep g call [] reply new)
    (HonestStep g call [] reply new) is step

-- none is backed for a call that needs no frame
unbacked_none : (pages : List ℕ) (frames : List (Option ℕ)) → all_backed pages [] frames ≡ frames
unbacked_none [] frames = refl
unbacked_none (page ∷ pages) frames = refl

pub moves_of : {g : Guest} (call : Call) (reply : Reply) {new : Guest}
    → target_after call g.target ≡ g.target → RogueStep g call [] reply new → RogueMoves g new
moves_of {g} call reply still step = record {
  stays = step.stays;
  target = step.target ∙ still;
  loses = λ page frame e. ap (λ (fs : List (Option ℕ)). frame_of fs page)
      (sym (unbacked_none (pages_to_back call g) g.frames)) ∙ step.frames page frame e;
}

pub moves_both : {g mid new : Guest} → RogueMoves g mid → RogueMoves mid new → RogueMoves g new
moves_both first second = record {
  stays = record {
    still = second.stays.still;
    config = second.stays.config ∙ first.stays.config;
    unreserved = second.stays.unreserved;
    sizes = second.stays.sizes;
  };
  target = second.target ∙ first.target;
  loses = λ page frame e. first.loses page frame (second.loses page frame e);
}

-- a serve's step, where nothing is for lack of frames or memory, and a refusal leaves what it is
-- said to
serve_moves : {g new : Guest} (q : ℕ) (reply : Reply) → RogueMoves g new → wants reply ≡ false
    → ((why : Refusal) → reply ≡ Refused why → new ≡ after_refused (Serve q) why [] g)
    → RogueStep g (Serve q) [] reply new
serve_moves {g} {new} q reply moves quiet left =
    let none = nothing_backed (Serve q) g refl in record {
      stays = moves.stays;
      target = moves.target;
      claimed = subst (λ (l : List ℕ). AreClaimsFor l []) (sym none) refl;
      frames = subst (λ (l : List ℕ). LosesFrames (all_backed l [] g.frames) new.frames) (sym none)
          moves.loses;
      no_frame = λ e. absurd (let bad = sym (ap wants e) ∙ quiet in cc);
      no_memory = λ e. absurd (let bad = sym (ap wants e) ∙ quiet in cc);
      refused = left;
      scribble = λ page offset bytes e. absurd cc;
    }

pub serve_told : {g new : Guest} (q chains : ℕ) (broken : Option ℕ) → RogueMoves g new
    → RogueStep g (Serve q) [] (Served chains broken) new
serve_told q chains broken moves =
    serve_moves q (Served chains broken) moves refl (λ why e. absurd cc)

-- what it is told where the serve was refused, or went no further
refused_so : {g new : Guest} (q : ℕ) (why : Refusal) → RogueStep g (Take q) [] (Refused why) new
    → RogueStep g (Serve q) [] (Refused why) new
refused_so {g} {new} q why step = let none = nothing_backed (Serve q) g refl in record {
  stays = step.stays;
  target = step.target;
  claimed = subst (λ (l : List ℕ). AreClaimsFor l []) (sym none) refl;
  frames = subst (λ (l : List ℕ). LosesFrames (all_backed l [] g.frames) new.frames) (sym none)
      (moves_of (Take q) (Refused why) refl step).loses;
  no_frame = step.no_frame;
  no_memory = λ e. elim (step.no_memory e) [
    | inl claim ↦ inl claim
    | inr read ↦ absurd (let bad = read.3 in cc)
  ];
  refused = λ other e. step.refused other e;
  scribble = λ page offset bytes e. absurd cc;
}

told_so : {g new : Guest} (q : ℕ) (result : Result (Option ℕ) Refusal)
    → RogueStep g (Take q) [] (taken_reply result) new
    → RogueStep g (Serve q) [] (first_reply result) new
told_so q (Ok None) step = serve_told q 0 None (moves_of (Take q) _ refl step)
told_so q (Ok (Some h)) step = serve_told q 1 None (moves_of (Take q) _ refl step)
told_so q (Err (Broken rule)) step = serve_told q 0 (Some rule) (moves_of (Take q) _ refl step)
told_so q (Err why) step = refused_so q why step

-- ---- one chain

never_broken : (a b c d e : Bool) (rule : ℕ) → first_refusal ((a ⇒ NoQueue) ∷ (b ⇒ NotReady)
    ∷ (c ⇒ NeedsReset) ∷ (d ⇒ NoQueue) ∷ (e ⇒ Busy) ∷ []) ≡ Some (Broken rule) → ⊥
never_broken a b c d e rule is = grind arith

refused_is : (q : ℕ) (p : Part) (why : Refusal) → serve_refusal q p ≡ Some why
    → first_reply (Err why) ≡ Refused why
refused_is q p (Broken rule) e = absurd (never_broken (not (has_chains q)) (is_not_ready p.status)
    (has_fault p.status) (lacks_feature p.features q) _ rule e)
refused_is q p why e = refl

ready_part : (a b c d : Bool) → first_refusal ((not a ⇒ NoQueue) ∷ (b ⇒ NotReady)
    ∷ (c ⇒ NeedsReset) ∷ (d ⇒ NotTaken) ∷ (false ⇒ NotWorked) ∷ []) ≡ None
    → (a ≡ true) × (b ≡ false)
ready_part a b c d e = grind arith

rogue_back : {m1 m2 : Pages} {p1 p2 : Part} {d : DriverState} {g : Guest} → m2 ≡ m1 → p2 ≡ p1
    → Rogue m1 p1 d g → Rogue m2 (handed_back p2) d g
rogue_back {m1} {m2} {p1} {p2} {d} {g} m p rogue =
    subst (λ (x : Pages). Rogue x (handed_back p2) d g) (sym m)
    (subst (λ (x : Part). Rogue m1 x d g) (sym (ap handed_back p ∙ loose_none rogue.loose)) rogue)

pub next_rogue : {m1 m2 : Pages} {p1 p2 : Part} {d : DriverState} {g : Guest} {q : ℕ}
    {result : Result (Option ℕ) Refusal} → ServesBy q m1 m2 p1 p2 result → Rogue m1 p1 d g
    → Frees (Rogue m2 (handed_back p2) d) (RogueStep g (Serve q) [] (first_reply result)) p2.loose g
next_rogue {m1} {m2} {p1} {p2} {d} {g} {q} {result} did rogue = by (what_it_did did) where
  Done : Result (Option ℕ) Refusal → Type 0
  Done r =
      Frees (Rogue m2 (handed_back p2) d) (RogueStep g (Serve q) [] (first_reply r)) p2.loose g

  by : Did q m1 m2 p1 p2 result → Done result
  by (Not_served why e answer part memory) =
      let causes = serve_causes q (negotiated p1) (length (queue_part q p1).taken) in
      let step : StepsFreeing (Rogue m2 (handed_back p2) d) p2.loose g (Serve q) (Refused why) =
      none_freed memory part refl (refused_otherwise causes why refl e)
      (λ page offset bytes x. cc) refl (left_same d (Serve q) why causes rogue refl refl part (sym e)
      refl refl) rogue in
      subst Done (sym answer) (record {
        new = step.new;
        stands = step.stands;
        step = subst (λ (r : Reply). RogueStep g (Serve q) [] r step.new) (sym (refused_is q p1 why e))
            (rogue_is rogue.rogue step.step);
        freed = step.freed;
      })
  by (Only_took part e takes same memory) =
      let took = take_rogue takes rogue in record {
        new = took.new;
        stands = rogue_back memory same took.stands;
        step = told_so q result (rogue_is rogue.rogue took.step);
        freed = λ k. omega (
          arith,
          ap (λ (x : Part). times k x.loose) same,
          ap (times k) took.stands.loose,
          ap (count_by (is_frame k)) took.frames,
        );
      }
  by (Took_and_used part h r e other answer takes at uses) =
      let took = take_rogue takes rogue in
      let ready = ready_part (is_queue_of_requests q) (is_not_ready part.status)
      (has_fault part.status) (is_none (taken_at q 0 part))
      (ready_to_use q h m1 m1 p1 part e takes other) in
      let left = uses_rogue (Serve q) (Served 1 None) r ready.0 (ok_of
      (contains part.status driver_ok) (contains part.status failed) ready.1) at uses refl refl
      (λ page offset bytes x. cc) refl took.stands in
      let first = moves_of (Take q) _ refl (rogue_is rogue.rogue took.step) in
      let second = moves_of (Serve q) _ refl (rogue_is took.stands.rogue left.step) in
      subst Done (sym answer) (record {
        new = left.new;
        stands = left.stands;
        step = serve_told q 1 None (moves_both first second);
        freed = λ k. left.freed k ∙ ap (count_by (is_frame k)) took.frames;
      })
