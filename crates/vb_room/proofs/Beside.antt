-- A host that asks its lender first covers each of its guests.
use Rattle.std.proofs.Common.{Bool, List, [], ap, arith, inl, inr, length, refl, replicate, subst, suc, sym, zero, ℕ, ◌+◌, ◌++◌, ◌∙◌, ◌∷◌, ◌≤◌, ◌≡◌}
use Rattle.std.proofs.lemmas.List.Sums.{sum_by-cons}
use Rattle.std.specs.Prelude.{Some, slice_get}
use Rattle.vb_model.proofs.Cases.{match_cases}
use Rattle.vb_model.proofs.RunLaws.{last_world-push, steps-push}
use Rattle.vb_model.specs.HostEvents.{Happens, PlugsIn, WorldStep, after_balance, Calls}
use Rattle.vb_model.specs.HostRefusals.{world_causes}
use Rattle.vb_model.specs.Life.{after_restart}
use Rattle.vb_virtio.specs.FirstRefusal.{first_refusal}
use Rattle.vb_model.specs.Run.{History, Run, last_world, states}
use Rattle.vb_model.specs.World.{World, guest_at, made, put_guest}
use Rattle.vb_model.specs.declared.calls.Event.{Event}
use Rattle.vb_model.specs.declared.calls.Event.TheVariants.{Balance, Plug, Restart, Unplug}
use Rattle.vb_model.specs.declared.calls.Event.TheVariants.{Frames as CountFrames, Guest as OnGuest, Query as OnQuery}
use Rattle.vb_model.specs.declared.replies.Reply.{Reply}
use Rattle.vb_model.specs.declared.replies.Reply.TheVariants.{Done, Refused, Targets}
use Rattle.vb_host.specs.Lending.{Lending, owed}
use Rattle.vb_host.specs.Seats.{lent, newcomer}
use Rattle.vb_room.proofs.Lent.{lends_have, plays_have, stays_within}
use Rattle.vb_room.proofs.Owed.{IsWithin}
use Rattle.vb_room.proofs.Room.{Known, known_at}
use Rattle.vb_room.proofs.Roomy.{AllRoomy, roomy_in_runs}
use Rattle.vb_room.proofs.Seats.{none_lacks_lent}
use Rattle.vb_room.specs.Beside.{AskingFirstSuffices, AsksFirst, Both, BothStep, BothSteps, IsCovered, Lends, Move, Plays, opened}
use Rattle.vb_room.specs.Tie.{HaveSeats}

-- ---- the world of a state is one of a run

pub record Reached (frames : ℕ) (spares : List Bool) (w : World) : Type 0 where
  pub history : History
  pub run : Run frames spares history
  pub ends : last_world history.first history.after ≡ w

begins : (frames : ℕ) (spares : List Bool) → Reached frames spares (made frames spares)
begins frames spares = record {
  history = record { first = made frames spares; events = []; replies = []; after = [] };
  run = (refl, tt);
  ends = refl;
}

goes_on : (frames : ℕ) (spares : List Bool) (w : World) (event : Event) (reply : Reply) (v : World) → Reached frames spares w
    → WorldStep w event reply v → Reached frames spares v
goes_on frames spares w event reply v r step = record {
  history = record {
    first = r.history.first;
    events = r.history.events ++ event ∷ [];
    replies = r.history.replies ++ reply ∷ [];
    after = r.history.after ++ v ∷ [];
  };
  run = (
    r.run.0,
    steps-push r.history.first r.history.events r.history.replies r.history.after event reply v r.run.1
        (subst (λ (x : World). WorldStep x event reply v) (sym r.ends) step),
  );
  ends = last_world-push r.history.first r.history.after v;
}

last_state : (x : World) (after : List World) → slice_get (x ∷ after) (length after) ≡ Some (last_world x after)
last_state x [] = refl
last_state x (y ∷ after) = last_state y after

pub reached_known : (frames : ℕ) (spares : List Bool) (w : World) → Reached frames spares w → Known w × AllRoomy w
reached_known frames spares w r =
    let at : slice_get (states r.history) (length r.history.after) ≡ Some w = last_state r.history.first r.history.after ∙ ap (λ (x : World). Some x) r.ends in
    (known_at frames spares r.history r.run (length r.history.after) w at, roomy_in_runs frames spares r.history r.run (length r.history.after) w at)

-- ---- the frames there are stay

abbrev frames_of : World → ℕ
frames_of w = w.frames

balance_frames : (reply : Reply) (w : World) → (after_balance reply w).frames ≡ w.frames
balance_frames (Targets ts) w = refl
balance_frames _ w = refl

happens_frames : (event : Event) (w : World) (reply : Reply) (v : World) → Happens event w reply v → v.frames ≡ w.frames
happens_frames (Plug size) w reply v s = plugs w.spares s where
  plugs : (spares : List Bool) → PlugsIn size spares w reply v → v.frames ≡ w.frames
  plugs [] s = absurd s
  plugs (paced ∷ rest) (inl same) = ap frames_of same.1
  plugs (paced ∷ rest) (inr p) = ap frames_of p.4
happens_frames (Unplug m) w reply v s = ap frames_of s.1
happens_frames (Restart m) w reply v s = elim (match_cases (guest_at w.guests m) ⊥ (λ old. (reply ≡ Done) × (v ≡ put_guest m (Some (after_restart old)) w)) s) [
  | inl none ↦ absurd none.1
  | inr old ↦ ap frames_of old.2.1
]
happens_frames (OnGuest m call) w reply v s = elim (match_cases (guest_at w.guests m) ⊥ (λ old. Calls m old w call reply v) s) [
  | inl none ↦ absurd none.1
  | inr old ↦ ap frames_of old.2.4
]
happens_frames (OnQuery m query) w reply v s = ap frames_of s.1
happens_frames (Balance floor) w reply v s = ap frames_of s.1 ∙ balance_frames reply w
happens_frames CountFrames w reply v s = ap frames_of s.1

frames_kept : (event : Event) (w : World) (reply : Reply) (v : World) → WorldStep w event reply v → v.frames ≡ w.frames
frames_kept event w reply v s = elim (match_cases (first_refusal (world_causes w event)) (Happens event w reply v) (λ refusal. (reply ≡ Refused refusal) × (v ≡ w)) s) [
  | inl p ↦ happens_frames event w reply v p.1
  | inr r ↦ ap frames_of r.2.1
]

-- ---- what each state keeps

pub record Holds (limited : ℕ → Bool) (frames : ℕ) (spares : List Bool) (b : Both) : Type 0 where
  pub reached : Reached frames spares b.world
  pub have : HaveSeats limited b.lending.seats b.world
  pub within : IsWithin b.lending b.world.frames

vacant_owe : (n : ℕ) → owed (replicate n (newcomer 0)) ≡ 0
vacant_owe zero = refl
vacant_owe (suc n) = omega (arith, vacant_owe n, sum_by-cons lent (newcomer 0) (replicate n (newcomer 0)))

opened_holds : (limited : ℕ → Bool) (frames budget overdraft places : ℕ) (spares : List Bool) → budget + overdraft ≤ frames
    → Holds limited frames spares (opened frames spares budget overdraft places)
opened_holds limited frames budget overdraft places spares l = record {
  reached = begins frames spares;
  have = λ n g at. absurd cc;
  within = record { owed = omega (arith, vacant_owe places); budget = l };
}

holds_by : (limited : ℕ → Bool) (frames : ℕ) (spares : List Bool) (b : Both) (w : World) (l : Lending) → b.world ≡ w → b.lending ≡ l
    → Reached frames spares w → HaveSeats limited l.seats w → IsWithin l w.frames → Holds limited frames spares b
holds_by limited frames spares b w l e f r h i = record {
  reached = subst (Reached frames spares) (sym e) r;
  have = subst (λ (x : World). HaveSeats limited b.lending.seats x) (sym e) (subst (λ (x : Lending). HaveSeats limited x.seats w) (sym f) h);
  within = subst (λ (x : World). IsWithin b.lending x.frames) (sym e) (subst (λ (x : Lending). IsWithin x w.frames) (sym f) i);
}

holds_step : (limited : ℕ → Bool) (frames : ℕ) (spares : List Bool) (b : Both) (move : Move) (next : Both) → Holds limited frames spares b
    → AsksFirst limited b move next → BothStep b move next → Holds limited frames spares next
holds_step limited frames spares b (Plays event reply) next h asked step =
    let known = reached_known frames spares b.world h.reached in
    holds_by limited frames spares next next.world b.lending refl step.1
    (goes_on frames spares b.world event reply next.world h.reached step.0)
    (plays_have limited b.world event reply next.world b.lending.seats known.0.bare step.0 asked h.have)
    (subst (λ (k : ℕ). IsWithin b.lending k) (sym (frames_kept event b.world reply next.world step.0)) h.within)
holds_step limited frames spares b (Lends event) next h asked step =
    holds_by limited frames spares next b.world _ step.0 step.1 h.reached (lends_have limited b event asked h.have)
    (stays_within limited b event asked h.within)

same_state : (a b : Both) → Some a ≡ Some b → a ≡ b
same_state a b e = cc

holds_at : (limited : ℕ → Bool) (frames : ℕ) (spares : List Bool) (b : Both) (moves : List Move) (after : List Both) → Holds limited frames spares b
    → BothSteps limited b moves after → (i : ℕ) (c : Both) → slice_get (b ∷ after) i ≡ Some c → Holds limited frames spares c
holds_at limited frames spares b moves after h s zero c e = subst (Holds limited frames spares) (same_state b c e) h
holds_at limited frames spares b [] [] h s (suc i) c e = absurd cc
holds_at limited frames spares b (move ∷ moves) (next ∷ after) h s (suc i) c e =
    holds_at limited frames spares next moves after (holds_step limited frames spares b move next h s.0 s.1) s.2 i c e
holds_at limited frames spares b [] (next ∷ after) h s (suc i) c e = absurd s
holds_at limited frames spares b (move ∷ moves) [] h s (suc i) c e = absurd s

covers : (limited : ℕ → Bool) (frames : ℕ) (spares : List Bool) (b : Both) → Holds limited frames spares b → IsCovered limited b
covers limited frames spares b h =
    let known = reached_known frames spares b.world h.reached in record {
      within = h.within.owed;
      seats = h.have;
      none_lacks = none_lacks_lent limited b.world b.lending.seats known.0 known.1 h.have h.within.owed;
    }

pub asking_first : AskingFirstSuffices
asking_first limited frames budget overdraft places spares moves after l s i b e =
    covers limited frames spares b
    (holds_at limited frames spares (opened frames spares budget overdraft places) moves after (opened_holds limited frames budget overdraft places spares l) s i b e)
