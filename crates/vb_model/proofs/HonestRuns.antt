-- A guest stays honest until it scribbles.
use Rattle.std.proofs.Common.{◌≡◌, ℕ, zero, suc, ◌+◌, ap, subst, ◌∙◌, arith}
use Rattle.std.specs.Prelude.{Option, Some, IsFalse}
use Rattle.vb_model.{specs.HonestRuns.{IsThere, MakesNoScribble, HonestStay}, specs.Safe.IsHonest}
use Rattle.vb_model.{proofs.Runs.{Positions, positions, guest_there}, specs.Run.{History, guest_in}}
use Rattle.vb_model.{specs.declared.calls.Event.Event, proofs.Fates.rogues_made, specs.Guest.Guest}

still_honest : (h : History) → Positions h → (n i k : ℕ) (g new : Guest) → IsThere h n i k
    → MakesNoScribble h n i k → IsHonest h n i g → guest_in h n (i + k) ≡ Some new
    → IsFalse new.rogue
still_honest h p n i zero g new there none honest last = grind (arith, h)
still_honest h p n i (suc k) g new there none honest last =
    let (old, here) = there k (omega arith) in
    let was = still_honest h p n i k g old (λ j le. there j (omega (arith, le)))
    (λ j page offset bytes lt. none j page offset bytes (omega (arith, lt))) honest here in
    let ga = guest_there h n (i + k) old here in
    let gb = guest_there h n (i + k + 1) new (subst (λ (m : ℕ). guest_in h n m ≡ Some new)
    (let e : i + suc k ≡ i + k + 1 = omega arith in e) last) in
    let s = p.step (i + k) ga.world gb.world ga.state gb.state in
    rogues_made ga.world s.event s.reply gb.world n old new
    (record { step = s.step; before = ga.at; after = gb.at })
    (λ page offset bytes e. none k page offset bytes (omega arith)
    (s.event_is ∙ ap (λ (x : Event). some_event x) e)) was
  where
    some_event : Event → Option Event
    some_event x = Some x

pub honest_stay : HonestStay
honest_stay frames spares h r = still_honest h (positions frames spares h r)
