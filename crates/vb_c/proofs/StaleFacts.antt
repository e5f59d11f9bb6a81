-- Which notices go on after a call on their device, and what is still to be done of them, worked out.
use Rattle.std.proofs.Common.{◌≡◌, refl, ap, arith, ℕ, true, false, None}
use Rattle.vb_core.{specs.declared.kinds.Kind.Kind, specs.declared.device.Device.Device}
use Rattle.vb_core.specs.declared.kinds.Kind.TheVariants.{Inflate, Hint, Report}
use Rattle.vb_monitor.specs.declared.step.Phase.TheVariants.{Discards}
use Rattle.vb_monitor.specs.{declared.balloon.Balloon.Balloon, Snapshots.{snapshot_of, IsCurrent}}
use Rattle.vb_monitor.specs.Steps.{tally_of, phase_of, part_of, discarding_of}
use Rattle.vb_c.specs.declared.notice.VbNotice.{VbNotice}
use Rattle.vb_c.specs.{Notices.{Notice, still_asked, Rechecks, RechecksFor}, Serving.{GoesOnWhile, leaves_hints}}
use Rattle.vb_c.proofs.{HandingFacts.shown, BeginFacts.{room, at_flags, ended, goes_on}}
use Rattle.vb_c.proofs.Samples.{Same, two, begun, ready, balloon, a_buffer}

-- ---- only while the device is as the notice left it

unchanged : GoesOnWhile at_flags (snapshot_of Inflate begun) two 0 balloon balloon room room ended
unchanged = record {
  current = λ is. goes_on;
  stale = λ no. absurd (no (record { ring = refl; status = refl }));
}

-- one that was left with another status ends, with code 14, and nothing else
not_ready : IsCurrent (snapshot_of Inflate ready) Inflate begun → ⊥
not_ready h = let e : Same 15 11 = h.status in omega arith

abbrev over : VbNotice
over = record shown { what = 0; step = record (shown.step) { phase = 0; code = 14 } }

ends : GoesOnWhile at_flags (snapshot_of Inflate ready) two 0 balloon balloon room room over
ends = record {
  current = λ is. absurd (not_ready is);
  stale = λ no. record {
    ended = record {
      what = refl;
      phase = refl;
      code_is = refl;
      rule = refl;
      interrupt = refl;
      configuration = refl;
      more = refl;
    };
    balloon = refl;
    room = refl;
  };
}

goes_on_all_the_same : GoesOnWhile at_flags (snapshot_of Inflate ready) two 0 balloon balloon room room ended → ⊥
goes_on_all_the_same h = let e : Same 1 14 = (h.stale not_ready).ended.code_is in omega arith

lost_when_stale : (c : VbNotice) → GoesOnWhile at_flags (snapshot_of Inflate ready) two 0 balloon
    (record balloon { held = a_buffer 0 }) room room c → ⊥
lost_when_stale c h =
    let e : Same 0 4 = ap (λ (b : Balloon). b.held.statistics) (h.stale not_ready).balloon in omega arith

stale_although_unchanged : (b2 : Balloon) →
    GoesOnWhile at_flags (snapshot_of Inflate begun) two 0 balloon b2 room room (record over { kind = 9 }) → ⊥
unfolding phase_of
stale_although_unchanged b2 h =
    let read = (h.current (record { ring = refl; status = refl })).hands.is.read in absurd cc

-- ---- hints of a round that closed since are left, and no others

abbrev at_hints : Kind → Notice
at_hints kind = record { kind = kind; step = record { tally = tally_of (shown.step); phase = Discards (part_of shown.step) (discarding_of shown.step) } }

abbrev in_round : ℕ → Device
in_round opened = record begun { round = record { shown = 4; last = 4; opened = opened } }

which_are_left : (leaves_hints (at_hints Hint) (snapshot_of Hint (in_round 1)) (in_round 0) ≡ true)
    × (leaves_hints (at_hints Hint) (snapshot_of Hint (in_round 1)) (in_round 1) ≡ false)
    × (leaves_hints (at_hints Report) (snapshot_of Hint (in_round 1)) (in_round 0) ≡ false)
    × (leaves_hints at_flags (snapshot_of Hint (in_round 1)) (in_round 0) ≡ false)
which_are_left = (refl, refl, refl, refl)

-- ---- what is still asked: all, all but the discards, or nothing

still : (still_asked true 25 ≡ 25) × (still_asked false 25 ≡ 17) × (still_asked false 17 ≡ 17)
    × (still_asked false 8 ≡ 0)
still = (refl, refl, refl, refl)

rechecked : Rechecks Inflate shown begun 128
rechecked = record { current = λ is. refl; stale = λ no. absurd (no (record { ring = refl; status = refl })) }

asked_when_stale : Rechecks Inflate shown ready 128 → ⊥
asked_when_stale h =
    let e : Same 128 0 = h.stale (λ is. let e : Same 11 15 = is.status in omega arith) in omega arith

of_no_kind : RechecksFor None shown begun 128 → ⊥
of_no_kind h = let e : Same 128 0 = h in omega arith

hints_of_a_closed_round : Rechecks Hint (record shown { what = 25; left = snapshot_of Hint (in_round 1) }) (in_round 0) 25 → ⊥
hints_of_a_closed_round h =
    let e : Same 25 17 = h.current (record { ring = refl; status = refl }) in omega arith
