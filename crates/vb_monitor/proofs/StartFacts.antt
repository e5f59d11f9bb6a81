-- Queues of a balloon that start at an index over regions, and stop, worked out: the answer, and all that
-- is left, where it is done and where it is refused.
use Rattle.std.proofs.Common.{◌≡◌, refl, ap, arith, inl, inr, ℕ, false, true}
use Rattle.std.proofs.Common.{Option, Some, None, Result, Ok, Err}
use Rattle.vb_core.specs.declared.{held.Held.Held, kinds.Kind.TheVariants.{Inflate, Deflate, Statistics}}
use Rattle.vb_core.specs.declared.{starting.QueueStart.QueueStart}
use Rattle.vb_core.specs.declared.{device.Device.Device, device.Denial.Denial}
use Rattle.vb_core.specs.declared.device.Denial.TheVariants.{NotReady, Misplaced}
use Rattle.vb_core.specs.{Rings.no_ring, Starting.started}
use Rattle.vb_monitor.specs.{Places.{Lies}, Queues.{StartsBy, StopsBy}}
use Rattle.vb_monitor.specs.declared.balloon.Balloon.{Balloon}
use Rattle.vb_monitor.proofs.{LieFacts.in_low_pages, Samples.{Same, two, ready, elsewhere, a_buffer}}

-- ready, with a target, a buffer and a deflate that are held, and queues that have moved
abbrev device : Device
device = record ready { target = 3; inflate = elsewhere; statistics = record elsewhere { next_avail = 6 } }

abbrev both : Held
both = record { statistics = 4; deflate = 9; pages = 3 }

abbrev holding : Balloon
holding = record { device = device; held = both }

-- one of its chains is held, and wasn't given back
abbrev deflating : Balloon
deflating = record holding { device = record device { deflate = record elsewhere { next_avail = 6 } } }

-- ---- starts

abbrev at_7 : QueueStart
at_7 = record { table = 0; avail = 0x100; used = 0x200; size = 8; next = 7 }

lies_there : Lies two (started at_7)
lies_there = inr (record { table = in_low_pages.table; avail = in_low_pages.avail; used = in_low_pages.used })

abbrev inflating : Balloon
inflating = record holding { device = record device { inflate = started at_7 } }

starts : StartsBy Inflate two at_7 holding inflating (Ok tt)
unfolding lib.Count.ones
starts = record {
  denied = λ why e. absurd cc;
  hole = λ e away. absurd (away lies_there);
  starts = λ e lies. (refl, refl);
}

-- just so: what is held stays, but for its own queue
started_alone : (b : Balloon) (result : Result (Unit {0}) Denial) →
    StartsBy Inflate two at_7 holding b result → (result ≡ Ok tt) × (b ≡ inflating)
unfolding lib.Count.ones
started_alone b result h = h.starts refl lies_there

statistics_started : (b : Balloon) (result : Result (Unit {0}) Denial) →
    StartsBy Statistics two at_7 holding b result →
    (result ≡ Ok tt) × (b ≡ record {
      device = record device { statistics = started at_7 };
      held = record both { statistics = 0 };
    })
unfolding lib.Count.ones
statistics_started b result h = h.starts refl lies_there

abbrev held_of : Balloon → ℕ
held_of b = b.held.statistics

held_still : StartsBy Statistics two at_7 holding
    (record holding { device = record device { statistics = started at_7 } }) (Ok tt) → ⊥
unfolding lib.Count.ones
held_still h = let e : Same 4 0 = ap held_of (h.starts refl lies_there).1 in omega arith

-- and so is a deflate, with its pages, with its queue
deflates_started : (b : Balloon) (result : Result (Unit {0}) Denial) →
    StartsBy Deflate two at_7 holding b result → (result ≡ Ok tt) × (b ≡ record {
      device = record device { deflate = started at_7 };
      held = a_buffer 4;
    })
unfolding lib.Count.ones
deflates_started b result h = h.starts refl lies_there

-- ---- refusals, which leave the balloon as it was: a table in the hole, and a driver that has agreed to nothing

abbrev in_the_hole : QueueStart
in_the_hole = record at_7 { table = 0x15000 }

not_there : Lies two (started in_the_hole) → ⊥
not_there (inl e) = let n : Same 8 0 = e in omega arith
not_there (inr h) = let e : false ≡ true = h.table 0x15000 (omega arith) (omega arith) in absurd cc

refused_of_the_hole : (b : Balloon) (result : Result (Unit {0}) Denial) →
    StartsBy Inflate two in_the_hole holding b result → (result ≡ Err Misplaced) × (b ≡ holding)
unfolding lib.Count.ones
refused_of_the_hole b result h = h.hole refl not_there

abbrev early : Balloon
early = record holding { device = record device { status = 3 } }

refused_early : (b : Balloon) (result : Result (Unit {0}) Denial) →
    StartsBy Inflate two at_7 early b result → (result ≡ Err NotReady) × (b ≡ early)
unfolding lib.Count.ones
refused_early b result h = h.denied NotReady refl

-- where both are so, the first of the two is said
refused_for_both : (b : Balloon) (result : Result (Unit {0}) Denial) →
    StartsBy Inflate two in_the_hole early b result → (result ≡ Err NotReady) × (b ≡ early)
unfolding lib.Count.ones
refused_for_both b result h = h.denied NotReady refl

abbrev answer : Option Denial → Result (Unit {0}) Denial
answer None = Ok tt
answer (Some why) = Err why

refuses_for_both : StartsBy Inflate two in_the_hole early early (Err NotReady)
unfolding lib.Count.ones
refuses_for_both = record {
  denied = λ why e. (ap answer e, refl);
  hole = λ e away. absurd cc;
  starts = λ e lies. absurd cc;
}

-- ---- stops: by what was given back, and not by what was taken

stops : StopsBy Statistics holding (record {
  device = record device { statistics = no_ring };
  held = record both { statistics = 0 };
}) (Ok 5)
stops = record { denied = λ why e. absurd cc; stops = λ e. (refl, refl) }

stopped_alone : (b : Balloon) (result : Result ℕ Denial) → StopsBy Inflate holding b result →
    (result ≡ Ok 5) × (b ≡ record holding { device = record device { inflate = no_ring } })
stopped_alone b result h = h.stops refl

deflates_stopped : (b : Balloon) (result : Result ℕ Denial) → StopsBy Deflate deflating b result →
    (result ≡ Ok 5) × (b ≡ record { device = record device { deflate = no_ring }; held = a_buffer 4 })
deflates_stopped b result h = h.stops refl

abbrev next_of : Result ℕ Denial → ℕ
next_of (Ok next) = next
next_of (Err why) = 70000

by_what_was_taken : (b : Balloon) → StopsBy Statistics holding b (Ok 6) → ⊥
by_what_was_taken b h = let e : Same 6 5 = ap next_of (h.stops refl).0 in omega arith

held_after_it : StopsBy Statistics holding (record holding { device = record device { statistics = no_ring } }) (Ok 5) → ⊥
held_after_it h = let e : Same 4 0 = ap held_of (h.stops refl).1 in omega arith

abbrev stopped : Balloon
stopped = record holding { device = record device { inflate = no_ring } }

not_there_any_longer : (b : Balloon) (result : Result ℕ Denial) → StopsBy Inflate stopped b result →
    (result ≡ Err Misplaced) × (b ≡ stopped)
not_there_any_longer b result h = h.denied Misplaced refl
