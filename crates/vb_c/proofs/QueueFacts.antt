-- What the calls that start and stop queues answer in C, worked out: each code, the index, and all that is
-- left.
use Rattle.std.proofs.Common.{◌≡◌, ◌∙◌, refl, ap, arith, ℕ, Some, None}
use Rattle.vb_core.specs.declared.kinds.Kind.TheVariants.{Inflate, Deflate, Statistics}
use Rattle.vb_core.specs.declared.{starting.QueueStart.QueueStart}
use Rattle.vb_core.specs.declared.device.Denial.TheVariants.{NotReady, Misplaced}
use Rattle.vb_core.specs.{Starting.started, Devices.placed}
use Rattle.vb_monitor.specs.{declared.balloon.Balloon.Balloon, Places.Lies}
use Rattle.vb_c.specs.{Codes.code_in, Queues.{StartsFor, StopsFor, Forgets, ForgetsFor, SaysHeld, code_of_stop, next_of}}
use Rattle.vb_c.proofs.Samples.{Same, begun, two, balloon}
use Rattle.vb_c.proofs.Samples.{a_buffer}

abbrev at_7 : QueueStart
at_7 = record { table = 0; avail = 0x100; used = 0x200; size = 8; next = 7 }

abbrev running : Balloon
running = record balloon {
  device = record begun { statistics = record (placed 0x800 0x900 0xa00 4) { next_avail = 7; next_used = 6 } };
}

abbrev held_of : Balloon → ℕ
held_of b = b.held.statistics

-- ---- starts

started_alone : (b : Balloon) (n : ℕ) → Lies two (started at_7) → StartsFor (Some Statistics) two at_7 running b n →
    (n ≡ 0) × (b ≡ record { device = record begun { statistics = started at_7 }; held = a_buffer 0 })
unfolding lib.Count.ones
started_alone b n lies (answer, by, is) =
    let h = by.starts refl lies in (is ∙ ap code_in h.0, h.1)

refused_early : (b : Balloon) (n : ℕ) →
    StartsFor (Some Inflate) two at_7 (record running { device = record begun { status = 3 } }) b n →
    (n ≡ 3) × (b ≡ record running { device = record begun { status = 3 } })
unfolding lib.Count.ones
refused_early b n (answer, by, is) = let h = by.denied NotReady refl in (is ∙ ap code_in h.0, h.1)

no_kind : StartsFor None two at_7 running running 5
no_kind = (refl, refl)

started_of_no_kind : StartsFor None two at_7 running (record running { held = a_buffer 0 }) 5 → ⊥
started_of_no_kind h = let e : Same 0 4 = ap held_of h.1 in omega arith

-- ---- stops

stopped_alone : (b : Balloon) (next n : ℕ) → StopsFor (Some Statistics) running b next n →
    (n ≡ 0) × (next ≡ 6) × (b ≡ record { device = begun; held = a_buffer 0 })
stopped_alone b next n (answer, by, index, is) =
    let h = by.stops refl in (is ∙ ap code_of_stop h.0, index ∙ ap next_of h.0, h.1)

-- a queue without a place: 0 for the index
refused : (b : Balloon) (next n : ℕ) → StopsFor (Some Inflate) running b next n →
    (n ≡ 6) × (next ≡ 0) × (b ≡ running)
refused b next n (answer, by, index, is) =
    let h = by.denied Misplaced refl in (is ∙ ap code_of_stop h.0, index ∙ ap next_of h.0, h.1)

no_kind_stops : StopsFor None running running 0 5
no_kind_stops = (refl, refl, refl)

index_of_no_kind : StopsFor None running running 6 5 → ⊥
index_of_no_kind h = let e : Same 6 0 = h.1 in omega arith

-- ---- what is held

abbrev both : Balloon
both = record running { held = record { statistics = 4; deflate = 9; pages = 3 } }

forgotten_deflate : ForgetsFor (Some Deflate) both running 0
forgotten_deflate = record { answer = refl; left = refl }

forgotten_of_no_kind : ForgetsFor None both both 5
forgotten_of_no_kind = (refl, refl)

deflate_alone : ForgetsFor (Some Deflate) both (record running { held = a_buffer 0 }) 0 → ⊥
deflate_alone h = let e : Same 0 4 = ap held_of h.left in omega arith

said : SaysHeld (Some Deflate) both 3 0 × SaysHeld (Some Statistics) both 0 0
    × SaysHeld (Some Inflate) both 0 1 × SaysHeld (Some Deflate) running 0 1 × SaysHeld None both 0 5
said = ((refl, refl), (refl, refl), (refl, refl), (refl, refl), (refl, refl))

other_pages : SaysHeld (Some Deflate) both 2 0 → ⊥
other_pages h = let e : Same 2 3 = h.1 in omega arith

none_said : SaysHeld (Some Deflate) both 0 1 → ⊥
none_said h = let e : Same 1 0 = h.0 in omega arith

some_said : SaysHeld (Some Deflate) running 0 0 → ⊥
some_said h = let e : Same 0 1 = h.0 in omega arith

forgotten : Forgets Statistics running (record running { held = a_buffer 0 }) 0
forgotten = record { answer = refl; left = refl }

held_still : Forgets Statistics running running 0 → ⊥
held_still h = let e : Same 4 0 = ap held_of h.left in omega arith

none_held : (b : Balloon) (n : ℕ) → Forgets Statistics (record running { held = a_buffer 0 }) b n → (n ≡ 1) × (b ≡ record running { held = a_buffer 0 })
none_held b n h = (h.answer, h.left)
