-- The chains that a balloon holds, when its queues may be looked at, and what a write of the status
-- makes of it, worked out.
use Rattle.std.proofs.Common.{◌≡◌, refl, ℕ, Bool, true, false, List, [], ◌∷◌, map, Option, Some, None}
use Rattle.std.specs.Prelude.{option_map}
use Rattle.vb_core.specs.declared.kinds.Kind.{Kind}
use Rattle.vb_core.specs.declared.kinds.Kind.TheVariants.{Inflate, Deflate, Statistics, Hint, Report}
use Rattle.vb_core.specs.declared.device.{Denial.TheVariants.NotReady}
use Rattle.vb_core.specs.{Devices.new_device, Held.nothing_held, declared.held.Held.Held}
use Rattle.vb_monitor.specs.declared.{balloon.Balloon.Balloon, outcome.Outcome.Outcome}
use Rattle.vb_monitor.specs.declared.outcome.HeldChain.{HeldChain}
use Rattle.vb_monitor.specs.Balloons.{held_chain, may_look, held_after, after_status, may_tell, becomes_ready}
use Rattle.vb_monitor.specs.Places.{is_memory, may_be_memory}
use Rattle.vb_monitor.proofs.Samples.{two, low, settings, ready, tally, chain_of, a_buffer}

abbrev holding : ℕ → Balloon
holding n = record { device = ready; held = a_buffer n }

-- a buffer and a deflate of three pages
abbrev both : Held
both = record { statistics = 4; deflate = 9; pages = 3 }

abbrev kinds : List Kind
kinds = Inflate ∷ Deflate ∷ Statistics ∷ Hint ∷ Report ∷ []

-- ---- the head of the buffer: one less than the number, and none for 0

abbrev head_in : ℕ → Option ℕ
head_in n = option_map (λ (x : HeldChain). x.head) (held_chain Statistics (a_buffer n))

heads : map head_in (0 ∷ 1 ∷ 256 ∷ 65535 ∷ 65536 ∷ 65537 ∷ [])
    ≡ None ∷ Some 0 ∷ Some 255 ∷ Some 65534 ∷ Some 65535 ∷ Some 65535 ∷ []
heads = refl

-- with its pages, of a deflate, and of no other kind
chains : map (λ kind. held_chain kind both) kinds ≡ None ∷ chain_of 8 3 ∷ chain_of 3 0 ∷ None ∷ None ∷ []
chains = refl

-- ---- which queues may be looked at: all, but those of which a chain is held

abbrev looks : ℕ → List Bool
looks n = map (λ kind. may_look kind (holding n)) kinds

none_held : looks 0 ≡ true ∷ true ∷ true ∷ true ∷ true ∷ []
none_held = refl

one_held : looks 1 ≡ true ∷ true ∷ false ∷ true ∷ true ∷ []
one_held = refl

both_held : map (λ kind. may_look kind (record { device = ready; held = both })) kinds
    ≡ true ∷ false ∷ false ∷ true ∷ true ∷ []
both_held = refl

-- ---- what is held after a notice

abbrev came : Option HeldChain → Bool → Outcome
came taken given = record {
  tally = record tally { held = taken; given = given };
  why = None;
  interrupt = false;
  more = false;
}

abbrev held_next : Held → Outcome → List Held
held_next held outcome = map (λ kind. held_after kind outcome (record { device = ready; held = held })) kinds

-- the chain that was taken is held of its kind's queue, with a deflate's pages
taken : held_next nothing_held (came (chain_of 6 2) false)
    ≡ nothing_held ∷ record nothing_held { deflate = 7; pages = 2 } ∷ a_buffer 7 ∷ nothing_held ∷ nothing_held ∷ []
taken = refl

first_one_taken : held_next nothing_held (came (chain_of 0 0) false)
    ≡ nothing_held ∷ record nothing_held { deflate = 1 } ∷ a_buffer 1 ∷ nothing_held ∷ nothing_held ∷ []
first_one_taken = refl

-- what is held stays so until it is given back: no second one of its kind is
still_held : held_next both (came (chain_of 6 2) false) ≡ both ∷ both ∷ both ∷ both ∷ both ∷ []
still_held = refl

-- once it was, nothing of its kind is held; a deflate's pages go with it, and the other kind's
-- stays
given_back : held_next both (came (chain_of 6 2) true)
    ≡ both ∷ a_buffer 4 ∷ record both { statistics = 0 } ∷ both ∷ both ∷ []
given_back = refl

given_back_of_others : held_next both (came None true)
    ≡ both ∷ a_buffer 4 ∷ record both { statistics = 0 } ∷ both ∷ both ∷ []
given_back_of_others = refl

neither : held_next both (came None false) ≡ both ∷ both ∷ both ∷ both ∷ both ∷ []
neither = refl

-- a notice that was refused leaves it too
refused : held_next both (record (came (chain_of 8 3) false) { why = Some NotReady })
    ≡ both ∷ both ∷ both ∷ both ∷ both ∷ []
refused = refl

-- ---- the status: DRIVER_OK is the bit of 4

abbrev of_status : ℕ → Balloon
of_status n = record { device = record ready { status = n; target = 5 }; held = both }

told : map (λ n. may_tell (record ready { status = n })) (0 ∷ 3 ∷ 4 ∷ 8 ∷ 11 ∷ 15 ∷ 64 ∷ 79 ∷ [])
    ≡ false ∷ false ∷ true ∷ false ∷ false ∷ true ∷ false ∷ true ∷ []
told = refl

-- it is set by this write, and wasn't before
abbrev readies : ℕ → List Bool
readies before = map (λ write. becomes_ready write (of_status before)) (0 ∷ 11 ∷ 15 ∷ [])

set_now : readies 11 ≡ false ∷ false ∷ true ∷ []
set_now = refl

set_before : readies 15 ≡ false ∷ false ∷ false ∷ []
set_before = refl

-- a write of 0 makes the balloon new but for its settings and target; any other one keeps what is
-- held
reset : after_status 0 (of_status 15) ≡ record { device = record (new_device settings) { target = 5 }; held = nothing_held }
reset = refl

written : after_status 15 (of_status 11) ≡ of_status 15
written = refl

-- ---- bytes that are memory, on either side of the hole, and where memory may end

there : map (is_memory two) (0 ∷ 0x14fff ∷ 0x15000 ∷ 0x15fff ∷ 0x16000 ∷ 0x1ffff ∷ 0x20000 ∷ [])
    ≡ true ∷ true ∷ false ∷ false ∷ true ∷ true ∷ false ∷ []
there = refl

-- where the settings end counts no longer; memory may be empty, and no part of a page is a region
may_be : may_be_memory settings two ∷ may_be_memory (record settings { memory_end = 0 }) (low ∷ [])
    ∷ may_be_memory settings [] ∷ may_be_memory settings (low ∷ record low { length = 0x800 } ∷ [])
    ∷ may_be_memory (record settings { offered = 0x27 }) two ∷ [] ≡ true ∷ true ∷ true ∷ false ∷ false ∷ []
may_be = refl
