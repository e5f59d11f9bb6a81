-- What the calls for rounds of hints answer in C, worked out: each refusal, and what it leaves.
use Rattle.std.proofs.Common.{◌≡◌, refl, ap, arith, ℕ, [], ◌∷◌, Option, Some, None}
use Rattle.vb_core.specs.declared.{device.Device.Device, hints.Round.Round}
use Rattle.vb_core.specs.declared.kinds.Kind.TheVariants.{Hint}
use Rattle.vb_core.specs.declared.device.Denial.{Denial, TheVariants.{NotReady, NeedsReset, NoQueue, Misplaced, BadArgument}}
use Rattle.vb_core.specs.Devices.{placed, queue_denial}
use Rattle.vb_monitor.specs.Codes.{code_of}
use Rattle.vb_c.specs.Hinting.{BeginsRound}
use Rattle.vb_c.proofs.Samples.{Same, settings, ready}
use lib.Count

-- hints were negotiated, and their queue has its place; round 4 is open
abbrev hinting : Device
hinting = record ready {
  settings = record settings { offered = 0x10000002f };
  features = 0x10000002f;
  hint = placed 0x1000 0x1100 0x1200 8;
  round = record { shown = 4; last = 4; opened = 1 };
}

abbrev round : ℕ → ℕ → ℕ → Round
round shown last opened = record { shown = shown; last = last; opened = opened }

-- one begins: its id is the next one, and it isn't open
begun_so : BeginsRound hinting (record hinting { round = round 5 5 0 }) 5 0
unfolding lib.Count.ones
begun_so = record { denied = λ why e. absurd cc; begun_so = λ e. (refl, refl, refl) }

-- the first one, and the one after the last of 32 bits
first : BeginsRound (record hinting { round = round 0 0 0 }) (record hinting { round = round 2 2 0 }) 2 0
unfolding lib.Count.ones
first = record { denied = λ why e. absurd cc; begun_so = λ e. (refl, refl, refl) }

goes_round : BeginsRound (record hinting { round = round 1 0xffffffff 0 })
    (record hinting { round = round 2 2 0 }) 2 0
unfolding lib.Count.ones
goes_round = record { denied = λ why e. absurd cc; begun_so = λ e. (refl, refl, refl) }

-- and nothing else is answered or left
another_id : (d : Device) → BeginsRound hinting d 4 0 → ⊥
unfolding lib.Count.ones
another_id d h = let e : Same 4 5 = (h.begun_so refl).1 in omega arith

refused_although_ready : (d : Device) (id : ℕ) → BeginsRound hinting d id 5 → ⊥
unfolding lib.Count.ones
refused_although_ready d id h = let e : Same 5 0 = (h.begun_so refl).0 in omega arith

open_at_once : BeginsRound hinting (record hinting { round = round 5 5 1 }) 5 0 → ⊥
unfolding lib.Count.ones
open_at_once h = let e : Same 1 0 = ap (λ (d : Device). d.round.opened) (h.begun_so refl).2 in omega arith

unshown : BeginsRound hinting (record hinting { round = round 4 5 0 }) 5 0 → ⊥
unfolding lib.Count.ones
unshown h = let e : Same 4 5 = ap (λ (d : Device). d.round.shown) (h.begun_so refl).2 in omega arith

unremembered : BeginsRound hinting (record hinting { round = round 5 4 0 }) 5 0 → ⊥
unfolding lib.Count.ones
unremembered h = let e : Same 4 5 = ap (λ (d : Device). d.round.last) (h.begun_so refl).2 in omega arith

target_too : BeginsRound hinting (record hinting { round = round 5 5 0; target = 1 }) 5 0 → ⊥
unfolding lib.Count.ones
target_too h = let e : Same 1 0 = ap (λ (d : Device). d.target) (h.begun_so refl).2 in omega arith

-- ---- refusals, in their order

abbrev code_at : Option Denial → ℕ
code_at None = 0
code_at (Some why) = code_of why

-- settings that no device may have, a driver that isn't done, a broken rule, no hints, and no place
denials : queue_denial Hint (record hinting { settings = record settings { offered = 0x2f }; status = 11 })
    ∷ queue_denial Hint (record hinting { status = 11; features = 0x100000027 })
    ∷ queue_denial Hint (record hinting { status = 79; features = 0x100000027 })
    ∷ queue_denial Hint (record hinting { features = 0x100000027; hint = placed 0x1008 0x1100 0x1200 8 })
    ∷ queue_denial Hint (record hinting { hint = placed 0x1008 0x1100 0x1200 8 }) ∷ queue_denial Hint hinting ∷ []
    ≡ Some BadArgument ∷ Some NotReady ∷ Some NeedsReset ∷ Some NoQueue ∷ Some Misplaced ∷ None ∷ []
unfolding lib.Count.ones
denials = refl

not_ready : BeginsRound (record hinting { status = 11 }) (record hinting { status = 11 }) 0 3
unfolding lib.Count.ones
not_ready = record { denied = λ why e. (ap code_at e, refl, refl); begun_so = λ e. absurd cc }

-- without hints there is none, whatever else was negotiated
begun_without : (d : Device) (id : ℕ) → BeginsRound (record hinting { features = 0x100000027 }) d id 0 → ⊥
unfolding lib.Count.ones
begun_without d id h = let e : Same 0 5 = (h.denied NoQueue refl).0 in omega arith

-- what is refused says no id, and changes nothing
id_although_refused : (d : Device) → BeginsRound (record hinting { features = 0x100000027 }) d 5 5 → ⊥
unfolding lib.Count.ones
id_although_refused d h = let e : Same 5 0 = (h.denied NoQueue refl).1 in omega arith

closed_although_refused : BeginsRound (record hinting { features = 0x100000027 })
    (record hinting { features = 0x100000027; round = round 4 4 0 }) 0 5 → ⊥
unfolding lib.Count.ones
closed_although_refused h = let e : Same 0 1 = ap (λ (d : Device). d.round.opened) (h.denied NoQueue refl).2 in omega arith
