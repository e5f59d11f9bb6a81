-- What a device is told of a chain that a notice served, worked out.
use Rattle.std.proofs.Common.{◌≡◌, ℕ, List, [], ◌∷◌, refl, Option, Some, None, Result, Ok, Err}
use Rattle.vb_virtio.specs.declared.refusals.Refusal.{Refusal}
use Rattle.vb_virtio.specs.declared.refusals.Refusal.TheVariants.{Broken, Busy, NotReady}
use Rattle.vb_virtio.specs.declared.statistics.LastStatistics.{LastStatistics}
use Rattle.vb_chain.specs.declared.fault.ChainFault.{TheVariants.IndexJump}
use Rattle.vb_ram.specs.Part.{Part, no_part, no_queue}
use Rattle.vb_core.specs.declared.kinds.Kind.TheVariants.{Inflate, Statistics}
use Rattle.vb_core.specs.declared.device.Denial.{Denial}
use Rattle.vb_core.specs.declared.device.Denial.TheVariants.{Broken as BreaksIt, Misplaced}
use Rattle.vb_device.specs.ServedChains.{Beside, advanced}
use Rattle.vb_device.specs.declared.serving.ServedChain.{ServedChain}
use Rattle.vb_served.specs.Tied.{answer_of, held_by, reason_of, taken_by}

abbrev Answers : Type 0
Answers = List (Result (Option ℕ) Refusal)

-- a head is answered where one more entry is taken, a broken rule by its number
answers : ◌≡◌ {A = Answers}
    (answer_of None 7 7 3 ∷ answer_of None 7 8 3 ∷ answer_of (Some (BreaksIt IndexJump)) 7 7 3
    ∷ answer_of (Some Misplaced) 7 7 3 ∷ [])
    (Ok None ∷ Ok (Some 3) ∷ Err (Broken 7) ∷ Err NotReady ∷ [])
answers = refl

-- a buffer of statistics is held, no other chain, and none that is refused
held : ◌≡◌ {A = List (Option ℕ)}
    (held_by Statistics (Ok (Some 3)) ∷ held_by Inflate (Ok (Some 3)) ∷ held_by Statistics (Err Busy)
    ∷ [])
    (Some 3 ∷ None ∷ None ∷ [])
held = refl

-- an entry is taken where a head is answered, and counts begin anew after 65,535
taken : ◌≡◌ {A = List ℕ}
    (taken_by (Ok (Some 3)) 65535 ∷ taken_by (Ok None) 5 ∷ taken_by (Err Busy) 5 ∷ []) (0 ∷ 5 ∷ 5 ∷ [])
taken = refl

reasons : ◌≡◌ {A = List (Option Denial)}
    (reason_of (Ok None) IndexJump ∷ reason_of (Err Busy) IndexJump ∷ [])
    (None ∷ Some (BreaksIt IndexJump) ∷ [])
reasons = refl

-- ---- the device then

abbrev buffer : ServedChain
buffer = record { next_avail = 9; next_used = 4; held = Some 3; answer = Ok (Some 3) }

abbrev broken : ServedChain
broken = record { next_avail = 8; next_used = 4; held = None; answer = Err (Broken 7) }

abbrev kept : Beside
kept = record { loose = 5 ∷ []; ballooned = []; last = record { free = None; total = Some 8 } }

abbrev ready : Part
ready = record no_part { status = 15 }

-- of its queue the counts and the buffer that is held, and beside it what is kept; no other queue
of_its_queue : (advanced 2 buffer kept ready).statistics ≡ record {
  next_avail = 9;
  next_used = 4;
  taken = record { head = 3; pages = []; visited = 0 } ∷ [];
}
of_its_queue = refl

of_others : (advanced 2 buffer kept ready).inflate ≡ no_queue
of_others = refl

beside : (advanced 2 buffer kept ready).loose ≡ 5 ∷ []
beside = refl

-- a broken rule needs a reset, and nothing else does
needs_reset : ◌≡◌ {A = List ℕ}
    ((advanced 0 broken kept ready).status ∷ (advanced 2 buffer kept ready).status ∷ []) (79 ∷ 15 ∷ [])
needs_reset = refl
