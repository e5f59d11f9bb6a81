-- Writes of the status, refusals and initialisations, worked out.
use Rattle.std.proofs.Common.{◌≡◌, ℕ, true, false, [], ◌∷◌, map, refl, arith, ap}
use Rattle.std.specs.Prelude.{Some, None, Ok, Err}
use Rattle.vb_virtio.specs.declared.refusals.Refusal.TheVariants.{ClearsBit, OutOfOrder, NoFeature}
use Rattle.vb_virtio.specs.declared.refusals.Refusal.TheVariants.{FeatureNotOffered, VersionMissing}
use Rattle.vb_ram.specs.Part.{Part, no_part, no_queue}
use Rattle.vb_status.specs.declared.bits.StatusFault.TheVariants.{ClearsBit as ClearsOne}
use Rattle.vb_status.specs.declared.bits.StatusFault.TheVariants.{OutOfOrder as BreaksOrder}
use Rattle.vb_status.specs.declared.bits.StatusFault.TheVariants.{FeatureNotOffered as OffersNot}
use Rattle.vb_status.specs.declared.bits.StatusFault.TheVariants.{MustTellHostMissing}
use Rattle.vb_status.specs.declared.bits.StatusFault.TheVariants.{VersionMissing as LacksVersion}
use Rattle.vb_status.specs.declared.bits.{Status.Status, Features.Features}
use Rattle.vb_status.specs.Bits.{status_bits, feature_bits}
use Rattle.vb_status.specs.After.{after_status}
use Rattle.vb_status.specs.Answers.{refusal_of_fault, answered_refusal}
use Rattle.vb_status.specs.Agreement.{Agreement, Write, Negotiate, refusal_of_request, after_request}
use Rattle.vb_status.specs.Agreement.{Leads, unplugged, AreSteps, changes, outcome, initialisation, initialised}

-- ---- what a write leaves of a device that has something in each queue

abbrev busy : Part
busy = record no_part {
  status = 11;
  features = 5;
  target = 9;
  actual = 2;
  ballooned = false ∷ true ∷ [];
  queue_size = 8;
  inflate = record { next_avail = 1; next_used = 2; taken = [] };
  deflate = record { next_avail = 3; next_used = 4; taken = [] };
  statistics = record { next_avail = 5; next_used = 6; taken = [] };
  report = record { next_avail = 7; next_used = 8; taken = [] };
  last = record { free = Some 1; total = Some 2 };
  paced = true;
  loose = 6 ∷ [];
  keeps = true;
  own = 7 ∷ [];
}

-- a reset keeps the target, and what the device was made with and has of frames
reset : after_status 0 busy ≡ record no_part {
  target = 9;
  ballooned = false ∷ false ∷ [];
  queue_size = 8;
  paced = true;
  loose = 6 ∷ [];
  keeps = true;
  own = 7 ∷ [];
}
reset = refl

-- DRIVER_OK begins the queues where it wasn't set, and only there; another write is the status alone
begins : after_status 15 busy ≡ record busy {
  status = 15;
  inflate = no_queue;
  deflate = no_queue;
  statistics = no_queue;
  report = no_queue;
}
begins = refl

goes_on : after_status 15 (record busy { status = 15 }) ≡ record busy { status = 15 }
goes_on = refl

fails : after_status 139 busy ≡ record busy { status = 139 }
fails = refl

-- ---- refusals

-- a status and a set of features are told by their bits
bits : (s : Status) (f : Features) → (status_bits s ≡ s.0) × (feature_bits f ≡ f.0)
bits s f = (refl, refl)

each_fault : map refusal_of_fault
    (ClearsOne ∷ BreaksOrder ∷ OffersNot ∷ MustTellHostMissing ∷ LacksVersion ∷ [])
    ≡ ClearsBit ∷ OutOfOrder ∷ FeatureNotOffered ∷ NoFeature ∷ VersionMissing ∷ []
each_fault = refl

answers : answered_refusal {T = ℕ} (Ok 3) ∷ answered_refusal {T = ℕ} (Err BreaksOrder) ∷ []
    ≡ None ∷ Some OutOfOrder ∷ []
answers = refl

-- ---- agreements

abbrev at : ℕ → ℕ → Agreement
at status features = record { status = status; features = features }

refused : map (refusal_of_request (at 3 5)) (Write 1 ∷ Write 7 ∷ Write 11 ∷ Write 0 ∷ Negotiate 8 ∷ [])
    ≡ Some ClearsBit ∷ Some OutOfOrder ∷ Some VersionMissing ∷ None ∷ Some FeatureNotOffered ∷ []
refused = refl

-- features are agreed on while the status is ACKNOWLEDGE and DRIVER, and at no other time
not_agreed_then : map (λ status. refusal_of_request (at status 5) (Negotiate 5)) (1 ∷ 3 ∷ 11 ∷ 15 ∷ [])
    ≡ Some OutOfOrder ∷ None ∷ Some OutOfOrder ∷ Some OutOfOrder ∷ []
not_agreed_then = refl

left : map (after_request (at 3 5)) (Write 0 ∷ Write 7 ∷ Negotiate 1 ∷ [])
    ≡ at 0 0 ∷ at 7 5 ∷ at 3 1 ∷ []
left = refl

leads : Leads unplugged (Write 1 ∷ Write 3 ∷ Negotiate 0x100000001 ∷ []) (at 3 0x100000001)
leads = (refl, (refl, (refl, refl)))

leads_nowhere_else : Leads unplugged (Write 1 ∷ []) (at 3 0) → ⊥
leads_nowhere_else way = omega (arith, ap (λ (a : Agreement). a.status) way.1)

leads_over_no_refusal : Leads unplugged (Write 2 ∷ []) (at 2 0) → ⊥
leads_over_no_refusal way = (let refused : Some OutOfOrder ≡ None = way.0 in absurd cc)

-- requests that only add, whatever they negotiate; and a write of 0, or of a bit that there isn't,
-- first, after another, and after what is negotiated
steps : AreSteps (Write 1 ∷ Negotiate 0 ∷ Write 255 ∷ []) × AreSteps []
steps = (((λ e. omega (arith, e)), omega arith, ((λ e. omega (arith, e)), omega arith, tt)), tt)

not_steps : (AreSteps (Write 0 ∷ []) → ⊥) × (AreSteps (Write 256 ∷ []) → ⊥)
    × (AreSteps (Write 1 ∷ Write 0 ∷ []) → ⊥) × (AreSteps (Negotiate 1 ∷ Write 0 ∷ []) → ⊥)
    × (AreSteps (Write 1 ∷ Negotiate 0 ∷ Write 256 ∷ []) → ⊥)
not_steps = (
  λ are. are.0 refl,
  λ are. omega (arith, are.1),
  λ are. are.2.0 refl,
  λ are. are.0 refl,
  λ are. omega (arith, are.2.1),
)

changed : changes 1 (Write 1 ∷ Negotiate 3 ∷ Write 3 ∷ Write 3 ∷ Write 1 ∷ []) ≡ 3 ∷ 1 ∷ []
changed = refl

-- what is done up to the first refusal stays, and nothing after it is done
stops : outcome unplugged (Write 1 ∷ Write 15 ∷ Write 3 ∷ []) ≡ (at 1 0, Some OutOfOrder)
stops = refl

-- ---- initialisations

ready : outcome (at 131 9) (initialisation 0x100000027) ≡ (at 15 0x100000027, None)
ready = refl

as_said : map initialised (0x100000027 ∷ 0x100000000 ∷ 7 ∷ 0x100000040 ∷ []) ≡
    (at 15 0x100000027, None) ∷ (at 15 0x100000000, None) ∷ (at 3 7, Some VersionMissing)
    ∷ (at 3 0, Some FeatureNotOffered) ∷ []
as_said = refl
