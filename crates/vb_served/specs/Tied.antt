-- A notice of one chain, and the device for which it is served.
use Rattle.std.specs.Prelude.{◌≡◌, ℕ, ◌+◌, ◌%◌, ◌<◌, ◌==◌, if◌then◌else◌, length, IfSome, Option}
use Rattle.std.specs.Prelude.{Some, None, Result, Ok, Err}
use Rattle.vb_virtio.specs.declared.refusals.Refusal.{Refusal}
use Rattle.vb_virtio.specs.declared.refusals.Refusal.TheVariants.{Broken, NotReady}
use Rattle.vb_chain.specs.declared.fault.ChainFault.{ChainFault}
use Rattle.vb_ram.specs.Part.{Part}
use Rattle.vb_request.specs.Refusals.{rule_of}
use Rattle.vb_core.specs.declared.kinds.Kind.{Kind}
use Rattle.vb_core.specs.declared.kinds.Kind.TheVariants.{Inflate, Deflate, Statistics, Hint}
use Rattle.vb_core.specs.declared.kinds.Kind.TheVariants.{Report}
use Rattle.vb_core.specs.Kinds.{queue_of}
use Rattle.vb_core.specs.declared.device.Denial.{Denial}
use Rattle.vb_core.specs.declared.device.Denial.TheVariants.{Broken as BreaksIt}
use Rattle.vb_core.specs.declared.device.Device.{Device}
use Rattle.vb_core.specs.Devices.{ring_of}
use Rattle.vb_device.specs.Calls.{FollowsTake, TakesBy}
use Rattle.vb_device.specs.Queues.{next_available}
use Rattle.vb_device.specs.ServedChains.{Beside, ServesChainBy, advanced}
use Rattle.vb_device.specs.declared.serving.QueueRegisters.{QueueRegisters}
use Rattle.vb_device.specs.declared.serving.ServedChain.{ServedChain}
use Rattle.vb_monitor.specs.declared.outcome.Outcome.{Outcome}
use Rattle.vb_served.specs.Store.{Store}
use Rattle.vb_served.specs.Alike.{IsAlike}

-- One chain of a kind's queue is taken and followed by what its answer asks for.
abbrev pub TakesAndUses : Kind → Store → Store → Part → Part → Result (Option ℕ) Refusal → Type 0
TakesAndUses kind s t p1 p2 result =
    (part : Part) × TakesBy (queue_of kind) s.mem s.mem p1 part result
    × FollowsTake (queue_of kind) s.mem t.mem part p2 result

-- Why a notice that isn't refused ended, by what a device that does the same answers.
abbrev pub reason_of : Result (Option ℕ) Refusal → ChainFault → Option Denial
reason_of (Ok head) fault = None
reason_of (Err why) fault = Some (BreaksIt fault)

-- The buffer of statistics that is held then, if one was taken.
abbrev pub held_by : Kind → Result (Option ℕ) Refusal → Option ℕ
held_by Statistics (Ok head) = head
held_by Statistics (Err why) = None
held_by Inflate result = None
held_by Deflate result = None
held_by Hint result = None
held_by Report result = None

-- How many entries are taken then, where n were.
abbrev pub taken_by : Result (Option ℕ) Refusal → ℕ → ℕ
taken_by (Ok (Some head)) n = (n + 1) % 65536
taken_by (Ok None) n = n
taken_by (Err why) n = n

-- What a device answers where a notice ended so, by how many entries were taken before and are now,
-- and by the head that was next.
abbrev pub answer_of : Option Denial → ℕ → ℕ → ℕ → Result (Option ℕ) Refusal
answer_of (Some (BreaksIt fault)) before now head = Err (Broken (rule_of fault))
answer_of (Some _) before now head = Err NotReady
answer_of None before now head = if now == before then Ok None else Ok (Some head)

-- What a device is told of a chain that was served so.
abbrev pub chain_of : Kind → Device → Result (Option ℕ) Refusal → ServedChain
chain_of kind d result = record {
  next_avail = (ring_of kind d).next_avail;
  next_used = (ring_of kind d).next_used;
  held = held_by kind result;
  answer = result;
}

-- What is kept beside memory.
abbrev pub beside : Store → Beside
beside s = record { loose = s.loose; ballooned = s.ballooned; last = s.last }

-- What one device made of a notice is what another one that was alike takes and uses, and the two
-- are alike then; of all else the other one is as before.
pub record IsServedAlike (kind : Kind) (d1 d2 : Device) (outcome : Outcome) (s t : Store)
    (p1 : Part) : Type 0 where
  pub part : Part
  pub result : Result (Option ℕ) Refusal
  pub fault : ChainFault
  pub serves : TakesAndUses kind s t p1 part result
  pub ends : outcome.why ≡ reason_of result fault
  pub broken : (refusal : Refusal) → result ≡ Err refusal → refusal ≡ Broken (rule_of fault)
  pub held : (head : ℕ) → kind ≡ Statistics → result ≡ Ok (Some head) →
      outcome.tally.held ≡ Some (record { head = head; pages = 0 })
  pub alike : IsAlike kind d2 part t
  pub shape : part ≡ advanced (queue_of kind) (chain_of kind d2 result) (beside t) p1
  pub taken : (ring_of kind d2).next_avail ≡ taken_by result (ring_of kind d1).next_avail
  pub pages : length t.mem ≡ length s.mem
  pub head : (h : ℕ) → result ≡ Ok (Some h) → next_available (queue_of kind) s.mem p1 ≡ Ok (Some h)
  pub below : (h : ℕ) → kind ≡ Statistics → result ≡ Ok (Some h) → h < p1.queue_size

-- What was done is what each device does that has these registers, over the same
-- memory; memory has as many pages as before, and a buffer that is held is one of the queue's.
pub record ServesKind (registers : QueueRegisters) (q : ℕ) (s t : Store)
    (served : ServedChain) : Type 0 where
  pub serves : ServesChainBy registers q s.mem t.mem (beside s) (beside t) served
  pub pages : length t.mem ≡ length s.mem
  pub held : IfSome served.held (λ head. head < registers.queue_size)
