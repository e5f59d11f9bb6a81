-- A device takes the next chain of a queue (VIRTIO 1.1, 2.6 and 5.5.6).
use Rattle.std.specs.Prelude.{◌≡◌, ℕ, ◌+◌, ◌*◌, ◌%◌, List, [], ◌∷◌, ◌++◌, length}
use Rattle.std.specs.Prelude.{Option, Some, None, Result, Ok, Err}
use Rattle.vb_virtio.specs.declared.refusals.Refusal.{Refusal}
use Rattle.vb_virtio.specs.declared.refusals.Refusal.TheVariants.{Broken}
use Rattle.vb_virtio.specs.Layout.{ring_page}
use Rattle.vb_virtio.specs.Limits.{page_size}
use Rattle.vb_ram.specs.Pages.{Pages}
use Rattle.vb_ram.specs.Part.{Part}
use Rattle.vb_chain.specs.declared.fault.ChainFault.{ChainFault}
use Rattle.vb_chain.specs.declared.pieces.Piece.{Piece}
use Rattle.vb_chain.specs.Table.{descriptor_at}
use Rattle.vb_chain.specs.Chain.{ChainGives, FaultGives}
use Rattle.vb_device.specs.Queues.{queue_part, with_queue, next_available}
use Rattle.vb_device.specs.Conditions.{take_refusal}
use Rattle.vb_device.specs.Faults.{Breaks, needing_reset}
use Rattle.vb_request.specs.Asked.{request_of, noted}

-- The chain from a head of the queue has these pieces.
abbrev pub HasChain : ℕ → Pages → Part → ℕ → List Piece → Type 0
HasChain q mem part h pieces =
    ChainGives (descriptor_at mem (ring_page part.queue_size q)) part.queue_size
    (page_size * length mem) h pieces

-- This is the first fault on the way from a head of the queue.
abbrev pub HasFault : ℕ → Pages → Part → ℕ → ChainFault → Type 0
HasFault q mem part h fault =
    FaultGives (descriptor_at mem (ring_page part.queue_size q)) part.queue_size
    (page_size * length mem) h fault

-- A request from this head, for these pages, is the last taken one of the queue.
abbrev pub taking : ℕ → ℕ → List ℕ → Part → Part
taking q h pages part =
    with_queue q
    (record (queue_part q part) {
      next_avail = ((queue_part q part).next_avail + 1) % 65536;
      taken = (queue_part q part).taken ++ (record { head = h; pages = pages; visited = 0 } ∷ []);
    })
    part

-- A buffer of statistics replaces what the device knew of its guest's memory.
abbrev pub noting : ℕ → Pages → List Piece → Part → Part
noting q mem pieces part = record part { last = noted q mem pieces part.last }

-- The guest's bytes say a chain next, and it is a request for these pages.
pub record IsNextRequest (q : ℕ) (mem : Pages) (part : Part) (h : ℕ) (pages : List ℕ) : Type 0 where
  pub next : next_available q mem part ≡ Ok (Some h)
  pub pieces : List Piece
  pub chain : HasChain q mem part h pieces
  pub request : request_of q part.queue_size mem pieces ≡ Ok pages

-- What each answer of a take says, whatever the guest's bytes are.
abbrev pub TakeMeans : ℕ → Pages → Part → Part → Result (Option ℕ) Refusal → Type 0
TakeMeans q mem p1 p2 (Ok None) = (take_refusal q p1 ≡ None) × (p2 ≡ p1)
TakeMeans q mem p1 p2 (Ok (Some h)) =
    (take_refusal q p1 ≡ None) ×
    ((pages : List ℕ) × (next : IsNextRequest q mem p1 h pages)
    × (p2 ≡ taking q h pages (noting q mem next.pieces p1)))
TakeMeans q mem p1 p2 (Err (Broken rule)) = (take_refusal q p1 ≡ None) × (p2 ≡ needing_reset p1)
TakeMeans q mem p1 p2 (Err why) = (take_refusal q p1 ≡ Some why) × (p2 ≡ p1)

-- A take from a queue: the exact answer, and what is left, by the guest's bytes
-- and the device's own part alone.
pub record TakesBy (q : ℕ) (m1 m2 : Pages) (p1 p2 : Part)
    (result : Result (Option ℕ) Refusal) : Type 0 where
  pub memory : m2 ≡ m1
  pub refused : (why : Refusal) → take_refusal q p1 ≡ Some why → (result ≡ Err why) × (p2 ≡ p1)
  pub empty : take_refusal q p1 ≡ None → next_available q m1 p1 ≡ Ok None →
      (result ≡ Ok None) × (p2 ≡ p1)
  pub jump : (fault : ChainFault) → take_refusal q p1 ≡ None → next_available q m1 p1 ≡ Err fault →
      Breaks fault p1 p2 result
  pub fault : (h : ℕ) (fault : ChainFault) → take_refusal q p1 ≡ None →
      next_available q m1 p1 ≡ Ok (Some h) → HasFault q m1 p1 h fault → Breaks fault p1 p2 result
  pub wrong : (h : ℕ) (pieces : List Piece) (fault : ChainFault) → take_refusal q p1 ≡ None →
      next_available q m1 p1 ≡ Ok (Some h) → HasChain q m1 p1 h pieces →
      request_of q p1.queue_size m1 pieces ≡ Err fault → Breaks fault p1 p2 result
  pub takes : (h : ℕ) (pieces : List Piece) (pages : List ℕ) → take_refusal q p1 ≡ None →
      next_available q m1 p1 ≡ Ok (Some h) → HasChain q m1 p1 h pieces →
      request_of q p1.queue_size m1 pieces ≡ Ok pages →
      (result ≡ Ok (Some h)) × (p2 ≡ taking q h pages (noting q m1 pieces p1))
  pub means : TakeMeans q m1 p1 p2 result
