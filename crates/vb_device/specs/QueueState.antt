-- One queue as a device has it.
use Rattle.std.specs.Prelude.{◌≡◌, ℕ, ◌+◌, ◌*◌, ◌%◌, ◌<◌, ◌≤◌, Bool, true, false, nat_le, List, []}
use Rattle.std.specs.Prelude.{◌∷◌, ◌++◌, All, length, Option, Some, None, Result, Ok, Err, bit_or}
use Rattle.std.specs.Prelude.{is_none, ◌&&◌}
use Rattle.vb_virtio.specs.declared.refusals.Refusal.{Refusal}
use Rattle.vb_virtio.specs.declared.refusals.Refusal.TheVariants.{Busy, Broken, NotTaken, NotWorked}
use Rattle.vb_virtio.specs.FirstRefusal.{◌⇒◌, first_refusal}
use Rattle.vb_virtio.specs.Status.{needs_reset}
use Rattle.vb_virtio.specs.Queues.{Request}
use Rattle.vb_virtio.specs.declared.statistics.LastStatistics.{LastStatistics}
use Rattle.vb_virtio.specs.Limits.{page_size}
use Rattle.vb_virtio.specs.Layout.{reserved_pages, ring_page}
use Rattle.vb_model.specs.Tables.{has_unvisited, most_taken}
use Rattle.vb_ram.specs.Pages.{Pages}
use Rattle.vb_ram.specs.Part.{QueuePart}
use Rattle.vb_chain.specs.declared.fault.ChainFault.{ChainFault}
use Rattle.vb_chain.specs.declared.pieces.Piece.{Piece}
use Rattle.vb_chain.specs.Table.{descriptor_at}
use Rattle.vb_chain.specs.Chain.{ChainGives, FaultGives}
use Rattle.vb_ring.specs.Layout.{layout_of}
use Rattle.vb_ring.specs.Ends.{DeviceEnd}
use Rattle.vb_ring.specs.Entries.{next_entry}
use Rattle.vb_request.specs.Refusals.{rule_of}
use Rattle.vb_request.specs.Asked.{request_of, noted}

-- The device's end of the ring, and the chains that are taken, oldest first.
pub record QueueState : Type 0 where
  -- its number
  pub number : ℕ
  pub ring : DeviceEnd
  pub taken : List Request

abbrev pub part_of : QueueState → QueuePart
part_of q = record { next_avail = q.ring.next_avail; next_used = q.ring.next_used; taken = q.taken }

-- The queue of this number, with n descriptors, which isn't ready.
abbrev pub new_queue : ℕ → ℕ → QueueState
new_queue q size =
    record {
      number = q;
      ring = record {
        layout = layout_of (ring_page size q) size;
        size = size;
        ready = false;
        next_avail = 0;
        next_used = 0;
      };
      taken = [];
    }

-- A queue that represents one that isn't there.
abbrev pub no_ring : QueueState
no_ring = new_queue 0 0

-- What is true of each taken chain of a queue of n descriptors: it begins with one of them, and
-- names no reserved page.
pub record IsTaken (size : ℕ) (r : Request) : Type 0 where
  pub head : r.head < size
  pub above : All (λ page. reserved_pages size ≤ page) r.pages

-- The same queue that begins anew, ready or not.
abbrev pub restarted : Bool → QueueState → QueueState
restarted ready q =
    record q { ring = record q.ring { ready = ready; next_avail = 0; next_used = 0 }; taken = [] }

-- One more chain is taken, as a request for these pages.
abbrev pub with_request : ℕ → List ℕ → QueueState → QueueState
with_request h pages q =
    record q {
      ring = record q.ring { next_avail = (q.ring.next_avail + 1) % 65536 };
      taken = q.taken ++ (record { head = h; pages = pages; visited = 0 } ∷ []);
    }

abbrev pub next_of : Pages → QueueState → Result (Option ℕ) ChainFault
next_of mem q = next_entry mem q.ring.layout q.ring.size q.ring.next_avail

abbrev pub IsChainOf : Pages → QueueState → ℕ → List Piece → Type 0
IsChainOf mem q h pieces =
    ChainGives (descriptor_at mem q.ring.layout.table) q.ring.size (page_size * length mem) h pieces

abbrev pub IsFaultOf : Pages → QueueState → ℕ → ChainFault → Type 0
IsFaultOf mem q h fault =
    FaultGives (descriptor_at mem q.ring.layout.table) q.ring.size (page_size * length mem) h fault

-- Why a taken request, if there is one, isn't finished, where it isn't: its pages are to be visited
-- first or not.
abbrev pub taken_refusal : Bool → Option Request → Option Refusal
taken_refusal visits taken =
    first_refusal
    ((is_none taken ⇒ NotTaken) ∷ ((visits && has_unvisited taken) ⇒ NotWorked) ∷ [])

-- Of a queue of this number as many chains are taken as may be.
abbrev pub is_full : ℕ → QueueState → Bool
is_full q x = nat_le (most_taken q) (length x.taken)

-- What each answer says.
abbrev pub NextMeans : ℕ → Pages → QueueState → QueueState → LastStatistics → LastStatistics →
    Result (Option ℕ) Refusal → Type 0
NextMeans q mem x1 x2 l1 l2 (Ok None) = (is_full q x1 ≡ false) × (x2 ≡ x1) × (l2 ≡ l1)
NextMeans q mem x1 x2 l1 l2 (Ok (Some h)) =
    (is_full q x1 ≡ false) ×
    ((pages : List ℕ) × (pieces : List Piece) ×
    (next_of mem x1 ≡ Ok (Some h)) × IsChainOf mem x1 h pieces ×
    (request_of q x1.ring.size mem pieces ≡ Ok pages) × (x2 ≡ with_request h pages x1) ×
    (l2 ≡ noted q mem pieces l1))
NextMeans q mem x1 x2 l1 l2 (Err (Broken rule)) =
    (is_full q x1 ≡ false) × (x2 ≡ x1) × (l2 ≡ l1)
NextMeans q mem x1 x2 l1 l2 (Err why) =
    (why ≡ Busy) × (is_full q x1 ≡ true) × (x2 ≡ x1) × (l2 ≡ l1)

-- This answer, and nothing is changed.
abbrev pub Leaves : QueueState → QueueState → LastStatistics → LastStatistics →
    Result (Option ℕ) Refusal → Result (Option ℕ) Refusal → Type 0
Leaves x1 x2 l1 l2 result answer = (result ≡ answer) × (x2 ≡ x1) × (l2 ≡ l1)

-- A take of the next chain of a queue that is ready, on any bytes.
pub record TakesNext (q : ℕ) (mem : Pages) (x1 x2 : QueueState) (l1 l2 : LastStatistics)
    (result : Result (Option ℕ) Refusal) : Type 0 where
  pub busy : is_full q x1 ≡ true → Leaves x1 x2 l1 l2 result (Err Busy)
  pub empty : is_full q x1 ≡ false → next_of mem x1 ≡ Ok None →
      Leaves x1 x2 l1 l2 result (Ok None)
  pub jump : (fault : ChainFault) → is_full q x1 ≡ false → next_of mem x1 ≡ Err fault →
      Leaves x1 x2 l1 l2 result (Err (Broken (rule_of fault)))
  pub fault : (h : ℕ) (fault : ChainFault) → is_full q x1 ≡ false →
      next_of mem x1 ≡ Ok (Some h) → IsFaultOf mem x1 h fault →
      Leaves x1 x2 l1 l2 result (Err (Broken (rule_of fault)))
  pub wrong : (h : ℕ) (pieces : List Piece) (fault : ChainFault) → is_full q x1 ≡ false →
      next_of mem x1 ≡ Ok (Some h) → IsChainOf mem x1 h pieces →
      request_of q x1.ring.size mem pieces ≡ Err fault →
      Leaves x1 x2 l1 l2 result (Err (Broken (rule_of fault)))
  pub takes : (h : ℕ) (pieces : List Piece) (pages : List ℕ) → is_full q x1 ≡ false →
      next_of mem x1 ≡ Ok (Some h) → IsChainOf mem x1 h pieces →
      request_of q x1.ring.size mem pieces ≡ Ok pages →
      (result ≡ Ok (Some h)) × (x2 ≡ with_request h pages x1) × (l2 ≡ noted q mem pieces l1)
  pub means : NextMeans q mem x1 x2 l1 l2 result

-- The status after such an answer: a broken rule needs a reset (VIRTIO 1.1, 2.1.2).
abbrev pub status_after : Result (Option ℕ) Refusal → ℕ → ℕ
status_after (Err (Broken rule)) status = bit_or status needs_reset
status_after (Err why) status = status
status_after (Ok head) status = status
