-- What one queue of a device is, and what its take says of one state.
use Rattle.std.proofs.Common.{◌≡◌, ◌↔◌, ℕ, ◌≤◌, true, false, List, [], ◌∷◌, map, refl, arith}
use Rattle.std.specs.Prelude.{Option, Some, None, Result, Ok, Err, Bool, All, replicate}
use Rattle.std.proofs.lemmas.List.Elements.{All-cons, All-nil}
use Rattle.vb_virtio.specs.declared.refusals.Refusal.{Refusal}
use Rattle.vb_virtio.specs.declared.statistics.LastStatistics.{LastStatistics}
use Rattle.vb_virtio.specs.declared.refusals.Refusal.TheVariants.{Broken, Busy, NotTaken, NotWorked}
use Rattle.vb_virtio.specs.declared.refusals.Refusal.TheVariants.{NotReady}
use Rattle.vb_virtio.specs.Queues.{Request}
use Rattle.vb_chain.specs.{Chain.{ChainGives, FaultGives}, Table.descriptor_at}
use Rattle.vb_chain.specs.declared.{fault.ChainFault.ChainFault, pieces.Piece.Piece}
use Rattle.vb_chain.specs.declared.fault.ChainFault.TheVariants.{IndexJump, BadLength, Indirect}
use Rattle.vb_request.specs.Asked.{request_of, noted}
use Rattle.vb_ram.specs.{Pages.{Pages, byte_at, field}}
use Rattle.vb_ring.specs.Layout.{layout_of}
use Rattle.vb_device.{proofs.CallFacts.{asked, mem}, specs.QueueState.{QueueState, part_of}}
use Rattle.vb_device.specs.QueueState.{new_queue, IsTaken, restarted, with_request, next_of}
use Rattle.vb_device.specs.QueueState.{IsChainOf, IsFaultOf, taken_refusal, is_full, NextMeans, Leaves}
use Rattle.vb_device.{specs.QueueState.{TakesNext, status_after}, proofs.TakeFacts.zeros}

-- ---- a queue: queue 1 of 8 descriptors, of which 65,535 chains were taken and 4 used

abbrev going : QueueState
going = record {
  number = 1;
  ring = record {
    layout = layout_of 1 8;
    size = 8;
    ready = true;
    next_avail = 65535;
    next_used = 4;
  };
  taken = asked 3 (17 ∷ []) 0 ∷ [];
}

abbrev with_counts : ℕ → ℕ → List Request → Bool → QueueState
with_counts avail used taken ready = record going {
  ring = record {
    layout = layout_of 1 8;
    size = 8;
    ready = ready;
    next_avail = avail;
    next_used = used;
  };
  taken = taken;
}

keeps : part_of going ≡ record { next_avail = 65535; next_used = 4; taken = asked 3 (17 ∷ []) 0 ∷ [] }
keeps = refl

-- a new one has nothing taken, isn't ready, and has its ring at its own page, the first of two
-- where that is large
new : new_queue 4 256 ≡ record {
  number = 4;
  ring = record {
    layout = layout_of 22 256;
    size = 256;
    ready = false;
    next_avail = 0;
    next_used = 0;
  };
  taken = [];
}
new = refl

begins_anew : restarted true going ∷ restarted false going ∷ []
    ≡ with_counts 0 0 [] true ∷ with_counts 0 0 [] false ∷ []
begins_anew = refl

-- a new request is the last, with no page visited, and the index goes round
one_more : with_request 5 (18 ∷ 19 ∷ []) going
    ≡ with_counts 0 4 (asked 3 (17 ∷ []) 0 ∷ asked 5 (18 ∷ 19 ∷ []) 0 ∷ []) true
one_more = refl

one : (P : ℕ → Type 0) (n : ℕ) → P n → All P (n ∷ [])
one P n here = All-cons P n [] here (All-nil P)

-- the head is one of 8, and no page is one of 16 reserved ones
taken : IsTaken 8 (asked 7 (16 ∷ []) 0) × (IsTaken 8 (asked 8 [] 0) → ⊥)
    × (IsTaken 8 (asked 7 (20 ∷ 15 ∷ []) 0) → ⊥) × IsTaken 256 (asked 8 (32 ∷ []) 0)
    × (IsTaken 256 (asked 8 (31 ∷ []) 0) → ⊥)
taken = (
  record { head = omega arith; above = one (λ page. 16 ≤ page) 16 (omega arith) },
  λ is. omega (arith, is.head),
  λ is. omega (arith, is.above 1 0 (omega arith)),
  record { head = omega arith; above = one (λ page. 32 ≤ page) 32 (omega arith) },
  λ is. omega (arith, is.above 0 0 (omega arith)),
)

-- ---- what is next: of memory that reads as zeros, and of memory whose first entry is head 0

abbrev at_page_0 : ℕ → QueueState
at_page_0 next_avail = record (new_queue 0 8) {
  ring = record (new_queue 0 8).ring { ready = true; next_avail = next_avail; next_used = 5 };
}

next : next_of zeros (at_page_0 0) ∷ next_of zeros (at_page_0 65535) ∷ next_of zeros (at_page_0 60000) ∷ []
    ≡ Ok None ∷ Ok (Some 0) ∷ Err IndexJump ∷ []
unfolding byte_at field
next = refl

-- chains of the queue's own table, in all of memory
chains : (h : ℕ) (pieces : List Piece) (fault : ChainFault)
    → (IsChainOf mem going h pieces ↔ ChainGives (descriptor_at mem 1) 8 16384 h pieces)
    × (IsFaultOf mem going h fault ↔ FaultGives (descriptor_at mem 1) 8 16384 h fault)
chains h pieces fault = ((λ is. is, λ is. is), (λ is. is, λ is. is))

-- a large queue's table is in a page of its own
chains_of_a_large_queue : (h : ℕ) (pieces : List Piece) (fault : ChainFault)
    → (IsChainOf mem (new_queue 4 256) h pieces
    ↔ ChainGives (descriptor_at mem 22) 256 16384 h pieces)
    × (IsFaultOf mem (new_queue 4 256) h fault
    ↔ FaultGives (descriptor_at mem 22) 256 16384 h fault)
chains_of_a_large_queue h pieces fault = ((λ is. is, λ is. is), (λ is. is, λ is. is))

-- ---- a request that isn't finished, and a queue with no room: 16 of one of requests, 1 of queue 2

unfinished : taken_refusal true None ∷ taken_refusal false None ∷ taken_refusal true (Some (asked 0 (17 ∷ []) 0))
    ∷ taken_refusal false (Some (asked 0 (17 ∷ []) 0)) ∷ taken_refusal true (Some (asked 0 (17 ∷ []) 1)) ∷ []
    ≡ Some NotTaken ∷ Some NotTaken ∷ Some NotWorked ∷ None ∷ None ∷ []
unfinished = refl

abbrev with_taken : ℕ → QueueState
with_taken count = record going { taken = replicate count (asked 3 (17 ∷ []) 0) }

room : map (λ n. is_full 0 (with_taken n)) (15 ∷ 16 ∷ 17 ∷ []) ∷ map (λ n. is_full 2 (with_taken n)) (0 ∷ 1 ∷ [])
    ∷ [] ≡ (false ∷ true ∷ true ∷ []) ∷ (false ∷ true ∷ []) ∷ []
room = refl

-- a broken rule needs a reset (64), and nothing else does
status : map (λ answer. status_after answer 15) (Err (Broken 7) ∷ Err Busy ∷ Ok None ∷ Ok (Some 3) ∷ [])
    ≡ 79 ∷ 15 ∷ 15 ∷ 15 ∷ []
status = refl

-- ---- a take: the answer, the queue, and what was said last

abbrev last : LastStatistics
last = record { free = Some 8; total = Some 9 }

leaves : (x : QueueState) (l : LastStatistics) (result : Result (Option ℕ) Refusal)
    → Leaves going x last l result (Ok None) ↔ ((result ≡ Ok None) × (x ≡ going) × (l ≡ last))
leaves x l result = (λ left. left, λ left. left)

-- It answers so, and leaves both as they were.
abbrev Answers : ℕ → Pages → QueueState → Result (Option ℕ) Refusal → Type 0
Answers q m old answer = (x : QueueState) (l : LastStatistics) (result : Result (Option ℕ) Refusal)
    → TakesNext q m old x last l result → (result ≡ answer) × (x ≡ old) × (l ≡ last)

busy : Answers 1 mem (with_taken 16) (Err Busy)
busy x l result by = by.busy refl

empty : Answers 0 zeros (at_page_0 0) (Ok None)
unfolding byte_at field
empty x l result by = by.empty refl refl

index_that_jumped : Answers 0 zeros (at_page_0 60000) (Err (Broken 7))
unfolding byte_at field
index_that_jumped x l result by = by.jump IndexJump refl refl

-- where a head is next, by the chain that it has
a_fault : (m : Pages) (x : QueueState) (l : LastStatistics) (result : Result (Option ℕ) Refusal)
    → TakesNext 1 m going x last l result → next_of m going ≡ Ok (Some 5)
    → IsFaultOf m going 5 Indirect → (result ≡ Err (Broken 4)) × (x ≡ going) × (l ≡ last)
a_fault m x l result by next fault = by.fault 5 Indirect refl next fault

a_wrong_request : (m : Pages) (x : QueueState) (l : LastStatistics) (pieces : List Piece)
    (result : Result (Option ℕ) Refusal) → TakesNext 1 m going x last l result
    → next_of m going ≡ Ok (Some 5) → IsChainOf m going 5 pieces
    → request_of 1 8 m pieces ≡ Err BadLength
    → (result ≡ Err (Broken 8)) × (x ≡ going) × (l ≡ last)
a_wrong_request m x l pieces result by next chain wrong =
    by.wrong 5 pieces BadLength refl next chain wrong

a_request : (m : Pages) (x : QueueState) (l : LastStatistics) (pieces : List Piece)
    (result : Result (Option ℕ) Refusal) → TakesNext 1 m going x last l result
    → next_of m going ≡ Ok (Some 5) → IsChainOf m going 5 pieces
    → request_of 1 8 m pieces ≡ Ok (18 ∷ [])
    → (result ≡ Ok (Some 5))
    × (x ≡ with_counts 0 4 (asked 3 (17 ∷ []) 0 ∷ asked 5 (18 ∷ []) 0 ∷ []) true) × (l ≡ last)
a_request m x l pieces result by next chain request =
    by.takes 5 pieces (18 ∷ []) refl next chain request

-- a buffer of statistics is noted
a_buffer : (m : Pages) (x : QueueState) (l : LastStatistics) (pieces : List Piece)
    (result : Result (Option ℕ) Refusal)
    → TakesNext 2 m (record going { taken = [] }) x last l result
    → next_of m going ≡ Ok (Some 5) → IsChainOf m going 5 pieces → request_of 2 8 m pieces ≡ Ok []
    → l ≡ noted 2 m pieces last
a_buffer m x l pieces result by next chain request =
    (by.takes 5 pieces [] refl next chain request).2

-- ---- what each answer says

means : (q : ℕ) (m : Pages) (old x : QueueState) (l : LastStatistics)
    (result : Result (Option ℕ) Refusal)
    → TakesNext q m old x last l result → NextMeans q m old x last l result
means q m old x l result by = by.means

says_nothing_new : (x : QueueState) (l : LastStatistics) (rule : ℕ)
    → (NextMeans 1 mem going x last l (Ok None) → (x ≡ going) × (l ≡ last))
    × (NextMeans 1 mem going x last l (Err (Broken rule)) → (x ≡ going) × (l ≡ last))
    × (NextMeans 1 mem (with_taken 16) x last l (Err Busy) → (x ≡ with_taken 16) × (l ≡ last))
says_nothing_new x l rule =
    (λ says. (says.1, says.2), λ says. (says.1, says.2), λ says. (says.2, says.3))

says_a_request : (x : QueueState) (l : LastStatistics)
    → NextMeans 1 mem going x last l (Ok (Some 5)) → (pages : List ℕ) × (pieces : List Piece)
    × (next_of mem going ≡ Ok (Some 5)) × ChainGives (descriptor_at mem 1) 8 16384 5 pieces
    × (request_of 1 8 mem pieces ≡ Ok pages)
    × (x ≡ with_counts 0 4 (asked 3 (17 ∷ []) 0 ∷ asked 5 pages 0 ∷ []) true)
    × (l ≡ noted 1 mem pieces last)
says_a_request x l (_, (pages, pieces, next, chain, request, queue, said)) =
    (pages, pieces, next, chain, request, queue, said)

-- a full queue answers just that, one with room never does, and nothing else is refused
says_not : (x : QueueState) (l : LastStatistics) (rule : ℕ)
    → (NextMeans 1 mem (with_taken 16) x last l (Ok None) → true ≡ false)
    × (NextMeans 1 mem (with_taken 16) x last l (Ok (Some 5)) → true ≡ false)
    × (NextMeans 1 mem (with_taken 16) x last l (Err (Broken rule)) → true ≡ false)
    × (NextMeans 1 mem going x last l (Err Busy) → false ≡ true)
    × (NextMeans 1 mem (with_taken 16) x last l (Err NotReady) → NotReady ≡ Busy)
says_not x l rule =
    (λ says. says.0, λ says. says.0, λ says. says.0, λ says. says.1, λ says. says.0)
