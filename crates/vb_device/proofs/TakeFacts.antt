-- What a take says of one state: of each kind of fault, of a request, and where it is refused.
use Rattle.std.proofs.Common.{◌≡◌, ◌<◌, ◌+◌, ℕ, zero, suc, false, List, [], ◌∷◌, refl, arith, inr}
use Rattle.std.proofs.Common.{true}
use Rattle.std.specs.Prelude.{Option, Some, None, Result, Ok, Err, slice_index, replicate}
use Rattle.vb_chain.{specs.Chain.{IsChain, BreaksAt, ChainGives, fault_at}, specs.Rules.has_next}
use Rattle.vb_chain.{specs.declared.descriptor.Descriptor.Descriptor, specs.Table.descriptor_at}
use Rattle.vb_chain.{specs.declared.fault.ChainFault.ChainFault, specs.declared.pieces.Piece.Piece}
use Rattle.vb_chain.specs.declared.fault.ChainFault.TheVariants.{IndexJump, BadLength, Indirect}
use Rattle.vb_virtio.specs.declared.refusals.Refusal.{Refusal}
use Rattle.vb_virtio.specs.declared.refusals.Refusal.TheVariants.{Broken, Busy, NoQueue}
use Rattle.vb_request.{specs.Request.{bytes_of, numbers_of, page_request}, specs.Asked.request_of}
use Rattle.vb_ram.{specs.Pages.{Page, Pages, byte_at, field}, specs.Part.{Part, no_part}}
use Rattle.vb_device.{specs.Calls.{TakeMeans, TakesBy}, proofs.CallFacts.{asked, queue, mem, busy}}
use Rattle.vb_device.{specs.Queues.next_available, proofs.StepFacts.told}

-- ---- a chain of the first descriptor alone

alone : (d : ℕ → Descriptor) (end : ℕ) → fault_at d 8 end (0 ∷ []) 0 ≡ None → has_next (d 0) ≡ false
    → IsChain d 8 end 0 (0 ∷ [])
alone d end clean last = grind arith where
  sound : (k : ℕ) → k < 1 → fault_at d 8 end (0 ∷ []) k ≡ None
  sound zero lt = clean
  sound (suc k) lt = absurd (omega (arith, lt))

  ends : (k : ℕ) → k + 1 ≡ 1 → has_next (d (slice_index (0 ∷ []) k)) ≡ false
  ends zero e = last
  ends (suc k) e = absurd (omega (arith, e))

breaks : (d : ℕ → Descriptor) (end : ℕ) (f : ChainFault) → fault_at d 8 end (0 ∷ []) 0 ≡ Some f
    → BreaksAt d 8 end 0 (0 ∷ []) f
breaks d end f is = grind arith where
  here : (k : ℕ) → k + 1 ≡ 1 → fault_at d 8 end (0 ∷ []) k ≡ Some f
  here zero e = is
  here (suc k) e = absurd (omega (arith, e))

-- A take of this queue answers so, leaves this part, and memory as it was.
abbrev pub Takes : ℕ → Pages → Part → Result (Option ℕ) Refusal → Part → Type 0
Takes q mem p1 answer new = (m2 : Pages) (p2 : Part) (result : Result (Option ℕ) Refusal)
    → TakesBy q mem m2 p1 p2 result → (result ≡ answer) × (p2 ≡ new) × (m2 ≡ mem)

-- This number of entries were taken.
abbrev pub at : ℕ → Part
at taken = record no_part { status = 15; queue_size = 8; inflate = queue taken [] }

abbrev pub broken : Part → Part
broken part = record part { status = 79 }

-- ---- of memory that reads as zeros: the index is 0, and descriptor 0 a chain of no bytes

abbrev pub zeros : Pages
zeros = None ∷ None ∷ None ∷ None ∷ []

pub no_more : Takes 0 zeros (at 0) (Ok None) (at 0)
unfolding byte_at field
no_more m2 p2 result by = (let left = by.empty refl refl in (left.0, left.1, by.memory))

pub index_that_jumped : Takes 0 zeros (at 60000) (Err (Broken 7)) (broken (at 60000))
unfolding byte_at field
index_that_jumped m2 p2 result by =
    let left = by.jump IndexJump refl refl in (left.answer, left.part, by.memory)

no_bytes : Takes 0 zeros (at 65535) (Err (Broken 8)) (broken (at 65535))
unfolding byte_at field descriptor_at bytes_of page_request
no_bytes m2 p2 result by =
    let left = by.wrong 0 (record { addr = 0; len = 0; writable = false } ∷ []) BadLength refl refl
    (record { path = 0 ∷ []; chain = alone (descriptor_at zeros 0) 16384 refl refl; pieces_are = refl })
    refl in
    (left.answer, left.part, by.memory)

-- ---- of bytes in page 1, of which descriptor 0 says this

abbrev page : List ℕ → Option Page
page bytes = Some (record { number = 1; bytes = bytes })

abbrev table : ℕ → ℕ → Option Page
table len flags = page (0 ∷ 16 ∷ 0 ∷ 0 ∷ 0 ∷ 0 ∷ 0 ∷ 0 ∷ len ∷ 0 ∷ 0 ∷ 0 ∷ flags ∷ [])

abbrev pub names : Pages
names = table 8 0 ∷ page (17 ∷ 0 ∷ 0 ∷ 0 ∷ 16 ∷ []) ∷ replicate 16 None

abbrev pub with_request : ℕ → List ℕ → Part
with_request h pages = record (at 0) {
  inflate = record { next_avail = 0; next_used = 65535; taken = asked h pages 0 ∷ [] };
}

pub request : Takes 0 names (at 65535) (Ok (Some 0)) (with_request 0 (17 ∷ 16 ∷ []))
unfolding byte_at field descriptor_at bytes_of numbers_of page_request
request m2 p2 result by =
    let left = by.takes 0 (record { addr = 4096; len = 8; writable = false } ∷ []) (17 ∷ 16 ∷ []) refl refl
    (record { path = 0 ∷ []; chain = alone (descriptor_at names 0) 73728 refl refl; pieces_are = refl })
    refl in
    (left.0, left.1, by.memory)

indirect : Takes 0 (table 8 4 ∷ zeros) (at 65535) (Err (Broken 4)) (broken (at 65535))
unfolding byte_at field descriptor_at
indirect m2 p2 result by =
    let left = by.fault 0 Indirect refl refl
    (inr (0 ∷ [], breaks (descriptor_at (table 8 4 ∷ zeros) 0) 20480 Indirect refl)) in
    (left.answer, left.part, by.memory)

-- ---- each answer says its state

refused : Takes 3 mem busy (Err NoQueue) busy
refused m2 p2 result by = (let left = by.refused NoQueue refl in (left.0, left.1, by.memory))

means : (m2 : Pages) (p2 : Part) (result : Result (Option ℕ) Refusal)
    → TakesBy 3 mem m2 busy p2 result → TakeMeans 3 mem busy p2 result
means m2 p2 result by = by.means

leaves : (p2 : Part) → (TakeMeans 0 mem busy p2 (Ok None) → p2 ≡ busy)
    × (TakeMeans 0 mem busy p2 (Err (Broken 7)) → p2 ≡ broken busy)
    × (TakeMeans 2 mem told p2 (Err Busy) → p2 ≡ told)
leaves p2 = (λ means. means.1, λ means. means.1, λ means. means.1)

-- what isn't so would make two refusals alike
is_not_so : (p2 : Part) → (TakeMeans 0 mem busy p2 (Err Busy) → None ≡ Some Busy)
    × (TakeMeans 2 mem told p2 (Ok None) → Some Busy ≡ None)
    × (TakeMeans 3 mem busy p2 (Ok (Some 0)) → Some NoQueue ≡ None)
    × (TakeMeans 3 mem busy p2 (Err (Broken 7)) → Some NoQueue ≡ None)
is_not_so p2 = (λ means. means.0, λ means. means.0, λ means. means.0, λ means. means.0)

said : (p2 : Part) → TakeMeans 0 names (at 65535) p2 (Ok (Some 3)) → (pages : List ℕ)
    × (pieces : List Piece) × (next_available 0 names (at 65535) ≡ Ok (Some 3))
    × ChainGives (descriptor_at names 0) 8 73728 3 pieces
    × (request_of 0 8 names pieces ≡ Ok pages) × (p2 ≡ with_request 3 pages)
said p2 (may, (pages, next, part)) =
    (pages, next.pieces, next.next, next.chain, next.request, part)
