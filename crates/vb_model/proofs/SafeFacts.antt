-- Courses of a guest that are not safe, one for each thing that safety promises: of its features,
-- its frames, what its pages hold and what reads give, and of faults.
use Rattle.std.proofs.Common.{List, [], arith, false, inl, inr, refl, replicate, suc, true, zero, ℕ}
use Rattle.std.proofs.Common.{◌++◌, ◌∷◌, ◌≡◌}
use Rattle.{std.specs.Prelude.{Option, Some, None}, vb_model.specs.Histories.IsSafeCourse}
use Rattle.vb_model.{proofs.Samples.{ready, down, page_16_at, request}, specs.Guest.{Guest, fresh}}
use Rattle.vb_model.specs.Courses.{Course, StaysHeld, StaysOrLoses, ReadsGiveLastWrites}
use Rattle.vb_model.specs.{GuestRun.{Entry, Called}, declared.{calls.Call.Call, places.Place.Place}}
use Rattle.vb_virtio.specs.Queues.{Request}
use Rattle.vb_virtio.specs.declared.refusals.Refusal.TheVariants.{RingBroken, Broken, NoFrame}
use Rattle.vb_model.specs.Requests.{Requests}
use Rattle.vb_model.specs.declared.calls.Actor.TheVariants.{Processor}
use Rattle.vb_model.specs.declared.calls.Call.TheVariants.{Read, Reap, Reset, Serve, Stats, Sweep}
use Rattle.vb_model.specs.declared.{calls.Call.TheVariants.{Take, Work, Write}, replies.Reply.Reply}
use Rattle.vb_model.specs.declared.replies.Reply.TheVariants.{Done, Idle, ReadBytes, Served, Swept}
use Rattle.vb_model.specs.declared.replies.Reply.TheVariants.{Refused}
use Rattle.vb_model.specs.declared.places.Place.TheVariants.{Free as FreePlace, Used, Reserved}

-- the guest's own call
abbrev pub made : Call → Reply → Option Entry
made call reply = Some (Called (Processor 0 0) call [] reply)

-- another's event
abbrev pub anothers : Option Entry
anothers = None

-- one state; two with a call between
abbrev pub stands : Guest → Course
stands g = record { first = g; entries = []; after = [] }

abbrev pub goes : Guest → Call → Reply → Guest → Course
goes g call reply new = record { first = g; entries = made call reply ∷ []; after = new ∷ [] }

-- another's event, and then a call
abbrev later : Guest → Call → Reply → Guest → Course
later g call reply new =
    record { first = g; entries = None ∷ made call reply ∷ []; after = g ∷ new ∷ [] }

-- the guest is down, and then, by another's event, so
abbrev pub becomes : Guest → Course
becomes g = record { first = down; entries = None ∷ []; after = g ∷ [] }

abbrev pub place_16 : Place → Guest
place_16 place = page_16_at place ready

abbrev pub Same : ℕ → ℕ → Type 0
Same a b = a ≡ b

-- a request of page 16, and the requests of a queue where one is posted, or used
abbrev pub request_16 : Request
request_16 = request 0 (16 ∷ []) 0

abbrev pub posted : Request → Requests
posted r = record { posted = r ∷ []; taken = []; done = [] }

abbrev pub used : Request → Requests
used r = record { posted = []; taken = []; done = r ∷ [] }

-- ---- a guest is ready with features that it may not have

without_version : IsSafeCourse (stands (record ready { features = 0x27 })) → ⊥
without_version s = let e : false ≡ true =
    (s.agreed 0 (record ready { features = 0x27 }) refl refl).1 in cc

with_bit_3 : IsSafeCourse (stands (record ready { features = 0x10000002f })) → ⊥
with_bit_3 s = let e : false ≡ true =
    (s.agreed 0 (record ready { features = 0x10000002f }) refl refl).0 in cc

untold_without_version : IsSafeCourse (stands (record ready { features = 0x26 })) → ⊥
untold_without_version s = let e : false ≡ true =
    (s.agreed 0 (record ready { features = 0x26 }) refl refl).1 in cc

-- in a later state, by a call or by another's event
version_lost : IsSafeCourse (goes ready Work (Refused NoFrame) (record ready { features = 0x27 })) → ⊥
version_lost s = let e : false ≡ true =
    (s.agreed 1 (record ready { features = 0x27 }) refl refl).1 in cc

version_lost_later : IsSafeCourse (becomes (record ready { features = 0x27 })) → ⊥
version_lost_later s = let e : false ≡ true =
    (s.agreed 1 (record ready { features = 0x27 }) refl refl).1 in cc

bit_3_gained : IsSafeCourse (becomes (record ready { features = 0x10000002f })) → ⊥
bit_3_gained s = let e : false ≡ true =
    (s.agreed 1 (record ready { features = 0x10000002f }) refl refl).0 in cc

-- ---- a used page loses its frame, or gets another one

abbrev pub used_with : Option ℕ → List ℕ → Guest → Guest
used_with frame bytes g =
    record (page_16_at Used g)
    { frames = replicate 16 None ++ (frame ∷ []); contents = replicate 16 [] ++ (bytes ∷ []) }

abbrev pub SameFrame : Option ℕ → Option ℕ → Type 0
SameFrame a b = a ≡ b

frame_lost : IsSafeCourse
    (goes (used_with (Some 5) [] ready) (Sweep 16) (Swept true) (used_with None [] ready)) → ⊥
frame_lost s = let e : SameFrame None (Some 5) = s.keeps_frame 0 16 5
    (used_with (Some 5) [] ready) (used_with None [] ready) refl refl refl refl refl in cc

other_frame : IsSafeCourse (goes (used_with (Some 5) [] ready) (Write 16 0 (1 ∷ [])) Done
    (used_with (Some 6) [] ready)) → ⊥
other_frame s = let e : SameFrame (Some 6) (Some 5) = s.keeps_frame 0 16 5
    (used_with (Some 5) [] ready) (used_with (Some 6) [] ready) refl refl refl refl refl in cc

-- by another's event
frame_taken : IsSafeCourse (record {
  first = used_with (Some 5) [] ready;
  entries = None ∷ [];
  after = used_with None [] ready ∷ [];
}) → ⊥
frame_taken s = let e : SameFrame None (Some 5) = s.keeps_frame 0 16 5
    (used_with (Some 5) [] ready) (used_with None [] ready) refl refl refl refl refl in cc

-- of a guest that is down, at once and later; over a reset
frame_lost_while_down : IsSafeCourse
    (goes (used_with (Some 5) [] down) (Sweep 16) (Swept true) (used_with None [] down)) → ⊥
frame_lost_while_down s = let e : SameFrame None (Some 5) = s.keeps_frame 0 16 5
    (used_with (Some 5) [] down) (used_with None [] down) refl refl refl refl refl in cc

frame_lost_later : IsSafeCourse
    (later (used_with (Some 5) [] down) (Sweep 16) (Swept true) (used_with None [] down)) → ⊥
frame_lost_later s = let e : SameFrame None (Some 5) = s.keeps_frame 1 16 5
    (used_with (Some 5) [] down) (used_with None [] down) refl refl refl refl refl in cc

frame_lost_by_a_reset : IsSafeCourse
    (goes (used_with (Some 5) [] ready) Reset Done (used_with None [] down)) → ⊥
frame_lost_by_a_reset s = let e : SameFrame None (Some 5) = s.keeps_frame 0 16 5
    (used_with (Some 5) [] ready) (used_with None [] down) refl refl refl refl refl in cc

-- of a guest with queues of 256
abbrev large : Guest
large = record (fresh (record { pages = 80; queue_size = 256; processors = 1; paced = false }) 0)
    { status = 15; features = 0x100000027 }

abbrev large_used : Option ℕ → Guest
large_used frame = record large {
  places = replicate 32 Reserved ++ (Used ∷ replicate 47 FreePlace);
  frames = replicate 32 None ++ (frame ∷ []);
}

frame_of_a_large_guest_lost : IsSafeCourse
    (goes (large_used (Some 5)) (Sweep 32) (Swept true) (large_used None)) → ⊥
frame_of_a_large_guest_lost s = let e : SameFrame None (Some 5) =
    s.keeps_frame 0 32 5 (large_used (Some 5)) (large_used None) refl refl refl refl refl in cc

-- ---- a page reads otherwise, with no write of the guest's own to that page, and its frame stays

abbrev pub one_byte : ℕ → List ℕ
one_byte byte = byte ∷ []

abbrev pub SameBytes : List ℕ → List ℕ → Type 0
SameBytes a b = a ≡ b

abbrev pub with_byte : Place → Option ℕ → ℕ → Guest
with_byte place frame byte = record (used_with frame (one_byte byte) ready)
    { places = (place_16 place).places }

-- a page without a frame, and one with a frame, whose bytes aren't what they were
not_that_byte : (place : Place)
    → StaysOrLoses 16 (with_byte place None 1) (with_byte place None 2) → ⊥
not_that_byte place (inl same) = let e : SameBytes (one_byte 2) (one_byte 1) = same in cc
not_that_byte place (inr lost) = let e : false ≡ true = lost.0 in cc

nor_framed : (place : Place)
    → StaysOrLoses 16 (with_byte place (Some 5) 1) (with_byte place (Some 5) 2) → ⊥
nor_framed place (inl same) = let e : SameBytes (one_byte 2) (one_byte 1) = same in cc
nor_framed place (inr lost) = let e : SameFrame (Some 5) None = lost.1 in cc

bytes_changed : IsSafeCourse
    (goes (with_byte Used None 1) (Write 17 0 (2 ∷ [])) Done (with_byte Used None 2)) → ⊥
bytes_changed s = not_that_byte Used (s.keeps_contents 0 16
    (with_byte Used None 1) (with_byte Used None 2) refl refl (λ e. cc) (λ own. cc))

-- a write that was refused is none
bytes_changed_by_refused : IsSafeCourse
    (goes (with_byte Used None 1) (Write 16 0 (2 ∷ [])) (Refused NoFrame) (with_byte Used None 2))
    → ⊥
bytes_changed_by_refused s = not_that_byte Used (s.keeps_contents 0 16
    (with_byte Used None 1) (with_byte Used None 2) refl refl (λ e. cc) (λ own. cc))

-- nor is another guest's write to a page of the same number, after one of the guest's own
bytes_changed_by_another : IsSafeCourse (record {
  first = with_byte Used (Some 5) 1;
  entries = made (Write 16 0 (1 ∷ [])) Done ∷ None ∷ [];
  after = with_byte Used (Some 5) 1 ∷ with_byte Used (Some 5) 2 ∷ [];
}) → ⊥
bytes_changed_by_another s = nor_framed Used (s.keeps_contents 1 16 (with_byte Used (Some 5) 1)
    (with_byte Used (Some 5) 2) refl refl (λ e. cc) (λ own. cc))

-- nor a reset
bytes_changed_by_a_reset : IsSafeCourse
    (goes (with_byte Used (Some 5) 1) Reset Done (with_byte Used (Some 5) 2)) → ⊥
bytes_changed_by_a_reset s = nor_framed Used (s.keeps_contents 0 16 (with_byte Used (Some 5) 1)
    (with_byte Used (Some 5) 2) refl refl (λ e. cc) (λ own. cc))

-- a free page holds what it did, too
bytes_of_a_free_page_changed : IsSafeCourse
    (goes (with_byte FreePlace (Some 5) 1) Work Idle (with_byte FreePlace (Some 5) 2)) → ⊥
bytes_of_a_free_page_changed s = nor_framed FreePlace
    (s.keeps_contents 0 16 (with_byte FreePlace (Some 5) 1) (with_byte FreePlace (Some 5) 2) refl
    refl (λ e. cc) (λ own. cc))

-- ---- what reads give

-- a page with these first bytes is read, and the read is answered so
abbrev reads : ℕ → List ℕ → Course
reads len bytes = goes (used_with (Some 5) (1 ∷ 2 ∷ []) ready) (Read 16 0 len) (ReadBytes bytes)
    (used_with (Some 5) (1 ∷ 2 ∷ []) ready)

other_bytes : IsSafeCourse (reads 1 (9 ∷ [])) → ⊥
other_bytes s =
    let e : SameBytes (9 ∷ []) (1 ∷ []) = (s.reads 0 16 0 1
    (9 ∷ []) (used_with (Some 5) (1 ∷ 2 ∷ []) ready) refl (Processor 0 0, [], refl)).1 in cc

too_few_bytes : IsSafeCourse (reads 2 (1 ∷ [])) → ⊥
too_few_bytes s =
    let e : Same 1 2 = (s.reads 0 16 0 2 (1 ∷ []) (used_with (Some 5) (1 ∷ 2 ∷ []) ready) refl
    (Processor 0 0, [], refl)).0 in omega (arith, e)

-- two writes, with another's event after each, and then a read that gives what was there before the
-- last one, or before both
abbrev written_and_read : ℕ → Course
written_and_read byte = record {
  first = used_with (Some 5) (1 ∷ 2 ∷ []) down;
  entries = made (Write 16 0 (7 ∷ [])) Done ∷ None ∷ made (Write 16 0 (8 ∷ [])) Done ∷ None
      ∷ made (Read 16 0 1) (ReadBytes (byte ∷ [])) ∷ [];
  after = used_with (Some 5) (7 ∷ 2 ∷ []) down ∷ used_with (Some 5) (7 ∷ 2 ∷ []) down
      ∷ used_with (Some 5) (8 ∷ 2 ∷ []) down ∷ used_with (Some 5) (8 ∷ 2 ∷ []) down
      ∷ used_with (Some 5) (8 ∷ 2 ∷ []) down ∷ [];
}

reads_the_last : (byte : ℕ) → IsSafeCourse (written_and_read byte) → byte ≡ 8
reads_the_last byte s =
    let e : SameBytes (byte ∷ []) (8 ∷ []) = (s.reads 4 16 0 1
    (byte ∷ []) (used_with (Some 5) (8 ∷ 2 ∷ []) down) refl (Processor 0 0, [], refl)).1 in cc

write_forgotten : IsSafeCourse (written_and_read 7) → ⊥
write_forgotten s = let e : Same 7 8 = reads_the_last 7 s in omega (arith, e)

both_forgotten : IsSafeCourse (written_and_read 1) → ⊥
both_forgotten s = let e : Same 1 8 = reads_the_last 1 s in omega (arith, e)

-- the same by the law of reads since a state, which looks at entries alone
held : (len : ℕ) (bytes : List ℕ) → StaysHeld (reads len bytes) 16 0 0
held len bytes zero le = (used_with (Some 5) (1 ∷ 2 ∷ []) ready, refl, refl)
held len bytes (suc j) le = absurd (omega (arith, le))

other_bytes_by_law : ReadsGiveLastWrites (reads 1 (9 ∷ [])) → ⊥
other_bytes_by_law s =
    let e : Same 9 1 = (s 16 0 0 0 1 (9 ∷ []) (used_with (Some 5) (1 ∷ 2 ∷ []) ready)
    (held 1 (9 ∷ [])) refl (Processor 0 0, [], refl)).1 0 (omega arith) in omega (arith, e)

too_few_bytes_by_law : ReadsGiveLastWrites (reads 2 (1 ∷ [])) → ⊥
too_few_bytes_by_law s =
    let e : Same 1 2 = (s 16 0 0 0 2 (1 ∷ []) (used_with (Some 5) (1 ∷ 2 ∷ []) ready)
    (held 2 (1 ∷ [])) refl (Processor 0 0, [], refl)).0 in omega (arith, e)

-- whatever the states say
abbrev written_unseen : ℕ → Course
written_unseen byte = record (written_and_read byte)
    { after = replicate 5 (used_with (Some 5) (1 ∷ 2 ∷ []) down) }

held_then : (byte : ℕ) → StaysHeld (written_unseen byte) 16 0 4
held_then byte (suc (suc (suc (suc (suc j))))) le = absurd (omega arith)
held_then byte other le = (used_with (Some 5) (1 ∷ 2 ∷ []) down, refl, refl)

last_by_law : (byte : ℕ) → ReadsGiveLastWrites (written_unseen byte) → byte ≡ 8
last_by_law byte s = (s 16 0 4 0 1 (byte ∷ []) (used_with (Some 5) (1 ∷ 2 ∷ []) down)
    (held_then byte) refl (Processor 0 0, [], refl)).1 0 (omega arith)

write_forgotten_by_law : ReadsGiveLastWrites (written_unseen 7) → ⊥
write_forgotten_by_law s = let e : Same 7 8 = last_by_law 7 s in omega (arith, e)

both_forgotten_by_law : ReadsGiveLastWrites (written_unseen 1) → ⊥
both_forgotten_by_law s = let e : Same 1 8 = last_by_law 1 s in omega (arith, e)

-- a write that is done, and the page holds what it did, or the bytes are elsewhere in it
abbrev written_as : List ℕ → Course
written_as bytes = goes (used_with (Some 5) (1 ∷ 2 ∷ []) down) (Write 16 0 (7 ∷ [])) Done
    (used_with (Some 5) bytes down)

writes_first_byte : (bytes : List ℕ) → IsSafeCourse (written_as bytes) → bytes ≡ 7 ∷ 2 ∷ []
writes_first_byte bytes s = (s.writes 0 16 0 (7 ∷ []) (used_with (Some 5) (1 ∷ 2 ∷ []) down)
    (used_with (Some 5) bytes down) refl refl (Processor 0 0, [], refl)).1

write_without_effect : IsSafeCourse (written_as (1 ∷ 2 ∷ [])) → ⊥
write_without_effect s =
    let e : SameBytes (1 ∷ 2 ∷ []) (7 ∷ 2 ∷ []) = writes_first_byte (1 ∷ 2 ∷ []) s in cc

written_elsewhere : IsSafeCourse (written_as (1 ∷ 7 ∷ [])) → ⊥
written_elsewhere s =
    let e : SameBytes (1 ∷ 7 ∷ []) (7 ∷ 2 ∷ []) = writes_first_byte (1 ∷ 7 ∷ []) s in cc

-- or it lies past the end of the page, by one byte, of another's event before it too
past_the_end : (new : Guest)
    → (IsSafeCourse (goes (used_with (Some 5) (1 ∷ 2 ∷ []) down) (Write 16 2 (7 ∷ [])) Done new) → ⊥)
    × (IsSafeCourse (later (used_with (Some 5) (1 ∷ []) ready) (Write 16 0 (7 ∷ 8 ∷ [])) Done new)
    → ⊥)
past_the_end new = (
  λ s. omega (
    arith,
    (s.writes 0 16 2 (7 ∷ []) (used_with (Some 5) (1 ∷ 2 ∷ []) down) new refl refl
        (Processor 0 0, [], refl)).0,
  ),
  λ s. omega (
    arith,
    (s.writes 1 16 0 (7 ∷ 8 ∷ []) (used_with (Some 5) (1 ∷ []) ready) new refl refl
        (Processor 0 0, [], refl)).0,
  ),
)

-- ---- an honest guest meets a broken chain, or a broken ring

broken_chain : IsSafeCourse (goes ready (Take 0) (Refused (Broken 3)) ready) → ⊥
broken_chain s = (s.not_broken 0 3 (Take 0) (Refused (Broken 3)) (Processor 0 0, [], refl)).0 refl

broken_ring : IsSafeCourse (goes ready (Reap 0) (Refused RingBroken) ready) → ⊥
broken_ring s = (s.not_broken 0 0 (Reap 0) (Refused RingBroken) (Processor 0 0, [], refl)).1 refl

-- or one of a serve, of however many chains before it
broken_when_served : (chains : ℕ)
    → IsSafeCourse (goes ready (Serve 0) (Served chains (Some 3)) ready) → ⊥
broken_when_served chains s = (s.not_broken 0 3 (Serve 0) (Served chains (Some 3))
    (Processor 0 0, [], refl)).2 chains refl

-- no call is answered so, of no queue, in no later state
broken_chain_later : IsSafeCourse (later down (Take 4) (Refused (Broken 9)) down) → ⊥
broken_chain_later s =
    (s.not_broken 1 9 (Take 4) (Refused (Broken 9)) (Processor 0 0, [], refl)).0 refl

broken_ring_later : IsSafeCourse (later down Stats (Refused RingBroken) down) → ⊥
broken_ring_later s = (s.not_broken 1 0 Stats (Refused RingBroken) (Processor 0 0, [], refl)).1 refl
