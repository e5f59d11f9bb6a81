-- What a serve of a queue is answered and leaves, chain after chain, worked out.
use Rattle.std.proofs.Common.{◌≡◌, ℕ, suc, zero, true, false, List, [], ◌∷◌, map, refl, arith}
use Rattle.std.specs.Prelude.{Option, Some, None, Result, Ok, Err}
use Rattle.vb_model.specs.declared.calls.Call.TheVariants.{Serve}
use Rattle.vb_virtio.specs.declared.refusals.Refusal.{Refusal}
use Rattle.vb_virtio.specs.declared.refusals.Refusal.TheVariants.{Broken, Busy, NoQueue, NotReady}
use Rattle.vb_virtio.specs.Queues.{Deflating, Inflating, kind_of_queue}
use Rattle.vb_model.specs.declared.replies.Reply.TheVariants.{Finished, Refused, Served, Taken}
use Rattle.vb_model.specs.Guest.{Guest}
use Rattle.vb_model.specs.Device.{Finishes, ServesRequests, TakesRequest}
use Rattle.vb_model.specs.{Refusals.{refusal_of}, Rogue.{RogueStep}}
use Rattle.vb_ram.{specs.Pages.{Pages}, specs.Part.{Part, no_part, no_queue}}
use Rattle.vb_device.specs.Calls.{ServesBy}
use Rattle.vb_guest.specs.declared.served.Served.{Served as ServedChains}
use Rattle.vb_guest.specs.Replies.{served_reply}
use Rattle.vb_guest.specs.Serving.{FirstGoesOn, GoesOn, HonestNext, LosesBehind, NextBy, NextStep}
use Rattle.vb_guest.specs.Serving.{RestBy, RestStep, ServesAllBy, UsesNext, first_reply, first_served}
use Rattle.vb_guest.specs.Serving.{served_until}
use Rattle.vb_guest.proofs.StandFacts.{guest, request}

-- ---- answers and replies

abbrev served : ℕ → Option ℕ → ServedChains
served chains broken = record { chains = chains; broken = broken }

abbrev answers : List (Result (Option ℕ) Refusal)
answers = Ok None ∷ Ok (Some 3) ∷ Err (Broken 7) ∷ Err Busy ∷ []

-- a rule that is broken ends a serve, and is no refusal
first_replies : map first_reply answers
    ≡ Served 0 None ∷ Served 1 None ∷ Served 0 (Some 7) ∷ Refused Busy ∷ []
first_replies = refl

first_answers : map first_served answers
    ≡ Ok (served 0 None) ∷ Ok (served 1 None) ∷ Ok (served 0 (Some 7)) ∷ Err Busy ∷ []
first_answers = refl

-- after five chains nothing is refused any more
later_answers : map (served_until 5) (Ok None ∷ Err (Broken 7) ∷ Err Busy ∷ [])
    ≡ served 5 None ∷ served 5 (Some 7) ∷ served 5 None ∷ []
later_answers = refl

replies : map served_reply (Ok (served 5 None) ∷ Ok (served 2 (Some 7)) ∷ Err NotReady ∷ [])
    ≡ Served 5 None ∷ Served 2 (Some 7) ∷ Refused NotReady ∷ []
replies = refl

-- ---- frames of pages

abbrev mem : Pages
mem = None ∷ Some (record { number = 7; bytes = [] }) ∷ []

-- a frame's number, of a page that has one
abbrev framed : ℕ → Option ℕ
framed number = Some number

abbrev frameless : Option ℕ
frameless = None

-- a page keeps its frame or loses it; it gets no other, and none where it had none
loses : LosesBehind mem mem
    × (LosesBehind mem (Some (record { number = 8; bytes = [] }) ∷ []) → frameless ≡ framed 8)
    × (LosesBehind mem (None ∷ Some (record { number = 9; bytes = [] }) ∷ []) → framed 7 ≡ framed 9)
loses = (λ page frame e. e, λ keeps. keeps 0 8 refl, λ keeps. keeps 1 9 refl)

loses_all : LosesBehind mem (None ∷ None ∷ [])
loses_all zero frame e = cc
loses_all (suc zero) frame e = cc
loses_all (suc (suc page)) frame e = cc

-- ---- one chain of an honest guest

-- where a request is posted it is taken, and used at once; where none is, nothing is done
uses : (head : Option ℕ) (new : Guest) → UsesNext Inflating (request 1 (20 ∷ []) ∷ []) guest head new
    → (head ≡ Some 1) × (taken : Guest)
    × TakesRequest Inflating (request 1 (20 ∷ []) ∷ []) guest (Taken 1) taken
    × Finishes Inflating 0 taken (Finished 1) new
uses head new did = did

uses_none : (head : Option ℕ) (new : Guest) → UsesNext Deflating [] guest head new
    → (head ≡ None) × (new ≡ guest)
uses_none head new did = did

-- the sample has no feature of reports, and its buffer is taken
refused : (new : Guest) → HonestNext 4 guest (Err NoQueue) new
    → (refusal_of guest (Serve 4) ≡ Some NoQueue) × (new ≡ guest)
refused new did = did

not_refused_so : (new : Guest) (head : Option ℕ)
    → (HonestNext 4 guest (Err Busy) new → Some NoQueue ≡ Some Busy)
    × (HonestNext 4 guest (Ok head) new → Some NoQueue ≡ None)
    × (HonestNext 0 guest (Err Busy) new → None ≡ Some Busy)
    × (HonestNext 0 guest (Ok head) new
    → UsesNext Inflating (request 1 (20 ∷ []) ∷ []) guest head new)
not_refused_so new head = (λ did. did.0, λ did. did.0, λ did. did.0, λ did. did.1)

-- of a guest that wrote past its driver any such reply may be given
of_both : (g new : Guest) (answer : Result (Option ℕ) Refusal)
    → (NextStep 0 answer (record g { rogue = true }) new
    → RogueStep (record g { rogue = true }) (Serve 0) [] (first_reply answer) new)
    × (NextStep 0 answer (record g { rogue = false }) new
    → HonestNext 0 (record g { rogue = false }) answer new)
of_both g new answer = (λ did. did, λ did. did)

-- ---- the chains after it

rest_of_both : (g new : Guest) (left : ℕ)
    → (RestStep 0 1 left (served 3 (Some 7)) (record g { rogue = true }) new
    → RogueStep (record g { rogue = true }) (Serve 0) [] (Served 3 (Some 7)) new)
    × (RestStep 0 1 1 (served 2 None) guest new
    → ServesRequests Inflating (request 1 (20 ∷ []) ∷ []) 1 guest (Served 2 None) new)
rest_of_both g new left = (λ did. did, λ did. did Inflating refl refl (omega arith))

-- of none that may be served any more, and of a chain
ends : (m1 m2 : Pages) (p1 p2 : Part) (to : ServedChains) → RestBy 0 0 256 m1 m2 p1 p2 to
    → (to ≡ served 256 None) × (m2 ≡ m1) × (p2 ≡ p1)
ends m1 m2 p1 p2 to did = did

goes_on : (Rest : Pages → Part → Type 0) (m1 m2 : Pages) (p1 p2 : Part) (to : ServedChains)
    → (GoesOn Rest 3 m1 m2 p1 p2 (Ok (Some 0)) to → Rest m1 p1)
    × (GoesOn Rest 3 m1 m2 p1 p2 (Ok None) to → (to ≡ served 3 None) × (m2 ≡ m1) × (p2 ≡ p1))
    × (GoesOn Rest 3 m1 m2 p1 p2 (Err (Broken 7)) to
    → (to ≡ served 3 (Some 7)) × (m2 ≡ m1) × (p2 ≡ p1))
goes_on Rest m1 m2 p1 p2 to = (λ goes. goes, λ goes. goes, λ goes. goes)

one_more : (m1 m2 : Pages) (p1 p2 : Part) (to : ServedChains) → RestBy 0 2 3 m1 m2 p1 p2 to
    → (mid : Pages) × (part : Part) × (answer : Result (Option ℕ) Refusal)
    × NextBy 0 m1 mid p1 part answer
    × GoesOn (λ m p. RestBy 0 1 4 m m2 p p2 to) 3 mid m2 part p2 answer to
one_more m1 m2 p1 p2 to did = did

-- ---- a whole serve

-- of a chain the others follow, but of the queue of statistics none
first : (m1 m2 : Pages) (p1 p2 : Part) (result : Result ServedChains Refusal)
    → (FirstGoesOn 2 m1 m2 p1 p2 (Ok (Some 0)) result
    → (result ≡ Ok (served 1 None)) × (m2 ≡ m1) × (p2 ≡ p1))
    × (FirstGoesOn 0 m1 m2 p1 p2 (Ok (Some 0)) result
    → (to : ServedChains) × (result ≡ Ok to) × RestBy 0 255 1 m1 m2 p1 p2 to)
    × (FirstGoesOn 0 m1 m2 p1 p2 (Ok None) result
    → (result ≡ Ok (served 0 None)) × (m2 ≡ m1) × (p2 ≡ p1))
    × (FirstGoesOn 0 m1 m2 p1 p2 (Err (Broken 9)) result
    → (result ≡ Ok (served 0 (Some 9))) × (m2 ≡ m1) × (p2 ≡ p1))
    × (FirstGoesOn 0 m1 m2 p1 p2 (Err Busy) result
    → (result ≡ Err Busy) × (m2 ≡ m1) × (p2 ≡ p1))
first m1 m2 p1 p2 result =
    (λ goes. goes, λ goes. goes, λ goes. goes, λ goes. goes, λ goes. goes)

-- a queue of which a chain is taken
abbrev busy : Part
busy = record no_part {
  status = 15;
  queue_size = 8;
  inflate = record no_queue { taken = request 0 (20 ∷ []) ∷ [] };
}

next_of_a_busy_one : (m2 : Pages) (p2 : Part) (answer : Result (Option ℕ) Refusal)
    → NextBy 0 mem m2 busy p2 answer → (answer ≡ Err Busy) × (m2 ≡ mem)
next_of_a_busy_one m2 p2 answer (part, did, back) =
    let (is, same, memory) = did.refused Busy refl in (is, memory)
