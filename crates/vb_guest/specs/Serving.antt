-- What a device that serves a queue does to its guest, one chain after the other.
use Rattle.std.specs.Prelude.{◌≡◌, ℕ, zero, suc, ◌+◌, ◌≤◌, List, [], ◌∷◌, length, Option, Some}
use Rattle.std.specs.Prelude.{None, Result, Ok, Err, MatchBool, MatchOption, ◌==◌, ◌-◌}
use Rattle.vb_virtio.specs.declared.layout.TheConstants.{STATISTICS_QUEUE}
use Rattle.vb_virtio.specs.declared.limits.TheConstants.{MAX_QUEUE_SIZE}
use Rattle.vb_virtio.specs.declared.refusals.Refusal.{Refusal}
use Rattle.vb_virtio.specs.declared.refusals.Refusal.TheVariants.{Broken}
use Rattle.vb_virtio.specs.Queues.{Kind, Request, kind_of_queue}
use Rattle.vb_model.specs.declared.calls.Call.TheVariants.{Serve}
use Rattle.vb_model.specs.declared.replies.Reply.{Reply}
use Rattle.vb_model.specs.declared.replies.Reply.TheVariants.{Finished, Refused, Served, Taken}
use Rattle.vb_model.specs.Guest.{Guest, requests}
use Rattle.vb_model.specs.Device.{Finishes, ServesRequests, TakesBuffer, TakesRequest}
use Rattle.vb_model.specs.Refusals.{refusal_of}
use Rattle.vb_model.specs.Rogue.{RogueStep}
use Rattle.vb_ram.specs.Pages.{Pages, frame_at}
use Rattle.vb_ram.specs.Part.{Part}
use Rattle.vb_device.specs.Calls.{ServesBy}
use Rattle.vb_guest.specs.declared.served.Served.{Served as ServedChains}
use Rattle.vb_guest.specs.Exact.{IsHandedBack}
use Rattle.vb_guest.specs.Replies.{taken_reply}

-- Pages may lose their frames, and get no others.
abbrev pub LosesBehind : Pages → Pages → Type 0
LosesBehind m1 m2 = (page frame : ℕ) → frame_at m2 page ≡ Some frame → frame_at m1 page ≡ Some frame

-- ---- one chain

-- What is replied where nothing was served before.
abbrev pub first_reply : Result (Option ℕ) Refusal → Reply
first_reply (Ok None) = Served 0 None
first_reply (Ok (Some head)) = Served 1 None
first_reply (Err (Broken rule)) = Served 0 (Some rule)
first_reply (Err why) = Refused why

-- The first posted request, if there is one, is taken and used.
abbrev pub UsesNext : Kind → List Request → Guest → Option ℕ → Guest → Type 0
UsesNext kind [] g head new = (head ≡ None) × (new ≡ g)
UsesNext kind (r ∷ rest) g head new =
    (head ≡ Some r.head) × (taken : Guest) × TakesRequest kind (r ∷ rest) g (Taken r.head) taken
    × Finishes kind 0 taken (Finished r.head) new

-- One chain of an honest guest's queue is served.
abbrev pub HonestNext : ℕ → Guest → Result (Option ℕ) Refusal → Guest → Type 0
HonestNext q g (Err why) new = (refusal_of g (Serve q) ≡ Some why) × (new ≡ g)
HonestNext q g (Ok head) new =
    (refusal_of g (Serve q) ≡ None)
    × MatchOption (kind_of_queue q) (TakesBuffer g.buffer g (taken_reply (Ok head)) new)
    (λ kind. UsesNext kind (requests kind g).posted g head new)

-- And of any guest's.
abbrev pub NextStep : ℕ → Result (Option ℕ) Refusal → Guest → Guest → Type 0
NextStep q result g new =
    MatchBool g.rogue (RogueStep g (Serve q) [] (first_reply result) new)
    (HonestNext q g result new)

-- Frames that pages lost went back.
abbrev pub NextBy : ℕ → Pages → Pages → Part → Part → Result (Option ℕ) Refusal → Type 0
NextBy q m1 m2 p1 p2 result = IsHandedBack (λ part. ServesBy q m1 m2 p1 part result) p2

-- ---- the chains after it

-- How far a serve came that ended with this answer.
abbrev pub served_until : ℕ → Result (Option ℕ) Refusal → ServedChains
served_until chains (Err (Broken rule)) = record { chains = chains; broken = Some rule }
served_until chains _ = record { chains = chains; broken = None }

-- n chains were served before; what is served of an honest guest, of which n more may be, is all
-- that is posted.
abbrev pub RestStep : ℕ → ℕ → ℕ → ServedChains → Guest → Guest → Type 0
RestStep q chains left served g new =
    MatchBool g.rogue (RogueStep g (Serve q) [] (Served served.chains served.broken) new)
    ((kind : Kind) → kind_of_queue q ≡ Some kind → refusal_of g (Serve q) ≡ None
    → length (requests kind g).posted ≤ left
    → ServesRequests kind (requests kind g).posted chains g (Served served.chains served.broken)
    new)

-- What follows an answer: the next chain, where it brought one.
abbrev pub GoesOn : (Pages → Part → Type 0) → ℕ → Pages → Pages → Part → Part
    → Result (Option ℕ) Refusal → ServedChains → Type 0
GoesOn Rest chains m1 m2 p1 p2 (Ok (Some head)) served = Rest m1 p1
GoesOn Rest chains m1 m2 p1 p2 answer served =
    (served ≡ served_until chains answer) × (m2 ≡ m1) × (p2 ≡ p1)

-- n more chains at most are served, one after the other, up to the first answer that brings none.
abbrev pub RestBy : (q left chains : ℕ) → Pages → Pages → Part → Part → ServedChains → Type 0
RestBy q zero chains m1 m2 p1 p2 served =
    (served ≡ record { chains = chains; broken = None }) × (m2 ≡ m1) × (p2 ≡ p1)
RestBy q (suc left) chains m1 m2 p1 p2 served =
    (mid : Pages) × (part : Part) × (answer : Result (Option ℕ) Refusal)
    × NextBy q m1 mid p1 part answer
    × GoesOn (λ m p. RestBy q left (chains + 1) m m2 p p2 served) chains mid m2 part p2 answer
    served

-- ---- a serve

-- What is answered where nothing, or the buffer of statistics alone, is served.
abbrev pub first_served : Result (Option ℕ) Refusal → Result ServedChains Refusal
first_served (Ok None) = Ok (record { chains = 0; broken = None })
first_served (Ok (Some head)) = Ok (record { chains = 1; broken = None })
first_served (Err (Broken rule)) = Ok (record { chains = 0; broken = Some rule })
first_served (Err why) = Err why

-- What follows the first chain: the others, but of the queue of statistics none.
abbrev pub FirstGoesOn : ℕ → Pages → Pages → Part → Part → Result (Option ℕ) Refusal
    → Result ServedChains Refusal → Type 0
FirstGoesOn q m1 m2 p1 p2 (Ok (Some head)) result =
    MatchBool (q == STATISTICS_QUEUE)
    ((result ≡ Ok (record { chains = 1; broken = None })) × (m2 ≡ m1) × (p2 ≡ p1))
    ((served : ServedChains) × (result ≡ Ok served)
    × RestBy q (MAX_QUEUE_SIZE - 1) 1 m1 m2 p1 p2 served)
FirstGoesOn q m1 m2 p1 p2 answer result =
    (result ≡ first_served answer) × (m2 ≡ m1) × (p2 ≡ p1)

-- All chains of a queue are served, one after the other.
abbrev pub ServesAllBy : ℕ → Pages → Pages → Part → Part → Result ServedChains Refusal → Type 0
ServesAllBy q m1 m2 p1 p2 result =
    (mid : Pages) × (part : Part) × (answer : Result (Option ℕ) Refusal)
    × NextBy q m1 mid p1 part answer × FirstGoesOn q mid m2 part p2 answer result
