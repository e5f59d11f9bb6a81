-- The driver takes a used request.
use Rattle.std.specs.Prelude.{◌≡◌, ℕ, ◌==◌, List, [], ◌∷◌, All, Option, Some, Ok, slice_get}
use Rattle.std.proofs.{Common.{◌∙◌, ap, subst, arith}, lemmas.List.{Elements.All-tail, length-set}}
use Rattle.vb_virtio.specs.Queues.{Request}
use Rattle.vb_virtio.specs.Tests.{one_if}
use Rattle.vb_model.specs.Requests.{Requests, headed}
use Rattle.{vb_ram.specs.Part.QueuePart, vb_driver.specs.{State.RequestSide, Calls.after_reap}}
use Rattle.{vb_ram.specs.Pages.Pages, vb_guest.specs.Line.{Line, IsRequest, RingOf, heads_of}}
use Rattle.vb_ring.specs.{Ends.{DriverEnd, used_answer}, Calls.TakesUsedBy, Entries.is_head}
use Rattle.vb_guest.proofs.{RingReaped.{ring_answer, ring_reaped}, Posting.{headed_once, still_out}}
use Rattle.vb_guest.proofs.{Heads.{headed-cons, headed-all}, RingHeads.{one_is, at_most_one}}

-- the head of the first used request, which the driver is answered
abbrev pub used_next : List Request → Option ℕ
used_next done = slice_get (heads_of done) 0

-- what the used ring says to the driver
pub used_line : (mem : Pages) (q : ℕ) (ring : DriverEnd) (part : QueuePart) (rs : Requests)
    → RingOf mem q ring part rs → used_answer mem ring ≡ Ok (used_next rs.done)
used_line mem q ring part rs stands = grind (arith, ring_answer stands)

pub requests_reaped : {mem : Pages} (q : ℕ) {ring after : DriverEnd}
    (part : QueuePart) (posted taken : List Request) (r : Request) (rest : List Request)
    → RingOf mem q ring part (record { posted = posted; taken = taken; done = r ∷ rest })
    → TakesUsedBy mem ring after (Ok (Some r.head))
    → RingOf mem q after part (record { posted = posted; taken = taken; done = rest })
requests_reaped q part posted taken r rest stands did = grind (arith, ring_reaped)

pub line_reaped : {mem : Pages} (q n : ℕ) (side : RequestSide) (part : QueuePart) (rs : Requests)
    (r : Request) (rest : List Request) → rs.done ≡ r ∷ rest → Line mem q n side part rs
    → TakesUsedBy mem side.ring (after_reap side r.head).ring (Ok (Some r.head))
    → Line mem q n (after_reap side r.head) part (record rs { done = rest })
line_reaped {mem} q n side part rs r rest is line did =
    let P : Request → Type 0 = IsRequest side.ring.size n side.sent in
    let itself : one_if (r.head == r.head) ≡ 1 = one_is r.head in
    let once = headed_once mem q side.ring part rs r.head line.ring in
    let all = headed-all r.head rs in
    let first = ap (headed r.head) is ∙ headed-cons r.head r rest in
    let most = at_most_one (is_head side.ring.owner r.head) in
    let R : List Request → Type 0 = λ l. RingOf mem q side.ring part (record rs { done = l }) in
    record {
      ring = requests_reaped q part rs.posted rs.taken r rest (subst R is line.ring) did;
      keeps = length-set side.sent r.head [] ∙ line.keeps;
      posted = still_out side.ring.size n side.sent r.head [] rs.posted (omega arith) line.posted;
      taken = still_out side.ring.size n side.sent r.head [] rs.taken (omega arith) line.taken;
      done = still_out side.ring.size n side.sent r.head [] rest (omega arith)
          (All-tail P r rest (subst (All P) is line.done));
      coded = line.coded;
      remembers = line.remembers;
    }
