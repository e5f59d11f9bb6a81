-- The device takes the next posted request, and visits pages of the taken ones.
use Rattle.std.specs.Prelude.{◌≡◌, ℕ, ◌+◌, ◌%◌, List, [], ◌∷◌, ◌++◌, All, Ok, slice_get}
use Rattle.std.proofs.{Common.{sym, ap, subst, arith}, lemmas.List.Elements.{All-push, All-tail}}
use Rattle.vb_virtio.specs.Queues.{Request}
use Rattle.vb_model.specs.Requests.{Requests}
use Rattle.vb_model.specs.Device.{visiting}
use Rattle.{vb_ram.specs.{Pages.Pages, Part.QueuePart}, vb_ring.specs.Entries.next_entry}
use Rattle.{vb_ring.specs.Ends.DriverEnd, vb_guest.specs.Line.{QueueLine, RingOf, heads_of}}
use Rattle.vb_guest.{specs.Ring.RingStands, proofs.Heads.{IgnoresVisits, heads-push}}
use Rattle.vb_guest.proofs.{Heads.{heads-visiting, all-visiting}, RingTaken.{ring_next, ring_taken}}

-- the device's next entry is the head of the first posted request
pub next_shown : (mem : Pages) (q : ℕ) (ring : DriverEnd) (part : QueuePart) (rs : Requests)
    → RingOf mem q ring part rs
    → next_entry mem ring.layout ring.size part.next_avail ≡ Ok (slice_get (heads_of rs.posted) 0)
next_shown mem q ring part rs stands = grind (arith, ring_next stands)

-- the head of the taken request goes from the posted to the taken ones
pub requests_taken : (mem : Pages) (q : ℕ) (ring : DriverEnd) (part : QueuePart) (r : Request)
    (rest taken done : List Request) (last : List Request)
    → RingOf mem q ring part (record { posted = r ∷ rest; taken = taken; done = done })
    → RingOf mem q ring (record part { next_avail = (part.next_avail + 1) % 65536; taken = last })
    (record { posted = rest; taken = taken ++ (record r { visited = 0 } ∷ []); done = done })
requests_taken mem q ring part r rest taken done last stands = grind (arith, heads-push, ring_taken)

-- the taken request goes from the posted to the taken ones
pub line_taken : {mem : Pages} {q : ℕ} {ring : DriverEnd} {part : QueuePart} {rs : Requests}
    (r : Request) (rest : List Request) {K : Type 0} {P C : Request → Type 0} → IgnoresVisits P
    → rs.posted ≡ r ∷ rest → QueueLine mem q ring part rs K P C
    → QueueLine mem q ring (record part {
      next_avail = (part.next_avail + 1) % 65536;
      taken = part.taken ++ (record { head = r.head; pages = r.pages; visited = 0 } ∷ []);
    }) (record rs { posted = rest; taken = rs.taken ++ (record r { visited = 0 } ∷ []) }) K P C
line_taken {mem} {q} {ring} {part} {rs} r rest {P} {C} ignores is line =
    let r' : Request = record r { visited = 0 } in
    let R : List Request → Type 0 = λ l. RingOf mem q ring part (record rs { posted = l }) in
    let all : All P (r ∷ rest) = subst (All P) is line.posted in
    record {
      ring = requests_taken mem q ring part r rest rs.taken rs.done (part.taken ++ (r' ∷ []))
          (subst R is line.ring);
      keeps = line.keeps;
      posted = All-tail P r rest all;
      taken = All-push P rs.taken r' line.taken (ignores r 0 (all 0 r (omega arith)));
      done = line.done;
      coded = All-tail C r rest (subst (All C) is line.coded);
      remembers = ap (λ (l : List Request). l ++ (r' ∷ [])) line.remembers;
    }

-- a visit changes a request's count alone
pub line_visited : {mem : Pages} {q : ℕ}
    {ring : DriverEnd} {part : QueuePart} {rs : Requests} {K : Type 0} {P C : Request → Type 0}
    → IgnoresVisits P → QueueLine mem q ring part rs K P C → QueueLine mem q ring
    (record part { taken = visiting part.taken }) (record rs { taken = visiting rs.taken }) K P C
line_visited {mem} {q} {ring} {part} {rs} {P} ignores line =
    let S : List ℕ → Type 0 = λ l. RingStands mem q ring part.next_avail part.next_used
    (heads_of rs.posted) l (heads_of rs.done) in
    assumption (
      subst S (sym (heads-visiting rs.taken)) line.ring,
      all-visiting P ignores rs.taken line.taken,
      ap visiting line.remembers,
    )
