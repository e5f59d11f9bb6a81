-- Worked facts of the words of laws over runs: a page that is held, a guest that is there and makes
-- no scribble, the last write to a byte, and what isn't outstanding of a guest that isn't ready.
use Rattle.std.proofs.Common.{◌≡◌, ℕ, zero, suc, ◌+◌, ◌≤◌, true, false, List, [], ◌∷◌, ◌++◌, map}
use Rattle.std.proofs.Common.{replicate, refl, ap, inl, inr, arith}
use Rattle.std.specs.Prelude.{Option, Some, None}
use Rattle.vb_model.specs.Requests.{Requests, outstanding, Figures, BufferPosted, BufferTaken}
use Rattle.vb_model.specs.Courses.{Course, guest_after, IsWriteTo, StaysHeld, StaysOrLoses, byte_of}
use Rattle.vb_model.{specs.declared.places.Place.Place, specs.declared.calls.Claim.TheVariants.Gave}
use Rattle.vb_model.{specs.declared.calls.Actor.TheVariants.Worker, specs.Pages.{place_of, is_used}}
use Rattle.vb_model.specs.declared.calls.Call.TheVariants.{Write, Scribble, Reset, Sweep, Work}
use Rattle.vb_model.{specs.declared.calls.Event.Event, specs.Requests.{StatisticsBuffer, BufferDone}, specs.Guest.Guest}
use Rattle.vb_virtio.specs.declared.refusals.Refusal.TheVariants.{NoFrame}
use Rattle.vb_model.specs.World.{World}
use Rattle.vb_model.specs.declared.replies.Reply.TheVariants.{Done, Refused, Swept}
use Rattle.vb_model.{specs.Run.History, specs.GuestRun.{Called, Looked}, specs.Courses.last_put}
use Rattle.vb_model.specs.HonestRuns.{IsThere, MakesNoScribble, IsAttentive, has_buffer}
use Rattle.vb_model.proofs.Samples.{ready, down, without_stats_vq, page_16_at, request}
use Rattle.vb_model.proofs.SafeFacts.{made, stands}
use Rattle.vb_model.specs.declared.places.Place.TheVariants.{Reserved, Free as FreePlace, Used}
use Rattle.vb_model.specs.declared.calls.Event.TheVariants.{Guest as OnGuest, Restart, Unplug}

abbrev Same : ℕ → ℕ → Type 0
Same a b = a ≡ b

abbrev at : Option Guest → World
at g = record { frames = 64; guests = Some ready ∷ g ∷ []; spares = []; vacated = None }

-- guest 1 in three states, with two events between
abbrev three : Option Guest → Event → Option Guest → Event → Option Guest → History
three before first between second after = record {
  first = at before;
  events = first ∷ second ∷ [];
  replies = Done ∷ Done ∷ [];
  after = at between ∷ at after ∷ [];
}

abbrev holding : Guest → Option Guest
holding g = Some (page_16_at Used g)

abbrev rogue : Option Guest
rogue = Some (record (page_16_at Used down) { rogue = true })

-- ---- a page that is held

-- three states of a guest, with two events between
abbrev three_states : Guest → Guest → Guest → Course
three_states before between after =
    record { first = before; entries = None ∷ None ∷ []; after = between ∷ after ∷ [] }

-- over a reset and while the guest is down, to the last state
abbrev reset_while_held : Course
reset_while_held = three_states (page_16_at Used ready) (page_16_at Used down) (page_16_at Used down)

held_over_a_reset : StaysHeld reset_while_held 16 0 2
held_over_a_reset zero l = (page_16_at Used ready, refl, refl)
held_over_a_reset (suc zero) l = (page_16_at Used down, refl, refl)
held_over_a_reset (suc (suc zero)) l = (page_16_at Used down, refl, refl)
held_over_a_reset (suc (suc (suc j))) l = absurd (omega arith)

-- where it is handed out first, it is held since then
abbrev handed_out_late : Course
handed_out_late =
    three_states (page_16_at FreePlace down) (page_16_at Used down) (page_16_at Used down)

held_since : StaysHeld handed_out_late 16 1 1
held_since zero l = (page_16_at Used down, refl, refl)
held_since (suc zero) l = (page_16_at Used down, refl, refl)
held_since (suc (suc j)) l = absurd (omega arith)

-- not where it is free in some state, nor past the last
abbrev place_there : Option Guest → Place
place_there None = Reserved
place_there (Some g) = place_of g.places 16

not_used_in : (c : Course) (j : ℕ) → j ≤ 2 → is_used (place_there (guest_after c (0 + j))) ≡ false
    → StaysHeld c 16 0 2 → ⊥
not_used_in c j l free holds = grind arith

free_at_first : StaysHeld handed_out_late 16 0 2 → ⊥
free_at_first = not_used_in handed_out_late 0 (omega arith) refl

free_in_between : StaysHeld
    (three_states (page_16_at Used down) (page_16_at FreePlace down) (page_16_at Used down)) 16 0 2
    → ⊥
free_in_between = grind arith

free_at_last : StaysHeld
    (three_states (page_16_at Used down) (page_16_at Used down) (page_16_at FreePlace down)) 16 0 2
    → ⊥
free_at_last = grind arith

past_the_last_state : StaysHeld (stands (page_16_at Used down)) 16 0 2 → ⊥
past_the_last_state = not_used_in (stands (page_16_at Used down)) 1 (omega arith) refl

-- ---- a guest that is there: in each state, honest or rogue, in whatever life

there : IsThere (three (holding ready) (OnGuest 1 (Scribble 20 0 [])) rogue (Restart 1) (Some down))
    1 0 2
there zero l = (page_16_at Used ready, refl)
there (suc zero) l = (record (page_16_at Used down) { rogue = true }, refl)
there (suc (suc zero)) l = (down, refl)
there (suc (suc (suc j))) l = absurd (omega arith)

unplugged_in_between : IsThere
    (three (Some down) (Unplug 1) None (OnGuest 0 Work) (Some down)) 1 0 2 → ⊥
unplugged_in_between there = grind arith

unplugged_at_last : IsThere (three (Some down) (OnGuest 0 Work) (Some down) (Unplug 1) None) 1 0 2
    → ⊥
unplugged_at_last there = grind arith

-- ---- no scribble: one of another guest is none, nor is one before or after

abbrev scribbled : Event → Event → History
scribbled first second = three (Some down) first (Some down) second (Some down)

abbrev scribble : ℕ → Event
scribble n = OnGuest n (Scribble 20 4 (7 ∷ []))

anothers_scribble : MakesNoScribble (scribbled (scribble 0) (OnGuest 1 Reset)) 1 0 2
anothers_scribble h page offset bytes l e = grind arith

scribbled_before : MakesNoScribble (scribbled (scribble 1) (OnGuest 1 (Write 20 4 (7 ∷ [])))) 1 1 1
scribbled_before zero page offset bytes l e = cc
scribbled_before (suc j) page offset bytes l e = absurd (omega arith)

scribbled_behind : MakesNoScribble (scribbled (Restart 1) (scribble 1)) 1 0 1
scribbled_behind zero page offset bytes l e = cc
scribbled_behind (suc j) page offset bytes l e = absurd (omega arith)

its_own_scribble : MakesNoScribble (scribbled (scribble 1) (OnGuest 1 Work)) 1 0 2 → ⊥
its_own_scribble none = none 0 20 4 (7 ∷ []) (omega arith) refl

its_last_scribble : MakesNoScribble (scribbled (OnGuest 1 Work) (scribble 1)) 1 0 2 → ⊥
its_last_scribble none = none 1 20 4 (7 ∷ []) (omega arith) refl

-- ---- the last write to a byte

-- two bytes of the page; another's event; a write of another page; one that is refused; the second
-- byte once more; a reset, a look and a sweep
abbrev writes : Course
writes = record {
  first = page_16_at Used ready;
  entries = made (Write 16 2 (5 ∷ 6 ∷ [])) Done ∷ None ∷ made (Write 17 3 (8 ∷ [])) Done
      ∷ made (Write 16 3 (7 ∷ [])) (Refused NoFrame) ∷ made (Write 16 3 (4 ∷ [])) Done
      ∷ made Reset Done ∷ Some (Looked 16 32) ∷ made (Sweep 16) (Swept true) ∷ [];
  after = replicate 8 (page_16_at Used ready);
}

-- a write of any actor counts, and whatever its claims were given
abbrev written_by_the_worker : Course
written_by_the_worker = record {
  first = page_16_at Used ready;
  entries = Some (Called (Worker 0) (Write 16 2 (5 ∷ [])) (Gave 7 ∷ []) Done) ∷ [];
  after = page_16_at Used ready ∷ [];
}

its_byte : (last_put written_by_the_worker 16 2 0 1 100 ≡ 5) × IsWriteTo written_by_the_worker 16 0
its_byte = (refl, (2, 5 ∷ [], (Worker 0, Gave 7 ∷ [], refl)))

-- byte 3 among more and more of the entries, from the first one on, from the second, and from the
-- last
as_they_come : map (λ k. last_put writes 16 3 0 k 100) (0 ∷ 1 ∷ 2 ∷ 3 ∷ 4 ∷ 5 ∷ 6 ∷ 7 ∷ 8 ∷ [])
    ≡ 100 ∷ 6 ∷ 6 ∷ 6 ∷ 6 ∷ 4 ∷ 4 ∷ 4 ∷ 4 ∷ []
as_they_come = refl

not_those_before : map (λ k. last_put writes 16 3 1 k 100) (0 ∷ 1 ∷ 2 ∷ 3 ∷ 4 ∷ 5 ∷ [])
    ≡ 100 ∷ 100 ∷ 100 ∷ 100 ∷ 4 ∷ 4 ∷ []
not_those_before = refl

by_a_reset : last_put writes 16 3 5 1 100 ≡ 100
by_a_reset = refl

-- each byte of the page by itself
byte_by_byte : map (λ byte. last_put writes 16 byte 0 6 (100 + byte))
    (0 ∷ 1 ∷ 2 ∷ 3 ∷ 4 ∷ []) ≡ 100 ∷ 101 ∷ 5 ∷ 4 ∷ 104 ∷ []
byte_by_byte = refl

-- of the other page, and of one that nothing was written to
of_another : last_put writes 17 3 0 6 100 ∷ last_put writes 17 2 0 6 100
    ∷ last_put writes 18 3 0 6 100 ∷ [] ≡ 8 ∷ 100 ∷ 100 ∷ []
of_another = refl

-- ---- a page that reads as it did, or has lost its frame

abbrev with_page : Option ℕ → List ℕ → Guest
with_page frame bytes =
    record (page_16_at Used ready)
    { frames = replicate 16 None ++ (frame ∷ []); contents = replicate 16 [] ++ (bytes ∷ []) }

bytes_of_it : map (λ byte. byte_of (with_page (Some 5) (1 ∷ 2 ∷ [])) 16 byte) (0 ∷ 1 ∷ 2 ∷ [])
    ≡ 1 ∷ 2 ∷ 0 ∷ []
bytes_of_it = refl

abbrev SameBytes : List ℕ → List ℕ → Type 0
SameBytes a b = a ≡ b

abbrev SameFrame : Option ℕ → Option ℕ → Type 0
SameFrame a b = a ≡ b

changed_but_framed : StaysOrLoses 16 (with_page (Some 5) (1 ∷ [])) (with_page (Some 6) (2 ∷ [])) → ⊥
changed_but_framed (inl same) = let e : SameBytes (2 ∷ []) (1 ∷ []) = same in cc
changed_but_framed (inr lost) = let e : SameFrame (Some 6) None = lost.1 in cc

changed_while_bare : StaysOrLoses 16 (with_page None (1 ∷ [])) (with_page None (2 ∷ [])) → ⊥
changed_while_bare (inl same) = let e : SameBytes (2 ∷ []) (1 ∷ []) = same in cc
changed_while_bare (inr lost) = let e : false ≡ true = lost.0 in cc

stays_or_loses : StaysOrLoses 16 (with_page None (1 ∷ [])) (with_page (Some 5) (1 ∷ []))
    × StaysOrLoses 16 (with_page (Some 5) (1 ∷ [])) (with_page None (2 ∷ []))
stays_or_loses = (inl refl, inr (refl, refl))

-- ---- nothing is outstanding of a guest that isn't ready, and a buffer is there just where one is
-- that accepted STATS_VQ

abbrev posted : Requests
posted = record { posted = request 0 (20 ∷ []) 0 ∷ []; taken = []; done = [] }

abbrev used : Requests
used = record { posted = []; taken = []; done = request 0 (20 ∷ []) 0 ∷ [] }

abbrev failed : Guest
failed = record down { status = 131; features = 0x27 }

inflate_out : IsAttentive (record down { inflate = posted }) → ⊥
inflate_out a =
    let e : Same 1 0 = ap outstanding (a.inflating (λ e. omega (arith, e))) in omega arith

deflate_out : IsAttentive (record failed { deflate = used }) → ⊥
deflate_out a =
    let e : Same 1 0 = ap outstanding (a.deflating (λ e. omega (arith, e))) in omega arith

report_out : IsAttentive (record failed { report = posted }) → ⊥
report_out a =
    let e : Same 1 0 = ap outstanding (a.reporting (λ e. omega (arith, e))) in omega arith

abbrev figures : Figures
figures = record { free = 0; total = 0 }

ready_without_a_buffer : IsAttentive ready → ⊥
ready_without_a_buffer a = let e : false ≡ true = a.buffered in cc

failed_with_a_buffer : IsAttentive (record failed { buffer = BufferDone figures }) → ⊥
failed_with_a_buffer a = let e : true ≡ false = a.buffered in cc

unaccepted_buffer : IsAttentive (record without_stats_vq { buffer = BufferTaken figures }) → ⊥
unaccepted_buffer a = let e : true ≡ false = a.buffered in cc

-- while it is ready anything may be out
busy : IsAttentive
    (record ready
    { inflate = used; deflate = posted; report = used; buffer = BufferPosted figures })
busy = grind arith

busy_with : (buffer : StatisticsBuffer) → has_buffer buffer ≡ true → IsAttentive (record ready { buffer = buffer })
busy_with buffer e = record {
  inflating = λ other. absurd (other refl);
  deflating = λ other. absurd (other refl);
  reporting = λ other. absurd (other refl);
  buffered = e;
}

idle : IsAttentive failed
idle = grind arith
