-- Worked facts of a host beside its lender: what it makes sure of before each event.
use Rattle.std.proofs.Common.{◌≡◌, Bool, inl, inr, ℕ, ◌-◌, ◌≤◌, true, false, List, [], ◌∷◌, ◌++◌, replicate, refl, ap, subst, arith}
use Rattle.std.specs.Prelude.{None, Option, Some}
use Rattle.vb_model.specs.declared.calls.Call.TheVariants.{Finish, Reset, Scribble, Work, Write}
use Rattle.vb_model.specs.declared.calls.Claim.TheVariants.{GaveNoFrame}
use Rattle.vb_model.specs.declared.calls.Event.{Event}
use Rattle.vb_model.specs.declared.calls.Event.TheVariants.{Frames as CountFrames, Guest as OnGuest, Plug, Restart, Unplug}
use Rattle.vb_model.specs.declared.places.Place.TheVariants.{Free, Reserved, Used}
use Rattle.vb_virtio.specs.declared.refusals.Refusal.TheVariants.{NoFrame, NoMemory}
use Rattle.vb_model.specs.declared.replies.Reply.TheVariants.{Done, Frames, Plugged, Refused}
use Rattle.vb_model.specs.Guest.{Guest, backed_count, fresh}
use Rattle.vb_model.specs.HostEvents.{WorldStep}
use Rattle.vb_model.specs.World.{World}
use Rattle.vb_host.specs.declared.event.Event.TheVariants.{Arrives, Budget, Defers, Grants, Hears, Joins, Overdraws, Prefers, TakesOver, Targets, Uncounts, Wants}
use Rattle.vb_host.specs.declared.report.Report.{Report}
use Rattle.vb_host.specs.declared.seat.Seat.{Seat}
use Rattle.vb_host.specs.Lending.{Lending, pages_at}
use Rattle.vb_host.specs.Seats.{newcomer}
use Rattle.vb_room.proofs.CountFacts.{busy}
use Rattle.vb_room.proofs.TieFacts.{config, framed, rogue, seat, second, silent, some, world}
use Rattle.vb_room.specs.Beside.{AsksFirst, Both, BothStep, BothSteps, EventIsAsked, IsCovered, IsHeld, Lends, LoanIsAsked, Move, Plays, opened}
use Rattle.vb_room.specs.Counts.{takes_out}
use Rattle.vb_room.specs.Tie.{counted}

-- no guest has a limit
abbrev pub none : ℕ → Bool
none n = false

-- ---- around an event of the host

abbrev pub plug : Event
plug = Plug (record { pages = 64; queue_size = 8; processors = 1 })

-- a newcomer was granted all its pages, or has a limit; where none came there is nothing to be sure of
plug_asked : EventIsAsked second plug (Plugged 0) (world []) (world []) (seat 64 0 ∷ [])
    × EventIsAsked second plug (Plugged 1) (world []) (world []) (newcomer 0 ∷ seat 64 64 ∷ [])
    × EventIsAsked second plug (Refused NoMemory) (world []) (world []) []
plug_asked = ((refl, λ e. refl), (refl, λ e. absurd cc), tt)

-- not one that wasn't granted them, nor one with a seat of fewer pages, or at another place
plug_not_asked : (EventIsAsked second plug (Plugged 0) (world []) (world []) (seat 64 1 ∷ []) → ⊥)
    × (EventIsAsked second plug (Plugged 0) (world []) (world []) (seat 63 0 ∷ []) → ⊥)
    × (EventIsAsked second plug (Plugged 1) (world []) (world []) (seat 64 0 ∷ []) → ⊥)
plug_not_asked = (
  λ a. let e : 1 ≡ 0 = a.1 refl in omega (arith, e),
  λ a. let e : 63 ≡ 64 = a.0 in omega (arith, e),
  λ a. let e : 0 ≡ 64 = a.0 in omega (arith, e),
)

-- around an event of a guest that becomes another one, without a limit and with one
abbrev Asked : Event → ℕ → Guest → Guest → Type 0
Asked event reclaimed g new = EventIsAsked none event Done (world (Some g ∷ [])) (world (Some new ∷ [])) (seat 64 reclaimed ∷ [])

abbrev all : ℕ → Bool
all n = true

abbrev Held : Event → ℕ → Guest → Guest → Type 0
Held event reclaimed g new = EventIsAsked all event Done (world (Some g ∷ [])) (world (Some new ∷ [])) (seat 64 reclaimed ∷ [])

restart_asked : Asked (Restart 0) 0 some some × (Asked (Restart 0) 1 some some → ⊥)
restart_asked = (record { asked = λ e. refl; held = λ e. absurd cc }, λ a. let e : 1 ≡ 0 = a.asked refl in omega (arith, e))

-- three of the guest's pages are ballooned, and a deflate of two of them is finished: one of them is
-- reclaimed at most
abbrev asks_so : Event → ℕ → Type 0
asks_so event reclaimed = Asked event reclaimed (busy some) (busy some)

finish_asked : asks_so (OnGuest 0 (Finish 1 1)) 1 × asks_so (OnGuest 0 (Finish 0 0)) 3 × asks_so (OnGuest 0 Work) 3
    × asks_so (OnGuest 0 Reset) 0 × asks_so (OnGuest 0 (Scribble 0 0 [])) 0
finish_asked = (
  record { asked = λ l g e. let same : busy some ≡ g = cc in subst (λ (x : Guest). 1 ≤ counted x - takes_out (Finish 1 1) x) same (omega arith); held = λ e. absurd cc },
  record { asked = λ l g e. let same : busy some ≡ g = cc in subst (λ (x : Guest). 3 ≤ counted x - takes_out (Finish 0 0) x) same (omega arith); held = λ e. absurd cc },
  record { asked = λ l g e. let same : busy some ≡ g = cc in subst (λ (x : Guest). 3 ≤ counted x - takes_out Work x) same (omega arith); held = λ e. absurd cc },
  record { asked = λ l g e. omega arith; held = λ e. absurd cc },
  record { asked = λ l g e. omega arith; held = λ e. absurd cc },
)

finish_not_asked : (asks_so (OnGuest 0 (Finish 1 1)) 2 → ⊥) × (asks_so (OnGuest 0 (Finish 1 0)) 3 → ⊥)
    × (asks_so (OnGuest 0 Reset) 1 → ⊥) × (asks_so (OnGuest 0 (Scribble 0 0 [])) 1 → ⊥)
finish_not_asked = (
  λ a. let l : 2 ≤ 1 = a.asked refl (busy some) refl in absurd (omega arith),
  λ a. let l : 3 ≤ 2 = a.asked refl (busy some) refl in absurd (omega arith),
  λ a. let l : 1 ≤ 0 = a.asked refl (busy some) refl in absurd (omega arith),
  λ a. let l : 1 ≤ 0 = a.asked refl (busy some) refl in absurd (omega arith),
)

-- with a limit a guest may do anything, and holds two frames then, of two that are lent to it
is_held : IsHeld 0 (world (Some framed ∷ [])) (seat 64 62 ∷ []) × (IsHeld 0 (world (Some framed ∷ [])) (seat 64 63 ∷ []) → ⊥)
    × (IsHeld 0 (world (Some framed ∷ [])) (seat 9 0 ∷ []) → IsHeld 0 (world []) [])
is_held = (
  λ g e. let same : framed ≡ g = cc in subst (λ (x : Guest). backed_count x ≤ 2) same (omega arith),
  λ h. let l : 2 ≤ 1 = h framed refl in absurd (omega arith),
  λ h g e. absurd cc,
)

scribble_held : Held (OnGuest 0 (Scribble 0 0 [])) 62 some framed × (Held (OnGuest 0 (Scribble 0 0 [])) 63 some framed → ⊥)
    × Held (Restart 0) 62 some framed × (Held (Restart 0) 63 some framed → ⊥)
scribble_held = (
  record { asked = λ e. absurd cc; held = λ e. is_held.0 },
  λ h. is_held.1 (h.held refl),
  record { asked = λ e. absurd cc; held = λ e. is_held.0 },
  λ h. is_held.1 (h.held refl),
)

-- what leaves all balloons as they are, or goes with its guest
free_to_happen : Asked CountFrames 3 some some × Asked (Unplug 0) 3 some some
free_to_happen = (tt, tt)

-- ---- before an event of the lender

abbrev both : List (Option Guest) → ℕ → List Seat → Both
both guests frames seats = record { world = world guests; lending = record { frames = frames; overdraft = 5; seats = seats } }

comes_and_goes : LoanIsAsked none (Arrives 1 64 0) (both (Some some ∷ []) 9 []) × (LoanIsAsked none (Arrives 0 64 0) (both (Some some ∷ []) 9 []) → ⊥)
comes_and_goes = (refl, λ a. absurd cc)

-- where a guest is its memory stays
same_memory : LoanIsAsked none (Joins 1 2) (both (Some some ∷ []) 9 []) × (LoanIsAsked none (Joins 0 1) (both (Some some ∷ []) 9 []) → ⊥)
    × (LoanIsAsked none (Joins 1 0) (both (Some some ∷ []) 9 []) → ⊥)
same_memory = ((refl, refl), λ a. absurd (let e = a.0 in cc), λ a. absurd (let e = a.1 in cc))

-- the device has three ballooned pages, of which the lender knows one: it may hear of three
abbrev tells : ℕ → Report
tells ballooned = record silent { ballooned = ballooned; deflates = 2 }

abbrev known : Guest → Both
known g = both (Some g ∷ []) 64 (record (seat 64 1) { least_target = 64 } ∷ [])

hears : LoanIsAsked none (Hears 0 (tells 3)) (known some) × (LoanIsAsked none (Hears 0 (tells 4)) (known some) → ⊥)
    × (LoanIsAsked none (Hears 0 (record (tells 3) { removed = 2 })) (known some) → ⊥)
    × (LoanIsAsked none (Hears 0 (tells 1)) (known rogue) → ⊥)
    × LoanIsAsked all (Hears 0 (tells 62)) (known framed) × (LoanIsAsked all (Hears 0 (tells 63)) (known framed) → ⊥)
hears = (
  record {
    pages = λ g e. let same : some ≡ g = cc in ap (λ (x : Guest). x.config.pages) same;
    reclaimed = λ l g e. let same : some ≡ g = cc in subst (λ (x : Guest). 3 ≤ counted x) same (omega arith);
    held = λ e. absurd cc;
  },
  λ a. let l : 4 ≤ 3 = a.reclaimed refl some refl in absurd (omega arith),
  λ a. let e : 62 ≡ 64 = a.pages some refl in absurd (omega (arith, e)),
  λ a. let l : 1 ≤ 0 = a.reclaimed refl rogue refl in absurd (omega arith),
  record {
    pages = λ g e. let same : framed ≡ g = cc in ap (λ (x : Guest). x.config.pages) same;
    reclaimed = λ e. absurd cc;
    held = λ l g e. let same : framed ≡ g = cc in subst (λ (x : Guest). backed_count x ≤ 2) same (omega arith);
  },
  λ a. let l : 2 ≤ 1 = a.held refl framed refl in absurd (omega arith),
)

-- a later lender hears of three, for a target of three, and lends 61 of the host's 200 frames, and
-- 140 to others
abbrev later : Report
later = record silent { ballooned = 3; target = 3; read_target = 3 }

abbrev unknown : ℕ → Both
unknown others = both (Some some ∷ []) 64 (seat 64 0 ∷ seat others 0 ∷ [])

takes_over : LoanIsAsked none (TakesOver 0 64 later) (unknown 139) × (LoanIsAsked none (TakesOver 0 64 later) (unknown 140) → ⊥)
    × (LoanIsAsked none (TakesOver 0 63 later) (unknown 139) → ⊥)
takes_over = (
  (
    record {
      pages = λ g e. let same : some ≡ g = cc in ap (λ (x : Guest). x.config.pages) same;
      reclaimed = λ l g e. let same : some ≡ g = cc in subst (λ (x : Guest). 3 ≤ counted x) same (omega arith);
      held = λ e. absurd cc;
    },
    omega arith,
  ),
  λ a. let l : 201 ≤ 200 = a.1 in absurd (omega arith),
  λ a. let e : 63 ≡ 64 = a.0.pages some refl in absurd (omega (arith, e)),
)

-- 24 pages are lent to a guest, and 40 more have to be
uncounts : LoanIsAsked none (Uncounts 0) (both [] 9 (seat 64 40 ∷ seat 136 0 ∷ []))
    × (LoanIsAsked none (Uncounts 0) (both [] 9 (seat 64 40 ∷ seat 137 0 ∷ [])) → ⊥)
uncounts = (omega arith, λ a. let l : 201 ≤ 200 = a in absurd (omega arith))

-- a budget and its overdraft of 5
budgets : LoanIsAsked none (Budget 195) (both [] 64 []) × (LoanIsAsked none (Budget 196) (both [] 64 []) → ⊥)
budgets = (omega arith, λ a. let l : 201 ≤ 200 = a in absurd (omega arith))

free_to_lend : LoanIsAsked none (Grants 0) (both [] 0 []) × LoanIsAsked none (Overdraws 0) (both [] 0 []) × LoanIsAsked none (Wants 0 1) (both [] 0 [])
    × LoanIsAsked none (Targets 0) (both [] 0 []) × LoanIsAsked none (Prefers 0) (both [] 0 []) × LoanIsAsked none (Defers 0) (both [] 0 [])
free_to_lend = (tt, tt, tt, tt, tt, tt)

-- each is asked of its own kind
asks : AsksFirst none (both [] 9 (seat 64 40 ∷ [])) (Plays CountFrames Done) (both [] 9 [])
    × (AsksFirst none (both [] 9 (seat 201 40 ∷ [])) (Lends (Uncounts 0)) (both [] 9 []) → ⊥)
    × (AsksFirst none (both [] 9 (seat 64 40 ∷ [])) (Plays (Restart 0) Done) (both [] 9 []) → ⊥)
asks = (tt, λ a. let l : 201 ≤ 200 = a in absurd (omega arith), λ a. let e : 40 ≡ 0 = a.asked refl in omega (arith, e))

-- ---- a run: a guest of 64 pages arrives, its process reports, and it is granted them and plugged in

abbrev first_report : Report
first_report = record silent { ballooned = 64; target = 64; read_target = 64; held = 64; line = 2; deflates = 1 }

abbrev waiting : Seat
waiting = record (newcomer 64) { held = 64; line = 2; deflates = 1; turn = 1 }

abbrev let_in : Seat
let_in = record waiting { ballooned = 0; held = 0; granted = 1; turn = 0 }

abbrev pub at_first : Both
at_first = opened 100 (true ∷ []) 80 9 1

abbrev with_seat : Seat → Both
with_seat s = record at_first { lending = record { frames = 80; overdraft = 9; seats = s ∷ [] } }

abbrev pub plugged : Both
plugged = record {
  world = record { frames = 100; guests = Some (fresh config 0) ∷ []; spares = []; vacated = None };
  lending = record { frames = 80; overdraft = 9; seats = let_in ∷ [] };
}

abbrev pub first_moves : List Move
first_moves = Lends (Arrives 0 64 0) ∷ Lends (Hears 0 first_report) ∷ Lends (Grants 0) ∷ Plays plug (Plugged 0) ∷ []

abbrev pub first_states : List Both
first_states = with_seat (newcomer 64) ∷ with_seat waiting ∷ with_seat let_in ∷ plugged ∷ []

nobody_tells : LoanIsAsked none (Hears 0 first_report) (with_seat (newcomer 64))
nobody_tells = record { pages = λ g e. absurd cc; reclaimed = λ l g e. absurd cc; held = λ e. absurd cc }

pub first_guest : BothSteps none at_first first_moves first_states
first_guest = (refl, (refl, refl), (nobody_tells, (refl, refl), (tt, (refl, refl), ((refl, λ e. refl), (inr (0, refl, tt, refl, refl), refl), tt))))

-- not without its pages, nor with fewer states than events, or more
no_guest_unasked : (BothSteps none (with_seat waiting) (Plays plug (Plugged 0) ∷ []) (plugged ∷ []) → ⊥)
    × (BothSteps none at_first (Lends (Arrives 0 64 0) ∷ []) [] → ⊥) × (BothSteps none at_first [] (at_first ∷ []) → ⊥)
no_guest_unasked = (λ s. let e : 64 ≡ 0 = s.0.1 refl in omega (arith, e), λ s. s, λ s. s)

-- an event of one leaves the other, and is that one's
steps_not : (BothStep at_first (Plays CountFrames (Frames 0 100)) (with_seat waiting) → ⊥)
    × (BothStep at_first (Lends (Arrives 0 64 0)) plugged → ⊥) × (BothStep at_first (Lends (Arrives 0 63 0)) (with_seat (newcomer 64)) → ⊥)
    × (BothStep at_first (Plays CountFrames (Frames 1 99)) at_first → ⊥)
steps_not = (
  λ s. let e : 64 ≡ 0 = ap (λ (l : Lending). pages_at l.seats 0) s.1 in omega (arith, e),
  λ s. let e = ap (λ (w : World). w.guests) s.0 in absurd cc,
  λ s. let e : 64 ≡ 63 = ap (λ (l : Lending). pages_at l.seats 0) s.1 in omega (arith, e),
  λ s. absurd (let e = s.0.0 in cc),
)

-- ---- what isn't covered

-- more is lent than there are frames; a guest without a seat; and one to which nothing is lent
abbrev writer : Guest
writer = record (fresh config 0) {
  status = 15;
  features = 0x100000027;
  places = replicate 16 Reserved ++ (Used ∷ replicate 47 Free);
}

abbrev full : Both
full = record {
  world = record { frames = 0; guests = Some writer ∷ []; spares = []; vacated = None };
  lending = record { frames = 0; overdraft = 0; seats = seat 64 64 ∷ [] };
}

lacks : WorldStep full.world (OnGuest 0 (Write 16 0 (7 ∷ []))) (Refused NoFrame) full.world
lacks = (GaveNoFrame ∷ [], writer, ((λ x l. absurd (omega (arith, l))), refl), (refl, (refl, refl)), refl)

not_covered : (IsCovered none (both [] 300 (seat 201 0 ∷ [])) → ⊥)
    × (IsCovered none (both (Some some ∷ []) 0 []) → ⊥) × (IsCovered none full → ⊥)
not_covered = (
  λ c. let l : 201 ≤ 200 = c.within in absurd (omega arith),
  λ c. let x = c.seats 0 some refl in let e = x.1 in absurd cc,
  λ c. c.none_lacks 0 (Write 16 0 (7 ∷ [])) full.world (inl (refl, refl)) lacks,
)
