-- Rounds of hints, worked out: ids, calls, and histories with late, repeated and stale ids.
use Rattle.std.proofs.Common.{◌≡◌, refl, sym, ◌∙◌, arith, ℕ, Bool, true, false, List, [], ◌∷◌, map, replicate}
use Rattle.vb_core.specs.declared.hints.{Round.Round, TheConstants.{STOP, DONE, FIRST_ID}}
use Rattle.vb_core.specs.Hints.{is_id, next_id, no_round, is_open, begun, showing, heard, RoundEvent}
use Rattle.vb_core.specs.Hints.{Begins, Stops, Ends, Resets, Reads, round_after, round_after_all}
use Rattle.vb_core.specs.Hints.{are_next, is_reading, is_reading_of, IsHeard}
use Rattle.vb_core.proofs.HintLemmas.{heard_is_open}

-- ---- ids (VIRTIO 1.2, 5.5.6.6)

words : STOP ∷ DONE ∷ FIRST_ID ∷ [] ≡ 0 ∷ 1 ∷ 2 ∷ []
words = refl

ids : map is_id (0 ∷ 1 ∷ 2 ∷ 0xffffffff ∷ []) ≡ false ∷ false ∷ true ∷ true ∷ []
ids = refl

-- the first, the next, and the one after the last of 32 bits
next_ids : map next_id (0 ∷ 1 ∷ 2 ∷ 0xfffffffe ∷ 0xffffffff ∷ []) ≡ 2 ∷ 2 ∷ 3 ∷ 0xffffffff ∷ 2 ∷ []
next_ids = refl

-- ---- what each event leaves

abbrev round : ℕ → ℕ → ℕ → Round
round shown last opened = record { shown = shown; last = last; opened = opened }

none_began : no_round ≡ round 0 0 0
none_began = refl

open_ones : map is_open (round 2 2 1 ∷ round 9 9 7 ∷ []) ≡ true ∷ true ∷ []
open_ones = refl

-- STOP and DONE are never open, whatever else is said
closed_ones : map is_open (round 2 2 0 ∷ round 0 2 1 ∷ round 1 2 1 ∷ []) ≡ false ∷ false ∷ false ∷ []
closed_ones = refl

after : map (λ e. round_after e (round 4 4 1)) (Begins 5 ∷ Stops ∷ Ends ∷ Resets ∷ Reads 4 ∷ Reads 3 ∷ Reads 0 ∷ [])
    ≡ round 5 5 0 ∷ round 0 4 0 ∷ round 1 4 0 ∷ round 0 4 0 ∷ round 4 4 1 ∷ round 4 4 0 ∷ round 4 4 0 ∷ []
after = refl

-- the id of the round before stays, whatever is shown
before_it : map (λ e. round_after e (round 4 9 0)) (Stops ∷ Ends ∷ Resets ∷ Reads 4 ∷ Reads 9 ∷ [])
    ≡ round 0 9 0 ∷ round 1 9 0 ∷ round 0 9 0 ∷ round 4 9 1 ∷ round 4 9 0 ∷ []
before_it = refl

-- what is shown opens nothing if it is no id
not_by_words : heard 0 (round 0 4 0) ∷ heard 1 (round 1 4 0) ∷ heard 4 (round 0 4 0) ∷ heard 4 (round 1 4 0) ∷ []
    ≡ round 0 4 0 ∷ round 1 4 0 ∷ round 0 4 0 ∷ round 1 4 0 ∷ []
not_by_words = refl

-- ---- histories of a device that is new

abbrev opened : List RoundEvent → Bool
opened events = is_open (round_after_all events no_round)

-- its id, alone; after late ones, and the driver's STOP; again; after a stop, a reset, an end; and of the
-- round after it
open_after : map opened (
    (Begins 2 ∷ Reads 2 ∷ [])
    ∷ (Begins 2 ∷ Begins 3 ∷ Reads 2 ∷ Reads 0 ∷ Reads 3 ∷ [])
    ∷ (Begins 2 ∷ Reads 2 ∷ Reads 2 ∷ [])
    ∷ (Begins 2 ∷ Reads 2 ∷ Reads 0 ∷ Reads 2 ∷ [])
    ∷ (Begins 2 ∷ Reads 2 ∷ Stops ∷ Begins 3 ∷ Reads 3 ∷ [])
    ∷ (Begins 2 ∷ Reads 2 ∷ Ends ∷ Begins 3 ∷ Reads 3 ∷ [])
    ∷ (Begins 2 ∷ Reads 2 ∷ Resets ∷ Begins 3 ∷ Reads 3 ∷ []) ∷ [])
    ≡ true ∷ true ∷ true ∷ true ∷ true ∷ true ∷ true ∷ []
open_after = refl

-- nothing; no id yet; the id before the round, a late one, one of no round; STOP and DONE, read or shown; the
-- driver's stop; the host's stop, end and reset, and then a stale id; another round; another id
closed_after : map opened (
    [] ∷ (Begins 2 ∷ []) ∷ (Reads 2 ∷ Begins 2 ∷ []) ∷ (Begins 2 ∷ Begins 3 ∷ Reads 2 ∷ [])
    ∷ (Reads 2 ∷ []) ∷ (Reads 0 ∷ []) ∷ (Ends ∷ Reads 1 ∷ []) ∷ (Stops ∷ Reads 0 ∷ [])
    ∷ (Begins 2 ∷ Reads 2 ∷ Reads 0 ∷ []) ∷ (Begins 2 ∷ Reads 2 ∷ Stops ∷ Reads 2 ∷ [])
    ∷ (Begins 2 ∷ Reads 2 ∷ Ends ∷ Reads 2 ∷ []) ∷ (Begins 2 ∷ Reads 2 ∷ Resets ∷ Reads 2 ∷ [])
    ∷ (Begins 2 ∷ Reads 2 ∷ Begins 3 ∷ []) ∷ (Begins 2 ∷ Reads 2 ∷ Begins 3 ∷ Reads 2 ∷ [])
    ∷ (Begins 2 ∷ Reads 2 ∷ Reads 9 ∷ []) ∷ []) ≡ replicate 15 false
closed_after = refl

-- ids that are a device's own, and others: one again, and one left out; they go on after a reset, and round
own_ids : map (λ events. are_next events 0) (
    (Begins 2 ∷ Reads 9 ∷ Stops ∷ Begins 3 ∷ []) ∷ (Begins 2 ∷ Resets ∷ Begins 3 ∷ []) ∷ []) ≡ true ∷ true ∷ []
own_ids = refl

other_ids : map (λ events. are_next events 0) (
    (Begins 2 ∷ Begins 2 ∷ []) ∷ (Begins 2 ∷ Begins 4 ∷ []) ∷ (Begins 2 ∷ Resets ∷ Begins 2 ∷ [])
    ∷ (Begins 0 ∷ []) ∷ (Begins 1 ∷ []) ∷ []) ≡ false ∷ false ∷ false ∷ false ∷ false ∷ []
other_ids = refl

round_again : are_next (Begins 0xffffffff ∷ Begins 2 ∷ []) 0xfffffffe ≡ true
round_again = refl

-- ---- events

readings : map is_reading (Reads 2 ∷ Reads 0 ∷ Begins 2 ∷ Stops ∷ Ends ∷ Resets ∷ [])
    ≡ true ∷ true ∷ false ∷ false ∷ false ∷ false ∷ []
readings = refl

readings_of_two : map (is_reading_of 2) (Reads 2 ∷ Reads 0 ∷ Reads 3 ∷ Begins 2 ∷ Stops ∷ Ends ∷ Resets ∷ [])
    ≡ true ∷ false ∷ false ∷ false ∷ false ∷ false ∷ false ∷ []
readings_of_two = refl

-- ---- heard: late ids before it, and its own again

was_heard : IsHeard 3 (Begins 2 ∷ Reads 2 ∷ Begins 3 ∷ Reads 2 ∷ Reads 3 ∷ Reads 3 ∷ [])
was_heard = record {
  before = Begins 2 ∷ Reads 2 ∷ [];
  unheard = Reads 2 ∷ [];
  since = Reads 3 ∷ [];
  whole = refl;
  only_ids = refl;
  only_its_own = refl;
}

-- of the round after 2^32 - 2 of them, and of one after a reset
after_the_last : IsHeard 2 (Begins 0xffffffff ∷ Reads 0xffffffff ∷ Begins 2 ∷ Reads 0xffffffff ∷ Reads 2 ∷ [])
after_the_last = record {
  before = Begins 0xffffffff ∷ Reads 0xffffffff ∷ [];
  unheard = Reads 0xffffffff ∷ [];
  since = [];
  whole = refl;
  only_ids = refl;
  only_its_own = refl;
}

after_a_reset : IsHeard 3 (Begins 2 ∷ Reads 2 ∷ Resets ∷ Begins 3 ∷ Reads 3 ∷ [])
after_a_reset = record {
  before = Begins 2 ∷ Reads 2 ∷ Resets ∷ [];
  unheard = [];
  since = [];
  whole = refl;
  only_ids = refl;
  only_its_own = refl;
}

-- ---- not heard: else the round would be open, of ids that are a device's own

abbrev first : Round
first = round 0 1 0

closed : (id : ℕ) (events : List RoundEvent) → are_next events 1 ≡ true
    → is_open (round_after_all events first) ≡ false → IsHeard id events → ⊥
closed id events next none h =
    let wrong : true ≡ false = sym (heard_is_open id events first next h).0 ∙ none in cc

-- nothing; before its id; a late one; the driver's stop
no_event : IsHeard 2 [] → ⊥
no_event h = closed 2 [] refl refl h

unread : IsHeard 2 (Begins 2 ∷ []) → ⊥
unread h = closed 2 (Begins 2 ∷ []) refl refl h

read_before : IsHeard 2 (Reads 2 ∷ Begins 2 ∷ []) → ⊥
read_before h = closed 2 (Reads 2 ∷ Begins 2 ∷ []) refl refl h

late : (id : ℕ) → IsHeard id (Begins 2 ∷ Begins 3 ∷ Reads 2 ∷ []) → ⊥
late id h = closed id (Begins 2 ∷ Begins 3 ∷ Reads 2 ∷ []) refl refl h

by_stop : IsHeard 2 (Begins 2 ∷ Reads 2 ∷ Reads 0 ∷ []) → ⊥
by_stop h = closed 2 (Begins 2 ∷ Reads 2 ∷ Reads 0 ∷ []) refl refl h

-- the host's stop, its end and a reset, before the id is read, after it, and between twice of it
abbrev events_with : RoundEvent → List (List RoundEvent)
events_with e = (Begins 2 ∷ e ∷ Reads 2 ∷ []) ∷ (Begins 2 ∷ Reads 2 ∷ e ∷ [])
    ∷ (Begins 2 ∷ Reads 2 ∷ e ∷ Reads 2 ∷ []) ∷ []

all_closed : map (λ e. map (λ events. is_open (round_after_all events first)) (events_with e))
    (Stops ∷ Ends ∷ Resets ∷ []) ≡ replicate 3 (replicate 3 false)
all_closed = refl

stale_after_an_end : (id : ℕ) → IsHeard id (Begins 2 ∷ Reads 2 ∷ Ends ∷ Reads 2 ∷ []) → ⊥
stale_after_an_end id h = closed id (Begins 2 ∷ Reads 2 ∷ Ends ∷ Reads 2 ∷ []) refl refl h

stale_after_a_stop : (id : ℕ) → IsHeard id (Begins 2 ∷ Stops ∷ Reads 2 ∷ []) → ⊥
stale_after_a_stop id h = closed id (Begins 2 ∷ Stops ∷ Reads 2 ∷ []) refl refl h

stale_after_a_reset : (id : ℕ) → IsHeard id (Begins 2 ∷ Reads 2 ∷ Resets ∷ Reads 2 ∷ []) → ⊥
stale_after_a_reset id h = closed id (Begins 2 ∷ Reads 2 ∷ Resets ∷ Reads 2 ∷ []) refl refl h

-- nor a round before the one that is open
abbrev second_open : List RoundEvent
second_open = Begins 2 ∷ Reads 2 ∷ Begins 3 ∷ Reads 3 ∷ []

of_the_round_before : IsHeard 2 second_open → ⊥
of_the_round_before h = omega (arith, (heard_is_open 2 second_open first refl h).1)
