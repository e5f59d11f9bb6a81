-- Rounds of free page hints (VIRTIO 1.2, 5.5.6.6), and when one is open.
use Rattle.std.specs.Prelude.{◌≡◌, ℕ, ◌+◌, ◌^◌, Bool, true, false, not, ◌&&◌, ◌==◌, nat_le, nat_lt}
use Rattle.std.specs.Prelude.{List, [], ◌∷◌, ◌++◌, if◌then◌else◌}
use Rattle.std.specs.List.{list_all}
use Rattle.vb_core.specs.declared.hints.Round.{Round}
use Rattle.vb_core.specs.declared.hints.TheConstants.{STOP, DONE, FIRST_ID}

-- ---- a round

-- It is the id of a round, and neither STOP nor DONE.
abbrev pub is_id : ℕ → Bool
is_id id = nat_le FIRST_ID id

-- The id of the round after one of this id: ids go round, and leave STOP and DONE out.
abbrev pub next_id : ℕ → ℕ
next_id last = if is_id (last + 1) && nat_lt (last + 1) (2 ^ 32) then last + 1 else FIRST_ID

-- No round has begun.
abbrev pub no_round : Round
no_round = record { shown = STOP; last = 0; opened = 0 }

-- The driver was told of the round, and its id was read since.
abbrev pub is_open : Round → Bool
is_open r = not (r.opened == 0) && is_id r.shown

-- A round of this id begins.
abbrev pub begun : ℕ → Round → Round
begun id r = record { shown = id; last = id; opened = 0 }

-- The host shows STOP or DONE.
abbrev pub showing : ℕ → Round → Round
showing word r = record { shown = word; last = r.last; opened = 0 }

-- This id was read: the round is open just where it is its own.
abbrev pub heard : ℕ → Round → Round
heard id r = record r { opened = if is_id r.shown && (id == r.shown) then 1 else 0 }

-- ---- histories

-- What comes to a round: of the host, of a reset, and of a chain with an id.
pub data RoundEvent : Type 0 where
  Begins : ℕ → RoundEvent
  Stops Ends Resets : RoundEvent
  Reads : ℕ → RoundEvent

-- The round once that came to it.
abbrev pub round_after : RoundEvent → Round → Round
round_after (Begins id) r = begun id r
round_after Stops r = showing STOP r
round_after Ends r = showing DONE r
round_after Resets r = showing STOP r
round_after (Reads id) r = heard id r

-- The round once all of it came to it, in order.
abbrev pub round_after_all : List RoundEvent → Round → Round
round_after_all [] r = r
round_after_all (e ∷ es) r = round_after_all es (round_after e r)

-- Each round that begins has the id after the one of the round before it.
abbrev pub are_next : List RoundEvent → ℕ → Bool
are_next [] last = true
are_next (Begins id ∷ es) last = (id == next_id last) && are_next es id
are_next (e ∷ es) last = are_next es last

-- It is a chain with an id.
abbrev pub is_reading : RoundEvent → Bool
is_reading (Reads id) = true
is_reading e = false

-- It is a chain with this id.
abbrev pub is_reading_of : ℕ → RoundEvent → Bool
is_reading_of id (Reads other) = other == id
is_reading_of id e = false

-- A round of this id began; with nothing but ids read since, its own was read; and since then no
-- other one was read, and nothing else came.
pub record IsHeard (id : ℕ) (events : List RoundEvent) : Type 0 where
  pub before : List RoundEvent
  pub unheard : List RoundEvent
  pub since : List RoundEvent
  pub whole : events ≡ before ++ (Begins id ∷ (unheard ++ (Reads id ∷ since)))
  pub only_ids : list_all is_reading unheard ≡ true
  pub only_its_own : list_all (is_reading_of id) since ≡ true
