-- What a guest's process says, as the lender's step takes it: what it asks for, with how many pages
-- its guest comes, and which target its driver may still obey.
use Rattle.std.specs.Prelude.{ℕ, ◌+◌, ◌-◌, Bool, not, ◌&&◌, ◌||◌, ◌==◌, nat_lt}
use Rattle.std.specs.Prelude.{nat_le, if◌then◌else◌, min, max}
use Rattle.vb_host.specs.declared.message.Ask.{Ask}
use Rattle.vb_host.specs.declared.message.Ask.TheVariants.{Nothing, Room, Reset, Deflate}
use Rattle.vb_host.specs.declared.message.Hold.{Hold}
use Rattle.vb_host.specs.declared.message.Hold.TheVariants.{Free, Strict, MayStartSmall}
use Rattle.vb_host.specs.declared.message.Hold.TheVariants.{HasStartedSmall}
use Rattle.vb_host.specs.declared.message.Message.{Message}
use Rattle.vb_host.specs.declared.message.Exchange.{Exchange}
use Rattle.vb_host.specs.declared.reading.Reading.{Reading}
use Rattle.vb_host.specs.declared.reading.TheConstants.{LINGERS}
use Rattle.vb_host.specs.declared.report.Report.{Report}
use Rattle.vb_host.specs.declared.report.WaitingLine.{WaitingLine}
use Rattle.vb_host.specs.declared.report.WaitingLine.TheVariants.{Deflates, Resets, Arrivals}
use Rattle.vb_host.specs.declared.seat.Seat.{Seat}
use Rattle.vb_host.specs.Outside.{believed_outside, taken_unasked, with_outside}
use Rattle.vb_host.specs.Seats.{is_uncounted, line_number}
use Rattle.vb_virtio.specs.Tests.{one_if}

-- ---- what the numbers of a message say

abbrev pub ask_number : Ask → ℕ
ask_number Nothing = 0
ask_number Room = 1
ask_number Reset = 2
ask_number Deflate = 3

abbrev pub hold_number : Hold → ℕ
hold_number Free = 0
hold_number Strict = 1
hold_number MayStartSmall = 2
hold_number HasStartedSmall = 3

abbrev pub waits_for_room : Message → Bool
waits_for_room m = m.waits == ask_number Room

abbrev pub waits_for_reset : Message → Bool
waits_for_reset m = m.waits == ask_number Reset

-- Its deflates and resets wait for their grant.
abbrev pub is_strict : Message → Bool
is_strict m = nat_lt (hold_number Free) m.holds

abbrev pub has_started_small : Message → Bool
has_started_small m = m.holds == hold_number HasStartedSmall

-- a guest that wasn't let in yet has no pages
abbrev pub is_let_in : Seat → Bool
is_let_in s = nat_lt 0 s.granted

-- ---- with how many pages a guest starts, and comes

-- Where its process can, and its kernel limits it, a guest starts without the pages above those
-- that its terms have it start with, or ever have.
abbrev pub is_small : Message → Bool
is_small m = nat_lt 0 m.limited && nat_le (hold_number MayStartSmall) m.holds

abbrev pub starts_without : Message → ℕ → ℕ
starts_without m pages = if is_small m then pages - min m.start m.most else 0

-- It waits with the memory that its guest comes with: none of that has room yet.
abbrev pub comes : Message → Bool
comes m = waits_for_room m && (m.pages == 0)

-- A strict guest that comes from another host has what it gave there in its balloon. Of one that
-- has all its memory there a page is asked for, so that it is let in by a grant.
abbrev pub given : Message → ℕ → ℕ
given m pages = if comes m && is_strict m then min m.ballooned (pages - 1) else 0

abbrev pub comes_without : Message → ℕ → ℕ
comes_without m pages =
    if nat_lt 0 (given m pages) then given m pages else starts_without m pages

-- It was let in so, or has started so, and its driver hasn't put these pages into the balloon yet.
abbrev pub starts_small : Message → Seat → Bool
starts_small m s =
    (comes m && is_let_in s && nat_lt 0 s.ballooned) || has_started_small m

-- ---- what it asks for

-- A reset takes all that is in the balloon, but for what its guest starts without.
abbrev pub reset_pages : Message → Seat → ℕ
reset_pages m s = m.ballooned - starts_without m s.pages

-- The deflate that it holds back is what it asked for last, and was granted.
abbrev pub has_granted : Exchange → Message → Seat → Bool
has_granted x m s =
    nat_lt 0 m.held && (x.ask == ask_number Deflate) && (x.asked == m.deflate)
    && (x.asks == s.granted)

-- Such a deflate stays what it asks for, as long as that is held; else its reset comes first, if
-- that takes any page, then room for a guest that wasn't let in, and then its deflate.
abbrev pub needs_reset : Message → Seat → Bool
needs_reset m s = waits_for_reset m && nat_lt 0 (reset_pages m s)

abbrev pub needs_room : Message → Seat → Bool
needs_room m s = waits_for_room m && not (is_let_in s)

abbrev pub ask_of : Exchange → Message → Seat → Ask
ask_of x m s =
    if has_granted x m s then Deflate
    else if needs_reset m s then Reset
    else if needs_room m s then Room
    else if nat_lt 0 m.held then Deflate
    else Nothing

-- its process's own number of that ask
abbrev pub own_number : Ask → Message → ℕ
own_number Nothing m = 0
own_number Room m = m.wait
own_number Reset m = m.wait
own_number Deflate m = m.deflate

-- the pages that it asks for: a deflate of these
abbrev pub asked_pages : Ask → Message → Seat → ℕ
asked_pages Nothing m s = 0
asked_pages Room m s = s.pages - comes_without m s.pages
asked_pages Reset m s = reset_pages m s
asked_pages Deflate m s = m.held

abbrev pub asked_line : Ask → WaitingLine
asked_line Nothing = Deflates
asked_line Room = Arrivals
asked_line Reset = Resets
asked_line Deflate = Deflates

-- It asks for something else than before: by its own number, or for another thing.
abbrev pub is_new_ask : Exchange → Message → Seat → Bool
is_new_ask x m s =
    not (ask_number (ask_of x m s) == ask_number Nothing)
    && not ((x.ask == ask_number (ask_of x m s)) && (x.asked == own_number (ask_of x m s) m))

-- ---- which target its driver may obey

-- The last target was sent, the process has reported after it, and says that it has that one.
abbrev pub is_received : Exchange → Message → Seat → Bool
is_received x m s =
    (x.sent == s.target_number) && nat_le x.sent_by x.obeyed && (m.target == s.target)

-- A driver whose reads aren't seen may obey an earlier target for a while.
abbrev pub lingers : ℕ → Exchange → Bool
lingers now x = (x.received == 0) || nat_lt (now - x.received) LINGERS

-- any number but this one
abbrev pub another : ℕ → ℕ
another n = if nat_lt 0 n then n - 1 else 1

abbrev pub read_target : ℕ → Exchange → Message → Seat → ℕ
read_target now x m s =
    if nat_lt 0 m.read then m.read - 1
    else if lingers now x then another s.target
    else s.target

-- A target that isn't received has another number than the last one.
abbrev pub received_number : Exchange → Message → Seat → ℕ
received_number x m s =
    if is_received x m s then s.target_number else another s.target_number

-- ---- pages outside of slots

-- Pages that were outside are in slots once more: it has more in slots, and fewer outside.
abbrev pub returned : Message → Seat → ℕ
returned m s = min (m.pages - s.pages) (s.outside - m.outside)

-- Of a guest whose balloon doesn't count as many stay outside as its files hold beyond its slots.
abbrev pub kept_outside : Message → Seat → ℕ
kept_outside m s =
    if is_uncounted s
    then min (s.outside - returned m s) (m.files - (s.pages + returned m s))
    else 0

abbrev pub said_outside : Message → Seat → ℕ
said_outside m s = max m.outside (kept_outside m s)

-- ---- the report that the step takes

-- A guest that comes says nothing of the balloon that it has here.
abbrev pub shown_ballooned : Message → Seat → ℕ
shown_ballooned m s = if comes m then s.ballooned else m.ballooned

-- Pages of its memory were taken away, unless it waits for room.
abbrev pub taken_away : Message → Seat → ℕ
taken_away m s = if waits_for_room m then 0 else s.pages - m.pages

abbrev pub removed_by : Message → Seat → ℕ
removed_by m s = min (s.removed + taken_away m s) 18446744073709551615

-- What it asks for is a deflate with the number of that ask.
abbrev pub plain_report : ℕ → Exchange → Message → Seat → Report
plain_report now x m s =
    record {
      ballooned = shown_ballooned m s;
      target = m.target;
      read_target = read_target now x m s;
      held = asked_pages (ask_of x m s) m s;
      line = line_number (asked_line (ask_of x m s));
      outside = said_outside m s;
      target_number = received_number x m s;
      deflates = x.asks;
      removed = removed_by m s;
    }

-- No more is outside than may be.
abbrev pub report_of : ℕ → Exchange → Message → Seat → Report
report_of now x m s =
    with_outside (believed_outside (plain_report now x m s) s) (plain_report now x m s)

-- ---- what else a message says

-- what a strict guest has taken unasked
abbrev pub taken : ℕ → Exchange → Message → Seat → ℕ
taken now x m s = if is_strict m then taken_unasked (plain_report now x m s) s else 0

-- Pages that return are lent already, and join its memory; not where the guest took some unasked:
-- of such a message the step takes nothing of memory.
abbrev pub joins : ℕ → Exchange → Message → Seat → ℕ
joins now x m s = if nat_lt 0 (taken now x m s) then 0 else returned m s

-- the pages of its memory that have room
abbrev pub roomy : Seat → ℕ
roomy s = if is_let_in s then s.pages else 0

-- how many more these pages are than those that have room, and some more
abbrev pub beyond : Seat → ℕ → ℕ → ℕ
beyond s more pages = pages - (roomy s + more)

-- what it waits for beyond such pages
abbrev pub wants_beyond : Message → Seat → ℕ → ℕ
wants_beyond m s more = if waits_for_room m then beyond s more m.wanted else 0

abbrev pub resets_at_once : Message → Seat → Bool
resets_at_once m s = waits_for_reset m && (reset_pages m s == 0)

abbrev pub reading : ℕ → Exchange → Message → Seat → Reading
reading now x m s =
    record {
      report = report_of now x m s;
      taken = taken now x m s;
      joins = joins now x m s;
      ungranted = beyond s (returned m s) m.pages;
      brings = wants_beyond m s (returned m s);
      wants = wants_beyond m s (joins now x m s);
      without = comes_without m m.wanted;
      small = one_if (starts_small m s);
      resets = one_if (resets_at_once m s);
    }

-- ---- a guest that isn't strict

-- the number of a target that it has from now on
abbrev pub following_number : Seat → ℕ → ℕ
following_number s target =
    if s.target == target then s.target_number
    else min (s.target_number + 1) 18446744073709551615

-- Nothing of it waits for a grant: it is taken over with these pages of its memory, as if its
-- driver had read this target, and with no more outside than was, and was taken away.
abbrev pub followed : Message → Seat → ℕ → ℕ → Report
followed m s pages target =
    record {
      ballooned = if is_uncounted s then 0 else m.ballooned;
      target = target;
      read_target = target;
      held = 0;
      line = line_number Deflates;
      outside = min (said_outside m s) (s.outside + (s.pages - pages));
      target_number = following_number s target;
      deflates = 1;
      removed = 0;
    }

-- ---- what is noted of it

-- An ask that is another than before has the next number.
abbrev pub asking : Exchange → Message → Seat → Exchange
asking x m s =
    if is_new_ask x m s
    then record x {
      ask = ask_number (ask_of x m s);
      asked = own_number (ask_of x m s) m;
      asks = min (x.asks + 1) 18446744073709551615;
    }
    else x

abbrev pub received_since : ℕ → Exchange → Message → Seat → ℕ
received_since now x m s =
    if is_received x m s then (if x.received == 0 then now else x.received) else 0

abbrev pub noted : ℕ → Exchange → Message → Seat → Exchange
noted now x m s = record (asking x m s) { received = received_since now x m s }
