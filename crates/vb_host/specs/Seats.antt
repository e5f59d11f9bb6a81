-- What a lender knows of one guest (its seat), what is lent to it by that, and what each event
-- makes of it. Amounts are pages of 4096 bytes; `target_number`, `deflates`, `granted` and `turn`
-- count.
use Rattle.std.specs.Prelude.{ℕ, ◌+◌, ◌-◌, ◌*◌, Bool, not, ◌&&◌, ◌||◌, ◌==◌, nat_lt, nat_le}
use Rattle.std.specs.Prelude.{if◌then◌else◌, min, max}
use Rattle.vb_host.specs.declared.report.Report.{Report}
use Rattle.vb_host.specs.declared.report.WaitingLine.{WaitingLine}
use Rattle.vb_host.specs.declared.report.WaitingLine.TheVariants.{Deflates, Resets, Arrivals}
use Rattle.vb_host.specs.declared.seat.Seat.{Seat}

-- ---- what is lent

-- The pages that its balloon has given up for good: those below the least target that its driver
-- may still obey. All other pages are lent to it, also those that it gave for an earlier target and
-- may deflate for a later one, and those outside of its memory slots.
abbrev pub reclaimed : Seat → ℕ
reclaimed s = min s.ballooned s.least_target

abbrev pub lent : Seat → ℕ
lent s = s.pages + s.outside - reclaimed s

-- what keeps memory from joining a guest: pages that stay in its balloon, or are outside
abbrev pub apart : Seat → ℕ
apart s = reclaimed s + s.outside

-- ---- the line of those that wait

-- which line comes first
abbrev pub line_number : WaitingLine → ℕ
line_number Deflates = 0
line_number Resets = 1
line_number Arrivals = 2

-- the line of a number that anybody may have written
abbrev pub line_of : ℕ → WaitingLine
line_of number = if number == 0 then Deflates else if number == 1 then Resets else Arrivals

-- it lets others pass, as long as this wait lasts
abbrev pub is_deferred : Seat → Bool
is_deferred s = nat_lt 0 s.deferred

-- The line in which it waits: the last one while it lets others pass.
abbrev pub waiting_line : Seat → WaitingLine
waiting_line s = if is_deferred s then Arrivals else line_of s.line

abbrev pub line_rank : Seat → ℕ
line_rank s = line_number (waiting_line s)

-- it comes before all others of its line
abbrev pub is_preferred : Seat → Bool
is_preferred s = nat_lt 0 s.preferred

-- In a line those that are preferred come first, and then the others by their turns.
abbrev pub place_in_line : Seat → ℕ
place_in_line s = if is_preferred s then 0 else s.turn + 1

-- The rank of a guest among those that wait: its place in its line, after all places of the lines
-- before.
abbrev pub rank : Seat → ℕ
rank s = 18446744073709551617 * line_rank s + place_in_line s

-- it is preferred from now on, or it isn't
abbrev pub preferring : ℕ → Seat → Seat
preferring preferred s = record s { preferred = preferred }

-- ---- a deflate that its process holds back

-- a deflate waits
abbrev pub waits : Seat → Bool
waits s = nat_lt 0 s.held

-- It is granted: its pages count as if they had left the balloon.
abbrev pub granting : Seat → Seat
granting s =
    record s {
      ballooned = s.ballooned - s.held;
      granted = s.deflates;
      held = 0;
      turn = 0;
      deferred = 0;
    }

-- what a grant would lend beyond what is lent
abbrev pub asked : Seat → ℕ
asked s = if waits s then lent (granting s) - lent s else 0

-- All that it takes is lent already: it goes no deeper than the least target.
abbrev pub covers : Seat → Bool
covers s = waits s && (asked s == 0)

abbrev pub served : Seat → Seat
served s = if covers s then granting s else s

abbrev pub granted_waiting : Seat → Seat
granted_waiting s = if waits s then granting s else s

-- ---- a report

-- the pages of its memory of which none was taken away since the last report
abbrev pub left : Report → Seat → ℕ
left r s = s.pages - (r.removed - s.removed)

-- A page leaves its balloon by a grant or with the memory alone, and what is outside was taken away
-- from its memory, and wasn't in the balloon. A report of more is an older one, or its process
-- deviates: it says nothing of the memory.
abbrev pub is_news : ℕ → Report → Seat → Bool
is_news ballooned r s =
    nat_le (s.ballooned - ballooned) (r.removed - s.removed)
    && nat_le (left r s + r.outside + (s.ballooned - ballooned)) (s.pages + s.outside)

abbrev pub remembered : ℕ → Report → Seat → Seat
remembered ballooned r s =
    record s {
      pages = left r s;
      ballooned = ballooned;
      outside = r.outside;
      removed = r.removed;
    }

abbrev pub remembering : ℕ → Report → Seat → Seat
remembering ballooned r s = if is_news ballooned r s then remembered ballooned r s else s

abbrev pub holding : ℕ → Report → Seat → Seat
holding held r s = record s { held = held; line = r.line; deflates = r.deflates }

abbrev pub noting : ℕ → ℕ → Report → Seat → Seat
noting ballooned held r s = holding held r (remembering ballooned r s)

-- its balloon counts no longer
abbrev pub is_uncounted : Seat → Bool
is_uncounted s = nat_lt 0 s.uncounted

-- Of such a guest a report shows an empty balloon.
abbrev pub believed : Seat → Report → Report
believed s r = if is_uncounted s then record r { ballooned = 0 } else r

-- The pages in the balloon, and the deflate that is held; the pages of a granted one have left the
-- balloon.
abbrev pub counting : Report → Seat → Seat
counting r s =
    if r.deflates == s.granted then noting (r.ballooned - r.held) 0 r s
    else noting r.ballooned r.held r s

-- Its driver has read the last target, and can obey no earlier one any longer.
abbrev pub raised : Report → Seat → Seat
raised r s =
    if (r.target_number == s.target_number) && (r.read_target == s.target)
    then record s { least_target = max s.least_target s.target }
    else s

-- It waits from now on, with this turn. A turn is for one deflate in one line: while that waits,
-- the guest keeps its turn, and lets others pass if it did.
abbrev pub queued : ℕ → Seat → Seat
queued turn s = record s { turn = if waits s then turn else 0; deferred = 0 }

abbrev pub keeps_turn : Seat → Seat → Bool
keeps_turn old s =
    waits old && waits s && (old.deflates == s.deflates) && (old.line == s.line)

abbrev pub queuing : ℕ → Seat → Seat → Seat
queuing turn old s = if keeps_turn old s then s else queued turn s

-- A report that was made before the last grant, or before memory was taken away that is known of,
-- says nothing. Else the balloon is counted, then a covered deflate granted, then the least target
-- raised.
abbrev pub is_stale : Report → Seat → Bool
is_stale r s = nat_lt r.deflates s.granted || nat_lt r.removed s.removed

abbrev pub heard : ℕ → Report → Seat → Seat
heard turn r s =
    if is_stale r s then s else queuing turn s (raised r (served (counting (believed s r) s)))

-- ---- a guest that lets others pass

-- A guest that waits in a deflate gives no pages, so it lets nobody pass.
abbrev pub may_defer : Seat → Bool
may_defer s = waits s && nat_lt 0 (line_rank s)

-- It waits in the last line from now on, with this turn.
abbrev pub deferring : ℕ → Seat → Seat
deferring turn s = if may_defer s then record s { turn = turn; deferred = 1 } else s

-- ---- a target

-- A guest that waits, or wasn't let in yet, is lent by grants alone.
abbrev pub needs_grant : Seat → Bool
needs_grant s = waits s || (s.granted == 0)

-- The target that is possible where this much may be lent for it: any target that lends nothing is,
-- and else it falls toward the one that is wanted as far as there is room.
abbrev pub possible_target : ℕ → Seat → ℕ
possible_target room s = max s.wanted (reclaimed s - (if needs_grant s then 0 else room))

-- Each target has a number, so that a report tells which one its process has received.
abbrev pub targeted : ℕ → Seat → Seat
targeted target s =
    if s.target_number == 18446744073709551615 then s
    else record s {
      target = target;
      target_number = if s.target == target then s.target_number else s.target_number + 1;
      least_target = min s.least_target target;
    }

abbrev pub retargeted : ℕ → Seat → Seat
retargeted room s = targeted (possible_target room s) s

-- what is left of the room then
abbrev pub room_after : ℕ → Seat → ℕ
room_after room s = room - (lent (retargeted room s) - lent s)

-- it waits, or has in its balloon what its target says, or can give nothing that counts
abbrev pub is_done : Seat → Bool
is_done s = waits s || is_uncounted s || nat_le s.target s.ballooned

-- ---- orders: what a seat says, until a report shows that it was obeyed

-- its target is due: its process hasn't received the last one
abbrev pub due_target : Report → Seat → Bool
due_target r s = not (r.target_number == s.target_number)

-- a grant is due: its process holds a deflate that was granted
abbrev pub due_grant : Report → Seat → Bool
due_grant r s = nat_lt 0 r.held && (r.deflates == s.granted)

-- ---- a guest that arrives, and a later lender

-- All pages of a guest that arrives are in its balloon, as if it had given them for a target of as
-- many, and its process holds back a deflate of all of them: its first. None is wanted there.
abbrev pub newcomer : ℕ → Seat
newcomer pages =
    record {
      pages = pages;
      ballooned = pages;
      least_target = pages;
      target = pages;
      wanted = 0;
      held = 0;
      line = 0;
      outside = 0;
      target_number = 0;
      deflates = 0;
      granted = 0;
      removed = 0;
      turn = 0;
      uncounted = 0;
      preferred = 0;
      deferred = 0;
    }

-- a guest that arrives with this many pages in its balloon, which stay there
abbrev pub starting : ℕ → ℕ → Seat
starting pages ballooned = record (newcomer pages) { wanted = ballooned }

-- What a later lender knows of a guest by its first report: each deflate before the one that is
-- held was granted, and its driver obeys the target that it has read or the one that its process
-- has received.
abbrev pub taking_over : ℕ → ℕ → Report → Seat
taking_over granted pages r =
    record {
      pages = pages;
      ballooned = r.ballooned;
      least_target = min r.target r.read_target;
      target = r.target;
      wanted = r.target;
      held = r.held;
      line = r.line;
      outside = r.outside;
      target_number = r.target_number;
      deflates = r.deflates;
      granted = granted;
      removed = r.removed;
      turn = 0;
      uncounted = 0;
      preferred = 0;
      deferred = 0;
    }

abbrev pub taken_over : ℕ → Report → Seat
taken_over pages r =
    taking_over (if nat_lt 0 r.held then r.deflates - 1 else r.deflates) pages r

-- this many pages join it, all of which are lent
abbrev pub grown : ℕ → Seat → Seat
grown pages s = record s { pages = s.pages + pages }

-- ---- a guest that takes pages without a grant

-- Its balloon counts no longer, until another guest is at its place: all its pages are lent to it.
abbrev pub uncounting : Seat → Seat
uncounting s = record s { ballooned = 0; least_target = 0; uncounted = 1 }
