-- Worked facts of what a process says: what it asks for, with how many pages its guest comes, which target its driver may obey, and the report that the step takes.
use Rattle.std.proofs.Common.{◌≡◌, ℕ, true, false, [], ◌∷◌, map, refl}
use Rattle.vb_host.specs.declared.message.Ask.TheVariants.{Nothing, Room, Reset, Deflate}
use Rattle.vb_host.specs.declared.message.Hold.TheVariants.{Free, Strict, MayStartSmall, HasStartedSmall}
use Rattle.vb_host.specs.declared.message.Message.{Message}
use Rattle.vb_host.specs.declared.message.Exchange.{Exchange}
use Rattle.vb_host.specs.declared.report.Report.{Report}
use Rattle.vb_host.specs.declared.report.WaitingLine.TheVariants.{Deflates, Resets, Arrivals}
use Rattle.vb_host.specs.declared.seat.Seat.{Seat}
use Rattle.vb_host.specs.Messages.{another, ask_number, ask_of, asked_line, asked_pages, asking, beyond, comes, comes_without, followed, following_number}
use Rattle.vb_host.specs.Messages.{given, has_granted, has_started_small, hold_number, is_new_ask, is_let_in, is_received, is_small, is_strict, joins, kept_outside, lingers, needs_reset, needs_room, noted}
use Rattle.vb_host.specs.Messages.{own_number, plain_report, read_target, reading, received_number, received_since, removed_by, report_of, reset_pages, resets_at_once, returned, roomy, said_outside, shown_ballooned, starts_small, starts_without, taken, taken_away, waits_for_reset, waits_for_room, wants_beyond}
use Rattle.vb_host.specs.Seats.{newcomer, uncounting}

-- a guest of 60 pages, 30 of them in its balloon, and 7 outside; its last deflate, the sixth ask, was granted
abbrev seat : Seat
seat = record (newcomer 60) { ballooned = 30; least_target = 25; target = 30; outside = 7; target_number = 4; deflates = 6; granted = 6 }

-- one that wasn't let in yet
abbrev new : Seat
new = record seat { granted = 0 }

-- It says what it is; its own number of that deflate is 8. No term of its start matters.
abbrev says : Message
says = record {
  pages = 60;
  wanted = 0;
  ballooned = 30;
  target = 30;
  read = 31;
  held = 0;
  deflate = 8;
  waits = 0;
  wait = 5;
  holds = 1;
  outside = 7;
  files = 37;
  start = 4294967295;
  most = 4294967295;
  limited = 0;
}

abbrev holding : ℕ → Message
holding deflate = record says { held = 10; deflate = deflate }

abbrev waiting : ℕ → Message
waiting waits = record says { waits = waits }

-- it comes with 80 pages, this many of which it gave elsewhere
abbrev coming : ℕ → Message
coming ballooned = record says { waits = 1; pages = 0; wanted = 80; ballooned = ballooned; target = 0; outside = 0; files = 0 }

-- it may start with this many
abbrev starting : ℕ → Message
starting start = record says { limited = 1; holds = 2; start = start }

-- Its last target, the fourth, was sent before the twelfth order to report, and received at 1000 ms.
abbrev exchange : Exchange
exchange = record { ask = 3; asked = 8; asks = 6; sent = 4; sent_by = 12; obeyed = 12; received = 1000 }

-- ---- what the numbers say

numbers : (map ask_number (Nothing ∷ Room ∷ Reset ∷ Deflate ∷ []) ≡ 0 ∷ 1 ∷ 2 ∷ 3 ∷ []) × (map hold_number (Free ∷ Strict ∷ MayStartSmall ∷ HasStartedSmall ∷ []) ≡ 0 ∷ 1 ∷ 2 ∷ 3 ∷ [])
numbers = (refl, refl)

waits : (map (λ n. waits_for_room (waiting n)) (0 ∷ 1 ∷ 2 ∷ 3 ∷ []) ≡ false ∷ true ∷ false ∷ false ∷ []) × (map (λ n. waits_for_reset (waiting n)) (0 ∷ 1 ∷ 2 ∷ 3 ∷ []) ≡ false ∷ false ∷ true ∷ false ∷ [])
waits = (refl, refl)

holds : (map (λ n. is_strict (record says { holds = n })) (0 ∷ 1 ∷ 2 ∷ 3 ∷ 4 ∷ []) ≡ false ∷ true ∷ true ∷ true ∷ true ∷ [])
    × (map (λ n. is_small (record says { holds = n; limited = 1 })) (0 ∷ 1 ∷ 2 ∷ 3 ∷ 4 ∷ []) ≡ false ∷ false ∷ true ∷ true ∷ true ∷ [])
    × (map (λ n. has_started_small (record says { holds = n })) (0 ∷ 1 ∷ 2 ∷ 3 ∷ 4 ∷ []) ≡ false ∷ false ∷ false ∷ true ∷ false ∷ [])
    × (is_small (record says { holds = 2 }) ≡ false)
holds = (refl, refl, refl, refl)

-- ---- with how many pages it starts, and comes

starts : map (λ m. starts_without m 60) (starting 20 ∷ starting 60 ∷ starting 80 ∷ record (starting 20) { most = 10 } ∷ record (starting 20) { limited = 0 } ∷ record (starting 20) { holds = 1 } ∷ []) ≡ 40 ∷ 0 ∷ 0 ∷ 50 ∷ 0 ∷ 0 ∷ []
starts = refl

comes_first : map comes (coming 0 ∷ record (coming 0) { pages = 1 } ∷ record (coming 0) { waits = 2 } ∷ []) ≡ true ∷ false ∷ false ∷ []
comes_first = refl

-- one that has all its memory in its balloon asks for a page of it
gave : (map (λ b. given (coming b) 80) (0 ∷ 30 ∷ 79 ∷ 80 ∷ 99 ∷ []) ≡ 0 ∷ 30 ∷ 79 ∷ 79 ∷ 79 ∷ []) × (map (given (coming 30)) (0 ∷ 1 ∷ 2 ∷ []) ≡ 0 ∷ 0 ∷ 1 ∷ [])
    × (map (λ m. given m 80) (record (coming 30) { waits = 0 } ∷ record (coming 30) { holds = 0 } ∷ []) ≡ 0 ∷ 0 ∷ [])
gave = (refl, refl, refl)

-- what it gave elsewhere counts before what it may start without
comes_with : map (λ m. comes_without m 80) (coming 30 ∷ record (coming 30) { limited = 1; holds = 2; start = 20 } ∷ record (coming 0) { limited = 1; holds = 2; start = 20 } ∷ starting 20 ∷ says ∷ []) ≡ 30 ∷ 30 ∷ 60 ∷ 60 ∷ 0 ∷ []
comes_with = refl

is_in : map is_let_in (seat ∷ new ∷ []) ≡ true ∷ false ∷ []
is_in = refl

small : (map (starts_small (coming 30)) (seat ∷ new ∷ record seat { ballooned = 0 } ∷ []) ≡ true ∷ false ∷ false ∷ []) × (map (λ n. starts_small (record says { holds = n }) new) (2 ∷ 3 ∷ []) ≡ false ∷ true ∷ [])
    × (starts_small says seat ≡ false)
small = (refl, refl, refl)

-- ---- what it asks for

resets : (map (λ m. reset_pages m seat) (says ∷ starting 20 ∷ starting 50 ∷ []) ≡ 30 ∷ 0 ∷ 20 ∷ []) × (map (λ m. needs_reset m seat) (waiting 2 ∷ waiting 1 ∷ record (waiting 2) { ballooned = 0 } ∷ []) ≡ true ∷ false ∷ false ∷ [])
    × (map (λ m. resets_at_once m seat) (waiting 2 ∷ record (waiting 2) { ballooned = 0 } ∷ record (starting 20) { waits = 2 } ∷ record says { ballooned = 0 } ∷ []) ≡ false ∷ true ∷ true ∷ false ∷ [])
resets = (refl, refl, refl)

room : (map (needs_room (waiting 1)) (seat ∷ new ∷ []) ≡ false ∷ true ∷ []) × (map (needs_room (waiting 2)) (seat ∷ new ∷ []) ≡ false ∷ false ∷ [])
room = (refl, refl)

-- each word of it
granted : (map (λ m. has_granted exchange m seat) (holding 8 ∷ holding 9 ∷ says ∷ []) ≡ true ∷ false ∷ false ∷ [])
    × (map (λ x. has_granted x (holding 8) seat) (record exchange { ask = 2 } ∷ record exchange { asked = 9 } ∷ record exchange { asks = 7 } ∷ []) ≡ false ∷ false ∷ false ∷ [])
    × (has_granted exchange (holding 8) (record seat { granted = 5 }) ≡ false)
granted = (refl, refl, refl)

asks : map (λ m. ask_of exchange m seat) (says ∷ holding 8 ∷ holding 9 ∷ waiting 1 ∷ waiting 2 ∷ waiting 3 ∷ []) ≡ Nothing ∷ Deflate ∷ Deflate ∷ Nothing ∷ Reset ∷ Nothing ∷ []
asks = refl

-- a deflate that was granted comes before all, then a reset that takes any page, then room, and another deflate last
in_order : (map (λ m. ask_of exchange m seat) (record (holding 8) { waits = 2 } ∷ record (holding 9) { waits = 2 } ∷ record (holding 9) { waits = 2; ballooned = 0 } ∷ record (holding 9) { waits = 1 } ∷ []) ≡ Deflate ∷ Reset ∷ Deflate ∷ Deflate ∷ [])
    × (map (λ m. ask_of exchange m new) (holding 8 ∷ waiting 1 ∷ record (holding 9) { waits = 1 } ∷ record (waiting 2) { ballooned = 0 } ∷ []) ≡ Deflate ∷ Room ∷ Room ∷ Nothing ∷ [])
in_order = (refl, refl)

of_each : (map (λ a. own_number a (holding 8)) (Nothing ∷ Room ∷ Reset ∷ Deflate ∷ []) ≡ 0 ∷ 5 ∷ 5 ∷ 8 ∷ [])
    × (map asked_line (Nothing ∷ Room ∷ Reset ∷ Deflate ∷ []) ≡ Deflates ∷ Arrivals ∷ Resets ∷ Deflates ∷ [])
    × (map (λ a. asked_pages a (holding 8) seat) (Nothing ∷ Room ∷ Reset ∷ Deflate ∷ []) ≡ 0 ∷ 60 ∷ 30 ∷ 10 ∷ [])
    × (map (λ m. asked_pages Room m new) (coming 30 ∷ coming 99 ∷ starting 20 ∷ []) ≡ 30 ∷ 1 ∷ 20 ∷ [])
of_each = (refl, refl, refl, refl)

another_ask : (map (λ m. is_new_ask exchange m seat) (says ∷ holding 8 ∷ holding 9 ∷ waiting 2 ∷ []) ≡ false ∷ false ∷ true ∷ true ∷ [])
    × (map (λ x. is_new_ask x (waiting 2) seat) (record exchange { ask = 2; asked = 5 } ∷ record exchange { ask = 2 } ∷ record exchange { ask = 1; asked = 5 } ∷ []) ≡ false ∷ true ∷ true ∷ [])
another_ask = (refl, refl)

-- ---- which target its driver may obey

receives : (map (λ x. is_received x says seat) (exchange ∷ record exchange { sent = 3 } ∷ record exchange { obeyed = 11 } ∷ record exchange { obeyed = 13 } ∷ []) ≡ true ∷ false ∷ false ∷ true ∷ []) × (is_received exchange (record says { target = 29 }) seat ≡ false)
receives = (refl, refl)

waits_a_while : (map (λ now. lingers now exchange) (0 ∷ 1000 ∷ 3999 ∷ 4000 ∷ []) ≡ true ∷ true ∷ true ∷ false ∷ []) × (lingers 9999 (record exchange { received = 0 }) ≡ true)
waits_a_while = (refl, refl)

others : map another (0 ∷ 1 ∷ 2 ∷ 30 ∷ []) ≡ 1 ∷ 0 ∷ 1 ∷ 29 ∷ []
others = refl

reads : (map (λ n. read_target 1000 exchange (record says { read = n }) seat) (31 ∷ 1 ∷ 0 ∷ []) ≡ 30 ∷ 0 ∷ 29 ∷ []) × (map (λ now. read_target now exchange (record says { read = 0 }) seat) (3999 ∷ 4000 ∷ []) ≡ 29 ∷ 30 ∷ [])
    × (map (λ x. received_number x says seat) (exchange ∷ record exchange { sent = 3 } ∷ []) ≡ 4 ∷ 3 ∷ [])
reads = (refl, refl, refl)

-- ---- pages outside of slots

abbrev back : ℕ → ℕ → Message
back pages outside = record says { pages = pages; outside = outside }

returns : map (λ m. returned m seat) (back 64 3 ∷ back 70 3 ∷ back 62 3 ∷ back 64 7 ∷ back 60 3 ∷ back 59 0 ∷ []) ≡ 4 ∷ 4 ∷ 2 ∷ 0 ∷ 0 ∷ 0 ∷ []
returns = refl

keeps : (map (λ files. kept_outside (record says { files = files; outside = 0 }) (uncounting seat)) (60 ∷ 62 ∷ 67 ∷ 99 ∷ []) ≡ 0 ∷ 2 ∷ 7 ∷ 7 ∷ []) × (kept_outside (record says { files = 99 }) seat ≡ 0)
    × (map (λ files. kept_outside (record (back 64 3) { files = files }) (uncounting seat)) (65 ∷ 99 ∷ []) ≡ 1 ∷ 3 ∷ [])
keeps = (refl, refl, refl)

says_outside : map (λ o. said_outside (record says { files = 65; outside = o }) (uncounting seat)) (3 ∷ 5 ∷ 6 ∷ []) ≡ 5 ∷ 5 ∷ 6 ∷ []
says_outside = refl

-- ---- the report

takes_away : (map (λ m. taken_away m seat) (says ∷ back 50 7 ∷ back 64 7 ∷ record (back 50 7) { waits = 1 } ∷ []) ≡ 0 ∷ 10 ∷ 0 ∷ 0 ∷ [])
    × (map (λ n. removed_by (back 50 7) (record seat { removed = n })) (3 ∷ 18446744073709551610 ∷ []) ≡ 13 ∷ 18446744073709551615 ∷ [])
    × (map (λ m. shown_ballooned m seat) (says ∷ coming 99 ∷ record (waiting 1) { ballooned = 99 } ∷ []) ≡ 30 ∷ 30 ∷ 99 ∷ [])
takes_away = (refl, refl, refl)

abbrev report : Report
report = record { ballooned = 30; target = 30; read_target = 30; held = 0; line = 0; outside = 7; target_number = 4; deflates = 6; removed = 0 }

reports : (report_of 1000 exchange says seat ≡ report) × (report_of 1000 (record exchange { asks = 7 }) (holding 9) seat ≡ record report { held = 10; deflates = 7 })
    × (report_of 1000 (record exchange { asks = 7 }) (waiting 2) seat ≡ record report { held = 30; line = 1; deflates = 7 })
    × (report_of 1000 (record exchange { asks = 1 }) (coming 20) new ≡ record report { held = 40; line = 2; target_number = 3; outside = 0; deflates = 1; target = 0 })
reports = (refl, refl, refl, refl)

-- 10 pages are taken away, and no more of them stay outside than there were
reports_fewer : (report_of 1000 exchange (back 50 99) seat ≡ record report { outside = 17; removed = 10 }) × ((plain_report 1000 exchange (back 50 99) seat).outside ≡ 99)
    × (report_of 1000 exchange (record says { outside = 3; target = 29; read = 0 }) seat ≡ record report { outside = 3; target = 29; read_target = 29; target_number = 3 })
reports_fewer = (refl, refl, refl)

-- ---- what else it says

takes : (map (λ b. taken 1000 exchange (record says { ballooned = b }) seat) (30 ∷ 28 ∷ []) ≡ 0 ∷ 2 ∷ []) × (taken 1000 exchange (record says { ballooned = 28; holds = 0 }) seat ≡ 0)
takes = (refl, refl)

joining : map (λ m. joins 1000 exchange m seat) (back 64 3 ∷ record (back 64 3) { ballooned = 28 } ∷ record (back 64 3) { ballooned = 28; holds = 0 } ∷ []) ≡ 4 ∷ 0 ∷ 4 ∷ []
joining = refl

has_room : (map roomy (seat ∷ new ∷ []) ≡ 60 ∷ 0 ∷ []) × (map (beyond seat 4) (64 ∷ 65 ∷ 0 ∷ []) ≡ 0 ∷ 1 ∷ 0 ∷ []) × (map (λ m. wants_beyond m seat 4) (record (waiting 1) { wanted = 70 } ∷ record (waiting 0) { wanted = 70 } ∷ []) ≡ 6 ∷ 0 ∷ [])
has_room = (refl, refl, refl)

-- another number in each field
abbrev brought : Message
brought = record (back 66 3) { waits = 1; wanted = 80; ballooned = 29; limited = 1; holds = 3; start = 20 }

all_of_it : reading 1000 exchange brought seat ≡ record {
  report = record report { ballooned = 29; outside = 3 };
  taken = 1;
  joins = 0;
  ungranted = 2;
  brings = 16;
  wants = 20;
  without = 60;
  small = 1;
  resets = 0;
}
all_of_it = refl

at_once : ((reading 1000 exchange (record (waiting 2) { ballooned = 0 }) seat).resets ≡ 1) × ((reading 1000 exchange (record (back 66 3) { waits = 1; wanted = 80 }) seat).wants ≡ 16) × ((reading 1000 exchange (coming 30) new).without ≡ 30)
at_once = (refl, refl, refl)

-- ---- a guest that isn't strict

abbrev follows : Report
follows = record report { deflates = 1 }

following : (followed says seat 60 30 ≡ follows) × (followed says seat 60 20 ≡ record follows { target = 20; read_target = 20; target_number = 5 })
    × (map (λ pages. (followed (back 60 99) seat pages 30).outside) (50 ∷ 60 ∷ 70 ∷ []) ≡ 17 ∷ 7 ∷ 7 ∷ [])
    × (followed (record says { ballooned = 26; outside = 0; files = 65 }) (uncounting seat) 60 30 ≡ record follows { ballooned = 0; outside = 5 })
    × (following_number (record seat { target_number = 18446744073709551615 }) 9 ≡ 18446744073709551615)
following = (refl, refl, refl, refl, refl)

-- ---- what is noted of it

notes : (noted 9000 exchange says seat ≡ exchange) × (noted 9000 exchange (holding 8) seat ≡ exchange) × (noted 9000 exchange (holding 9) seat ≡ record exchange { asked = 9; asks = 7 })
    × (noted 9000 exchange (waiting 2) seat ≡ record exchange { ask = 2; asked = 5; asks = 7 })
    × (asking (record exchange { asks = 18446744073709551615 }) (holding 9) seat ≡ record exchange { asked = 9; asks = 18446744073709551615 })
notes = (refl, refl, refl, refl, refl)

notes_receipt : (map (λ x. received_since 9000 x says seat) (exchange ∷ record exchange { received = 0 } ∷ record exchange { sent = 3 } ∷ record exchange { sent = 3; received = 0 } ∷ []) ≡ 1000 ∷ 9000 ∷ 0 ∷ 0 ∷ [])
    × (noted 9000 (record exchange { received = 0 }) (holding 9) seat ≡ record exchange { asked = 9; asks = 7; received = 9000 })
notes_receipt = (refl, refl)
