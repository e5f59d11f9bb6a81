-- The whole system: guests, their processes, messages on their way, and a lender.
use Rattle.std.specs.Prelude.{ℕ, zero, suc, ◌+◌, ◌-◌, Bool, true, false, not, ◌&&◌, ◌||◌, ◌==◌}
use Rattle.std.specs.Prelude.{nat_lt, nat_le, if◌then◌else◌, min, List, [], ◌∷◌, map}
use Rattle.std.specs.Prelude.{Option, Some, None, slice_get}
use Rattle.vb_host.specs.declared.report.Report.{Report}
use Rattle.vb_host.specs.declared.seat.Seat.{Seat}
use Rattle.vb_host.specs.Lending.{Lending, each_at, may_grant, may_overdraw, next_turn, room}
use Rattle.vb_host.specs.Seats.{apart, lent, granting, heard, newcomer, taken_over, uncounting}
use Rattle.vb_host.specs.Seats.{queued, preferring, deferring, retargeted, starting}

-- ---- a guest and its process

-- A guest's pages, those in its balloon, the last target that its process has received and that
-- one's number, the target that its driver has read last, the pages of the deflate that its process
-- holds back (0: none), in which line that waits, how many it has held back, how many pages were
-- taken away from its memory, and how many have frames outside of it.
pub record Process : Type 0 where
  pub pages : ℕ
  pub balloon : ℕ
  pub target : ℕ
  pub read_target : ℕ
  pub held : ℕ
  pub line : ℕ
  pub target_number : ℕ
  pub deflates : ℕ
  pub removed : ℕ
  pub outside : ℕ

-- what it reports at this moment
abbrev pub snapshot : Process → Report
snapshot p =
    record {
      ballooned = p.balloon;
      target = p.target;
      read_target = p.read_target;
      held = p.held;
      line = p.line;
      outside = p.outside;
      target_number = p.target_number;
      deflates = p.deflates;
      removed = p.removed;
    }

-- what its lender orders: a target, with its number, and the grant of the deflate of a number
pub data Order : Type 0 where
  Target : ℕ → ℕ → Order
  Grant : ℕ → Order

-- A target is received unless a later one was; a grant gives back the deflate of its number, if
-- that is still held.
abbrev pub obeys : Order → Process → Process
obeys (Target number target) p =
    if nat_lt p.target_number number
    then record p { target_number = number; target = target }
    else p
obeys (Grant n) p =
    if p.deflates == n then record p { balloon = p.balloon - p.held; held = 0 } else p

-- What a guest, its driver and its VMM do. Pages join the balloon (a driver that holds a deflate
-- may give pages, too); a deflate is held back, in a line, of any pages of the balloon: toward the
-- target that was read, or deeper, as by a driver that is out of memory; it is dropped, as by a
-- reset; the target is read; memory is taken away, with pages of the balloon and of the deflate
-- among it, and what is outside goes, or is a part of what was taken away.
pub data Deed : Type 0 where
  Gives : ℕ → Deed
  Holds : ℕ → ℕ → Deed
  Drops : Deed
  Reads : Deed
  Shrinks : ℕ → ℕ → ℕ → ℕ → Deed

-- What is left has this many pages, these of them in its balloon and in the deflate that is held,
-- and these are outside. No page leaves the balloon but with the memory, and no frame appears: no
-- more than before are in use.
abbrev pub may_shrink : ℕ → ℕ → ℕ → ℕ → Process → Bool
may_shrink pages balloon held outside p =
    nat_le pages p.pages && nat_le balloon p.balloon && nat_le held p.held
    && nat_le balloon pages && nat_le held balloon
    && nat_le (pages + p.balloon) (p.pages + balloon)
    && nat_le (pages + outside + p.balloon) (p.pages + p.outside + balloon)

abbrev pub does : Deed → Process → Process
does (Gives pages) p = record p { balloon = min (p.balloon + pages) p.pages }
does (Holds line pages) p =
    if (p.held == 0) && nat_lt 0 pages && nat_le pages p.balloon
    then record p { held = pages; line = line; deflates = p.deflates + 1 }
    else p
does Drops p = record p { held = 0 }
does Reads p = record p { read_target = p.target }
does (Shrinks pages balloon held outside) p =
    if may_shrink pages balloon held outside p
    then record p {
      pages = pages;
      balloon = balloon;
      held = held;
      removed = p.removed + (p.pages - pages);
      outside = outside;
    }
    else p

-- ---- a guest's limit by the kernel

-- The limit that is in force; the one that a write on its way sets, or the one in force where none
-- is; the least that may be in force, as far as the lender knows; and whether a write is on its
-- way.
pub record Limit : Type 0 where
  pub force : ℕ
  pub asked : ℕ
  pub sure : ℕ
  pub writing : Bool

-- A write of this limit is asked for, unless one is on its way.
abbrev pub writes : ℕ → Limit → Limit
writes pages l =
    if l.writing then l else record l { asked = pages; sure = min l.sure pages; writing = true }

-- The write takes force; ends; or fails, and then it never takes force.
abbrev pub lands : Limit → Limit
lands l = record l { force = l.asked }

abbrev pub confirms : Limit → Limit
confirms l = record { force = l.asked; asked = l.asked; sure = l.asked; writing = false }

abbrev pub fails : Limit → Limit
fails l = record l { asked = l.force; sure = 0; writing = false }

-- ---- a guest on a host

-- Whether it is strict: whether its process is as it is said here. Its process, what the lender
-- knows of it (where a later lender doesn't know it yet: what the one before knew), and all
-- messages that were ever sent between both. Any of them may arrive at any time, once, again or
-- never, and before or after any other.
pub record Guest : Type 0 where
  pub strict : Bool
  pub process : Process
  pub seat : Seat
  pub known : Bool
  pub orders : List Order
  pub reports : List Report
  pub limit : Limit

-- The seat that the lender goes by. Of a guest that a later lender doesn't know yet, it knows how
-- many pages the one before counted, with those outside: all are lent to it.
abbrev pub viewed : Bool → Seat → Seat
viewed true s = s
viewed false s = record (uncounting (newcomer s.pages)) { outside = s.outside }

abbrev pub view : Guest → Seat
view g = viewed g.known g.seat

-- a lender changes the seat of a guest that it knows
abbrev pub changed : Bool → (Seat → Seat) → Seat → Seat
changed true f s = f s
changed false f s = s

abbrev pub by_lender : (Seat → Seat) → Guest → Guest
by_lender f g = record g { seat = changed g.known f g.seat }

abbrev pub order_at : List Order → ℕ → Option Order
order_at [] i = None
order_at (o ∷ orders) zero = Some o
order_at (o ∷ orders) (suc i) = order_at orders i

abbrev pub report_at : List Report → ℕ → Option Report
report_at [] i = None
report_at (r ∷ reports) zero = Some r
report_at (r ∷ reports) (suc i) = report_at reports i

abbrev pub obeying : Option Order → Process → Process
obeying None p = p
obeying (Some o) p = obeys o p

abbrev pub hearing : ℕ → Option Report → Seat → Seat
hearing turn None s = s
hearing turn (Some r) s = heard turn r s

-- A lender sends a guest that it knows its last target, and its last grant once it is sure that the
-- limit allows what is lent.
abbrev pub sending : Bool → Limit → Seat → List Order → List Order
sending true l s orders =
    if nat_le (lent s) l.sure
    then Target s.target_number s.target ∷ Grant s.granted ∷ orders
    else Target s.target_number s.target ∷ orders
sending false l s orders = orders

abbrev pub limiting : Bool → Seat → Limit → Limit
limiting true s l = writes (lent s) l
limiting false s l = l

-- Before it is let in, a guest uses no page: all are in its balloon, and its process holds back a
-- deflate of all but those that stay there.
abbrev pub arriving : ℕ → ℕ → Guest
arriving pages ballooned =
    record {
      strict = true;
      process = record {
        pages = pages;
        balloon = pages;
        target = pages;
        read_target = pages;
        held = pages - ballooned;
        line = 2;
        target_number = 0;
        deflates = 1;
        removed = 0;
        outside = 0;
      };
      seat = starting pages ballooned;
      known = true;
      orders = [];
      reports = [];
      limit = record { force = 0; asked = 0; sure = 0; writing = false };
    }

-- A later lender doesn't know it yet.
abbrev pub forgotten : Guest → Guest
forgotten g = record g { known = false }

-- Its process connects to a later lender, and reports to it: messages on their way are lost, and so
-- is what was known of its limit.
abbrev pub taken_up : ℕ → Guest → Guest
taken_up turn g =
    record g {
      seat = queued turn (taken_over g.process.pages (snapshot g.process));
      known = true;
      orders = [];
      reports = snapshot g.process ∷ [];
      limit = fails g.limit;
    }

-- ---- memory that is added

-- Memory that is added to a guest waits as a guest of its own, of as many pages. Once it was let
-- in, and none of its pages has to stay in a balloon or is outside, it joins the guest that it was
-- added to. What both may use is what both were lent, and so is their limit.
abbrev pub joined : Guest → Guest → Guest
joined x g =
    record g {
      strict = g.strict && x.strict;
      process = record g.process {
        pages = g.process.pages + x.process.pages;
        balloon = g.process.balloon + x.process.balloon;
      };
      seat = record g.seat { pages = g.seat.pages + x.seat.pages };
      limit = record {
        force = g.limit.force + x.limit.force;
        asked = g.limit.asked + x.limit.asked;
        sure = g.limit.sure + x.limit.sure;
        writing = g.limit.writing || x.limit.writing;
      };
    }

abbrev pub may_join : ℕ → ℕ → Guest → Bool
may_join n m x =
    not (n == m) && (apart x.seat == 0)
    && (x.process.held == 0) && (x.process.removed == x.seat.removed)

-- ---- a host

pub record Host : Type 0 where
  pub frames : ℕ
  pub overdraft : ℕ
  pub guests : List Guest

abbrev pub seats : List Guest → List Seat
seats guests = map view guests

abbrev pub lending : Host → Lending
lending h = record { frames = h.frames; overdraft = h.overdraft; seats = seats h.guests }

-- What may happen next. To guest n: it does a deed; it isn't strict, and its process becomes any
-- other and has sent any reports, now and at any time; its process reports; the i-th order that was
-- ever sent to it arrives; the lender receives its i-th report, grants its deflate by turn or from
-- the overdraft, prefers it to all others, has it let others pass, wants pages in its balloon, sets
-- its target, sends its last target and grant, asks for a write of its limit, which takes force, is
-- confirmed or fails, or counts its balloon no longer; a guest arrives in its place; the memory of
-- guest m joins it; its process connects to a later lender. To the host: a lender starts that knows
-- nothing, and the budget is set.
pub data Step : Type 0 where
  Does : ℕ → Deed → Step
  Deviates : ℕ → Process → List Report → Step
  Reports : ℕ → Step
  Obeys : ℕ → ℕ → Step
  Hears : ℕ → ℕ → Step
  Grants : ℕ → Step
  Overdraws : ℕ → Step
  Prefers : ℕ → Step
  Defers : ℕ → Step
  Wants : ℕ → ℕ → Step
  Targets : ℕ → Step
  Sends : ℕ → Step
  Limits : ℕ → Step
  Lands : ℕ → Step
  Confirms : ℕ → Step
  Fails : ℕ → Step
  Uncounts : ℕ → Step
  Arrives : ℕ → ℕ → ℕ → Step
  Joins : ℕ → ℕ → Step
  TakesOver : ℕ → Step
  Forgets : Step
  Budget : ℕ → Step

abbrev pub at : ℕ → (Guest → Guest) → Host → Host
at n f h = record h { guests = each_at n f h.guests }

abbrev pub joining : Option Guest → ℕ → ℕ → Host → Host
joining None n m h = h
joining (Some x) n m h =
    if may_join n m x
    then record h { guests = each_at m (λ _. arriving 0 0) (each_at n (joined x) h.guests) }
    else h

abbrev pub goes : Host → Step → Host
goes h (Does n deed) = at n (λ g. record g { process = does deed g.process }) h
goes h (Deviates n p reports) =
    at n (λ g. record g { strict = false; process = p; reports = reports }) h
goes h (Reports n) = at n (λ g. record g { reports = snapshot g.process ∷ g.reports }) h
goes h (Obeys n i) = at n (λ g. record g { process = obeying (order_at g.orders i) g.process }) h
goes h (Hears n i) =
    at n (λ g. by_lender (hearing (next_turn (seats h.guests)) (report_at g.reports i)) g) h
goes h (Grants n) = if may_grant (lending h) n then at n (by_lender granting) h else h
goes h (Overdraws n) = if may_overdraw (lending h) n then at n (by_lender granting) h else h
goes h (Prefers n) =
    at n (by_lender (preferring 1)) (record h { guests = map (by_lender (preferring 0)) h.guests })
goes h (Defers n) = at n (by_lender (deferring (next_turn (seats h.guests)))) h
goes h (Wants n pages) = at n (by_lender (λ s. record s { wanted = pages })) h
goes h (Targets n) = at n (by_lender (retargeted (room (lending h)))) h
goes h (Sends n) = at n (λ g. record g { orders = sending g.known g.limit g.seat g.orders }) h
goes h (Limits n) = at n (λ g. record g { limit = limiting g.known g.seat g.limit }) h
goes h (Lands n) = at n (λ g. record g { limit = lands g.limit }) h
goes h (Confirms n) = at n (λ g. record g { limit = confirms g.limit }) h
goes h (Fails n) = at n (λ g. record g { limit = fails g.limit }) h
goes h (Uncounts n) = at n (by_lender uncounting) h
goes h (Arrives n pages ballooned) = at n (λ _. arriving pages ballooned) h
goes h (Joins n m) = joining (slice_get h.guests m) n m h
goes h (TakesOver n) = at n (taken_up (next_turn (seats h.guests))) h
goes h Forgets = record h { guests = map forgotten h.guests }
goes h (Budget frames) = record h { frames = frames }

abbrev pub through : List Step → Host → Host
through [] h = h
through (step ∷ steps) h = through steps (goes h step)

-- no guest was let in
abbrev pub opened : ℕ → ℕ → List ℕ → Host
opened frames overdraft sizes =
    record {
      frames = frames;
      overdraft = overdraft;
      guests = map (λ pages. arriving pages 0) sizes;
    }
