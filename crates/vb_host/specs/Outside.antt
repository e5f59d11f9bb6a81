-- What a report may say of memory: how many pages are outside, and which the guest took unasked.
use Rattle.std.specs.Prelude.{◌≡◌, ℕ, ◌+◌, ◌-◌, ◌≤◌, Bool, true, false, ◌&&◌, ◌==◌, nat_le}
use Rattle.std.specs.Prelude.{if◌then◌else◌, min}
use Rattle.vb_host.specs.declared.report.Report.{Report}
use Rattle.vb_host.specs.declared.seat.Seat.{Seat}
use Rattle.vb_host.specs.Seats.{heard, is_news, is_stale, is_uncounted, left}

-- The pages in its balloon by a report: without those of a granted deflate, and none where it
-- doesn't count.
abbrev pub shown : Report → Seat → ℕ
shown r s =
    (if is_uncounted s then 0 else r.ballooned) - (if r.deflates == s.granted then r.held else 0)

-- how many fewer these are than before
abbrev pub gone : Report → Seat → ℕ
gone r s = s.ballooned - shown r s

-- Of those the pages that neither were granted nor went with memory: its guest took them unasked.
abbrev pub taken_unasked : Report → Seat → ℕ
taken_unasked r s = gone r s - (r.removed - s.removed)

-- No more may be outside than were, and were taken away since, but for what has left the balloon.
abbrev pub most_outside : Report → Seat → ℕ
most_outside r s = s.pages + s.outside - (left r s + gone r s)

-- of the pages that a report says to be outside those that may be
abbrev pub believed_outside : Report → Seat → ℕ
believed_outside r s = min r.outside (most_outside r s)

-- the report with this many pages outside
abbrev pub with_outside : ℕ → Report → Report
with_outside pages r = record r { outside = pages }

-- a report says something of the memory
abbrev pub tells_memory : Report → Seat → Bool
tells_memory r s = is_news (shown r s) r s

-- A report says something of the memory just where its guest took no page unasked, and no more is
-- outside than may be, if no more pages count in the balloon than there are.
abbrev pub TellsMemory : Type 0
TellsMemory =
    (r : Report) (s : Seat) → s.ballooned ≤ s.pages + s.outside
    → tells_memory r s ≡ ((taken_unasked r s == 0) && nat_le r.outside (most_outside r s))

-- So it says that with the pages that may be outside, whatever it said of these, and as many are
-- outside then.
abbrev pub TakesOutside : Type 0
TakesOutside =
    (turn : ℕ) (r : Report) (s : Seat) → s.ballooned ≤ s.pages + s.outside
    → is_stale r s ≡ false → taken_unasked r s ≡ 0
    → (tells_memory (with_outside (believed_outside r s) r) s ≡ true)
    × ((heard turn (with_outside (believed_outside r s) r) s).outside ≡ believed_outside r s)
