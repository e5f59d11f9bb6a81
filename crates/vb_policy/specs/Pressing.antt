-- When a guest's own work waits for memory, by the counters of its statistics. Times are in
-- milliseconds.
use Rattle.std.specs.Prelude.{ℕ, ◌+◌, ◌-◌, ◌^◌, min, max, nat_lt, if◌then◌else◌}
use Rattle.std.specs.Prelude.{Bool, ◌&&◌, ◌||◌, not}
use Rattle.vb_policy.specs.declared.pressure.Counter.{Counter}
use Rattle.vb_policy.specs.declared.pressure.Counters.{Counters}
use Rattle.vb_policy.specs.declared.pressure.Pressure.{Pressure}
use Rattle.vb_policy.specs.declared.pressure.Sample.{Sample}
use Rattle.vb_policy.specs.declared.pressure.TheConstants.{PRESSED_MS, KILLED_MS}

-- ---- one counter

-- A counter that a sample lacks stays as it was.
abbrev pub latest : Counter → Counter → Counter
latest before sampled = if nat_lt 0 sampled.present then sampled else before

-- It is higher than it was. One that falls has wrapped around or its guest has booted again, and
-- one that nobody has seen before says nothing yet.
abbrev pub has_risen : Counter → Counter → Bool
has_risen before sampled = nat_lt 0 before.present && nat_lt 0 sampled.present
    && nat_lt before.value sampled.value

-- ---- two samples

abbrev pub all_latest : Counters → Counters → Counters
all_latest before sampled = record {
  swap_in = latest before.swap_in sampled.swap_in;
  swap_out = latest before.swap_out sampled.swap_out;
  oom_kills = latest before.oom_kills sampled.oom_kills;
  stalls = latest before.stalls sampled.stalls;
  direct_scan = latest before.direct_scan sampled.direct_scan;
  direct_reclaim = latest before.direct_reclaim sampled.direct_reclaim;
}

-- Work has waited: for what had been swapped out, or since an allocation found no free page.
abbrev pub has_stalled : Counters → Counters → Bool
has_stalled before sampled = has_risen before.swap_in sampled.swap_in
    || has_risen before.swap_out sampled.swap_out
    || has_risen before.stalls sampled.stalls
    || has_risen before.direct_scan sampled.direct_scan
    || has_risen before.direct_reclaim sampled.direct_reclaim

-- A process was killed for lack of memory.
abbrev pub has_killed : Counters → Counters → Bool
has_killed before sampled = has_risen before.oom_kills sampled.oom_kills

-- Between the two samples the balloon inflated: at the one or the other it had fewer pages than its
-- target, or it has more than it had.
abbrev pub inflates : Sample → Sample → Bool
inflates before sampled = nat_lt before.ballooned before.target
    || nat_lt before.ballooned sampled.ballooned
    || nat_lt sampled.ballooned sampled.target

-- ---- for how long

-- A balloon that inflates reclaims and swaps by itself, so that what stalls meanwhile says nothing
-- of the guest's work; but it kills nobody.
abbrev pub presses_for : Sample → Sample → ℕ
presses_for before sampled =
    if has_killed before.counters sampled.counters then KILLED_MS
    else (if has_stalled before.counters sampled.counters && not (inflates before sampled)
    then PRESSED_MS else 0)

-- Until when it is pressed: no shorter than by the samples before, and no longer than a kill
-- presses from now on.
abbrev pub pressed_until : Pressure → Sample → ℕ → ℕ
pressed_until p sampled now =
    min (max p.until (now + presses_for p.last sampled)) (min (now + KILLED_MS) (2 ^ 64 - 1))

abbrev pub after : Pressure → Sample → ℕ → Pressure
after p sampled now = record {
  last = record sampled { counters = all_latest p.last.counters sampled.counters };
  until = pressed_until p sampled now;
}

abbrev pub is_pressed : Pressure → ℕ → Bool
is_pressed p now = nat_lt now p.until
