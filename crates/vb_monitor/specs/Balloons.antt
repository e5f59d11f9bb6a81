-- All that a balloon is between notices.
use Rattle.std.specs.Prelude.{ℕ, ◌+◌, ◌-◌, min, Bool, true, false, not, ◌==◌, ◌&&◌, bit_and}
use Rattle.std.specs.Prelude.{if◌then◌else◌, Option, Some, None}
use Rattle.vb_virtio.specs.Status.{driver_ok}
use Rattle.vb_core.specs.declared.kinds.Kind.{Kind}
use Rattle.vb_core.specs.declared.held.Held.{Held}
use Rattle.vb_core.specs.declared.device.Device.{Device}
use Rattle.vb_core.specs.Statuses.{after_write}
use Rattle.vb_core.specs.Held.{nothing_held, held_of, held_pages, with_held, held_without}
use Rattle.vb_monitor.specs.declared.outcome.HeldChain.{HeldChain}
use Rattle.vb_monitor.specs.declared.outcome.Outcome.{Outcome}
use Rattle.vb_monitor.specs.declared.balloon.Balloon.{Balloon}

-- The chain that is held of a kind's queue; 16 bits have its head, or it is no descriptor's.
abbrev pub held_chain : Kind → Held → Option HeldChain
held_chain kind h =
    if held_of kind h == 0 then None
    else Some (record { head = min (held_of kind h - 1) 65535; pages = held_pages kind h })

-- A notice of this kind's queue may begin: not while a chain of it is held.
abbrev pub may_look : Kind → Balloon → Bool
may_look kind b = held_of kind b.held == 0

-- A chain that was given back is held no longer; one that is held stays so; else the one that was
-- taken is, if one was.
abbrev pub later_held : Kind → Option HeldChain → Bool → Held → Held
later_held kind taken true before = held_without kind before
later_held kind None false before = before
later_held kind (Some x) false before =
    if held_of kind before == 0 then with_held kind (x.head + 1) x.pages before else before

-- What is held after a notice of this kind's queue.
abbrev pub held_after : Kind → Outcome → Balloon → Held
held_after kind outcome b = later_held kind outcome.tally.held outcome.tally.given b.held

-- The balloon after a write of the status: a reset forgets what is held.
abbrev pub after_status : ℕ → Balloon → Balloon
after_status write b = record {
  device = after_write write b.device;
  held = if write == 0 then nothing_held else b.held;
}

-- DRIVER_OK is set: only then the driver is told anything (VIRTIO 1.1, 2.1.2).
abbrev pub may_tell : Device → Bool
may_tell d = not (bit_and d.status driver_ok == 0)

-- DRIVER_OK is set by this write, and wasn't before (VIRTIO 1.1, 2.1 and 3.1.1).
abbrev pub becomes_ready : ℕ → Balloon → Bool
becomes_ready write b =
    (bit_and b.device.status driver_ok == 0) && not (bit_and write driver_ok == 0)
