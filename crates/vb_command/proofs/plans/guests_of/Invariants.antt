use Rattle.std.proofs.Common.{◌≡◌, ◌++◌, map}
use Rattle.vb_script.specs.Plans.{guest_plan}
use Rattle.vb_command.specs.Plans.{part_of, planned_part}
use Rattle.vb_command.proofs.plans.guests_of.Given as goal

abbrev pub invariant-loop-guest : goal.invariant-loop-guest
invariant-loop-guest l = (goal.iterator-loop-guest).can_next l.guest-iterator
    × (goal.iterator-loop-guest).is_finite l.guest-iterator
    × (map part_of l.plans.items ++ map planned_part (map guest_plan l.guest-iterator.rest.items)
    ≡ map planned_part (map guest_plan l.fn.guests.items))
