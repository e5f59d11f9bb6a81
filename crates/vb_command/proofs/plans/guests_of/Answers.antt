use Rattle.std.proofs.Common.{rules, ◌≡◌, List, ◌∷◌, ◌++◌, map, subst}
use Rattle.vb_script.{specs.declared.script.ThreadsGuest.ThreadsGuest, specs.Plans.guest_plan}
use Rattle.vb_command.{specs.Plans.{part_of, planned_part}, proofs.Planning.{part_fails, parts_fail}}
use Rattle.vb_command.proofs.plans.guests_of.Goals as goal

pub returns-in_default : goal.returns-in_default
returns-in_default c =
    let head : c.loop-guest.guest-iterator.rest.items
    ≡ c.in-Some.guest ∷ c.next.new.self.rest.items = search rules in
    parts_fail (map part_of c.loop-guest.plans.items) (planned_part (guest_plan c.in-Some.guest))
    (map planned_part (map guest_plan c.next.new.self.rest.items)) _
    (subst (λ (left : List ThreadsGuest). map part_of c.loop-guest.plans.items
    ++ map planned_part (map guest_plan left)
    ≡ map planned_part (map guest_plan c.args.guests.items)) head c.loop-guest.invariant.2)
    (part_fails (planned_part (guest_plan c.in-Some.guest)) c.in_default.ensures)
