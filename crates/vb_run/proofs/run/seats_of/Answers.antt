use Rattle.std.proofs.Common.{rules, ◌≡◌, ◌∷◌, [], ◌++◌, Some, slice_get, ap, ◌∙◌}
use Rattle.{std.proofs.lemmas.Option.slice_get-get_or, vb_run.specs.Plans.is_guest_plan}
use Rattle.vb_run.proofs.{Lists.{passes_at, first_of, rest_of}, Starting.map_next}
use Rattle.vb_run.proofs.run.seats_of.Goals as goal

pub seat_at-requires-clause-plan : goal.seat_at-requires-clause-plan
seat_at-requires-clause-plan g c κs within =
    let at : slice_get c.args.plan.now c.loop-own.own-index ≡ Some c.own-item.result =
    slice_get-get_or c.args.plan.now c.loop-own.own-index c.own-item.result (search rules)
    ∙ ap Some (search rules) in
    passes_at is_guest_plan c.args.plan.now c.loop-own.own-index c.own-item.result at
    c.requires.plan

pub seat_at-requires-clause-waits : goal.seat_at-requires-clause-waits
seat_at-requires-clause-waits g c κs within =
    first_of g.P.GuestPort.waits c.loop-own.left.rest.items c.in-Some.port
    c.next.new.self.rest.items (search rules) c.loop-own.invariant.waits

pub loop-own-preserved : goal.loop-own-preserved
loop-own-preserved g c =
    let head : c.loop-own.left.rest.items ≡ c.in-Some.port ∷ c.next.new.self.rest.items =
    search rules in
    let grown : c.push.new.self.items ≡ c.loop-own.seats.items ++ c.in_ok-seat_at.field-0 ∷ [] =
    search rules in
    record {
      waits = rest_of g.P.GuestPort.waits c.loop-own.left.rest.items c.in-Some.port
          c.next.new.self.rest.items head c.loop-own.invariant.waits;
      count = search rules;
      paces = rw grown (map_next _ _ _ _ _ _ _ _ c.loop-own.invariant.paces head
          c.in_ok-seat_at.ensures.pace);
    }
