use Rattle.{std.proofs.Common.{rules, sym}, vb_run.proofs.Closing.reported}
use Rattle.vb_run.specs.Paces.{is_deferred}
use Rattle.vb_run.proofs.run.run_plan.Goals as goal

pub returns : goal.returns
returns g c = reported (λ s. is_deferred s.pace) g.P.GuestPort.pace c.args.plan.now _ _ c.args.ports.items
    _ _ _ (search rules) (search rules) (search rules) c.in_ok-guests.ensures.len c.requires.count
    c.in_ok-seats.ensures c.in_ok-guests.ensures.each
    (rw (sym c.as_slice-6.ensures.value) (c.in_ok-are_apart.ensures.0 (search rules)))
    (search rules) (c.are_rounds.ensures.0 (search rules))
