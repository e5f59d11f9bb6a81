use Rattle.std.proofs.Common.{ap, sym, ◌∙◌}
use Rattle.vb_host.specs.declared.event.Event.{Event}
use Rattle.vb_host.specs.Lending.{happens}
use Rattle.vb_host.proofs.lending.happen.Goals as goal

pub returns-in-Grants : goal.returns-in-Grants
returns-in-Grants c = c.grant.ensures c.args.overdraft
    ∙ ap (λ (e : Event). happens (record { frames = c.args.frames.now; overdraft = c.args.overdraft; seats = c.args.seats.now }) e) (sym c.in-Grants.is)

pub returns-in-Targets : goal.returns-in-Targets
returns-in-Targets c = c.target.ensures c.args.overdraft
    ∙ ap (λ (e : Event). happens (record { frames = c.args.frames.now; overdraft = c.args.overdraft; seats = c.args.seats.now }) e) (sym c.in-Targets.is)
