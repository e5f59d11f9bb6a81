use Rattle.std.proofs.Common.{◌≡◌, ◌-◌, []}
use Rattle.vb_shared.{specs.Rule.view_of, specs.Steps.new_holdings, specs.Passes.new_passes}
use Rattle.vb_shared.proofs.pass.deal.Given as goal

abbrev pub invariant-loop-tag : goal.invariant-loop-tag
invariant-loop-tag l = (l.opener.table_id ≡ l.initial.opener.table_id)
    × (l.opener.me ≡ (view_of (new_holdings l.tag (l.guests - l.tag)), []))
    × (l.passes.items ≡ new_passes l.initial.opener.table_id 0 l.tag)
