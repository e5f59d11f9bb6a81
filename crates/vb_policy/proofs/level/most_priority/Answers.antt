use Rattle.std.proofs.Common.{◌≤◌, All, List, arith, subst}
use Rattle.std.proofs.lemmas.List.{take_all}
use Rattle.vb_policy.specs.declared.guest.Guest.{Guest}
use Rattle.vb_policy.proofs.Sums.{most_so_far}
use Rattle.vb_policy.proofs.level.most_priority.Goals as goal

pub loop-guest-preserved : goal.loop-guest-preserved
loop-guest-preserved c = most_so_far (λ (g : Guest). g.priority) c.args.guests.now
    c.loop-guest.guest-index c.loop-guest.most c.max-most.result _ c.loop-guest-test.true
    c.loop-guest.invariant c.max-most.ensures

pub returns : goal.returns
returns c = subst (λ (gs : List Guest). All (λ g. g.priority ≤ c.loop-guest.most) gs)
    (take_all c.loop-guest.guest-index c.args.guests.now (omega (arith, c.loop-guest-test.false)))
    c.loop-guest.invariant
