use Rattle.std.proofs.Common.{◌∷◌, [], ◌∙◌, ap, arith, refl}
use Rattle.vb_device.{specs.State.DeviceState, specs.Discards.discarded, proofs.Finishes.base_same}
use Rattle.vb_device.proofs.Discards.{discard_more, discarded_none}
use Rattle.vb_device.proofs.balloon.BalloonDevice.discard.Goals as goal

pub invariant_of-self : goal.invariant_of-self
invariant_of-self g c = grind (arith, base_same)

pub returns-clause-mem : goal.returns-clause-mem
returns-clause-mem g c =
    discard_more c.self.inside.ram c.self.inside.ram c.discard_page.new.ram (c.args.page ∷ []) 0
    c.args.page (omega arith) refl (discarded_none c.self.inside.ram) c.discard_page.ensures.after
    ∙ ap (λ (v : DeviceState). discarded (c.args.page ∷ []) v.mem) c.self.view_is
