use Rattle.vb_world.proofs.Plugs.{config_some}
use Rattle.vb_conformance.proofs.leased.sizes_of.Goals as goal

pub returns-in_ok-sizes-in-Some-Plug : goal.returns-in_ok-sizes-in-Some-Plug
returns-in_ok-sizes-in-Some-Plug c = let sizes = c.in_ok-sizes-in-Some-Plug in
    let config = config_some _ _ _ _ c.new.ensures sizes.was in rw config.same config.fits
