use Rattle.vb_world.proofs.Plugs.{host_made}
use Rattle.vb_world.proofs.world.World.new.Goals as goal

pub returns : goal.returns
returns g c = host_made _ _ _ _ _ _ _ c.in_ok-with_capacity.ensures.empty c.in_ok-with_capacity.ensures.capacity
    c.in_ok-new.ensures c.requires.spares
