use Rattle.vb_world.proofs.Calls.{frames_counted}
use Rattle.vb_world.proofs.world.World.count_frames.Goals as goal

pub returns : goal.returns
returns g c = λ w host. frames_counted _ _ _ _ _ w _ _ host c.used-used.ensures c.frames.ensures
