use Rattle.std.proofs.Common.{refl}
use Rattle.vb_world.proofs.Plugs.{config_some}
use Rattle.vb_command.proofs.Planning.{config_none}
use Rattle.vb_command.proofs.plans.guest_of.Goals as goal

pub returns-in_err-config : goal.returns-in_err-config
returns-in_err-config c =
    rw c.from_residual.ensures (config_none _ _ _ c.new.ensures c.in_err-config.was)

pub returns : goal.returns
returns c = let config = config_some _ _ _ _ c.new.ensures c.in_ok-config.was in rw config.same refl
