use Rattle.{std.proofs.Common.arith, vb_driver.proofs.Resetting.renewed_kept}
use Rattle.vb_driver.proofs.Resetting.{fresh_statistics_queue}
use Rattle.vb_driver.proofs.driver.Driver.renew.Goals as goal

pub invariant_of-self : goal.invariant_of-self
invariant_of-self c = grind (arith, renewed_kept, fresh_statistics_queue)
