use Rattle.std.proofs.{Common.arith, lemmas.List.{same_lists, length-replicate, get_or-replicate}}
use Rattle.vb_driver.proofs.queue.forget_all.Goals as goal

pub returns : goal.returns
returns c = grind (arith, same_lists, length-replicate, get_or-replicate)
