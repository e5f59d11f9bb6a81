use Rattle.{std.proofs.Common.arith, vb_pages.proofs.ServingLemmas.serves_later}
use Rattle.vb_pages.proofs.free.FreePages.take.Goals as goal

pub returns-clause-serves : goal.returns-clause-serves
returns-clause-serves c = grind (arith, serves_later)
