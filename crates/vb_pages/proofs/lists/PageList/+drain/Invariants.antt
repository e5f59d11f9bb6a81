use Rattle.std.proofs.Common.{length}
use Rattle.vb_pages.proofs.lists.PageList.+drain.Given as goal

abbrev pub decreases-drain : goal.decreases-drain
decreases-drain l = length l.self.now
