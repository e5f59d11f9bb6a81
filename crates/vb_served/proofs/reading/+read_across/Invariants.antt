use Rattle.std.proofs.Common.{length}
use Rattle.vb_served.proofs.reading.+read_across.Given as goal

abbrev pub decreases-read_across : goal.decreases-read_across
decreases-read_across g l = length l.out.now
