use Rattle.std.proofs.Common.{length}
use Rattle.vb_reply.proofs.held.+put_digits.Given as goal

abbrev pub decreases-put_digits : goal.decreases-put_digits
decreases-put_digits g l = length l.bytes.now
