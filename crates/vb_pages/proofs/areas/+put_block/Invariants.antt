use Rattle.std.proofs.Common.{◌-◌}
use Rattle.vb_pages.proofs.areas.+put_block.Given as goal

abbrev pub decreases-put_block : goal.decreases-put_block
decreases-put_block l = 9 - l.order
