use Rattle.std.proofs.Common.{ap, ◌%◌, Bool, ◌==◌, ◌&&◌}
use Rattle.vb_ram.proofs.config.are_guest_pages.Goals as goal

pub returns : goal.returns
returns c = ap (λ (b : Bool). b && (c.args.number % 16 == 0)) c.is_between.ensures
