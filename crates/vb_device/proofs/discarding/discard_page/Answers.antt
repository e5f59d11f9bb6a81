use Rattle.{std.proofs.Common.arith, vb_device.proofs.Discards.loses_found}
use Rattle.vb_device.proofs.discarding.discard_page.Goals as goal

pub put_loose-requires : goal.put_loose-requires
put_loose-requires c = omega (
  arith,
  loses_found c.args.ram.now c.discard-frame.new.self c.args.page c.discard-frame.result
      c.discard-frame.ensures.frame c.discard-frame.ensures.after c.discard-frame.ensures.none,
  c.requires.room,
)

pub returns-clause-sum : goal.returns-clause-sum
returns-clause-sum c = grind (arith, loses_found)
