use Rattle.std.proofs.Common.{◌∙◌, sym, arith}
use Rattle.vb_served.proofs.Frames.{written_backing, written_count}
use Rattle.vb_served.proofs.loose_ram.LooseRam.put.Goals as goal

pub invariant_of-self : goal.invariant_of-self
invariant_of-self c =
    let backing = written_backing c.write.result c.self.inside.ram c.write.new.self _ _ _
    c.write.ensures.bytes c.write.ensures.unwritten in
    let count = written_count c.write.result c.self.inside.ram c.write.new.self _ _ _
    c.write.ensures.bytes c.write.ensures.unwritten in (
      omega (arith, c.self.invariant.0, backing, count),
      omega (arith, c.self.invariant.1, count),
      c.self.invariant.2 ∙ sym count,
    )
