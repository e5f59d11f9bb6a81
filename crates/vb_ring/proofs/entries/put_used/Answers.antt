use Rattle.std.proofs.Common.{arith, refl}
use Rattle.vb_ram.proofs.FieldLaws.{put_at}
use Rattle.vb_ring.proofs.Puts.{puts_used}
use Rattle.vb_ring.proofs.entries.put_used.Goals as goal

pub returns-clause-puts : goal.returns-clause-puts
returns-clause-puts g c = puts_used _ _ _ _ c.args.layout c.args.size c.args.next c.args.head
    c.args.len (put_at 4 _ _ _ _ _ _ _ c.write_u32.ensures.put (omega arith) (omega arith))
    (put_at 4 _ _ _ _ _ _ _ c.write_u32-2.ensures.put (omega arith) refl)
    (put_at 2 _ _ _ _ _ _ _ c.write_u16.ensures.put (omega arith) (omega arith))
