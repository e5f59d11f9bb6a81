use Rattle.vb_reply.proofs.Putting.{written_behind}
use Rattle.vb_reply.proofs.held.put_through.Goals as goal

pub returns : goal.returns
returns g c = written_behind _ (g.W.Write.contents c.release.new.out)
    _ _ _ _ c.in_ok-release.ensures.written c.in_ok-release.ensures.empty c.in_ok-write.ensures
