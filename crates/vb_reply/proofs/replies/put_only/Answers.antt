use Rattle.vb_reply.proofs.Putting.{put_in_all}
use Rattle.vb_reply.proofs.replies.put_only.Goals as goal

pub returns : goal.returns
returns g c = put_in_all _ (g.W.Write.contents c.put_reply.new.out) _ _ _ _ c.requires
    c.in_ok-put_reply.ensures c.in_ok-release.ensures.written
