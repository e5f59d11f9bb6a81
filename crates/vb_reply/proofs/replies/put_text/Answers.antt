use Rattle.vb_reply.proofs.replies.put_text.Goals as goal

pub returns-in-Frames : goal.returns-in-Frames
returns-in-Frames g c = rw c.in-Frames.is c.put_two-in-Frames.ensures
