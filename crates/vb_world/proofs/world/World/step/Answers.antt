use Rattle.vb_world.proofs.world.World.step.Goals as goal

pub returns-in-Plug : goal.returns-in-Plug
returns-in-Plug g c = λ w host. rw c.in-Plug.is (c.plug.ensures w host)

pub returns-in-Guest : goal.returns-in-Guest
returns-in-Guest g c = λ w host. rw c.in-Guest.is (c.call.ensures w host)

pub returns-in-Query : goal.returns-in-Query
returns-in-Query g c = λ w host. rw c.in-Query.is (w, host, c.query.ensures w host)

pub returns-in-Frames : goal.returns-in-Frames
returns-in-Frames g c = λ w host. rw c.in-Frames.is (w, host, c.count_frames.ensures w host)

pub returns-in-Unplug : goal.returns-in-Unplug
returns-in-Unplug g c = λ w host. rw c.in-Unplug.is (c.unplug.ensures w host)

pub returns-in-Restart : goal.returns-in-Restart
returns-in-Restart g c = λ w host. rw c.in-Restart.is (c.restart.ensures w host)

pub returns-in-Balance : goal.returns-in-Balance
returns-in-Balance g c = λ w host. rw c.in-Balance.is (c.balance.ensures w host)
