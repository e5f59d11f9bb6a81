-- How what a driver or a device answers is replied.
use Rattle.std.specs.Prelude.{ℕ, Bool, true, false, List, Option, Some, None, Result, Ok, Err}
use Rattle.vb_virtio.specs.declared.refusals.Refusal.{Refusal}
use Rattle.vb_virtio.specs.declared.refusals.Refusal.TheVariants.{NoMemory}
use Rattle.vb_model.specs.declared.replies.Reply.{Reply}
use Rattle.vb_model.specs.declared.replies.Reply.TheVariants.{Ready, Done, Page, ReadBytes, Posted}
use Rattle.vb_model.specs.declared.replies.Reply.TheVariants.{Taken, Empty, Finished, NotUsed}
use Rattle.vb_model.specs.declared.replies.Reply.TheVariants.{Reaped, Swept, Pages, Balloon}
use Rattle.vb_model.specs.declared.replies.Reply.TheVariants.{Refused, Idle, Worked, Filled}
use Rattle.vb_model.specs.declared.replies.Reply.TheVariants.{Asked, Statistics as Memory}
use Rattle.vb_model.specs.declared.places.PageRun.{PageRun}
use Rattle.vb_model.specs.declared.replies.BalloonState.{BalloonState}
use Rattle.vb_model.specs.declared.replies.Reply.TheVariants.{Served}
use Rattle.vb_guest.specs.declared.served.Served.{Served as ServedChains}
use Rattle.vb_request.specs.declared.statistics.Statistics.{Statistics}
use Rattle.vb_device.specs.declared.worked.Worked.{Worked as WorkedPage}
use Rattle.vb_driver.specs.declared.answers.Posted.{Posted as PostedRequest}
use Rattle.vb_driver.specs.declared.answers.Reaped.{Reaped as ReapedRequest}

abbrev pub ready_reply : {T : Type 0} → Result T Refusal → Reply
ready_reply (Ok x) = Ready
ready_reply (Err why) = Refused why

abbrev pub bytes_reply : Result (List ℕ) Refusal → Reply
bytes_reply (Ok bytes) = ReadBytes bytes
bytes_reply (Err why) = Refused why

abbrev pub taken_reply : Result (Option ℕ) Refusal → Reply
taken_reply (Ok None) = Empty
taken_reply (Ok (Some head)) = Taken head
taken_reply (Err why) = Refused why

abbrev pub worked_reply : Result (Option WorkedPage) Refusal → Reply
worked_reply (Ok None) = Idle
worked_reply (Ok (Some worked)) = Worked worked.page worked.freed
worked_reply (Err why) = Refused why

abbrev pub finished_reply : Result ℕ Refusal → Reply
finished_reply (Ok head) = Finished head
finished_reply (Err why) = Refused why

abbrev pub served_reply : Result ServedChains Refusal → Reply
served_reply (Ok served) = Served served.chains served.broken
served_reply (Err why) = Refused why

abbrev pub swept_reply : Result Bool Refusal → Reply
swept_reply (Ok freed) = Swept freed
swept_reply (Err why) = Refused why

abbrev pub page_reply : Result ℕ Refusal → Reply
page_reply (Ok start) = Page start
page_reply (Err why) = Refused why

abbrev pub posted_reply : Result PostedRequest Refusal → Reply
posted_reply (Ok posted) = Posted posted.head posted.pages
posted_reply (Err why) = Refused why

abbrev pub reaped_reply : Result (Option ReapedRequest) Refusal → Reply
reaped_reply (Ok None) = NotUsed
reaped_reply (Ok (Some reaped)) = Reaped reaped.head reaped.pages
reaped_reply (Err why) = Refused why

abbrev pub filled_reply : Result Bool Refusal → Reply
filled_reply (Ok true) = Filled
filled_reply (Ok false) = NotUsed
filled_reply (Err why) = Refused why

abbrev pub asked_reply : {T : Type 0} → Result T Refusal → Reply
asked_reply (Ok x) = Asked
asked_reply (Err why) = Refused why

abbrev pub done_reply : {T : Type 0} → Result T Refusal → Reply
done_reply (Ok x) = Done
done_reply (Err why) = Refused why

-- A list of runs, which may find no memory.
abbrev pub runs_reply : {E : Type 0} → Result (List PageRun) E → Reply
runs_reply (Ok found) = Pages found
runs_reply (Err e) = Refused NoMemory

abbrev pub balloon_reply : BalloonState → Reply
balloon_reply state = Balloon state

abbrev pub statistics_reply : Statistics → Reply
statistics_reply said = Memory (record { free = said.free; total = said.total })
