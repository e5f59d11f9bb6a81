use Rattle.{std.proofs.Common.{◌≡◌, take}, vb_run.specs.Notes.replies_in}
use Rattle.vb_run.proofs.report.GuestReport.replies.Given as goal

abbrev pub invariant-loop-note : goal.invariant-loop-note
invariant-loop-note l =
    l.replies.items ≡ replies_in l.cpu (take l.note-index l.self.history.items)
