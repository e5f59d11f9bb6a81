use Rattle.{std.proofs.Common.{◌≡◌, take, map}, vb_run.specs.Notes.history_of}
use Rattle.vb_run.proofs.report.GuestReport.entries.Given as goal

abbrev pub invariant-loop-note : goal.invariant-loop-note
invariant-loop-note l =
    l.entries.items
    ≡ history_of l.guest (map (λ calls. calls.items) l.plan.scripts.items)
    (take l.note-index l.self.history.items)
