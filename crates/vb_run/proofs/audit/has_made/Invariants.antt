use Rattle.std.{proofs.Common.{◌≡◌, ◌≤◌, [], true, length, take}, specs.List.list_all}
use Rattle.vb_model.specs.declared.calls.Actor.TheVariants.{Balancer}
use Rattle.vb_run.{specs.Entries.entries_by, specs.Notes.history_of, specs.Rounds.is_of_round}
use Rattle.vb_run.proofs.audit.has_made.Given as goal

abbrev pub invariant-loop-note : goal.invariant-loop-note
invariant-loop-note l = record {
  made : entries_by Balancer (history_of l.guest [] (take l.note-index l.history))
      ≡ take l.place l.expected;
  within : l.place ≤ length l.expected;
  of_rounds : list_all is_of_round (take l.place l.expected) ≡ true;
}
