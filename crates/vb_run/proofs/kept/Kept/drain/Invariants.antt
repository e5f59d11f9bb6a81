use Rattle.{std.proofs.Common.◌≡◌, vb_run.specs.{Past.IsSame, Entries.entries_by}}
use Rattle.vb_model.specs.declared.calls.Actor.TheVariants.{Balancer}
use Rattle.vb_run.proofs.kept.Kept.drain.Given as goal

abbrev pub invariant-loop : goal.invariant-loop
invariant-loop g l = record {
  same : IsSame l.initial.self l.self;
  balanced : entries_by Balancer l.self.history ≡ entries_by Balancer l.initial.self.history;
}
