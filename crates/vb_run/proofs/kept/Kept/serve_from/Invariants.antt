use Rattle.std.{proofs.Common.{◌≡◌, ◌<◌}, specs.Prelude.{MatchBool, length}}
use Rattle.vb_run.specs.{Past.{IsSame, NotesService}, Services.{found_nothing, services}}
use Rattle.vb_run.proofs.kept.Kept.serve_from.Given as goal

abbrev pub invariant-loop : goal.invariant-loop
invariant-loop g l = record {
  same : IsSame l.fn.self l.self;
  number : l.number < length services;
  noted : MatchBool (found_nothing l.reply)
      (l.self ≡ record l.fn.self { quiet = l.self.quiet })
      (NotesService l.number l.reply l.fn.self l.self);
}
