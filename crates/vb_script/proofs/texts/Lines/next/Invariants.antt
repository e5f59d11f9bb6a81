use Rattle.{std.proofs.Common.{◌≡◌, length, ◌≤◌}, vb_script.specs.Texts.{lines_of, numbered}}
use Rattle.vb_script.proofs.texts.Lines.next.Given as goal

abbrev pub invariant-loop-text : goal.invariant-loop-text
invariant-loop-text l = record {
  shorter : length l.self.rest.now ≤ length l.initial.self.rest.now;
  lines : numbered l.initial.self.passed (lines_of l.initial.self.rest.now)
      ≡ numbered l.self.passed (lines_of l.self.rest.now);
}

abbrev pub decreases-loop-text : goal.decreases-loop-text
decreases-loop-text l = length l.self.rest.now
