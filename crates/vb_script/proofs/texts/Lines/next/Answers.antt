use Rattle.std.proofs.Common.{◌≡◌, ◌≤◌, false, length, rules, ◌∙◌}
use Rattle.vb_script.{specs.Texts.is_skipped, proofs.Numbered.{numbered_line, numbered_none}}
use Rattle.vb_script.proofs.texts.Lines.next.Goals as goal

pub returns-then-not-is_skipped-clause-line : goal.returns-then-not-is_skipped-clause-line
returns-then-not-is_skipped-clause-line c =
    let kept : is_skipped c.first_line.result.0.now ≡ false = search rules in
    c.loop-text.invariant.lines ∙ numbered_line
    _ c.loop-text.self.rest.now _ c.first_line.result.1.now c.first_line.ensures.lines kept

pub returns-clause-line : goal.returns-clause-line
returns-clause-line c = let none : length c.loop-text.self.rest.now ≤ 0 = search rules in
    c.loop-text.invariant.lines ∙ numbered_none _ c.loop-text.self.rest.now none
