use Rattle.std.proofs.Common.{◌≡◌, length}
use Rattle.vb_script.{specs.Scripts.{lines_left, told_by}, specs.Texts.{host_told, with_lines}}
use Rattle.vb_script.proofs.reading.read_rest.Given as goal

abbrev pub invariant-loop-line : goal.invariant-loop-line
invariant-loop-line g l = with_lines g.T.Item.language (lines_left l.fn.lines)
    (host_told l.fn.frames) ≡ with_lines g.T.Item.language (lines_left l.lines) (told_by l.reading)

abbrev pub decreases-loop-line : goal.decreases-loop-line
decreases-loop-line g l = length l.lines.rest.now
