use Rattle.std.proofs.Common.{◌∙◌, sym}
use Rattle.vb_core.{specs.Report.is_beyond, proofs.PieceLemmas.any_in}
use Rattle.vb_core.proofs.report.is_any_beyond.Goals as goal

pub returns : goal.returns
returns c = c.any_beyond.ensures ∙ sym (any_in is_beyond c.args.pieces.now)
