use Rattle.std.proofs.Common.{sym}
use Rattle.vb_request.proofs.Reports.{above_reserved}
use Rattle.vb_request.proofs.report.check_report.Goals as goal

pub returns-in-None-clause-above : goal.returns-in-None-clause-above
returns-in-None-clause-above c = above_reserved c.args.reserved c.args.pieces.now (sym c.in-None.ensures)
