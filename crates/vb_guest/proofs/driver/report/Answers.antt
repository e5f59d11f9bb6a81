use Rattle.vb_guest.proofs.{ReportStep.report_step, Asked.{is_large, is_backed}, Kept.report_kept}
use Rattle.vb_guest.proofs.{RogueDriver.report_rogue, Standing.alone_stands}
use Rattle.vb_guest.proofs.driver.report.Goals as goal

pub report-requires : goal.report-requires
report-requires g c = let (keeps, guest, stands) = c.requires in
    record { memory = is_large stands; backed = is_backed stands }

pub returns-clause-step : goal.returns-clause-step
returns-clause-step g c = λ keeps guest stands. let did = c.report.ensures in
    alone_stands stands (report_kept _ did) (report_step did) (report_rogue _ did)
