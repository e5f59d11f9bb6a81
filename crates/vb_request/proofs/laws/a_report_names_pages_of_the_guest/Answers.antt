use Rattle.vb_request.proofs.Reports.{report_pages}
use Rattle.vb_request.proofs.laws.a_report_names_pages_of_the_guest.Goals as goal

pub returns : goal.returns
returns c = report_pages
