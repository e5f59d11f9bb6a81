use Rattle.vb_request.proofs.RequestPages.{request_pages}
use Rattle.vb_request.proofs.laws.a_request_names_pages_of_the_guest.Goals as goal

pub returns : goal.returns
returns c = request_pages
