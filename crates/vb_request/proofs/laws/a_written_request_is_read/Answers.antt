use Rattle.vb_request.proofs.OneRequest.{one_request}
use Rattle.vb_request.proofs.laws.a_written_request_is_read.Goals as goal

pub returns : goal.returns
returns c = one_request
