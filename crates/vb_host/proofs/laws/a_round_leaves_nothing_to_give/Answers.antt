use Rattle.vb_host.proofs.Receiving.{waiters_go_deeper}
use Rattle.vb_host.proofs.Serving.{own_moves_change_none, rounds_pay, waits_for_pages}
use Rattle.vb_host.proofs.laws.a_round_leaves_nothing_to_give.Goals as goal

pub returns : goal.returns
returns c = record { pay = rounds_pay; own = own_moves_change_none; waits = waits_for_pages; deeper = waiters_go_deeper }
