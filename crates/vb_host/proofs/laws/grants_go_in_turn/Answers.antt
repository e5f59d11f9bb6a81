use Rattle.vb_host.proofs.Grants.{in_turn, comes_last, turns_rise}
use Rattle.vb_host.proofs.Lines.{lines_order}
use Rattle.vb_host.proofs.laws.grants_go_in_turn.Goals as goal

pub returns : goal.returns
returns c = record { first = in_turn; turns = turns_rise; last = comes_last; lines = lines_order }
