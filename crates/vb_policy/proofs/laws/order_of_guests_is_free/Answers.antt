use Rattle.vb_policy.proofs.Alike.{alike, alike_at}
use Rattle.vb_policy.proofs.laws.order_of_guests_is_free.Goals as goal

pub returns : goal.returns
returns c = record { decisions = alike; targets = alike_at }
