use Rattle.vb_policy.proofs.Enough.{enough, kept_where_enough}
use Rattle.vb_policy.proofs.laws.targets_are_enough.Goals as goal

pub returns : goal.returns
returns c = record { given = enough; kept = kept_where_enough }
