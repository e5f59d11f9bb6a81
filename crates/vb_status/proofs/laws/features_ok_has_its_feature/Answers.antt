use Rattle.vb_status.{specs.Agreement.unplugged, proofs.Accepted.{requests_keep, at_first}}
use Rattle.vb_status.proofs.laws.features_ok_has_its_feature.Goals as goal

pub returns : goal.returns
returns c = record {
  version = λ requests last leads e. requests_keep requests unplugged last leads at_first e;
}
