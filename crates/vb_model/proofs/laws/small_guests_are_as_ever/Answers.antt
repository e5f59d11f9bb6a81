use Rattle.vb_model.proofs.Sizes.{small_shape, small_configs}
use Rattle.vb_model.proofs.laws.small_guests_are_as_ever.Goals as goal

pub returns : goal.returns
returns c = record { shape = small_shape; configs = small_configs }
