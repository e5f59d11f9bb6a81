use Rattle.vb_host.proofs.Preferring.{becomes_preferred, just_one, one_proceeds, one_proceeds_by_steps, stays_preferred}
use Rattle.vb_host.proofs.laws.one_proceeds.Goals as goal

pub returns : goal.returns
returns c = record { just_one = just_one; preferred = becomes_preferred; stays = stays_preferred; grants = one_proceeds; steps = one_proceeds_by_steps }
