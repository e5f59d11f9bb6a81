use Rattle.vb_host.proofs.Deferring.{all_pass, defers_none, defers_to_last, ends_with_its_wait, others_stay, stays_deferred}
use Rattle.vb_host.proofs.Ordered.{none_passes}
use Rattle.vb_host.proofs.laws.one_lets_others_pass.Goals as goal

pub returns : goal.returns
returns c = record { none = defers_none; line = defers_to_last; all = all_pass; others = others_stay; order = none_passes; stays = stays_deferred; ends = ends_with_its_wait }
