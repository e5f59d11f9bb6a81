use Rattle.std.proofs.Common.{◌∙◌, ap, Bool, ◌&&◌}
use Rattle.vb_virtio.specs.Limits.{is_between}
use Rattle.vb_ram.proofs.config.is_queue_size.Goals as goal

pub returns : goal.returns
returns c = ap (λ (b : Bool). b && c.is_power_of_two.result) c.is_between.ensures
    ∙ ap (λ (b : Bool). is_between 2 256 c.args.number && b) c.is_power_of_two.ensures
