use Rattle.vb_virtio.specs.Layout.{reserved_pages}
use Rattle.std.proofs.Common.{◌-◌}
use Rattle.vb_guest.proofs.lives.+supply_from.Given as goal

abbrev pub decreases-supply_from : goal.decreases-supply_from
decreases-supply_from g l = reserved_pages l.shape.queue_size - l.page
