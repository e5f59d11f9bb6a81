-- Chains that are used (VIRTIO 1.1, 2.6.8).
use Rattle.std.specs.Prelude.{ℕ, true, nat_lt, Option}
use Rattle.vb_core.specs.declared.kinds.Kind.{Kind}
use Rattle.vb_core.specs.declared.device.Denial.{Denial}
use Rattle.vb_core.specs.declared.device.Device.{Device}
use Rattle.vb_core.specs.Devices.{ring_of, call_denial}

-- What the use of a chain from this head is refused for.
abbrev pub use_denial : Kind → ℕ → Device → Option Denial
use_denial kind head d = call_denial kind true (nat_lt head (ring_of kind d).size) d
