-- A queue that is served stays so.
use Rattle.std.proofs.Common.{◌≡◌, ◌∙◌, ℕ, Bool, true, false, None}
use Rattle.std.specs.Prelude.{nat_lt}
use Rattle.vb_core.specs.declared.{kinds.Kind.Kind, device.Device.Device}
use Rattle.vb_core.specs.{Devices.{ring_of, call_denial, queue_denial}, Using.use_denial}
use Rattle.vb_monitor.{specs.Giving.after_use, proofs.TurnEnds.moves}

opened : (kind : Kind) (known fits : Bool) (d : Device) →
    call_denial kind known fits d ≡ None → queue_denial kind d ≡ None
opened kind true true d e = e
opened kind false fits d e = absurd cc
opened kind true false d e = absurd cc

pub used_open : (kind : Kind) (head : ℕ) (d : Device) → use_denial kind head d ≡ None →
    queue_denial kind (after_use kind d) ≡ None
used_open kind head d e =
    (moves kind d).used_denial ∙ opened kind true (nat_lt head (ring_of kind d).size) d e
