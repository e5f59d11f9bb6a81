use Rattle.std.{proofs.Common.{◌≡◌, None, true, rules}, specs.Prelude.nat_lt}
use Rattle.vb_core.{specs.Devices.ring_of, specs.Using.use_denial, proofs.DenialLemmas.open_call}
use Rattle.vb_core.proofs.device.Device.use_chain.Goals as goal

pub used_entry-entry-requires : goal.used_entry-entry-requires
used_entry-entry-requires c =
    let none : use_denial c.args.kind c.args.head c.args.self.now ≡ None = search rules in
    (open_call c.args.kind true (nat_lt c.args.head (ring_of c.args.kind c.args.self.now).size)
    c.args.self.now none).place
