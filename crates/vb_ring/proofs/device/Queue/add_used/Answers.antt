use Rattle.std.proofs.Common.{◌+◌, ◌%◌}
use Rattle.vb_ring.specs.contracts.device.Queue.{the_view}
use Rattle.vb_ring.{specs.Ends.{DeviceEnd, IsDeviceEnd}, proofs.Assemble.adds_used_by}
use Rattle.vb_ring.proofs.device.Queue.add_used.Goals as goal

pub returns-clause-adds : goal.returns-clause-adds
returns-clause-adds g c = let old : DeviceEnd = the_view c.self.inside in
    let new : DeviceEnd = record old { next_used = (c.self.inside.next_used + 1) % 65536 } in
    let is_end : IsDeviceEnd old = c.self.invariant in rw (← c.self.view_is)
    (adds_used_by (g.G.GuestBytes.mem c.args.ram.now) (g.G.GuestBytes.mem c.put_used.new.ram) old
    c.args.head c.args.len is_end c.put_used.ensures.puts)
