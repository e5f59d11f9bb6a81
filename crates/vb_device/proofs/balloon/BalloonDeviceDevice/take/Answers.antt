use Rattle.{std.proofs.Common.{arith, ◌≡◌, true, None, sym}, vb_device.specs.QueueState.TakesNext}
use Rattle.vb_virtio.specs.declared.statistics.LastStatistics.{LastStatistics}
use Rattle.vb_virtio.specs.Queues.{has_chains}
use Rattle.{vb_status.specs.Bits.{status_bits, feature_bits}, vb_device.proofs.FourQueues.entry_is}
use Rattle.vb_request.specs.{declared.statistics.Statistics.Statistics, Refusals.take_refusal_by}
use Rattle.vb_device.{proofs.TakesBy.{takes_refused, take_known, status_ok}, specs.Base.queue_at}
use Rattle.vb_device.proofs.{TakesBy.{takes_at, base_kept, take_ready}, FromNext.keeps_ring}
use Rattle.vb_device.proofs.balloon.BalloonDeviceDevice.take.{Goals.After-take-taken, Given.Over}
use Rattle.vb_device.proofs.balloon.BalloonDeviceDevice.take.Goals as goal

abbrev was : Statistics → LastStatistics
was last = record { free = last.free; total = last.total }

pub returns-in-Some : goal.returns-in-Some
returns-in-Some g c = takes_refused
    c.args.queue c.args.self.now.mem c.args.self.now.part c.in-Some.why (sym c.in-Some.ensures)

-- the call isn't refused, and what its queue says next is taken
takes_next : (g : Over) (c : After-take-taken g)
    → (take_refusal_by c.args.queue (status_bits c.self.inside.status)
    (feature_bits c.self.inside.features) ≡ None) × (has_chains c.args.queue ≡ true)
    × TakesNext c.args.queue c.self.inside.ram (queue_at c.args.queue c.self.inside.queues)
    c.take-taken.new.self (was c.self.inside.last) (was c.take-taken.new.last) c.take-taken.result
takes_next g c = grind (arith, take_known, entry_is)

pub invariant_of-self : goal.invariant_of-self
invariant_of-self g c = let next = takes_next g (goal.at.invariant_of-self g c).After-take-taken in (
  rw c.index_of-place.ensures.place (base_kept c.args.queue _ _ _ _ _ _ c.take-taken.new.self
      c.self.invariant.0 next.1
      (status_ok (status_bits c.self.inside.status) (take_ready c.args.queue
      (status_bits c.self.inside.status) (feature_bits c.self.inside.features) next.0))
      (keeps_ring c.args.queue _ _ _ (was c.self.inside.last) (was c.take-taken.new.last) _
      (c.self.invariant.0.each c.args.queue next.1).idle next.2.means)),
  c.self.invariant.1,
)

pub returns : goal.returns
returns g c = let next = takes_next g (goal.at.returns g c).After-take-taken in
    rw (← c.self.view_is) (rw c.index_of-place.ensures.place (rw c.note_fault.ensures
    (takes_at c.args.queue _ _ (feature_bits c.self.inside.features) _ _ _ _ _ _
    (was c.self.inside.last) (was c.take-taken.new.last) _ _ _ _ c.self.invariant.0 next.0 next.2)))
