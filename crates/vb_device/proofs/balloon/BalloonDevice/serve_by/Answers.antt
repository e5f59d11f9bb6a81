use Rattle.std.proofs.Common.{ℕ, ◌≡◌, ◌∙◌, ◌<◌, ◌≤◌, true, None, [], ap, refl, sym, get_or, length, arith}
use Rattle.vb_virtio.specs.declared.statistics.LastStatistics.{LastStatistics}
use Rattle.vb_virtio.specs.Queues.{has_chains}
use Rattle.vb_virtio.specs.Status.{contains, driver_ok}
use Rattle.vb_request.specs.declared.statistics.Statistics.{Statistics}
use Rattle.vb_status.specs.Bits.{status_bits, feature_bits}
use Rattle.vb_request.specs.Refusals.{take_refusal_by}
use Rattle.vb_device.specs.State.{DeviceState}
use Rattle.vb_device.specs.Base.{queue_at}
use Rattle.vb_device.specs.ServedChains.{gone_on}
use Rattle.vb_device.specs.Conditions.{serve_refusal}
use Rattle.vb_device.proofs.{FourQueues.entry_is, ServedChains.{base_served, advanced_is, serve_known, serve_takes, some_memory}}
use Rattle.vb_device.proofs.balloon.BalloonDevice.serve_by.{Goals.{After-serve_chain-served, After-go_on}, Given.Over}
use Rattle.vb_device.proofs.balloon.BalloonDevice.serve_by.Goals as goal

abbrev was : Statistics → LastStatistics
was last = record { free = last.free; total = last.total }

-- what is served isn't refused
unrefused : (g : Over) (c : After-serve_chain-served g)
    → (serve_refusal c.args.queue c.args.self.now.part ≡ None) × (has_chains c.args.queue ≡ true)
    × (contains (status_bits c.self.inside.status) driver_ok ≡ true)
    × (0 < length c.self.inside.ram)
unrefused g c =
    let none : serve_refusal c.args.queue c.args.self.now.part ≡ None =
    sym c.serve_refusal.ensures ∙ c.in_default.is in
    let known = serve_known c.args.queue c.args.self.now.part none in
    let backed = rw (← c.self.view_is) at (c.requires.backed known.1) in
    let driver : contains (status_bits c.self.inside.status) driver_ok ≡ true =
    rw (← c.self.view_is) at known.1 in
    (none, known.0, driver, some_memory c.self.inside.ram _ backed)

-- its queue goes on
goes_on : (g : Over) (c : After-go_on g) → has_chains c.args.queue ≡ true → c.go_on.new.self
    ≡ gone_on c.serve_chain-served.result.next_avail c.serve_chain-served.result.next_used
    c.serve_chain-served.result.held (queue_at c.args.queue c.self.inside.queues)
goes_on g c known = c.go_on.ensures ∙ ap (λ queue. gone_on c.serve_chain-served.result.next_avail
    c.serve_chain-served.result.next_used c.serve_chain-served.result.held queue)
    (ap (λ place. get_or c.self.inside.queues place c.index-self-index_of.result) c.index_of.ensures.place
    ∙ entry_is c.args.queue c.self.inside.queues c.index-self-index_of.result
    c.self.invariant.0.four known)

-- the registers are open to takes
open_so : (q s1 s2 f1 f2 : ℕ) → take_refusal_by q s1 f1 ≡ None → s1 ≡ s2 → f1 ≡ f2 →
    take_refusal_by q s2 f2 ≡ None
open_so q s1 s2 f1 f2 none e f = sym (ap (λ (n : ℕ). take_refusal_by q n f1) e
    ∙ ap (λ (n : ℕ). take_refusal_by q s2 n) f) ∙ none

pub serve_chain-served-requires-clause-open_so : goal.serve_chain-served-requires-clause-open_so
serve_chain-served-requires-clause-open_so g c =
    let none : serve_refusal c.args.queue c.args.self.now.part ≡ None =
    sym c.serve_refusal.ensures ∙ c.in_default.is in
    open_so c.args.queue c.args.self.now.part.status _ c.args.self.now.part.features _
    (serve_takes c.args.queue c.args.self.now.part none)
    c.registers-registers.ensures.status c.registers-registers.ensures.features

pub invariant_of-self : goal.invariant_of-self
invariant_of-self g c =
    let is = unrefused g (goal.at.invariant_of-self g c).After-serve_chain-served in
    let gone = goes_on g (goal.at.invariant_of-self g c).After-go_on is.1 in (
      rw c.index_of.ensures.place (base_served c.args.queue c.serve_chain-served.result.next_avail
          c.serve_chain-served.result.next_used c.serve_chain-served.result.held c.self.inside.ram
          c.serve_chain-served.new.ram (status_bits c.self.inside.status)
          (status_bits c.note_fault.new.status) c.self.inside.queue_size _ _ c.self.inside.queues
          c.go_on.new.self c.self.invariant.0 is.1 is.2 is.3 c.serve_chain-served.ensures.pages
          c.serve_chain-served.ensures.room gone),
      c.serve_chain-served.ensures.marks,
    )

pub returns : goal.returns
returns g c =
    let is = unrefused g (goal.at.returns g c).After-serve_chain-served in
    let gone = goes_on g (goal.at.returns g c).After-go_on is.1 in
    rw (← c.self.view_is) (rw c.index_of.ensures.place
    (rw (advanced_is c.args.queue (status_bits c.self.inside.status)
    (status_bits c.note_fault.new.status) (feature_bits c.self.inside.features) c.self.inside.target
    c.self.inside.actual c.self.inside.queue_size c.serve_chain-served.result
    c.self.inside.queues c.go_on.new.self (was c.self.inside.last) (was c.serve_chain-served.new.last)
    c.self.inside.loose.items c.serve_chain-served.new.loose.items c.self.inside.ballooned
    c.serve_chain-served.new.ballooned g.P.Pace.IS_PACED
    c.self.invariant.0.four is.1 gone c.note_fault.ensures)
    (c.serve_chain-served.ensures.serves _ (rw (← c.self.view_is) at c.registers-registers.ensures)
    (record { loose = refl; ballooned = refl; last = refl }) (rw (← c.self.view_is) at is.0))))
