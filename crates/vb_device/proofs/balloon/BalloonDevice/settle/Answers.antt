use Rattle.std.proofs.Common.{◌≡◌, ◌∙◌, ℕ, Bool, None, Some, get_or, true, sym, ap, subst, rules}
use Rattle.{std.proofs.Common.List, vb_device.specs.{Base.{queue_at, IsBase}, State.DeviceState}}
use Rattle.std.{specs.Prelude.{length, slice_get, vec_capacity}, proofs.Math.ListN.set}
use Rattle.vb_virtio.specs.declared.statistics.LastStatistics.{LastStatistics}
use Rattle.vb_virtio.specs.Queues.{has_chains, Request}
use Rattle.vb_virtio.specs.Status.{contains, driver_ok}
use Rattle.vb_ram.specs.Pages.{Pages}
use Rattle.{vb_status.specs.Bits.{status_bits, feature_bits}, vb_device.proofs.Marks.after-length}
use Rattle.vb_device.specs.{Calls.without_frames, BaseCalls.queue_refusal, QueueState.QueueState}
use Rattle.vb_device.proofs.Finishes.{without_taken, base_used, has_pages, can_use, kept_length}
use Rattle.vb_device.proofs.{FourQueues.entry_is, TakesBy.{queue_known, queue_status, status_ok}}
use Rattle.vb_device.proofs.balloon.BalloonDevice.settle.Goals as goal

pub invariant_of-self : goal.invariant_of-self
invariant_of-self g c = let q : ℕ = c.args.queue in
    let s : ℕ = status_bits c.self.inside.status in
    let qs : List QueueState = c.self.inside.queues in
    let r : Request = c.in_ok-request.request.now in
    let ok : queue_refusal q s ≡ None = search rules in
    let known : has_chains q ≡ true = queue_known q s ok in
    let at = λ (d : QueueState). ap (λ (i : ℕ). get_or qs i d) c.index_of-place.ensures.place
    ∙ entry_is q qs d c.self.invariant.0.four known in
    let there : slice_get (queue_at q qs).taken c.args.index ≡ Some r =
    ap (λ (x : QueueState). slice_get x.taken c.args.index) (sym (at c.index-self-place.result))
    ∙ c.in_ok-request.ensures.value in
    let here = ap
    (λ (x : QueueState). slice_get x.taken c.args.index) (at c.index-self-place-2.result) ∙ there in
    let count : length c.take_out.new.ram ≡ length c.self.inside.ram = ap (λ (m : Pages). length m)
    (c.take_out.ensures.mem r here) ∙ kept_length _ r.pages c.self.inside.ram in
    let left : c.take_out.new.self ≡ without_taken (queue_at q qs) c.args.index =
    c.take_out.ensures.taken
    ∙ ap (λ (x : QueueState). without_taken x c.args.index) (at c.index-self-place-2.result) in (
      subst (λ (i : ℕ). IsBase c.take_out.new.ram s c.self.inside.queue_size
          (set qs i c.take_out.new.self) (vec_capacity c.take_out.new.loose))
          (sym c.index_of-place.ensures.place)
          (base_used q c.self.inside.ram c.take_out.new.ram s c.self.inside.queue_size _ _ qs
          c.take_out.new.self c.self.invariant.0 known count c.take_out.ensures.capacity
          (has_pages c.self.inside.ram (queue_at q qs).taken c.args.index r
          (c.self.invariant.0.each q known).none there)
          (ap (λ (x : QueueState). x.number) left)
          (ap (λ (x : QueueState). x.ring.layout) left) (ap (λ (x : QueueState). x.ring.size) left)
          (ap (λ (x : QueueState). x.ring.ready) left)),
      ap (λ (flags : List Bool). length flags) (c.take_out.ensures.ballooned r here)
          ∙ (after-length _ r.pages c.self.inside.ballooned ∙ (c.self.invariant.1 ∙ sym count)),
    )

pub returns-clause-ready : goal.returns-clause-ready
returns-clause-ready g c = let q : ℕ = c.args.queue in
    let s : ℕ = status_bits c.self.inside.status in
    let qs : List QueueState = c.self.inside.queues in
    let r : Request = c.in_ok-request.request.now in
    let last : LastStatistics =
    record { free = c.self.inside.last.free; total = c.self.inside.last.total } in
    let ok : queue_refusal q s ≡ None = search rules in
    let known : has_chains q ≡ true = queue_known q s ok in
    let at = λ (d : QueueState). ap (λ (i : ℕ). get_or qs i d) c.index_of-place.ensures.place
    ∙ entry_is q qs d c.self.invariant.0.four known in
    let here = ap (λ (x : QueueState). slice_get x.taken c.args.index) (at c.index-self-place-2.result
    ∙ sym (at c.index-self-place.result)) ∙ c.in_ok-request.ensures.value in
    let is = rw (at c.index-self-place-2.result) at (c.take_out.ensures.was r here) in
    let driver : contains c.args.self.now.part.status driver_ok ≡ true =
    ap (λ (v : DeviceState). contains v.part.status driver_ok) (sym c.self.view_is)
    ∙ status_ok s (queue_status q s ok) in
    let backed = rw (← c.self.view_is) at (c.requires.backed driver) in
    rw c.head-head.ensures (rw c.index_of-place.ensures.place
    (can_use q r.head r.pages c.self.inside.ram c.take_out.new.ram s
    (feature_bits c.self.inside.features) c.self.inside.target c.self.inside.actual
    c.self.inside.queue_size _ qs c.take_out.new.self last c.take_out.new.loose.items
    c.take_out.new.ballooned g.P.Pace.IS_PACED c.self.invariant.0 known (queue_status q s ok)
    is.head is.above (c.take_out.ensures.mem r here
    ∙ ap (λ (n : ℕ). without_frames n r.pages c.self.inside.ram)
    (ap (λ (x : QueueState). x.number) (at c.index-self-place-2.result)
    ∙ (c.self.invariant.0.each q known).number)) backed))
