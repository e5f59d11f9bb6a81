use Rattle.std.proofs.Common.{◌≡◌, ◌∙◌, ◌<◌, ◌^◌, ◌*◌, ap, sym, subst, arith, ℕ, length, None}
use Rattle.vb_core.specs.declared.ring.Virtqueue.{Virtqueue}
use Rattle.vb_core.specs.declared.device.Device.{Device}
use Rattle.vb_core.specs.Devices.{ring_of}
use Rattle.vb_ring.specs.Layout.{IsBacked, layout_of}
use Rattle.vb_virtio.specs.Layout.{ring_page}
use Rattle.vb_request.specs.Refusals.{take_refusal_by}
use Rattle.vb_status.specs.Bits.{status_bits, feature_bits}
use Rattle.vb_device.specs.declared.serving.ServedChain.{ServedChain}
use Rattle.vb_core.specs.Kinds.{queue_of}
use Rattle.vb_core.specs.declared.settings.TheConstants.{MEMORY_LIMIT}
use Rattle.vb_served.specs.Registers.{device_for, ring_for}
use Rattle.vb_served.specs.One.{ServesNext, byte, head_in}
use Rattle.vb_served.specs.Tied.{ServesKind, answer_of}
use Rattle.vb_served.proofs.RegisterLemmas.{ring_is, low_ring}
use Rattle.vb_served.proofs.ServerLemmas.{IsAsked, device_of, head_for, serves_kind}
use Rattle.vb_served.proofs.server.serve_over.Goals as goal

pub head_of-head-requires-clause-low : goal.head_of-head-requires-clause-low
head_of-head-requires-clause-low c = subst (λ (x : Virtqueue). x.avail < 2 ^ 63)
    (sym (ring_is c.kind_of-kind.result c.args.registers c.args.queue c.long-pages.result
    c.device_for-device.result c.ring.result c.device_for-device.ensures c.ring.ensures))
    (low_ring c.args.registers c.args.queue c.requires.size)

pub returns : goal.returns
returns c =
    let kind = c.kind_of-kind.result in
    let r = c.args.registers in
    let s = c.args.memory.now in
    let same = sym c.kind_of-kind.ensures in
    let pages : c.long-pages.result ≡ length s.mem = c.long-pages.ensures.is ∙ c.pages.ensures in
    let few : 4096 * length s.mem < MEMORY_LIMIT =
    omega (arith, pages, c.long-pages.ensures.few) in
    let made : c.device_for-device.result ≡ device_of kind r s = c.device_for-device.ensures
    ∙ (ap (λ (n : ℕ). device_for r c.args.queue n) pages
    ∙ ap (λ (q : ℕ). device_for r q (length s.mem)) same) in
    let ring : c.ring.result ≡ ring_for r (queue_of kind) = ring_is kind r (queue_of kind) (length s.mem)
    c.device_for-device.result c.ring.result made c.ring.ensures in
    let asked : IsAsked kind r s = record {
      size = c.requires.size;
      backed = subst (λ (q : ℕ). IsBacked s.mem (layout_of (ring_page r.queue_size q) r.queue_size)) same
          c.requires.backed;
      loose = c.requires.none;
      few = few;
      avail = subst (λ (n : ℕ). n < 65536) c.short-avail.ensures.is c.short-avail.ensures.few;
      used = subst (λ (n : ℕ). n < 65536) c.short-used.ensures.is c.short-used.ensures.few;
      open_so = subst (λ (q : ℕ). take_refusal_by q (status_bits r.status) (feature_bits r.features) ≡ None)
          same c.requires.open_so;
    } in
    let next = subst (λ (x : Device). ServesNext kind x c.serve_in_room-outcome.new.device
    c.serve_in_room-outcome.result s c.serve_in_room-outcome.new.memory) made
    c.serve_in_room-outcome.ensures in
    let head : c.head_of-head.result ≡ head_for kind r s = c.head_of-head.ensures
    ∙ ap (λ (x : Virtqueue). head_in (byte s) x) ring in
    let served : ServedChain = record {
      next_avail = c.ring-ring.result.next_avail;
      next_used = c.ring-ring.result.next_used;
      held = c.held_by.result;
      answer = c.answer_of-answer.result;
    } in
    record {
      served = subst (λ (q : ℕ). ServesKind r q s c.serve_in_room-outcome.new.memory served) c.kind_of-kind.ensures
          (serves_kind kind r c.serve_in_room-outcome.new.device c.serve_in_room-outcome.result s
          c.serve_in_room-outcome.new.memory served asked next
          (ap (λ (x : Virtqueue). x.next_avail) c.ring-ring.ensures)
          (ap (λ (x : Virtqueue). x.next_used) c.ring-ring.ensures) c.held_by.ensures
          (c.answer_of-answer.ensures
          ∙ (ap (λ (x : Virtqueue). answer_of c.serve_in_room-outcome.result.why r.next_avail x.next_avail
          c.head_of-head.result) c.ring-ring.ensures
          ∙ ap (λ (h : ℕ). answer_of c.serve_in_room-outcome.result.why r.next_avail
          (ring_of kind c.serve_in_room-outcome.new.device).next_avail h) head)));
    }
