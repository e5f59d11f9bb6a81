use Rattle.std.proofs.Common.{◌≡◌, ◌∙◌, List, Bool, None, false, ap, sym, arith, rules}
use Rattle.std.{specs.Prelude.length, proofs.lemmas.List.length-replicate}
use Rattle.vb_virtio.specs.Status.{contains, driver_ok}
use Rattle.vb_ram.specs.Pages.{Pages}
use Rattle.vb_ram.specs.Part.{Part}
use Rattle.vb_ram.{proofs.Limits.config_limits, specs.declared.shape.Shape.Shape}
use Rattle.vb_device.{specs.{State.DeviceState, Base.new_queues}, proofs.FourQueues.base_new}
use Rattle.{vb_device.proofs.Sizes.{size_is_power, size_is}, vb_status.specs.Bits.status_bits}
use Rattle.vb_device.proofs.balloon.BalloonDeviceDevice.attach.Goals as goal

pub new_queues-self-inside-requires : goal.new_queues-self-inside-requires
new_queues-self-inside-requires g c = grind (arith, size_is_power)

pub invariant_of-self : goal.invariant_of-self
invariant_of-self g c =
    let count : length c.in-Ok.ram ≡ c.args.config.pages =
    ap (λ (m : Pages). length m) c.in-Ok.ensures.ok ∙ length-replicate c.args.config.pages None in
    let limits = config_limits c.args.config.pages c.args.config.queue_size c.args.config.processors
    c.requires.config in
    let stopped : contains (status_bits c.self.inside.status) driver_ok ≡ false =
    ap (λ (v : DeviceState). contains v.part.status driver_ok) c.self.view_is ∙
    ap (λ (p : Part). contains p.status driver_ok) c.reset.ensures.part in
    let marks : length c.in_ok-ballooned.ballooned ≡ c.args.config.pages =
    ap (λ (flags : List Bool). length flags) c.in_ok-ballooned.ensures
    ∙ length-replicate c.args.config.pages false in (
      base_new c.in-Ok.ram _ c.args.config.queue_size _ c.new_queues-self-inside.result
          (c.new_queues-self-inside.ensures
          ∙ ap (λ (s : Shape). new_queues s.queue_size) c.shape.ensures)
          (size_is c.args.config.pages c.args.config.queue_size c.args.config.processors
          c.requires.config) (λ h. sym stopped ∙ h) (λ l. omega (arith, count, limits.pages_least))
          (search rules),
      marks ∙ sym count,
    )
