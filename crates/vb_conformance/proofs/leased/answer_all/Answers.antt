use Rattle.std.proofs.Common.{◌≡◌, refl, ap, ◌∙◌}
use denote.Param.Object.{read_made}
use Rattle.vb_ram.{specs.Pages.Pages, specs.Part.Part}
use Rattle.vb_command.proofs.Passes.{leased_unused}
use Rattle.vb_conformance.proofs.leased.answer_all.OwnLists.{own-1, at-1-1, at-1-2}
use Rattle.vb_conformance.proofs.leased.answer_all.Goals as goal

pub play_on-requires : goal.play_on-requires
play_on-requires c = let held = c.in_ok-frames.ensures in
    let device = c.in_ok-device-in-Some-Paced.device.value in
    let box = c.into_dyn_box in
    let part : (own-1.entry box.result.vtable).1.GuestBytes.part box.result.value
    ≡ (own-1.entry at-1-1).1.GuestBytes.part device = read_made own-1
    (own-1.entry at-1-1) at-1-1 refl Part (λ entry made. entry.1.GuestBytes.part made)
    box.result.vtable box.result.value device box.ensures.1 in
    let mem : (own-1.entry box.result.vtable).1.GuestBytes.mem box.result.value
    ≡ (own-1.entry at-1-1).1.GuestBytes.mem device = read_made own-1
    (own-1.entry at-1-1) at-1-1 refl Pages (λ entry made. entry.1.GuestBytes.mem made)
    box.result.vtable box.result.value device box.ensures.1 in
    rw (part, mem, c.in_ok-device-in-Some-Paced.ensures.ok, c.new-device.ensures.mem, c.new-device.ensures.part) (
      leased_unused c.new.result.mem c.new.result.part c.in_ok-frames.pass.held
          c.new.ensures.unused,
      ap (λ (p : Part). p.own) c.new-device.ensures.part ∙ held,
    )

pub play_on-requires-in_default : goal.play_on-requires-in_default
play_on-requires-in_default c = let held = c.in_ok-frames.ensures in
    let device = c.in_ok-device-in_default.device.value in
    let box = c.into_dyn_box-in_default in
    let part : (own-1.entry box.result.vtable).1.GuestBytes.part box.result.value
    ≡ (own-1.entry at-1-2).1.GuestBytes.part device = read_made own-1
    (own-1.entry at-1-2) at-1-2 refl Part (λ entry made. entry.1.GuestBytes.part made)
    box.result.vtable box.result.value device box.ensures.1 in
    let mem : (own-1.entry box.result.vtable).1.GuestBytes.mem box.result.value
    ≡ (own-1.entry at-1-2).1.GuestBytes.mem device = read_made own-1
    (own-1.entry at-1-2) at-1-2 refl Pages (λ entry made. entry.1.GuestBytes.mem made)
    box.result.vtable box.result.value device box.ensures.1 in
    rw (part, mem, c.in_ok-device-in_default.ensures.ok, c.new-device-in_default.ensures.mem, c.new-device-in_default.ensures.part) (
      leased_unused c.new-in_default.result.mem
          c.new-in_default.result.part c.in_ok-frames.pass.held c.new-in_default.ensures.unused,
      ap (λ (p : Part). p.own) c.new-device-in_default.ensures.part ∙ held,
    )
