use Rattle.std.proofs.Common.{rules, ◌≡◌, ◌∷◌, refl, true, false, Bool, arith, ap, ◌∙◌}
use denote.Param.Object.{read_made}
use Rattle.vb_command.proofs.ports.run_plan.Goals.{then-is_paced+in-Ok+in_ok-add_port}
use Rattle.vb_command.{proofs.Paces.one_more, proofs.Passes.{leased_unused, new_unheld, next_unheld}}
use Rattle.vb_command.proofs.ports.run_plan.OwnLists.{own-1, at-1-1, at-1-2}
use Rattle.vb_command.proofs.ports.run_plan.Goals.{else-is_paced+in-Ok-new+in_ok-add_port-2}
use Rattle.vb_ram.{specs.Pages.Pages, specs.Part.Part}
use Rattle.vb_command.proofs.ports.run_plan.Goals as goal

pub loop-pace-init : goal.loop-pace-init
loop-pace-init g c = record {
  passes = rw (c.into_iter-passes.ensures.rest, c.in_ok-_frames.ensures.passes) (new_unheld _ 0 _);
  ports = rw c.new-ports.ensures.items (λ k d lt. absurd (omega (arith, lt)));
  paces = rw c.new-ports.ensures.items refl;
}

pub new-port-requires : goal.new-port-requires
new-port-requires g c =
    let head : c.loop-pace.passes.rest.items ≡ c.in-Some.pass ∷ c.next.new.self.rest.items =
    search rules in
    let held = (next_unheld _ _ _ head c.loop-pace.invariant.passes).0 in
    let device = c.in-Ok.device.value in
    let box = c.into_dyn_box in
    let part : (own-1.entry box.result.vtable).1.GuestBytes.part box.result.value
    ≡ (own-1.entry at-1-1).1.GuestBytes.part device = read_made own-1
    (own-1.entry at-1-1) at-1-1 refl Part (λ entry made. entry.1.GuestBytes.part made)
    box.result.vtable box.result.value device box.ensures.1 in
    let mem : (own-1.entry box.result.vtable).1.GuestBytes.mem box.result.value
    ≡ (own-1.entry at-1-1).1.GuestBytes.mem device = read_made own-1
    (own-1.entry at-1-1) at-1-1 refl Pages (λ entry made. entry.1.GuestBytes.mem made)
    box.result.vtable box.result.value device box.ensures.1 in
    rw (part, mem, c.in-Ok.ensures.ok, c.new-device.ensures.mem, c.new-device.ensures.part) (
      leased_unused c.new.result.mem c.new.result.part c.in-Some.pass.held c.new.ensures.unused,
      ap (λ (p : Part). p.own) c.new-device.ensures.part ∙ held,
    )

pub new-port-requires-else-is_paced : goal.new-port-requires-else-is_paced
new-port-requires-else-is_paced g c =
    let head : c.loop-pace.passes.rest.items ≡ c.in-Some.pass ∷ c.next.new.self.rest.items =
    search rules in
    let held = (next_unheld _ _ _ head c.loop-pace.invariant.passes).0 in
    let device = c.in-Ok-new.device.value in
    let box = c.into_dyn_box-else-is_paced in
    let part : (own-1.entry box.result.vtable).1.GuestBytes.part box.result.value
    ≡ (own-1.entry at-1-2).1.GuestBytes.part device = read_made own-1
    (own-1.entry at-1-2) at-1-2 refl Part (λ entry made. entry.1.GuestBytes.part made)
    box.result.vtable box.result.value device box.ensures.1 in
    let mem : (own-1.entry box.result.vtable).1.GuestBytes.mem box.result.value
    ≡ (own-1.entry at-1-2).1.GuestBytes.mem device = read_made own-1
    (own-1.entry at-1-2) at-1-2 refl Pages (λ entry made. entry.1.GuestBytes.mem made)
    box.result.vtable box.result.value device box.ensures.1 in
    rw (part, mem, c.in-Ok-new.ensures.ok, c.new-device-else-is_paced.ensures.mem, c.new-device-else-is_paced.ensures.part) (
      leased_unused c.new-else-is_paced.result.mem c.new-else-is_paced.result.part c.in-Some.pass.held
          c.new-else-is_paced.ensures.unused,
      ap (λ (p : Part). p.own) c.new-device-else-is_paced.ensures.part ∙ held,
    )

pub loop-pace-preserved : goal.loop-pace-preserved
loop-pace-preserved g c =
    let head : c.loop-pace.passes.rest.items ≡ c.in-Some.pass ∷ c.next.new.self.rest.items =
    search rules in
    let left = (next_unheld _ _ _ head c.loop-pace.invariant.passes).1 in elim c.if-is_paced.branch [
      | then-is_paced+in-Ok+in_ok-add_port w ↦
          let device = w.in-Ok.device.value in
          let box = w.into_dyn_box in
          let boxed : ((own-1.entry box.result.vtable).1.GuestBytes.part box.result.value).paced
          ≡ ((own-1.entry at-1-1).1.GuestBytes.part device).paced = read_made own-1
          (own-1.entry at-1-1) at-1-1 refl Bool (λ entry made. (entry.1.GuestBytes.part made).paced)
          box.result.vtable box.result.value device box.ensures.1 in
          let made : ((own-1.entry at-1-1).1.GuestBytes.part device).paced ≡ true =
          rw w.in-Ok.ensures.ok
          (ap (λ (p : Part). p.paced) w.new-device.ensures.part ∙ w.new.ensures.paced) in
          rw w.ports-is (record {
            passes = left;
            ports = w.add_port.ensures.ports;
            paces = one_more _ c.loop-pace.ports.items w.add_port.new.ports.items w.new-port.result
                c.args.paces.now c.loop-pace.pace-index
                _ _ w.in_ok-add_port.ensures.added c.loop-pace.invariant.paces c.loop-pace-test.true
                refl (w.new-port.ensures.pace ∙ boxed ∙ made ∙ w.if-is_paced.ensures);
          })
      | else-is_paced+in-Ok-new+in_ok-add_port-2 w ↦
          let device = w.in-Ok-new.device.value in
          let box = w.into_dyn_box-else-is_paced in
          let boxed : ((own-1.entry box.result.vtable).1.GuestBytes.part box.result.value).paced
          ≡ ((own-1.entry at-1-2).1.GuestBytes.part device).paced = read_made own-1
          (own-1.entry at-1-2) at-1-2 refl Bool (λ entry made. (entry.1.GuestBytes.part made).paced)
          box.result.vtable box.result.value device box.ensures.1 in
          let made : ((own-1.entry at-1-2).1.GuestBytes.part device).paced ≡ false =
          rw w.in-Ok-new.ensures.ok (ap (λ (p : Part). p.paced) w.new-device-else-is_paced.ensures.part
          ∙ w.new-else-is_paced.ensures.paced) in
          rw w.ports-is (record {
            passes = left;
            ports = w.add_port-else-is_paced.ensures.ports;
            paces = one_more _ c.loop-pace.ports.items w.add_port-else-is_paced.new.ports.items
                w.new-port-else-is_paced.result c.args.paces.now c.loop-pace.pace-index
                _ _ w.in_ok-add_port-2.ensures.added c.loop-pace.invariant.paces c.loop-pace-test.true
                refl (w.new-port-else-is_paced.ensures.pace ∙ boxed ∙ made ∙ w.if-is_paced.ensures);
          })
    ]
