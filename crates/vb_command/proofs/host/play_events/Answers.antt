use Rattle.std.proofs.Common.{◌≡◌, ◌≤◌, refl, List, Bool, map, length, ap, ◌∙◌}
use Rattle.std.proofs.lemmas.List.{take_all}
use Rattle.vb_script.specs.{declared.lines.Pace.TheVariants.{Immediate, Paced, Monitor}, Lines.is_paced}
use Rattle.vb_command.proofs.host.play_events.Goals.{in-Immediate+in_ok-device-in-Immediate+in_ok-add_spare-in-Immediate}
use Rattle.vb_command.{proofs.Paces.one_more, proofs.host.play_events.OwnLists.{own-1, at-1-1, at-1-2, at-1-3}}
use Rattle.vb_command.proofs.host.play_events.Goals.{in-Paced+in_ok-device-in-Paced+in_ok-add_spare-in-Paced}
use Rattle.vb_command.proofs.host.play_events.Goals.{in-Monitor+in_ok-device-in-Monitor+in_ok-add_spare-in-Monitor}
use denote.Param.Object.{read_made}
use Rattle.vb_command.proofs.host.play_events.Goals as goal

pub loop-pace-preserved : goal.loop-pace-preserved
loop-pace-preserved g c = elim c.match-pace.branch [
  | in-Immediate+in_ok-device-in-Immediate+in_ok-add_spare-in-Immediate w ↦
      let device = w.in_ok-device-in-Immediate.device.value in
      let box = w.into_dyn_box in
      let boxed : ((own-1.entry box.result.vtable).1.GuestBytes.part box.result.value).paced
      ≡ device.part.paced = read_made own-1 (own-1.entry at-1-1) at-1-1 refl Bool
      (λ entry made. (entry.1.GuestBytes.part made).paced) box.result.vtable box.result.value device
      box.ensures.1 in
      let made : device.part.paced ≡ is_paced Immediate =
      rw w.in_ok-device-in-Immediate.ensures.ok w.new.ensures.paced in
      rw w.spares-is (record {
        spares = w.add_spare.ensures.spares;
        paces = one_more _ c.loop-pace.spares.items w.add_spare.new.spares.items box.result
            c.args.paces.now c.loop-pace.pace-index _ Immediate
            w.in_ok-add_spare-in-Immediate.ensures.added c.loop-pace.invariant.paces
            c.loop-pace-test.true w.in-Immediate.is (boxed ∙ made);
      })
  | in-Paced+in_ok-device-in-Paced+in_ok-add_spare-in-Paced w ↦
      let device = w.in_ok-device-in-Paced.device.value in
      let box = w.into_dyn_box-in-Paced in
      let boxed : ((own-1.entry box.result.vtable).1.GuestBytes.part box.result.value).paced
      ≡ device.part.paced = read_made own-1 (own-1.entry at-1-2) at-1-2 refl Bool
      (λ entry made. (entry.1.GuestBytes.part made).paced) box.result.vtable box.result.value device
      box.ensures.1 in
      let made : device.part.paced ≡ is_paced Paced =
      rw w.in_ok-device-in-Paced.ensures.ok w.new-in-Paced.ensures.paced in
      rw w.spares-is (record {
        spares = w.add_spare-in-Paced.ensures.spares;
        paces = one_more _ c.loop-pace.spares.items w.add_spare-in-Paced.new.spares.items box.result
            c.args.paces.now c.loop-pace.pace-index _ Paced w.in_ok-add_spare-in-Paced.ensures.added
            c.loop-pace.invariant.paces c.loop-pace-test.true w.in-Paced.is (boxed ∙ made);
      })
  | in-Monitor+in_ok-device-in-Monitor+in_ok-add_spare-in-Monitor w ↦
      let device = w.in_ok-device-in-Monitor.device.value in
      let box = w.into_dyn_box-in-Monitor in
      let boxed : ((own-1.entry box.result.vtable).1.GuestBytes.part box.result.value).paced
      ≡ device.part.paced = read_made own-1 (own-1.entry at-1-3) at-1-3 refl Bool
      (λ entry made. (entry.1.GuestBytes.part made).paced) box.result.vtable box.result.value device
      box.ensures.1 in
      let made : device.part.paced ≡ is_paced Monitor =
      rw w.in_ok-device-in-Monitor.ensures.ok w.new-in-Monitor.ensures.paced in
      rw w.spares-is (record {
        spares = w.add_spare-in-Monitor.ensures.spares;
        paces = one_more _ c.loop-pace.spares.items w.add_spare-in-Monitor.new.spares.items box.result
            c.args.paces.now c.loop-pace.pace-index _ Monitor w.in_ok-add_spare-in-Monitor.ensures.added
            c.loop-pace.invariant.paces c.loop-pace-test.true w.in-Monitor.is (boxed ∙ made);
      })
]

pub returns-clause-ok : goal.returns-clause-ok
returns-clause-ok g c =
    let whole : length c.args.paces.now ≤ c.loop-pace.pace-index = c.loop-pace-test.false in
    let paces = c.loop-pace.invariant.paces ∙ ap (λ (ps : List _). map is_paced ps)
    (take_all c.loop-pace.pace-index c.args.paces.now whole) in rw (← paces) c.run_on.ensures.ok
