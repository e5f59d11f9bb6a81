use Rattle.std.proofs.KnownBytes.{Appends-trans}
use Rattle.vb_run.specs.Plans.{is_guest_plan}
use Rattle.vb_command.proofs.Reporting.{one_more_line, one_passes}
use Rattle.vb_command.proofs.lines.write_guests.Goals as goal

pub write_guest-requires : goal.write_guest-requires
write_guest-requires g c = one_passes is_guest_plan c.args.plans.now c.loop-guest.guest
    c.index-plans-guest.result c.loop-guest-test.true c.index-plans-guest.is c.requires.plans

pub loop-guest-preserved : goal.loop-guest-preserved
loop-guest-preserved g c = rw (one_more_line c.loop-guest.guest c.args.plans.now c.args.reports.now
    c.index-plans-guest.result c.index-reports-guest.result c.loop-guest-test.true
    c.requires.guests c.index-plans-guest.is c.index-reports-guest.is)
    (Appends-trans (g.W.Write.contents c.args.out.now) (g.W.Write.contents c.loop-guest.out)
    (g.W.Write.contents c.write_guest.new.out) _ _ c.loop-guest.invariant
    c.in_ok-write_guest.ensures)
