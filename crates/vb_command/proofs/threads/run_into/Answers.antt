use Rattle.vb_script.specs.Plans.{threads_script_of}
use Rattle.vb_command.proofs.Planning.{guests_run}
use Rattle.vb_command.proofs.threads.run_into.Goals as goal

pub write_report-requires-clause-plan : goal.write_report-requires-clause-plan
write_report-requires-clause-plan g c = guests_run (threads_script_of c.args.text.items)
    c.args.bells c.in_ok-plan.plan c.in_ok-plan.report c.in_ok-plan.ensures.ok
