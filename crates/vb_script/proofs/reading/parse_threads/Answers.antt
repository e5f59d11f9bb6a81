use Rattle.{std.proofs.Common.rules, vb_script.specs.Plans.threads_script_of}
use Rattle.vb_script.{specs.{Scripts.told_by, Threads.threads}, proofs.Speaking.speaks}
use Rattle.vb_script.proofs.reading.parse_threads.Goals as goal

pub returns-in_err-read-clause-bad : goal.returns-in_err-read-clause-bad
unfolding threads_script_of
returns-in_err-read-clause-bad c = search rules

pub returns-in_err-plan-in-Some-clause-memory : goal.returns-in_err-plan-in-Some-clause-memory
returns-in_err-plan-in-Some-clause-memory c =
    λ _. speaks threads c.args.text.now (told_by c.in-Some.read) (search rules)

pub returns-in-None-clause-script : goal.returns-in-None-clause-script
unfolding threads_script_of
returns-in-None-clause-script c = search rules

pub returns-in_ok-plan-in-Some-clause-script : goal.returns-in_ok-plan-in-Some-clause-script
unfolding threads_script_of
returns-in_ok-plan-in-Some-clause-script c = search rules
