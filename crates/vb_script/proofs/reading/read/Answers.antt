use Rattle.{std.proofs.Common.rules, vb_script.specs.Texts.{begins_with_host, told_in}}
use Rattle.vb_script.proofs.reading.read.Goals as goal

pub returns-in_default-clause-ok : goal.returns-in_default-clause-ok
unfolding told_in
returns-in_default-clause-ok g c = search rules

pub returns-in_err-frames-clause-bad : goal.returns-in_err-frames-clause-bad
unfolding told_in
returns-in_err-frames-clause-bad g c = search rules

pub returns-in_err-read-clause-bad : goal.returns-in_err-read-clause-bad
unfolding told_in
returns-in_err-read-clause-bad g c = search rules

pub returns-clause-ok : goal.returns-clause-ok
unfolding told_in
returns-clause-ok g c = search rules

pub returns-in_err-read-clause-memory : goal.returns-in_err-read-clause-memory
unfolding begins_with_host
returns-in_err-read-clause-memory g c = λ _. search rules
