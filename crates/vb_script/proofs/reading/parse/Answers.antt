use Rattle.{std.proofs.Common.rules, vb_script.specs.Texts.script_of}
use Rattle.vb_script.proofs.reading.parse.Goals as goal

pub returns-in_err-read-clause-bad : goal.returns-in_err-read-clause-bad
unfolding script_of
returns-in_err-read-clause-bad c = search rules

pub returns-in-None-clause-ok : goal.returns-in-None-clause-ok
unfolding script_of
returns-in-None-clause-ok c = search rules

pub returns-in-Some-clause-ok : goal.returns-in-Some-clause-ok
unfolding script_of
returns-in-Some-clause-ok c = search rules
