use Rattle.std.proofs.Common.{rules}
use Rattle.vb_script.specs.Scripts.{said_by}
use Rattle.vb_command.proofs.Speaking.{speaks}
use Rattle.vb_command.proofs.run.play_text.Goals as goal

pub returns-in-Some-clause-memory : goal.returns-in-Some-clause-memory
returns-in-Some-clause-memory g c = λ _.
    speaks c.args.text.items (said_by c.in-Some.script) (search rules)
