use Rattle.std.proofs.lemmas.Result.{on_ok_weaker}
use Rattle.vb_script.specs.Plans.{threads_script_of}
use Rattle.vb_command.{specs.Ends.IsWithinBound, specs.Threads.PrintsReport}
use Rattle.vb_command.proofs.Reading.{fault_of_whole, said_of_whole}
use Rattle.vb_command.proofs.threads.answer.Goals as goal

pub returns-clause-ok : goal.returns-clause-ok
returns-clause-ok g c =
    said_of_whole (λ text. IsWithinBound text × PrintsReport c.args.bells (threads_script_of text)
    (g.O.Write.contents c.args.output.now) (g.O.Write.contents c.run_into.new.out))
    (g.R.Read.remaining c.args.input) c.in_ok-text.text.items c.run_into.result
    c.in_ok-text.ensures.ok (on_ok_weaker c.run_into.result
    (λ printed. (c.in_ok-text.ensures.few, printed)) c.run_into.ensures.ok)

pub returns-clause-fault : goal.returns-clause-fault
returns-clause-fault g c = fault_of_whole (g.R.Read.remaining c.args.input) c.in_ok-text.text.items
    c.run_into.result c.in_ok-text.ensures.ok c.in_ok-text.ensures.few c.run_into.ensures.fault
