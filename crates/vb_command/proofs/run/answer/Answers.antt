use Rattle.std.proofs.lemmas.Result.{on_ok_weaker}
use Rattle.vb_script.specs.Texts.{script_of}
use Rattle.vb_command.{specs.Ends.IsWithinBound, specs.Plays.Prints}
use Rattle.vb_command.proofs.Reading.{bad_of_whole, said_of_whole}
use Rattle.vb_command.proofs.run.answer.Goals as goal

pub returns-clause-ok : goal.returns-clause-ok
returns-clause-ok g c =
    said_of_whole (λ text. IsWithinBound text × Prints g.P.Play.played (script_of text)
    (g.O.Write.contents c.args.output.now) (g.O.Write.contents c.play_into.new.out))
    (g.R.Read.remaining c.args.input) c.in_ok-text.text.items c.play_into.result
    c.in_ok-text.ensures.ok (on_ok_weaker c.play_into.result
    (λ printed. (c.in_ok-text.ensures.few, printed)) c.play_into.ensures.ok)

pub returns-clause-bad : goal.returns-clause-bad
returns-clause-bad g c = bad_of_whole (g.R.Read.remaining c.args.input) c.in_ok-text.text.items
    c.play_into.result c.in_ok-text.ensures.ok c.in_ok-text.ensures.few c.play_into.ensures.bad
