use Rattle.vb_command.{proofs.Reading.kept_text, specs.declared.input.TheConstants.MAX_INPUT}
use Rattle.vb_command.proofs.input.read_text.Goals as goal

pub returns-clause-ok : goal.returns-clause-ok
returns-clause-ok g c =
    let read = rw (c.new-text.ensures.items, c.take.ensures.limit, c.take.ensures.inner)
    at c.in_ok-read_to_end.ensures.bytes in
    kept_text _ (λ text. text.items) MAX_INPUT (g.R.Read.remaining c.args.input) _
    c.within_bound.result read c.within_bound.ensures
