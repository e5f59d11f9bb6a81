use Rattle.std.proofs.Common.{◌≡◌, List, [], Option, Some, None, Bor, ℕ, refl, ap, ◌∙◌, unwrap_or}
use Rattle.{std.specs.Option.option_map_or, vb_script.proofs.Cuts.first_of_lines}
use Rattle.vb_script.proofs.texts.first_line.Goals as goal

or_nothing : (after : Option (Bor (List ℕ))) (nothing : Bor (List ℕ)) → nothing.now ≡ []
    → (unwrap_or after nothing).now ≡ option_map_or (λ rest. rest.now) after []
or_nothing None nothing e = e
or_nothing (Some rest) nothing e = refl

pub returns-clause-lines : goal.returns-clause-lines
returns-clause-lines c = first_of_lines c.args.text.now c.cut_at.result.0.now c.unwrap_or.result.now
    c.cut_at.result.1 c.requires c.cut_at.ensures.split c.cut_at.ensures.whole (ap
    (λ (rest : Bor (List ℕ)). rest.now) c.unwrap_or.ensures ∙ or_nothing c.cut_at.result.1 _ refl)
