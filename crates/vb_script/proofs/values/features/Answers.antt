use Rattle.{std.proofs.Common.rules, vb_script.proofs.WordLemmas.features_shown}
use Rattle.vb_script.proofs.values.features.Goals as goal

pub returns-in_err-ok-clause-value : goal.returns-in_err-ok-clause-value
returns-in_err-ok-clause-value c = features_shown c.args.word.now _ (search rules)

pub returns-clause-value : goal.returns-clause-value
returns-clause-value c = features_shown c.args.word.now _ (search rules)
