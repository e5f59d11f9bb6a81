use Rattle.std.proofs.Common.{rules, ◌≡◌, ◌++◌, sym, ◌∙◌, ap, take, get_or}
use Rattle.std.proofs.lemmas.List.{append_assoc}
use Rattle.vb_run.{specs.Rounds.{entries_of_round, round_entries}, proofs.Gathered.rounds_next}
use Rattle.vb_run.proofs.audit.expected_of.Goals as goal

pub loop-round-preserved : goal.loop-round-preserved
loop-round-preserved c =
    let made : c.push_target.new.entries.items ≡ c.loop-round.entries.items ++ entries_of_round
    c.args.floor c.args.guest c.round-item.result = search (append_assoc, rules) in
    let same : get_or c.args.rounds.now c.loop-round.round-index c.round-item.result
    ≡ c.round-item.result = search rules in
    made ∙ ap (λ l. l ++ entries_of_round c.args.floor c.args.guest c.round-item.result)
    c.loop-round.invariant ∙ ap
    (λ r. round_entries c.args.floor c.args.guest (take c.loop-round.round-index c.args.rounds.now)
    ++ entries_of_round c.args.floor c.args.guest r) (sym same)
    ∙ sym (rounds_next c.args.floor c.args.guest c.args.rounds.now c.loop-round.round-index
    c.round-item.result (search rules))
