use Rattle.std.proofs.Common.{◌*◌, ◌<◌, ◌≤◌, length, rules, tests, arith}
use Rattle.vb_script.proofs.{Hex.IsByteWord-decodes, WordLemmas.{bytes_read, bytes_out_of_range}}
use Rattle.vb_script.proofs.values.bytes.Goals as goal

pub returns-then-is_empty-clause-none : goal.returns-then-is_empty-clause-none
returns-then-is_empty-clause-none c =
    λ bad. bytes_out_of_range c.args.word.now (λ some few. absurd (search (rules, tests)))

pub returns-in-Ok-clause-ok : goal.returns-in-Ok-clause-ok
returns-in-Ok-clause-ok c = let some : 0 < length c.args.word.now = search rules in
    let few : length c.args.word.now ≤ 2 * 4096 = omega arith in
    (IsByteWord-decodes c.args.word.now _ some few c.in-Ok.ensures.ok, search rules)

pub returns-in-Ok-clause-value : goal.returns-in-Ok-clause-value
returns-in-Ok-clause-value c = let some : 0 < length c.args.word.now = search rules in
    let few : length c.args.word.now ≤ 2 * 4096 = omega arith in
    let read = bytes_read c.args.word.now _ some few c.in-Ok.ensures.ok in search rules
