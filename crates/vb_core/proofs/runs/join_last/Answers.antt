use Rattle.std.proofs.Common.{◌≡◌, ◌∙◌, ◌-◌, get_or, sym}
use Rattle.vb_core.{specs.declared.runs.Run.Run, proofs.RunLemmas.{last_longer, no_end}}
use Rattle.vb_core.proofs.RunLemmas.{joins_behind, joins_before, some_behind, some_before}
use Rattle.vb_core.proofs.runs.join_last.Goals as goal

abbrev none : Run
none = record { first = 0; count = 0 }

pub returns-then-ends-number-clause-joined : goal.returns-then-ends-number-clause-joined
returns-then-ends-number-clause-joined c _ =
    let is : c.args.ends.now.behind ≡ c.args.page = c.if-ends-number.true ∙ c.from-number.ensures in
    let some = some_behind c.args.page c.args.used c.args.runs.now c.args.ends.now c.requires.ends
    c.ranges.page.fits is in
    last_longer c.args.page c.args.used c.args.runs.now none _ _ some c.requires.room
    (joins_behind (get_or c.args.runs.now (c.args.used - 1) none) c.args.page c.args.ends.now is
    (c.requires.ends.some none some))

pub returns-then-ends-number-2-clause-joined : goal.returns-then-ends-number-2-clause-joined
returns-then-ends-number-2-clause-joined c _ =
    let is : c.args.ends.now.before ≡ c.args.page =
    c.if-ends-number-2.true ∙ c.from-number.ensures in
    let some = some_before c.args.page c.args.used c.args.runs.now c.args.ends.now c.requires.ends
    c.ranges.page.fits is in
    last_longer c.args.page c.args.used c.args.runs.now none _ _ some c.requires.room
    (joins_before (get_or c.args.runs.now (c.args.used - 1) none) c.args.page c.from-number.result
    c.args.ends.now c.from-number.ensures c.ranges.page.fits is (c.requires.ends.some none some))

pub returns-clause-apart : goal.returns-clause-apart
returns-clause-apart c _ = no_end c.args.page c.args.used c.args.runs.now none
    c.args.ends.now c.requires.ends c.requires.room c.ranges.page.fits (λ e. c.if-ends-number.false
    (e ∙ sym c.from-number.ensures)) (λ e. c.if-ends-number-2.false (e ∙ sym c.from-number.ensures))
