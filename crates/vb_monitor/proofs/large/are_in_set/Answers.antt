use Rattle.vb_monitor.proofs.large.are_in_set.Goals as goal

pub returns-else-is_in_words-clause-no : goal.returns-else-is_in_words-clause-no
returns-else-is_in_words-clause-no c e all =
    let here = all c.loop-page.page c.loop-page.invariant.0 c.loop-page-test.true in
    let is = c.is_in_words.ensures in
    let no = c.if-is_in_words.false in cc
