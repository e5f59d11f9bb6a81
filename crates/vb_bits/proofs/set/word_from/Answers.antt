use Rattle.std.proofs.Common.{◌+◌, ◌/◌}
use Rattle.vb_bits.proofs.Levels.{after_word, single_word}
use Rattle.vb_bits.proofs.set.word_from.Goals as goal

pub returns-in-None : goal.returns-in-None
returns-in-None c = let groups = c.args.groups.now in
    let next = c.args.word / 64 + 1 in
    after_word c.args.words.now c.args.word c.first_in.result c.in-None.ensures
    (c.first_in.ensures groups next c.requires.summary
    (single_word groups next c.next_in_word-in-None.result c.requires.single
    c.next_in_word-in-None.ensures))
