use Rattle.vb_bits.proofs.Words.{next}
use Rattle.vb_bits.proofs.level.Level.next_in_word.Goals as goal

pub returns-in-Some : goal.returns-in-Some
returns-in-Some c =
    next c.args.self.now c.word.result c.args.n c.in-Some.bit c.word.ensures c.in-Some.ensures
