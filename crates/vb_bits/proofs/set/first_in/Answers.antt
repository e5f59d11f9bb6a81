use Rattle.std.proofs.Common.{ℕ, Option, subst, arith}
use Rattle.vb_bits.{specs.Sets.IsFirstFrom, proofs.Levels.{none_in, least_in}}
use Rattle.vb_bits.proofs.set.first_in.Goals as goal

pub overflow_mul-word : goal.overflow_mul-word
overflow_mul-word c = let within = c.requires.within c.in-Some.word c.in-Some.is in
    omega (arith, within, c.requires.few)

pub returns-in-Some : goal.returns-in-Some
returns-in-Some c = λ summary start s first.
    least_in c.args.level.now summary start c.in-Some.word c.next_in_word.result s (subst
    (λ (o : Option ℕ). IsFirstFrom summary start o) c.in-Some.is first) c.next_in_word.ensures

pub returns-in-None : goal.returns-in-None
returns-in-None c = λ summary start s first. none_in c.args.level.now summary start s
    (subst (λ (o : Option ℕ). IsFirstFrom summary start o) c.in-None.is first)
