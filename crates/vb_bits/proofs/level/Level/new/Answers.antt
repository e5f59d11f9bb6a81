use Rattle.std.proofs.Common.{List, ℕ, ap, subst, sym, ◌∙◌, arith}
use Rattle.vb_bits.{specs.Words.{flags_of, AreWordsOf}, proofs.Words.{cleared, cleared_flags}}
use Rattle.vb_bits.proofs.level.Level.new.Goals as goal

pub invariant_of-result : goal.invariant_of-result
invariant_of-result c = let bound = c.args.bound in
    subst (λ (ws : List ℕ). AreWordsOf bound ws)
    (sym (c.in_ok-words.ensures.items_if_clones_equal (λ y e. e))) (cleared bound c.div_ceil.result
    (omega (arith, c.div_ceil.ensures)) (omega (arith, c.div_ceil.ensures)))

pub returns : goal.returns
returns c = let bound = c.args.bound in
    ap (λ (ws : List ℕ). flags_of bound ws) (c.in_ok-words.ensures.items_if_clones_equal (λ y e. e))
    ∙ cleared_flags bound c.div_ceil.result (omega (arith, c.div_ceil.ensures))
    (omega (arith, c.div_ceil.ensures))
