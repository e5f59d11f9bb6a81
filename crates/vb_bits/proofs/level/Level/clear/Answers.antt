use Rattle.std.proofs.Common.{ℕ, List, false, replicate, subst, sym, ap, ◌∙◌, arith}
use Rattle.vb_bits.specs.Words.{flags_of, AreWordsOf}
use Rattle.vb_bits.proofs.Words.{bound_is, cleared, cleared_flags}
use Rattle.vb_bits.proofs.level.Level.clear.Goals as goal

pub invariant_of-self : goal.invariant_of-self
invariant_of-self c = let bound = c.self.inside.bound in
    let words = c.self.inside.words in
    subst (λ (ws : List ℕ). AreWordsOf bound ws) (sym (c.fill.ensures.items (λ y e. e)))
    (cleared bound words.len (omega (arith, c.self.invariant.enough, words.ok.0))
    (omega (arith, c.self.invariant.fewest, words.ok.0)))

pub returns : goal.returns
returns c = let bound = c.self.inside.bound in
    let words = c.self.inside.words in
    ap (λ (ws : List ℕ). flags_of bound ws) (c.fill.ensures.items (λ y e. e))
    ∙ cleared_flags bound words.len (omega (arith, c.self.invariant.enough, words.ok.0))
    (omega (arith, c.self.invariant.fewest, words.ok.0))
    ∙ ap (λ (n : ℕ). replicate n false) (bound_is bound words.items c.args.self.now c.self.view_is)
