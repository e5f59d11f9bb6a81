use Rattle.std.proofs.Common.{◌≡◌, ◌-◌, ◌*◌, ◌/◌, ℕ, List, Bool, true, length, ltb, replicate}
use Rattle.std.proofs.Common.{set, subst, sym, ap, ◌∙◌, arith, refl, ◌∷◌, []}
use Rattle.vb_bits.specs.Words.{flags_of, AreWordsOf}
use Rattle.vb_bits.proofs.Words.{bound_is, filled, filled_flags}
use Rattle.vb_bits.proofs.level.Level.fill.Goals as goal

pub returns-then-self-eq0 : goal.returns-then-self-eq0
returns-then-self-eq0 c =
    let bound = bound_is c.self.inside.bound c.self.inside.words.items c.args.self.now c.self.view_is in
    none c.args.self.now (omega (arith, bound, c.if-self-eq0.true))
  where
    none : (flags : List Bool) → length flags ≡ 0 → flags ≡ replicate (length flags) true
    none [] e = refl
    none (flag ∷ flags) e = absurd cc

pub overflow_sub-last : goal.overflow_sub-last
overflow_sub-last c = omega (arith, c.if-self-eq0.false)

pub index_mut-requires : goal.index_mut-requires
index_mut-requires c =
    let words = c.self.inside.words in
    omega (arith, c.if-self-eq0.false, c.self.invariant.enough, words.ok.0, c.fill.ensures.len)

pub invariant_of-self : goal.invariant_of-self
invariant_of-self c =
    let bound = c.self.inside.bound in
    let words = c.self.inside.words in
    let last = (bound - 1) / 64 in
    let low = c.low_ones.result in
    let count : c.from.result ≡ bound - last * 64 = c.from.ensures in
    subst (λ (ws : List ℕ). AreWordsOf bound (set ws last low))
    (sym (c.fill.ensures.items (λ y e. e)))
    (filled bound words.len last low (omega (arith, c.if-self-eq0.false)) (omega (arith, c.if-self-eq0.false))
    (omega (arith, c.if-self-eq0.false, c.self.invariant.enough, c.self.invariant.fewest, words.ok.0))
    (λ k inside. c.low_ones.ensures k inside ∙ ap (ltb k) count))

pub returns : goal.returns
returns c =
    let bound = c.self.inside.bound in
    let words = c.self.inside.words in
    let last = (bound - 1) / 64 in
    let low = c.low_ones.result in
    let count : c.from.result ≡ bound - last * 64 = c.from.ensures in
    ap (λ (ws : List ℕ). flags_of bound (set ws last low)) (c.fill.ensures.items (λ y e. e))
    ∙ filled_flags bound words.len last low (omega (arith, c.if-self-eq0.false)) (omega (arith, c.if-self-eq0.false))
    (omega (arith, c.if-self-eq0.false, c.self.invariant.enough, c.self.invariant.fewest, words.ok.0))
    (λ k inside. c.low_ones.ensures k inside ∙ ap (ltb k) count)
    ∙ ap (λ (n : ℕ). replicate n true) (bound_is bound words.items c.args.self.now c.self.view_is)
