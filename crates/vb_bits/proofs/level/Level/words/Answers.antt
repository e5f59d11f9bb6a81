use Rattle.std.proofs.Common.{◌≡◌, ◌+◌, ◌*◌, ℕ, List, Bool, length, get_or, ap, ◌∙◌, arith}
use Rattle.vb_virtio.specs.Tests.{has_bit}
use Rattle.vb_bits.{specs.Sets.has, proofs.Words.{bound_is, bit_is_flag}}
use Rattle.vb_bits.proofs.level.Level.words.Goals as goal

pub returns-clause-enough : goal.returns-clause-enough
returns-clause-enough c = let items = c.self.inside.words.items in
    let bound = bound_is c.self.inside.bound items c.args.self.now c.self.view_is in
    let same : length c.deref.result.now ≡ length items = ap length c.deref.ensures.value in
    omega (arith, bound, c.self.invariant.enough)

pub returns-clause-fewest : goal.returns-clause-fewest
returns-clause-fewest c = let items = c.self.inside.words.items in
    let bound = bound_is c.self.inside.bound items c.args.self.now c.self.view_is in
    let same : length c.deref.result.now ≡ length items = ap length c.deref.ensures.value in
    omega (arith, bound, c.self.invariant.fewest)

pub returns-clause-bits : goal.returns-clause-bits
returns-clause-bits c = λ w b l. ap (λ (ws : List ℕ). has_bit (get_or ws w 0) b)
    c.deref.ensures.value ∙ bit_is_flag c.self.inside.bound c.self.inside.words.items
    c.self.invariant w b l ∙ ap (λ (flags : List Bool). has flags (64 * w + b)) c.self.view_is
