use Rattle.std.proofs.Common.{Option, ◌≡◌, ◌+◌, ◌*◌, ℕ, List, Bool, get_or, ap, ◌∙◌, arith}
use Rattle.std.specs.Option.{unwrap_or}
use Rattle.vb_virtio.specs.Tests.{has_bit}
use Rattle.vb_bits.{specs.Sets.has, proofs.Words.bit_is_flag}
use Rattle.vb_bits.proofs.level.Level.word.Goals as goal

pub returns : goal.returns
returns c = λ b l.
    let items = c.self.inside.words.items in
    let read : c.unwrap_or.result ≡ get_or items c.args.word 0 = c.unwrap_or.ensures
    ∙ ap (λ (o : Option ℕ). unwrap_or o 0) c.copied.ensures ∙ c.get.ensures.lookup.4 (omega arith) 0
    ∙ ap (λ (ws : List ℕ). get_or ws c.args.word 0) c.deref.ensures.value in
    ap (λ (word : ℕ). has_bit word b) read ∙ bit_is_flag c.self.inside.bound items c.self.invariant
    c.args.word b l ∙ ap (λ (flags : List Bool). has flags (64 * c.args.word + b)) c.self.view_is
