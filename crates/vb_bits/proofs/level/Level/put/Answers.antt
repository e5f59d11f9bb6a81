use Rattle.std.proofs.Common.{◌≡◌, ◌≢◌, ◌/◌, ◌%◌, ◌<◌, ℕ, List, Bool, length, get_or, set, ap, ◌∙◌}
use Rattle.std.{proofs.Common.arith, proofs.lemmas.List.{get_or-set_same, get_or_read}}
use Rattle.vb_virtio.specs.Tests.{has_bit}
use Rattle.vb_bits.proofs.Words.{bound_is, put, put_flags, word_is_zero, IsWritten}
use Rattle.vb_bits.proofs.level.Level.put.Goals as goal

-- the bit of the number, in the word that was read
written : (words : List ℕ) (n old word : ℕ) (one : Bool) → n / 64 < length words
    → old ≡ get_or words (n / 64) 0 → has_bit word (n % 64) ≡ one
    → ((k : ℕ) → k < 64 → k ≢ n % 64 → has_bit word k ≡ has_bit old k) → IsWritten words n one word
written words n old word one l e same others = record {
  within = l;
  same = same;
  others = λ k l ne. others k l ne ∙ ap (λ (m : ℕ). has_bit m k) e;
}

pub index-requires : goal.index-requires
index-requires c = let words = c.self.inside.words in
    let bound = bound_is c.self.inside.bound words.items c.args.self.now c.self.view_is in
    omega (arith, bound, c.requires, c.self.invariant.enough, words.ok.0)

pub index_mut-requires : goal.index_mut-requires
index_mut-requires c = let words = c.self.inside.words in
    let bound = bound_is c.self.inside.bound words.items c.args.self.now c.self.view_is in
    omega (arith, bound, c.requires, c.self.invariant.enough, words.ok.0)

-- the number is below the bound
below : (c : goal.After-self-1) → c.args.n < c.self.inside.bound
below c = let words = c.self.inside.words.items in
    omega (arith, c.requires, bound_is c.self.inside.bound words c.args.self.now c.self.view_is)

-- what the write leaves
wrote : (c : goal.After-self-1)
    → IsWritten c.self.inside.words.items c.args.n c.args.member c.with_bit-word.result
wrote c = let words = c.self.inside.words.items in
    let within : c.args.n / 64 < length words = omega (arith, below c, c.self.invariant.enough) in
    written words c.args.n c.index.result.now c.with_bit-word.result c.args.member within
    (get_or_read words (c.args.n / 64) c.index.result.now within c.index.ensures 0)
    c.with_bit-word.ensures.same c.with_bit-word.ensures.others

pub invariant_of-self : goal.invariant_of-self
invariant_of-self c = put c.self.inside.bound c.self.inside.words.items c.args.n c.args.member
    c.with_bit-word.result c.self.invariant (below c) (wrote c)

pub returns-clause-put : goal.returns-clause-put
returns-clause-put c = put_flags c.self.inside.bound c.self.inside.words.items
    c.args.n c.args.member c.with_bit-word.result c.self.invariant (below c) (wrote c)
    ∙ ap (λ (flags : List Bool). set flags c.args.n c.args.member) c.self.view_is

pub returns-clause-any : goal.returns-clause-any
returns-clause-any c = let words = c.self.inside.words.items in
    let word = c.with_bit-word.result in
    word_is_zero c.self.inside.bound (set words (c.args.n / 64) word) (c.args.n / 64) word
    (put c.self.inside.bound words c.args.n c.args.member word c.self.invariant (below c) (wrote c))
    c.with_bit-word.type_inv (get_or-set_same words (c.args.n / 64) word 0 (wrote c).within)
