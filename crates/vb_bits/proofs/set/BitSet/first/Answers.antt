use Rattle.std.proofs.Common.{◌*◌, ◌≤◌, ℕ, List, Bool, Option, length, arith, subst}
use Rattle.vb_bits.{specs.Levels.{HasSummary, IsSummed}, specs.Sets.{IsFirstFrom, IsNextInWord}}
use Rattle.vb_bits.proofs.Levels.{first_within, single_word}
use Rattle.vb_bits.proofs.set.BitSet.first.Goals as goal

-- the first word that has a member is in the first group that has one
first_word : (members words groups : List Bool) (len : ℕ) (group word : Option ℕ)
    → IsSummed members words groups len → IsNextInWord groups 0 group
    → ((summary : List Bool) (start : ℕ) → HasSummary words summary
    → IsFirstFrom summary start group → IsFirstFrom words (64 * start) word)
    → IsFirstFrom words 0 word
first_word members words groups len group word s found within =
    let single : length groups ≤ 64 = omega (arith, s.few, s.first.fewest, s.second.fewest) in
    within groups 0 s.second (single_word groups 0 group single found)

pub first_in-requires : goal.first_in-requires
first_in-requires c = let fields = c.self.inside in
    let word = c.first_in-word.result in
    record {
      few = c.self.invariant.few;
      within = first_within fields.members fields.words 0 word c.self.invariant.first
          (first_word fields.members fields.words fields.groups fields.len
          c.next_in_word-group.result word c.self.invariant c.next_in_word-group.ensures
          c.first_in-word.ensures);
    }

pub returns : goal.returns
returns c = let fields = c.self.inside in
    subst (λ (set : List Bool). IsFirstFrom set 0 c.first_in.result) c.self.view_is
    (c.first_in.ensures fields.words 0 c.self.invariant.first
    (first_word fields.members fields.words fields.groups fields.len c.next_in_word-group.result
    c.first_in-word.result c.self.invariant c.next_in_word-group.ensures c.first_in-word.ensures))
