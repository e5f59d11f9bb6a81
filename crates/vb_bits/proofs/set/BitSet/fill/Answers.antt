use Rattle.std.proofs.Common.{◌≡◌, List, Bool, true, length, arith, ap, sym, ◌∙◌}
use Rattle.std.{specs.Prelude.count_by, proofs.lemmas.List.length-replicate}
use Rattle.vb_bits.proofs.Levels.{full_levels, count_full}
use Rattle.vb_bits.proofs.set.BitSet.fill.Goals as goal

pub invariant_of-self : goal.invariant_of-self
invariant_of-self c = let members = c.self.inside.members in
    let same : length c.fill.new.self ≡ length members =
    ap length c.fill.ensures ∙ length-replicate (length members) true in
    record {
      few = omega (arith, c.self.invariant.few, same);
      first = full_levels members c.self.inside.words c.fill.new.self c.fill-2.new.self
          c.self.invariant.first c.fill.ensures c.fill-2.ensures;
      second = full_levels c.self.inside.words c.self.inside.groups c.fill-2.new.self
          c.fill-3.new.self c.self.invariant.second c.fill-2.ensures c.fill-3.ensures;
      count = c.bound-self-inside.ensures ∙ sym (ap
          (λ (xs : List Bool). count_by (λ b. b) xs) c.fill.ensures ∙ count_full (length members));
    }
