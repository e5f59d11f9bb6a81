use Rattle.std.proofs.Common.{◌≡◌, ◌<◌, ◌/◌, Bool, List, length, set, arith, ap, ◌∙◌}
use Rattle.std.{specs.Prelude.count_by, proofs.lemmas.List.length-set}
use Rattle.vb_bits.proofs.Levels.{put_levels, put_count, weight, weight_is}
use Rattle.vb_bits.proofs.set.BitSet.put.Goals as goal

pub invariant_of-self : goal.invariant_of-self
invariant_of-self c = let n = c.args.n in
    let members = c.self.inside.members in
    let words = c.self.inside.words in
    let one = c.args.member in
    let below : n < length members = omega (arith, c.requires, ap length c.self.view_is) in
    let same : length c.put-any.new.self ≡ length members =
    ap length c.put-any.ensures.put ∙ length-set members n one in
    let counted : count_by (λ b. b) c.put-any.new.self ≡ count_by (λ b. b) (set members n one) =
    ap (λ (xs : List Bool). count_by (λ b. b) xs) c.put-any.ensures.put in
    record {
      few = omega (arith, same, c.self.invariant.few);
      first = put_levels members words c.put-any.new.self c.put-any-2.new.self n one
          c.put-any.result c.self.invariant.first below c.put-any.ensures.put
          c.put-any-2.ensures.put c.put-any.ensures.any;
      second = put_levels words c.self.inside.groups c.put-any-2.new.self c.put.new.self (n / 64)
          c.put-any.result c.put-any-2.result c.self.invariant.second
          (omega (arith, below, c.self.invariant.first.enough)) c.put-any-2.ensures.put
          c.put.ensures.put c.put-any-2.ensures.any;
      count = omega (
        arith,
        counted,
        put_count members n one below,
        c.from.ensures ∙ weight_is one,
        c.from-2.ensures ∙ weight_is c.contains-was.result ∙ ap weight c.contains-was.ensures,
        c.self.invariant.count,
      );
    }
