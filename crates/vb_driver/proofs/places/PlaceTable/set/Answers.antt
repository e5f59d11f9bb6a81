use Rattle.std.proofs.{lemmas.List.length-set, Common.{◌≡◌, ◌∙◌, ap, arith, ℕ, length}}
use Rattle.{std.proofs.Common.{get_or, set, count_by}, vb_model.specs.Pages.{is_lent, is_stranded}}
use Rattle.{vb_model.specs.declared.places.Place.Place, vb_driver.specs.Places.is_at}
use Rattle.vb_driver.proofs.{Counting.{counts_moved, counts_some, number_small}, Marking.set_moved}
use Rattle.vb_driver.proofs.places.PlaceTable.set.Goals as goal

pub overflow_sub-self : goal.overflow_sub-self
overflow_sub-self c = let counts = c.self.inside.counts in
    let places = c.self.inside.places.items in let old = c.index.result.now in
    let size : length places ≡ length c.args.self.now = ap length c.self.view_is in
    let own : get_or counts c.number_of.result 0 ≡ count_by (is_at old) places =
    ap (λ (k : ℕ). get_or counts k 0) c.number_of.ensures ∙ c.self.invariant.are_counts.each old in
    let here : count_by (is_at old) places ≡ count_by (is_at (get_or places c.args.page old))
    places = ap (λ (p : Place). count_by (is_at p) places) c.index.ensures in
    let small = number_small old in omega (arith, counts_some places c.args.page old (omega arith))

pub invariant_of-self : goal.invariant_of-self
invariant_of-self c = let counts = c.self.inside.counts in
    let places = c.self.inside.places.items in let small = number_small c.index.result.now in
    let small2 = number_small c.args.place in
    let size : length places ≡ length c.args.self.now = ap length c.self.view_is in record {
      kinds = length-set (set counts c.number_of.result _) c.number_of-2.result _
          ∙ (length-set counts c.number_of.result _ ∙ c.self.invariant.kinds);
      are_counts = counts_moved c.args.page c.args.place c.self.invariant.kinds
          (omega arith) c.index.ensures c.number_of.ensures c.number_of-2.ensures
          (omega arith) (omega arith) c.self.invariant.are_counts;
      are_sets = record {
        of_lent = set_moved is_lent places c.args.page
            c.args.place c.self.invariant.are_sets.of_lent c.mark.ensures c.is_lent-2.ensures;
        of_stranded = set_moved is_stranded places c.args.page c.args.place
            c.self.invariant.are_sets.of_stranded c.mark-2.ensures c.is_stranded-2.ensures;
      };
      small = omega (arith, length-set places c.args.page c.args.place);
    }
