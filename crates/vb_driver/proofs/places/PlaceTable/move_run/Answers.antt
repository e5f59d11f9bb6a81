use Rattle.std.proofs.{Common.{◌≡◌, length}, lemmas.Bool.or_parts, Math.Seq.take-append_seam}
use Rattle.std.proofs.Common.{◌∙◌, ◌-◌, ◌++◌, sym, ap, arith, ℕ, List, take, drop, count_by, get_or}
use Rattle.{std.specs.List.range_with_len, vb_driver.proofs.Placing.{marked_one, length-marked}}
use Rattle.vb_model.specs.{declared.places.Place.Place, Pages.{placed, is_lent, is_stranded}}
use Rattle.vb_driver.{specs.Places.is_at, proofs.Runs.{AreAt, run_is, run_some, run_table}}
use Rattle.vb_driver.proofs.places.PlaceTable.move_run.Goals as goal

pub returns-then-is_in_set-clause-moved : goal.returns-then-is_in_set-clause-moved
returns-then-is_in_set-clause-moved c = grind (arith, marked_one)

pub overflow_sub-self : goal.overflow_sub-self
overflow_sub-self c = let places = c.self.inside.places.items in let old = c.index-old.result.now in
    let size : length places ≡ length c.args.self.now = ap length c.self.view_is in
    let are : AreAt places c.args.start (c.end_of_run-next.result - c.args.start) old =
    search (arith, run_is) in
    let own : get_or c.self.inside.counts c.number_of.result 0 ≡ count_by (is_at old) places =
    search (arith, get_or) in
    omega (arith, run_some are)

pub invariant_of-self : goal.invariant_of-self
invariant_of-self c = let places = c.self.inside.places.items in let old = c.index-old.result.now in
    let new = c.args.place in let start = c.args.start in
    let n = c.end_of_run-next.result - start in
    let are : AreAt places start n old = search (arith, run_is) in
    let from = or_parts (is_lent old) (is_stranded old) (sym c.if-is_in_set.ensures) in
    let to = or_parts (is_lent new) (is_stranded new) (sym c.if-is_in_set-2.ensures) in
    let after : List Place = placed (range_with_len start n) new places in
    let put : c.put_all.new.places ≡ after = c.put_all.ensures
    ∙ ap (λ (l : List Place). placed (range_with_len start n) new l) c.deref_mut.ensures.value in
    let count : length c.put_all.new.places ≡ length places =
    ap (λ (l : List Place). length l) put ∙ length-marked (range_with_len start n) new places in
    let counts = c.self.inside.counts in
    let now : take c.self.inside.places.len (c.put_all.new.places ++ drop
    (length c.put_all.new.places) places) ≡ after = ap (λ (k : ℕ). take k (c.put_all.new.places
    ++ drop (length c.put_all.new.places) places)) (omega (arith, count, c.self.inside.places.ok))
    ∙ (take-append_seam c.put_all.new.places (drop (length c.put_all.new.places) places) ∙ put) in
    rw now (run_table new c.self.invariant are
    c.number_of.ensures c.number_of-2.ensures to.0 from.0 to.1 from.1)
