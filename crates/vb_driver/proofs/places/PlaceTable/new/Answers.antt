use Rattle.{std.proofs.Common.{ap, ℕ, List, [], ◌∷◌, set}, vb_driver.proofs.Counting.reserved_table}
use Rattle.vb_driver.proofs.places.PlaceTable.new.Goals as goal

pub invariant_of-table : goal.invariant_of-table
invariant_of-table c = let zeros : List ℕ = 0 ∷ 0 ∷ 0 ∷ 0 ∷ 0 ∷ 0 ∷ 0 ∷ 0 ∷ [] in
    reserved_table
    c.args.pages (ap (λ (k : ℕ). set zeros k c.args.pages) c.number_of.ensures) c.in_ok-new.ensures
    c.in_ok-new-2.ensures (c.in_ok-places.ensures.items_if_clones_equal (λ y e. e)) c.requires.most
