use Rattle.std.{proofs.Common.{◌≡◌, ℕ, List, Option, None}, specs.Prelude.replicate}
use Rattle.vb_ring.specs.{declared.layout.Layout.Layout, Layout.layout_of, Ends.fresh_end}
use Rattle.vb_ring.proofs.driver.DriverRing.new.Goals as goal

-- a fresh end, by its layout and its table
fresh_is : (page q : ℕ) (l : Layout) (owner : List (Option ℕ)) → l ≡ layout_of page q → owner
    ≡ replicate q None → record { layout = l; size = q; published = 0; seen = 0; owner = owner }
    ≡ fresh_end (layout_of page q) q
fresh_is page q l owner a b = cc

pub returns-clause-value : goal.returns-clause-value
returns-clause-value c = fresh_is c.args.page c.args.size _ _ c.at.ensures.value c.new.ensures
