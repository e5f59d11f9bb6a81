-- How few parts there are to discard, worked out: of pages 0 to 20, and 22 to 31.
use Rattle.std.proofs.Common.{◌≡◌, ℕ, refl, true, false, [], ◌∷◌}
use Rattle.vb_core.specs.declared.kinds.Kind.TheVariants.{Inflate, Deflate, Statistics, Hint, Report}
use Rattle.vb_core.specs.declared.runs.Run.{Run}
use Rattle.vb_monitor.{specs.Giving.is_discarded}

abbrev run : ℕ → ℕ → Run
run first count = record { first = first; count = count }

discarded : is_discarded Inflate true ∷ is_discarded Inflate false ∷ is_discarded Deflate false
    ∷ is_discarded Statistics false ∷ is_discarded Hint true ∷ is_discarded Hint false
    ∷ is_discarded Report true ∷ is_discarded Report false ∷ []
    ≡ false ∷ true ∷ false ∷ false ∷ false ∷ true ∷ false ∷ true ∷ []
discarded = refl
