-- What is held, worked out: of each kind's queue for itself.
use Rattle.std.proofs.Common.{◌≡◌, [], ◌∷◌, map, refl}
use Rattle.vb_core.specs.Held.{nothing_held, held_of, held_pages, with_held, held_without}
use Rattle.vb_core.specs.declared.{held.Held.Held}
use Rattle.vb_core.specs.declared.kinds.Kind.TheVariants.{Inflate, Deflate, Statistics, Hint, Report}

abbrev both : Held
both = record { statistics = 5; deflate = 9; pages = 3 }

each : map (λ kind. held_of kind both) (Inflate ∷ Deflate ∷ Statistics ∷ Hint ∷ Report ∷ [])
    ≡ 0 ∷ 9 ∷ 5 ∷ 0 ∷ 0 ∷ []
each = refl

pages : map (λ kind. held_pages kind both) (Inflate ∷ Deflate ∷ Statistics ∷ Hint ∷ Report ∷ [])
    ≡ 0 ∷ 3 ∷ 0 ∷ 0 ∷ 0 ∷ []
pages = refl

none : map (λ kind. held_of kind nothing_held) (Inflate ∷ Deflate ∷ Statistics ∷ Hint ∷ Report ∷ [])
    ≡ 0 ∷ 0 ∷ 0 ∷ 0 ∷ 0 ∷ []
none = refl

-- one more is held: pages are a deflate's alone, and nothing is held of inflates, hints and reports
held : map (λ kind. with_held kind 7 2 both) (Inflate ∷ Deflate ∷ Statistics ∷ Hint ∷ Report ∷ [])
    ≡ both ∷ record both { deflate = 7; pages = 2 } ∷ record both { statistics = 7 } ∷ both ∷ both ∷ []
held = refl

-- forgotten: a deflate with its pages, and the other kind's stays
forgotten : map (λ kind. held_without kind both) (Inflate ∷ Deflate ∷ Statistics ∷ Hint ∷ Report ∷ [])
    ≡ both ∷ record both { deflate = 0; pages = 0 } ∷ record both { statistics = 0 } ∷ both ∷ both ∷ []
forgotten = refl
