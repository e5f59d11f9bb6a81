-- What a notice says by its bits, worked out, and what it doesn't.
use Rattle.std.proofs.Common.{◌≡◌, refl, arith, ◌+◌, true, false, None}
use Rattle.vb_monitor.specs.declared.regions.Spot.{Spot}
use Rattle.vb_monitor.specs.declared.orders.Told.TheVariants.{Nothing, Pages, Figures, Id}
use Rattle.vb_monitor.specs.declared.step.Phase.TheVariants.{AwaitsIndex, AwaitsEntry, AwaitsFlags}
use Rattle.vb_c.specs.Notices.{what_of}

abbrev spot : Spot
spot = record { region = 0; offset = 0 }

-- told, discarded, given back, and then the next entry, or the flags: the bits of vb.h
all_of_them : what_of (record { told = Pages; gives = true }) 1 (AwaitsEntry spot) ≡
    1 + 8 + 16 + 32 + 128
all_of_them = refl

behind_the_last : what_of (record { told = Pages; gives = true }) 1 (AwaitsFlags spot None false) ≡
    1 + 8 + 16 + 64 + 128
behind_the_last = refl

figures_then_flags : what_of (record { told = Figures; gives = false }) 0
    (AwaitsFlags spot None true) ≡ 2 + 64 + 128
figures_then_flags = refl

an_id_then_an_entry : what_of (record { told = Id; gives = true }) 0 (AwaitsEntry spot) ≡
    4 + 16 + 32 + 128
an_id_then_an_entry = refl

behind_a_fence : what_of (record { told = Nothing; gives = false }) 0 (AwaitsEntry spot) ≡ 32 + 128
behind_a_fence = refl

an_index : what_of (record { told = Nothing; gives = false }) 0 (AwaitsIndex spot) ≡ 128
an_index = refl

not_discarded : what_of (record { told = Pages; gives = true }) 0 (AwaitsEntry spot) ≡
    1 + 8 + 16 + 32 + 128 → ⊥
not_discarded e = grind arith
