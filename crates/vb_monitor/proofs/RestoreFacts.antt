-- What a balloon becomes of what was saved, worked out.
use Rattle.std.proofs.Common.{refl, ap, arith, inl, ℕ, Result, Ok, Err}
use Rattle.vb_core.{specs.declared.saved.Saved.Saved, specs.Devices.new_device}
use Rattle.vb_core.specs.{Held.nothing_held, declared.held.Held.Held}
use Rattle.vb_core.specs.declared.saved.StateDenial.TheVariants.{BadSum, BadLength}
use Rattle.vb_monitor.specs.declared.{balloon.Balloon.Balloon, placing.RestoreDenial.RestoreDenial}
use Rattle.vb_monitor.specs.declared.placing.RestoreDenial.TheVariants.{State, Elsewhere}
use Rattle.vb_monitor.{specs.Places.{FitsOver, RestoresBy}, proofs.PlaceLemmas.each_lies}
use Rattle.vb_monitor.proofs.Samples.{Same, two, settings, a_buffer}

-- a buffer is held, and a deflate
abbrev kept : Held
kept = record { statistics = 4; deflate = 9; pages = 3 }

-- one that is new, and what was saved of one with a target and what it holds
abbrev fresh : Balloon
fresh = record { device = new_device settings; held = nothing_held }

abbrev saved : Saved
saved = record { device = record (new_device settings) { target = 5 }; held = kept }

abbrev gone_on : Balloon
gone_on = record { device = saved.device; held = kept }

fits : FitsOver two fresh saved
fits = record {
  same_end = refl;
  lie = each_lies two saved.device (inl refl) (inl refl) (inl refl) (inl refl) (inl refl);
}

abbrev held_of : Balloon → ℕ
held_of b = b.held.statistics

abbrev target_of : Balloon → ℕ
target_of b = b.device.target

abbrev denial_of : Result (Unit {0}) RestoreDenial → ℕ
denial_of (Ok done) = 0
denial_of (Err Elsewhere) = 1
denial_of (Err (State BadSum)) = 2
denial_of (Err (State why)) = 3

-- ---- bytes that aren't a state

refused : RestoresBy (Err BadSum) two fresh fresh (Err (State BadSum))
refused = (refl, refl)

changed_although_refused : RestoresBy (Err BadSum) two fresh gone_on (Err (State BadSum)) → ⊥
changed_although_refused h = let e : Same 4 0 = ap held_of h.1 in omega arith

for_another_reason : RestoresBy (Err BadSum) two fresh fresh (Err (State BadLength)) → ⊥
for_another_reason h = let e : Same 3 2 = ap denial_of h.0 in omega arith

as_if_elsewhere : RestoresBy (Err BadSum) two fresh fresh (Err Elsewhere) → ⊥
as_if_elsewhere h = let e : Same 1 2 = ap denial_of h.0 in omega arith

done_although_refused : RestoresBy (Err BadSum) two fresh fresh (Ok tt) → ⊥
done_although_refused h = let e : Same 0 2 = ap denial_of h.0 in omega arith

-- ---- a state

goes_on : RestoresBy (Ok saved) two fresh gone_on (Ok tt)
goes_on = record { elsewhere = λ no. absurd (no fits); goes_on = λ h. (refl, refl) }

held_forgotten : RestoresBy (Ok saved) two fresh (record gone_on { held = nothing_held }) (Ok tt) → ⊥
held_forgotten h = let e : Same 0 4 = ap held_of (h.goes_on fits).1 in omega arith

deflate_forgotten : RestoresBy (Ok saved) two fresh (record gone_on { held = a_buffer 4 }) (Ok tt) → ⊥
deflate_forgotten h = let e : Same 0 9 = ap (λ (b : Balloon). b.held.deflate) (h.goes_on fits).1 in
    omega arith

pages_forgotten : RestoresBy (Ok saved) two fresh (record gone_on { held = record kept { pages = 0 } }) (Ok tt) → ⊥
pages_forgotten h = let e : Same 0 3 = ap (λ (b : Balloon). b.held.pages) (h.goes_on fits).1 in
    omega arith

target_forgotten : RestoresBy (Ok saved) two fresh (record fresh { held = kept }) (Ok tt) → ⊥
target_forgotten h = let e : Same 0 5 = ap target_of (h.goes_on fits).1 in omega arith

refused_although_it_fits : (b : Balloon) → RestoresBy (Ok saved) two fresh b (Err Elsewhere) → ⊥
refused_although_it_fits b h = let e : Same 1 0 = ap denial_of (h.goes_on fits).0 in omega arith

-- ---- a state of other memory

abbrev short : Balloon
short = record { device = new_device (record settings { memory_end = 0x10000 }); held = nothing_held }

ends_elsewhere : FitsOver two short saved → ⊥
ends_elsewhere h = let e : Same 0x20000 0x10000 = h.same_end in omega arith

not_there : RestoresBy (Ok saved) two short short (Err Elsewhere)
not_there = record { elsewhere = λ no. (refl, refl); goes_on = λ h. absurd (ends_elsewhere h) }

gone_on_elsewhere : (b : Balloon) → RestoresBy (Ok saved) two short b (Ok tt) → ⊥
gone_on_elsewhere b h = let e : Same 0 1 = ap denial_of (h.elsewhere ends_elsewhere).0 in omega arith

changed_elsewhere : RestoresBy (Ok saved) two short gone_on (Err Elsewhere) → ⊥
changed_elsewhere h = let e : Same 4 0 = ap held_of (h.elsewhere ends_elsewhere).1 in omega arith
