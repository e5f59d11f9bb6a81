-- What saving and restoring answer in C, worked out.
use Rattle.std.proofs.Common.{◌≡◌, ◌∙◌, refl, ap, sym, arith, Result, Ok, Err, ℕ, List, [], ◌∷◌, length, Some}
use Rattle.vb_core.{specs.declared.device.Device.Device, specs.declared.saved.Saved.Saved}
use Rattle.vb_core.{specs.declared.saved.StateDenial.{StateDenial, TheVariants.{BadLength, BadSum, Impossible}}, specs.Saved.{restored, save_denial}}
use Rattle.vb_c.specs.Saving.{Saves, Restores}
use Rattle.vb_c.proofs.Samples.{Same, begun}
use Rattle.vb_c.proofs.Samples.{a_buffer}
use Rattle.vb_core.specs.{Held.nothing_held, declared.held.Held.Held}

abbrev saved : Saved
saved = record { device = begun; held = a_buffer 4 }

abbrev first_byte : List ℕ → ℕ
first_byte [] = 0
first_byte (b ∷ bs) = b

-- bytes that are too few are refused, and stay
written_although_refused : Saves saved (7 ∷ []) (8 ∷ []) 9 → ⊥
written_although_refused h = let e : Same 8 7 = ap first_byte (h.denied BadLength refl).1 in omega arith

saved_in_one_byte : (new : List ℕ) → Saves saved (7 ∷ []) new 0 → ⊥
saved_in_one_byte new h = let e : Same 0 9 = (h.denied BadLength refl).0 in omega arith

-- each refusal has its code
as_too_short : (s : Saved) (old new : List ℕ) → save_denial s (length old) ≡ Some Impossible → Saves s old new 9 → ⊥
as_too_short s old new e h = let code : Same 9 13 = (h.denied Impossible e).0 in omega arith

restored_as_too_short : (bytes : List ℕ) (d : Device) (held : Held) → restored bytes ≡ Err BadSum →
    Restores bytes begun d (a_buffer 4) held 9 → ⊥
restored_as_too_short bytes d held e h = let code : Same 9 12 = (h.denied BadSum e).0 in omega arith

-- of no byte nothing is restored
changed_by_nothing : (held : Held) → Restores [] begun (record begun { target = 1 }) held held 9 → ⊥
changed_by_nothing held h = let e : Same 1 0 = ap (λ (d : Device). d.target) (h.denied BadLength refl).1 in omega arith

held_by_nothing : Restores [] begun begun (a_buffer 4) (a_buffer 0) 9 → ⊥
held_by_nothing h =
    let e : Same 0 4 = ap (λ (x : Held). x.statistics) (h.denied BadLength refl).2 in omega arith

restored_from_nothing : (d : Device) (held : Held) → Restores [] begun d (a_buffer 4) held 0 → ⊥
restored_from_nothing d held h = let e : Same 0 9 = (h.denied BadLength refl).0 in omega arith

-- any bytes that are a state: they give the device, and the buffer that is held
abbrev device_in : Result Saved StateDenial → Device
device_in (Ok s) = s.device
device_in (Err why) = begun

abbrev held_in : Result Saved StateDenial → Held
held_in (Ok s) = s.held
held_in (Err why) = nothing_held

restored_so : (bytes : List ℕ) (s : Saved) → restored bytes ≡ Ok s → Restores bytes begun s.device (a_buffer 4) s.held 0
restored_so bytes s e = record {
  denied = λ why f. absurd cc;
  restored_so = λ t f. let same = sym e ∙ f in (refl, ap device_in same, ap held_in same);
}

refused_all_the_same : (bytes : List ℕ) (s : Saved) (d : Device) (held : Held) → restored bytes ≡ Ok s →
    Restores bytes begun d (a_buffer 4) held 9 → ⊥
refused_all_the_same bytes s d held e h = let code : Same 9 0 = (h.restored_so s e).0 in omega arith

device_stays : (bytes : List ℕ) (held : Held) → restored bytes ≡ Ok (record { device = record begun { target = 1 }; held = a_buffer 5 }) →
    Restores bytes begun begun (a_buffer 4) held 0 → ⊥
device_stays bytes held e h =
    let same : Same 0 1 = ap (λ (d : Device). d.target) (h.restored_so _ e).1 in omega arith

buffer_stays : (bytes : List ℕ) (d : Device) → restored bytes ≡ Ok (record { device = begun; held = a_buffer 5 }) →
    Restores bytes begun d (a_buffer 4) (a_buffer 4) 0 → ⊥
buffer_stays bytes d e h =
    let same : Same 4 5 = ap (λ (x : Held). x.statistics) (h.restored_so _ e).2 in omega arith

deflate_stays : (bytes : List ℕ) (d : Device) →
    restored bytes ≡ Ok (record { device = begun; held = record (a_buffer 4) { deflate = 2; pages = 9 } }) →
    Restores bytes begun d (a_buffer 4) (a_buffer 4) 0 → ⊥
deflate_stays bytes d e h =
    let same : Same 0 2 = ap (λ (x : Held). x.deflate) (h.restored_so _ e).2 in omega arith

pages_stay : (bytes : List ℕ) (d : Device) →
    restored bytes ≡ Ok (record { device = begun; held = record (a_buffer 4) { deflate = 2; pages = 9 } }) →
    Restores bytes begun d (a_buffer 4) (record (a_buffer 4) { deflate = 2 }) 0 → ⊥
pages_stay bytes d e h =
    let same : Same 0 9 = ap (λ (x : Held). x.pages) (h.restored_so _ e).2 in omega arith
