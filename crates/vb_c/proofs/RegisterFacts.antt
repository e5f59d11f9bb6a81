-- What the calls for features, the configuration space and reports answer in C, worked out: each refusal, and what it leaves.
use Rattle.std.proofs.Common.{refl, ap, arith, ℕ, List, [], ◌∷◌}
use Rattle.vb_core.specs.declared.device.Device.{Device}
use Rattle.vb_core.specs.Devices.{new_device}
use Rattle.vb_c.specs.Registers.{Negotiates, WritesConfig}
use Rattle.vb_c.proofs.Samples.{Same, settings, begun, ready}

abbrev target_of : Device → ℕ
target_of d = d.target

-- ---- features

-- the driver has begun, and features may be written
abbrev driving : Device
driving = record (new_device settings) { status = 3 }

negotiated : Negotiates 0x100000007 driving (record driving { features = 0x100000007 }) 0
negotiated = record { denied = λ why e. absurd cc; accepted = λ e. (refl, refl) }

not_taken : Negotiates 0x100000007 driving driving 0 → ⊥
not_taken h = let e : Same 0 0x100000007 = ap (λ (d : Device). d.features) (h.accepted refl).1 in omega arith

refused_although_offered : (d : Device) → Negotiates 0x100000007 driving d 3 → ⊥
refused_although_offered d h = let e : Same 3 0 = (h.accepted refl).0 in omega arith

-- a feature that isn't offered is refused with 3, and features that come late with 2
not_offered : (d : Device) → Negotiates 0x300000007 driving d 0 → ⊥
not_offered d h = let e : Same 0 3 = (h.denied _ refl).0 in omega arith

taken_although_refused : Negotiates 0x300000007 driving (record driving { features = 0x300000007 }) 3 → ⊥
taken_although_refused h =
    let e : Same 0x300000007 0 = ap (λ (d : Device). d.features) (h.denied _ refl).1 in omega arith

late : (d : Device) → Negotiates 0x100000007 begun d 0 → ⊥
late d h = let e : Same 0 2 = (h.denied _ refl).0 in omega arith

-- ---- the configuration space

-- the lowest byte first: 5 and 256
abbrev number : List ℕ
number = 5 ∷ 1 ∷ 0 ∷ 0 ∷ []

actual_written : WritesConfig 4 number ready (record ready { actual = 261 }) 0
actual_written = record { denied = λ e. absurd cc; written = λ e. (refl, refl) }

not_written : WritesConfig 4 number ready ready 0 → ⊥
not_written h = let e : Same 0 261 = ap (λ (d : Device). d.actual) (h.written refl).1 in omega arith

in_another_field : WritesConfig 4 number ready (record ready { target = 261 }) 0 → ⊥
in_another_field h = let e : Same 261 0 = ap target_of (h.written refl).1 in omega arith

-- num_pages is the host's, and half a field is ignored
target_written : (d : Device) → WritesConfig 0 number ready d 0 → ⊥
target_written d h = let e : Same 0 7 = (h.denied refl).0 in omega arith

three_bytes : (d : Device) → WritesConfig 4 (5 ∷ 1 ∷ 0 ∷ []) ready d 0 → ⊥
three_bytes d h = let e : Same 0 7 = (h.denied refl).0 in omega arith

written_although_refused : WritesConfig 0 number ready (record ready { target = 261 }) 7 → ⊥
written_although_refused h = let e : Same 261 0 = ap target_of (h.denied refl).1 in omega arith

refused_although_its : (d : Device) → WritesConfig 4 number ready d 7 → ⊥
refused_although_its d h = let e : Same 7 0 = (h.written refl).0 in omega arith

-- poison_val is there only where PAGE_POISON is offered
poison_unoffered : (d : Device) → WritesConfig 12 number ready d 0 → ⊥
unfolding lib.Count.ones
poison_unoffered d h = let e : Same 0 7 = (h.denied refl).0 in omega arith

abbrev poisoning : Device
poisoning = record ready { settings = record settings { offered = 0x100000037 } }

poison_written : WritesConfig 12 number poisoning (record poisoning { poison = 261 }) 0
unfolding lib.Count.ones
poison_written = record { denied = λ e. absurd cc; written = λ e. (refl, refl) }

poison_as_actual : WritesConfig 12 number poisoning (record poisoning { actual = 261 }) 0 → ⊥
unfolding lib.Count.ones
poison_as_actual h = let e : Same 261 0 = ap (λ (d : Device). d.actual) (h.written refl).1 in omega arith

-- a write of all 16 bytes writes both fields, and nothing else
abbrev whole : List ℕ
whole = 9 ∷ 9 ∷ 9 ∷ 9 ∷ 5 ∷ 1 ∷ 0 ∷ 0 ∷ 9 ∷ 9 ∷ 9 ∷ 9 ∷ 6 ∷ 1 ∷ 0 ∷ 0 ∷ []

whole_written : WritesConfig 0 whole poisoning (record poisoning { actual = 261; poison = 262 }) 0
unfolding lib.Count.ones
whole_written = record { denied = λ e. absurd cc; written = λ e. (refl, refl) }

whole_refused : (d : Device) → WritesConfig 0 whole ready d 7 → ⊥
unfolding lib.Count.ones
whole_refused d h = let e : Same 7 0 = (h.written refl).0 in omega arith

num_pages_of_the_whole : WritesConfig 0 whole ready (record ready { actual = 261; target = 0x9090909 }) 0 → ⊥
unfolding lib.Count.ones
num_pages_of_the_whole h = let e : Same 0x9090909 0 = ap target_of (h.written refl).1 in omega arith
