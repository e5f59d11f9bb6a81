-- Rules, chains and faults, worked out: in a table of 8 descriptors, where memory has 4096 bytes.
use Rattle.std.proofs.Common.{◌≡◌, ℕ, zero, suc, ◌+◌, ◌<◌, ◌==◌, true, false, [], ◌∷◌, map, refl}
use Rattle.std.proofs.Common.{arith, inl}
use Rattle.std.specs.Prelude.{Bool, Option, Some, None, if◌then◌else◌, slice_index}
use Rattle.vb_chain.specs.declared.fault.ChainFault.TheVariants.{BadHead, BadNext, TooLong}
use Rattle.vb_chain.specs.declared.{descriptor.Descriptor.Descriptor, fault.ChainFault.ChainFault}
use Rattle.vb_chain.specs.declared.fault.ChainFault.TheVariants.{Indirect, WrongDirection, OutOfRam}
use Rattle.vb_chain.specs.{Rules.{has_next, first_fault}, Written.linked}
use Rattle.vb_chain.specs.Chain.{IsPath, IsChain, BreaksAt, ChainGives, NoHead, FaultGives, fault_at}

abbrev one : ℕ → ℕ → ℕ → ℕ → Descriptor
one addr len flags next = record { addr = addr; len = len; flags = flags; next = next }

-- ---- which rule is broken

-- the first, or the eighth of a chain; after a writable piece or not
abbrev fault : Bool → ℕ → Descriptor → Option ChainFault
fault writing k d = first_fault 8 4096 writing k d

sound : fault false 0 (one 0 4096 0 0) ∷ fault false 0 (one 4096 0 0 0) ∷ fault true 1 (one 0 9 2 0)
    ∷ fault false 6 (one 0 9 1 7) ∷ fault false 7 (one 0 9 0 8) ∷ []
    ≡ None ∷ None ∷ None ∷ None ∷ None ∷ []
sound = refl

broken : fault false 0 (one 1 4096 0 0) ∷ fault true 1 (one 0 9 0 0) ∷ fault false 0 (one 0 9 1 8)
    ∷ fault false 7 (one 0 9 1 7) ∷ fault false 0 (one 0 9 4 0) ∷ []
    ≡ Some OutOfRam ∷ Some WrongDirection ∷ Some BadNext ∷ Some TooLong ∷ Some Indirect ∷ []
broken = refl

-- where several are broken, the first in this order is answered
first_is_answered : fault true 7 (one 4096 1 5 8) ∷ fault true 7 (one 4096 1 1 8)
    ∷ fault true 7 (one 4095 1 1 8) ∷ fault false 7 (one 4095 1 1 8) ∷ []
    ≡ Some Indirect ∷ Some OutOfRam ∷ Some WrongDirection ∷ Some BadNext ∷ []
first_is_answered = refl

-- ---- a chain of two: descriptor 0 is to be read, and descriptor 2, its next, to be written

abbrev table : ℕ → Descriptor
table i = if i == 0 then one 64 16 1 2 else one 128 4 2 0

two_is_a_path : IsPath table 0 (0 ∷ 2 ∷ [])
two_is_a_path = record { some = omega arith; begins = refl; onward = onward; linked = links } where
  onward : (k : ℕ) → k + 1 < 2 → has_next (table (slice_index (0 ∷ 2 ∷ []) k)) ≡ true
  onward zero lt = refl
  onward (suc k) lt = absurd (omega (arith, lt))

  links : (k : ℕ) → k + 1 < 2
      → (table (slice_index (0 ∷ 2 ∷ []) k)).next ≡ slice_index (0 ∷ 2 ∷ []) (k + 1)
  links zero lt = refl
  links (suc k) lt = absurd (omega (arith, lt))

two_is_a_chain : ChainGives table 8 4096 0 (record { addr = 64; len = 16; writable = false }
    ∷ record { addr = 128; len = 4; writable = true } ∷ [])
two_is_a_chain = record {
  path = 0 ∷ 2 ∷ [];
  chain = grind arith;
  pieces_are = refl;
} where
  no_fault : (k : ℕ) → k < 2 → fault_at table 8 4096 (0 ∷ 2 ∷ []) k ≡ None
  no_fault zero lt = refl
  no_fault (suc zero) lt = refl
  no_fault (suc (suc k)) lt = absurd (omega (arith, lt))

  last : (k : ℕ) → k + 1 ≡ 2 → has_next (table (slice_index (0 ∷ 2 ∷ []) k)) ≡ false
  last zero e = absurd (omega (arith, e))
  last (suc zero) e = refl
  last (suc (suc k)) e = absurd (omega (arith, e))

-- it doesn't end at its first descriptor, goes on to no other than its next, and begins at no other
one_is_no_chain : IsChain table 8 4096 0 (0 ∷ []) → ⊥
one_is_no_chain chain = (let ends : true ≡ false = chain.ends 0 refl in absurd cc)

another_is_no_path : IsPath table 0 (0 ∷ 3 ∷ []) → ⊥
another_is_no_path path = omega (arith, path.linked 0 (omega arith))

from_another_is_no_path : IsPath table 1 (0 ∷ 2 ∷ []) → ⊥
from_another_is_no_path path = omega (arith, path.begins)

no_path_is_empty : IsPath table 0 [] → ⊥
no_path_is_empty path = omega (arith, path.some)

-- a table of two has no room for it, and memory that ends in its last piece has a fault there
outside_of_two : BreaksAt table 2 4096 0 (0 ∷ []) BadNext
outside_of_two = record {
  inside = omega arith;
  is_path = record {
    some = omega arith;
    begins = refl;
    onward = λ k lt. absurd (omega (arith, lt));
    linked = λ k lt. absurd (omega (arith, lt));
  };
  sound = λ k lt. absurd (omega (arith, lt));
  breaks = at_last;
} where
  at_last : (k : ℕ) → k + 1 ≡ 1 → fault_at table 2 4096 (0 ∷ []) k ≡ Some BadNext
  at_last zero e = refl
  at_last (suc k) e = absurd (omega (arith, e))

past_memory : BreaksAt table 8 131 0 (0 ∷ 2 ∷ []) OutOfRam
past_memory =
    record { inside = omega arith; is_path = two_is_a_path; sound = before; breaks = at_last }
  where
    before : (k : ℕ) → k + 1 < 2 → fault_at table 8 131 (0 ∷ 2 ∷ []) k ≡ None
    before zero lt = refl
    before (suc k) lt = absurd (omega (arith, lt))

    at_last : (k : ℕ) → k + 1 ≡ 2 → fault_at table 8 131 (0 ∷ 2 ∷ []) k ≡ Some OutOfRam
    at_last zero e = absurd (omega (arith, e))
    at_last (suc zero) e = refl
    at_last (suc (suc k)) e = absurd (omega (arith, e))

-- no fault is found where a descriptor before it has one
not_the_second : BreaksAt table 2 4096 0 (0 ∷ 2 ∷ []) OutOfRam → ⊥
not_the_second breaks = (let none : Some BadNext ≡ None = breaks.sound 0 (omega arith) in absurd cc)

-- no chain begins past the table, and none has a fault, at its last descriptor either
past_the_table : (IsChain (λ i. one 0 0 0 0) 1 4096 1 (1 ∷ []) → ⊥)
    × ((f : ChainFault) → BreaksAt (λ i. one 0 0 4 0) 1 4096 1 (1 ∷ []) f → ⊥)
past_the_table = (λ chain. omega (arith, chain.inside), λ f breaks. omega (arith, breaks.inside))

no_chain_past_memory : IsChain table 8 131 0 (0 ∷ 2 ∷ []) → ⊥
no_chain_past_memory chain =
    (let none : Some OutOfRam ≡ None = chain.sound 1 (omega arith) in absurd cc)

-- one that is read after one that is written, and two that name each other in a table of two
faults_on_the_way : map (λ d. map (fault_at d 2 4096 (0 ∷ 1 ∷ [])) (0 ∷ 1 ∷ []))
    ((λ i. if i == 0 then one 0 4 3 1 else one 0 4 0 0) ∷ (λ i. one 0 4 1 (if i == 0 then 1 else 0)) ∷ [])
    ≡ (None ∷ Some WrongDirection ∷ []) ∷ (None ∷ Some TooLong ∷ []) ∷ []
faults_on_the_way = refl

-- a head past the table is BadHead and nothing else
bad_head : FaultGives table 8 4096 8 BadHead
bad_head = inl (record { past = omega arith; is = refl })

bad_head_alone : FaultGives table 8 4096 8 OutOfRam → ⊥
bad_head_alone gives = grind arith

last_head_is_good : NoHead 8 7 BadHead → ⊥
last_head_is_good is = omega (arith, is.past)

-- ---- what a driver writes: the last descriptor of two has no NEXT

written : map (linked (5 ∷ 3 ∷ []) (record { addr = 64; len = 16; writable = false }
    ∷ record { addr = 128; len = 4; writable = true } ∷ [])) (0 ∷ 1 ∷ [])
    ≡ one 64 16 1 3 ∷ one 128 4 2 0 ∷ []
written = refl
