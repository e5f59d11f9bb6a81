-- Chains of as many descriptors as one may have, and of one more, in the largest table, worked out.
use Rattle.std.proofs.Common.{◌≡◌, ◌∙◌, ap, refl, arith, inr, ℕ, ◌+◌, ◌<◌, ◌≤◌, Bool, true}
use Rattle.std.{proofs.Common.{false, List, length, map, take, None}, specs.Prelude.{nat_lt, slice_index}}
use Rattle.std.specs.{Prelude.if◌then◌else◌, List.{range_with_len, list_any}}
use Rattle.std.proofs.lemmas.{Bool.Decides.nat_tests, List.length-map}
use Rattle.std.proofs.lemmas.List.FromFn.{get_or-range_with_len, length-range_with_len}
use Rattle.vb_chain.specs.Chain.{IsPath, fault_at}
use Rattle.vb_chain.specs.Rules.{has_next, is_writable, first_fault, piece_of}
use Rattle.vb_chain.specs.declared.{descriptor.Descriptor.Descriptor, pieces.Piece.Piece}
use Rattle.vb_chain.specs.declared.fault.ChainFault.TheVariants.{TooLong, BadNext}
use Rattle.vb_monitor.specs.Within.{ChainWithin, GoesPast, FaultWithin}
use Rattle.vb_monitor.proofs.WithinLemmas.{chain_or_fault_within, fault_is_within}

-- n descriptors one after the other, from the table's second one on, which the device may write, in
-- memory of a page
abbrev with_next : Bool → ℕ → Descriptor
with_next goes_on next = record { addr = 0; len = 0; flags = if goes_on then 3 else 2; next = next }

abbrev line : ℕ → ℕ → Descriptor
line n i = with_next (nat_lt i n) (i + 1)

abbrev path : ℕ → List ℕ
path n = range_with_len 1 n

at : (n k : ℕ) → k < n → slice_index (path n) k ≡ k + 1
at n k lt = let same : 1 + k ≡ k + 1 = omega arith in get_or-range_with_len 1 n k 0 lt ∙ same

long : (n : ℕ) → length (path n) ≡ n
long n = length-range_with_len 1 n

goes : (goes_on : Bool) (next : ℕ) → has_next (with_next goes_on next) ≡ goes_on
goes true next = refl
goes false next = refl

less : (a b : ℕ) → a < b → nat_lt a b ≡ true
less a b lt = grind (arith, nat_tests)

not_less : (a b : ℕ) → b ≤ a → nat_lt a b ≡ false
not_less a b le = grind (arith, nat_tests)

goes_on : (n k : ℕ) → k + 1 < n → has_next (line n (k + 1)) ≡ true
goes_on n k lt = goes (nat_lt (k + 1) n) (k + 1 + 1) ∙ less (k + 1) n lt

is_path : (n m : ℕ) → 0 < m → m ≤ n → IsPath (line n) 1 (path m)
is_path n m some le = record {
  some = omega (arith, long m, some);
  begins = at m 0 some;
  onward = λ k lt. let below : k + 1 < m = omega (arith, lt, long m) in
      ap (λ (i : ℕ). has_next (line n i)) (at m k (omega (arith, below)))
      ∙ goes_on n k (omega (arith, below, le));
  linked = λ k lt. let below : k + 1 < m = omega (arith, lt, long m) in
      let here = at m k (omega (arith, below)) in
      let there = at m (k + 1) below in omega (arith, here, there);
}

unbroken : (goes_on writing : Bool) (k : ℕ) → k + 1 + 1 < 1024 →
    first_fault 1024 4096 writing k (with_next goes_on (k + 1 + 1)) ≡ None
unbroken true true k lt = grind (arith, nat_tests)
unbroken true false k lt = grind (arith, nat_tests)
unbroken false true k lt = refl
unbroken false false k lt = refl

sound : (n m : ℕ) → m ≤ 256 → (k : ℕ) → k < m → fault_at (line n) 1024 4096 (path m) k ≡ None
sound n m few k lt =
    let writing : Bool = list_any (λ i. is_writable (line n i)) (take k (path m)) in
    ap (λ (i : ℕ). first_fault 1024 4096 writing k (line n i)) (at m k lt)
    ∙ unbroken (nat_lt (k + 1) n) writing k (omega (arith, few, lt))

ends : (k : ℕ) → k + 1 ≡ 256 → has_next (line 256 (slice_index (path 256) k)) ≡ false
ends k last = ap (λ (i : ℕ). has_next (line 256 i)) (at 256 k (omega (arith, last)))
    ∙ (goes (nat_lt (k + 1) 256) (k + 1 + 1) ∙ not_less (k + 1) 256 (omega (arith, last)))

-- 256 are a chain
as_many_as_may : ChainWithin (line 256) 1024 4096 1 (map (λ i. piece_of (line 256 i)) (path 256))
as_many_as_may = record {
  gives = record {
    path = path 256;
    chain = record {
      inside = omega arith;
      is_path = is_path 256 256 (omega arith) (omega arith);
      short = omega (arith, long 256);
      sound = λ k lt. sound 256 256 (omega arith) k (omega (arith, lt, long 256));
      ends = λ k last. ends k (omega (arith, last, long 256));
    };
    pieces_are = refl;
  };
  few = let all = length-map (path 256) (λ (i : ℕ). piece_of (line 256 i)) in
      omega (arith, all, long 256);
}

-- one more, and the rule is broken that a chain is too long
one_more : GoesPast (line 257) 1024 4096 1 TooLong
one_more = record {
  path = path 256;
  inside = omega arith;
  is_path = is_path 257 256 (omega arith) (omega arith);
  all = long 256;
  sound = λ k lt. sound 257 256 (omega arith) k lt;
  more = λ k last. ap (λ (i : ℕ). has_next (line 257 i)) (at 256 k (omega (arith, last)))
      ∙ goes_on 257 k (omega (arith, last));
  is = refl;
}

-- the first is broken by no rule, and the second is no chain, nor does it break another rule
not_too_long : FaultWithin (line 256) 1024 4096 1 TooLong → ⊥
not_too_long h = chain_or_fault_within (line 256) 1024 4096 1 _ TooLong as_many_as_may h

no_chain : (pieces : List Piece) → ChainWithin (line 257) 1024 4096 1 pieces → ⊥
no_chain pieces h = chain_or_fault_within (line 257) 1024 4096 1 pieces TooLong h (inr (inr one_more))

no_other_rule : FaultWithin (line 257) 1024 4096 1 BadNext → ⊥
no_other_rule h =
    let e = fault_is_within (line 257) 1024 4096 1 BadNext TooLong h (inr (inr one_more)) in absurd cc

-- no more pieces, whatever memory has
never_more : (d : ℕ → Descriptor) (end head : ℕ) (pieces : List Piece) → length pieces ≡ 257 →
    ChainWithin d 1024 end head pieces → ⊥
never_more d end head pieces long h = let few = h.few in omega (arith, few, long)
