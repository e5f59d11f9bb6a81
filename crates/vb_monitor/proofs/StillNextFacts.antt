-- What memory has next on a queue, worked out: its head, its chain, and what is broken.
use Rattle.std.proofs.Common.{◌≡◌, ◌∙◌, ℕ, zero, suc, ◌+◌, ◌<◌, List, [], ◌∷◌, ◌++◌, arith, refl, inl, inr}
use Rattle.std.proofs.Common.{replicate, false, ap, sym, Some, None, Ok, Err}
use Rattle.std.specs.Prelude.{slice_index}
use Rattle.vb_chain.specs.Chain.{ChainGives, IsChain, IsPath, fault_at}
use Rattle.vb_chain.specs.{Rules.{has_next, first_fault, piece_of}, declared.descriptor.Descriptor.Descriptor}
use Rattle.vb_chain.specs.declared.{pieces.Piece.Piece}
use Rattle.vb_chain.specs.declared.fault.ChainFault.TheVariants.{IndexJump, BadHead, OutOfRam}
use Rattle.vb_core.specs.{Devices.placed, declared.ring.Virtqueue.Virtqueue}
use Rattle.vb_monitor.specs.Still.{in_memory, head_in, HasNext}
use Rattle.vb_monitor.proofs.StillAnswers.{one_next}

-- a ring of eight descriptors at 0, 256 and 512, of which nine were taken: the tenth entry is the
-- ring's second; the table says four bytes to be read, from page 20 on, as descriptor 3
abbrev ring : Virtqueue
ring = record (placed 0 256 512 8) { next_avail = 9 }

abbrev bytes : ℕ → ℕ → List ℕ
bytes index head = replicate 48 0 ++ ((0 ∷ 64 ∷ 1 ∷ 0 ∷ 0 ∷ 0 ∷ 0 ∷ 0 ∷ 4 ∷ 0 ∷ 0 ∷ 0 ∷ 0 ∷ 0 ∷ 0 ∷ 0 ∷ [])
    ++ (replicate 192 0 ++ (0 ∷ 0 ∷ index ∷ 0 ∷ 0 ∷ 0 ∷ head ∷ 0 ∷ [])))

abbrev memory : ℕ → ℕ → ℕ → ℕ
memory index head a = slice_index (bytes index head) a

abbrev readable : Piece
readable = record { addr = 0x14000; len = 4; writable = false }

-- eight more may be there, and one more is too far ahead
heads_are : (head_in (memory 17 3) ring ≡ Ok (Some 3)) × (head_in (memory 9 3) ring ≡ Ok None)
    × (head_in (memory 18 3) ring ≡ Err IndexJump) × (head_in (memory 17 8) ring ≡ Ok (Some 8))
heads_are = (refl, refl, refl, refl)

descriptor_is : in_memory (memory 17 3) 0 3 ≡ record { addr = 0x14000; len = 4; flags = 0; next = 0 }
descriptor_is = refl

alone : (d : ℕ → Descriptor) → IsPath d 3 (3 ∷ [])
alone d = record {
  some = omega arith;
  begins = refl;
  onward = λ k lt. absurd (omega (arith, lt));
  linked = λ k lt. absurd (omega (arith, lt));
}

-- a chain of one descriptor
one_piece : (d : ℕ → Descriptor) (end : ℕ) (x : Descriptor) → d 3 ≡ x → has_next x ≡ false
    → first_fault 8 end false 0 x ≡ None → ChainGives d 8 end 3 (piece_of x ∷ [])
one_piece d end x e last sound =
    record { path = 3 ∷ []; chain = chain; pieces_are = ap (λ (y : Descriptor). piece_of y ∷ []) (sym e) }
  where
    no_fault : (k : ℕ) → k < 1 → fault_at d 8 end (3 ∷ []) k ≡ None
    no_fault zero lt = ap (first_fault 8 end false 0) e ∙ sound
    no_fault (suc k) lt = absurd (omega (arith, lt))

    ends : (k : ℕ) → k + 1 ≡ 1 → has_next (d (slice_index (3 ∷ []) k)) ≡ false
    ends zero lt = ap (λ (y : Descriptor). has_next y) e ∙ last
    ends (suc k) lt = absurd (omega (arith, lt))

    chain : IsChain d 8 end 3 (3 ∷ [])
    chain = record {
      inside = omega arith;
      is_path = alone d;
      short = omega arith;
      sound = no_fault;
      ends = ends;
    }

-- the chain that is next, in memory that has its page
a_chain : HasNext (memory 17 3) 262144 ring (Ok (Some (record { head = 3; chain = readable ∷ [] })))
a_chain = (
  refl,
  record { gives = one_piece (in_memory (memory 17 3) 0) 262144 _ descriptor_is refl refl; few = omega arith },
)

none_next : HasNext (memory 9 3) 262144 ring (Ok None)
none_next = refl

jumps : HasNext (memory 18 3) 262144 ring (Err IndexJump)
jumps = inl refl

no_head : HasNext (memory 17 8) 262144 ring (Err BadHead)
no_head = inr (record { head = 8; is_next = refl; gives = inl (record { past = omega arith; is = refl }) })

-- the first descriptor breaks a rule in memory that ends amid its bytes
ends_amid : (k : ℕ) → k + 1 ≡ 1 → fault_at (in_memory (memory 17 3) 0) 8 0x14002 (3 ∷ []) k ≡ Some OutOfRam
ends_amid zero is = ap (first_fault 8 0x14002 false 0) descriptor_is
ends_amid (suc k) is = absurd (omega (arith, is))

past_memory : HasNext (memory 17 3) 0x14002 ring (Err OutOfRam)
past_memory = inr (record {
  head = 3;
  is_next = refl;
  gives = inr (inl (record {
    path = 3 ∷ [];
    few = omega arith;
    breaks = record {
      inside = omega arith;
      is_path = alone (in_memory (memory 17 3) 0);
      sound = λ k lt. absurd (omega (arith, lt));
      breaks = ends_amid;
    };
  }));
})

-- no chain of another head, none where one is next, and no jump
of_another_head : HasNext (memory 17 3) 262144 ring (Ok (Some (record { head = 4; chain = readable ∷ [] }))) → ⊥
of_another_head h = let e = h.0 in absurd cc

none_although_one_is : HasNext (memory 17 3) 262144 ring (Ok None) → ⊥
none_although_one_is h = absurd cc

no_jump : HasNext (memory 9 3) 262144 ring (Err IndexJump) → ⊥
no_jump (inl h) = absurd cc
no_jump (inr h) = let e = h.is_next in absurd cc

-- no rule is broken where a chain is next
no_bad_head : HasNext (memory 17 3) 262144 ring (Err BadHead) → ⊥
no_bad_head h =
    let e = one_next (memory 17 3) 262144 ring (Ok (Some (record { head = 3; chain = readable ∷ [] }))) (Err BadHead)
    a_chain h in absurd cc

nor_memorys_end : HasNext (memory 17 3) 262144 ring (Err OutOfRam) → ⊥
nor_memorys_end h =
    let e = one_next (memory 17 3) 262144 ring (Ok (Some (record { head = 3; chain = readable ∷ [] }))) (Err OutOfRam)
    a_chain h in absurd cc
