-- What is done to give a chain back that is held, worked out, and what isn't.
use Rattle.std.proofs.Common.{◌≡◌, ◌⊎◌, refl, ap, arith, inl, inr, ℕ, List, [], ◌∷◌, ◌++◌, Option, Some, None}
use Rattle.vb_core.{specs.Rings.used_entry, specs.declared.ring.Virtqueue.Virtqueue}
use Rattle.vb_core.specs.Devices.{placed}
use Rattle.vb_monitor.specs.{declared.regions.Spot.Spot, Accesses.{Access, ReadWord, Full, Release}}
use Rattle.vb_monitor.specs.{Accesses.{WriteNumber, WriteWord}, Giving.used_accesses}
use Rattle.vb_monitor.{specs.HeldBack.{AsksForFlags, GivesHeldAlone}, proofs.Samples.{Same, two, at, ring}}
use Rattle.vb_monitor.proofs.Samples.{index, descriptor, id, used_length, used_index, flags}

-- the buffer of head 3 is given back, and then the driver asked whether it wants an interrupt
flags_read : AsksForFlags two ring (Full ∷ flags ∷ [])
flags_read = record { at = at 0x100; flags = 0; place = refl; asks = refl }

given_back : GivesHeldAlone two 3 ring (id ∷ used_length ∷ Release ∷ used_index ∷ Full ∷ flags ∷ [])
given_back = inr (record {
  spots = record { id = at 0x204; length = at 0x208; index = at 0x202 };
  rest = Full ∷ flags ∷ [];
  place = refl;
  asks = refl;
  then_flags = inr flags_read;
})

without_flags : GivesHeldAlone two 3 ring (id ∷ used_length ∷ Release ∷ used_index ∷ [])
without_flags = inr (record {
  spots = record { id = at 0x204; length = at 0x208; index = at 0x202 };
  rest = [];
  place = refl;
  asks = refl;
  then_flags = inl refl;
})

nothing : GivesHeldAlone two 3 ring []
nothing = inl refl

-- the flags are a region's last two bytes
abbrev at_the_end : Virtqueue
at_the_end = placed 0 0x14ffe 0x200 8

last_flags : AsksForFlags two at_the_end (Full ∷ ReadWord (at 0x14ffe) 0 ∷ [])
last_flags = record { at = at 0x14ffe; flags = 0; place = refl; asks = refl }

given_back_alone : GivesHeldAlone two 3 at_the_end (id ∷ used_length ∷ Release ∷ used_index ∷ [])
given_back_alone = inr (record {
  spots = record { id = at 0x204; length = at 0x208; index = at 0x202 };
  rest = [];
  place = refl;
  asks = refl;
  then_flags = inl refl;
})

-- ---- what isn't done

-- flags that are read without a fence, elsewhere, or with something after them
unfenced : AsksForFlags two ring (flags ∷ []) → ⊥
unfenced h = let e = h.asks in absurd cc

after_a_weaker_fence : AsksForFlags two ring (Release ∷ flags ∷ []) → ⊥
after_a_weaker_fence h = let e = h.asks in absurd cc

abbrev read_at : List Access → ℕ
read_at (Full ∷ ReadWord at answer ∷ xs) = at.offset
read_at xs = 0

abbrev offset_in : Option Spot → ℕ
offset_in None = 0
offset_in (Some s) = s.offset

index_for_the_flags : AsksForFlags two ring (Full ∷ index ∷ []) → ⊥
index_for_the_flags h =
    let e : Same 0x102 h.at.offset = ap read_at h.asks in
    let place : Same 0x100 h.at.offset = ap offset_in h.place in
    omega (arith, e, place)

flags_twice : AsksForFlags two ring (Full ∷ flags ∷ flags ∷ []) → ⊥
flags_twice h = let e = h.asks in absurd cc

-- the chain is read, the queue looked at, the length left out, the index first or without its
-- fence
buffer_read : GivesHeldAlone two 3 ring (descriptor ∷ []) → ⊥
buffer_read (inl e) = absurd cc
buffer_read (inr h) = let e = h.asks in absurd cc

looked : GivesHeldAlone two 3 ring (index ∷ id ∷ used_length ∷ Release ∷ used_index ∷ []) → ⊥
looked (inl e) = absurd cc
looked (inr h) = let e = h.asks in absurd cc

no_length : GivesHeldAlone two 3 ring (id ∷ Release ∷ used_index ∷ []) → ⊥
no_length (inl e) = absurd cc
no_length (inr h) = let e = h.asks in absurd cc

index_first : GivesHeldAlone two 3 ring (used_index ∷ id ∷ used_length ∷ Release ∷ []) → ⊥
index_first (inl e) = absurd cc
index_first (inr h) = let e = h.asks in absurd cc

no_fence : GivesHeldAlone two 3 ring (id ∷ used_length ∷ used_index ∷ []) → ⊥
no_fence (inl e) = absurd cc
no_fence (inr h) = let e = h.asks in absurd cc

-- another head, another place, another index
abbrev id_in : List Access → ℕ
id_in (WriteNumber at n ∷ xs) = n
id_in xs = 0

another_head : GivesHeldAlone two 4 ring (id ∷ used_length ∷ Release ∷ used_index ∷ []) → ⊥
another_head (inl e) = absurd cc
another_head (inr h) = let e : Same 3 4 = ap id_in h.asks in omega arith

abbrev index_in : List Access → ℕ
index_in (x ∷ y ∷ z ∷ WriteWord at n ∷ xs) = n
index_in xs = 0

another_index : GivesHeldAlone two 3 ring (id ∷ used_length ∷ Release ∷ WriteWord (at 0x202) 2 ∷ []) → ⊥
another_index (inl e) = absurd cc
another_index (inr h) = let e : Same 2 1 = ap index_in h.asks in omega arith

-- something else after it
abbrev fifth : List Access → Option Access
fifth (x ∷ y ∷ z ∷ u ∷ v ∷ xs) = Some v
fifth xs = None

given_twice : GivesHeldAlone two 3 ring (id ∷ used_length ∷ Release ∷ used_index ∷ id ∷ []) → ⊥
given_twice (inl e) = absurd cc
given_twice (inr h) = further h.rest h.asks h.then_flags where
  further : (rest : List Access) → id ∷ used_length ∷ Release ∷ used_index ∷ id ∷ [] ≡
      used_accesses h.spots (used_entry ring 3) ++ rest →
      (rest ≡ []) ⊎ AsksForFlags two ring rest → ⊥
  further [] e f = absurd cc
  further (x ∷ xs) e (inl f) = absurd cc
  further (x ∷ xs) e (inr f) =
      let same : Some id ≡ Some x = ap fifth e in
      let asks = f.asks in
      absurd cc
