-- What is next in the bytes of a ring, worked out.
use Rattle.std.proofs.Common.{◌≡◌, ℕ, List, [], ◌∷◌, ◌++◌, map, replicate, refl}
use Rattle.std.specs.Prelude.{Option, Some, None, Ok, Err}
use Rattle.vb_chain.specs.declared.fault.ChainFault.TheVariants.{IndexJump}
use Rattle.vb_ram.specs.Pages.{Pages, byte_at, field}
use Rattle.vb_ring.specs.declared.driver.RingBroken.TheVariants.{IndexAhead, NotOutstanding}
use Rattle.vb_ring.specs.Ends.{DriverEnd, fresh_end, used_answer}
use Rattle.vb_ring.specs.Entries.{avail_ahead, used_ahead, next_entry, next_id}
use Rattle.vb_ring.specs.{Layout.layout_of, Numbers.numbers}

-- a ring of two: its available index is 257, and its used one 1
abbrev memory : Pages
memory = Some (record {
  number = 9;
  bytes = replicate 32 0
      ++ 0 ∷ 0 ∷ 1 ∷ 1 ∷ 5 ∷ 0 ∷ 3 ∷ 1 ∷ 0 ∷ 0 ∷ 0 ∷ 0
      ∷ 0 ∷ 0 ∷ 1 ∷ 0 ∷ 2 ∷ 0 ∷ 1 ∷ 0 ∷ 9 ∷ 0 ∷ 0 ∷ 0 ∷ 1 ∷ 0 ∷ 0 ∷ 0 ∷ 7 ∷ 0 ∷ 0 ∷ 0 ∷ [];
}) ∷ []

-- how far they are ahead of n
aheads : map (avail_ahead memory (layout_of 0 2)) (257 ∷ 256 ∷ 258 ∷ [])
    ++ map (used_ahead memory (layout_of 0 2)) (1 ∷ 0 ∷ 65535 ∷ []) ≡ 0 ∷ 1 ∷ 65535 ∷ 0 ∷ 1 ∷ 2 ∷ []
unfolding field byte_at
aheads = refl

-- an entry has two bytes; at most two may be there
heads : map (next_entry memory (layout_of 0 2) 2) (257 ∷ 256 ∷ 255 ∷ 254 ∷ [])
    ≡ Ok None ∷ Ok (Some 5) ∷ Ok (Some 259) ∷ Err IndexJump ∷ []
unfolding field byte_at
heads = refl

-- an id has four bytes; one may be there, or two
ids : map (λ seen. next_id memory (layout_of 0 2) 2 seen 1) (1 ∷ 0 ∷ 65535 ∷ [])
    ++ map (λ seen. next_id memory (layout_of 0 2) 2 seen 2) (65535 ∷ 65534 ∷ [])
    ≡ Ok None ∷ Ok (Some 65538) ∷ Err IndexAhead ∷ Ok (Some 1) ∷ Err IndexAhead ∷ []
unfolding field byte_at
ids = refl

-- by a driver that has seen n, and by what is out: an id that isn't is no answer
abbrev seeing : ℕ → List (Option ℕ) → DriverEnd
seeing seen owner = record (fresh_end (layout_of 0 2) 2) { seen = seen; owner = owner }

answers : map (used_answer memory) (seeing 65535 (Some 0 ∷ Some 1 ∷ []) ∷ seeing 65535 (Some 0 ∷ None ∷ [])
    ∷ seeing 0 (Some 0 ∷ Some 1 ∷ []) ∷ seeing 1 (Some 0 ∷ Some 1 ∷ []) ∷ [])
    ≡ Ok (Some 1) ∷ Err IndexAhead ∷ Err NotOutstanding ∷ Ok None ∷ []
unfolding field byte_at numbers
answers = refl
