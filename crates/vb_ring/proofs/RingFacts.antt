-- Words of rings, ends and what is next, worked out.
use Rattle.std.specs.Prelude.{Option, Some, None, Ok, Err}
use Rattle.std.proofs.Common.{◌≡◌, ℕ, true, false, List, [], ◌∷◌, map, refl, arith}
use Rattle.vb_chain.specs.declared.fault.ChainFault.TheVariants.{IndexJump}
use Rattle.vb_ring.specs.Calls.{table_extent, avail_entry, avail_counter, used_entry, used_counter}
use Rattle.vb_ring.specs.Ends.{DriverEnd, DeviceEnd, is_unused, free_descriptors, heads_out}
use Rattle.vb_ring.specs.Ends.{outstanding, next_head, next_path, AreSingle, fresh_end, add_answer}
use Rattle.vb_ring.specs.Entries.{avail_index, avail_place, used_index, used_place, ahead, next_by}
use Rattle.vb_ring.specs.declared.driver.RingBroken.TheVariants.{IndexAhead, NotOutstanding}
use Rattle.vb_ring.specs.{Ends.{after_add, after_take}, declared.driver.Full.TheVariants.TooFewFree}
use Rattle.vb_ring.specs.{Entries.{is_head, only_head}, Layout.{layout_of, Fits, IsSize}}
use Rattle.vb_ring.specs.{Calls.{after_pop, popped}, Frame.{IsIn, IsOutside}, Numbers.numbers}

-- ---- places: VIRTIO 1.1, 2.6, of a ring of 256 descriptors from page 3 on

large : layout_of 3 256 ≡ record {
  table = 3;
  avail = record { page = 4; offset = 0 };
  used = record { page = 4; offset = 520 };
}
large = refl

-- one of 8 is in one page: the table has 128 bytes, the available ring 22, and 2 are left out
small : layout_of 3 8 ≡ record {
  table = 3;
  avail = record { page = 3; offset = 128 };
  used = record { page = 3; offset = 152 };
}
small = refl

-- idx is the second word, an entry has 2 and 8 bytes, and entry 9 of 8 is the second place
words : avail_index (layout_of 3 8) ∷ avail_place (layout_of 3 8) 8 0 ∷ avail_place (layout_of 3 8) 8 9
    ∷ used_index (layout_of 3 8) ∷ used_place (layout_of 3 8) 8 0 ∷ used_place (layout_of 3 8) 8 9 ∷ []
    ≡ 130 ∷ 132 ∷ 134 ∷ 154 ∷ 156 ∷ 164 ∷ []
words = refl

extents : table_extent (layout_of 3 8) 8 ∷ avail_entry (layout_of 3 8) 8 9 ∷ avail_counter (layout_of 3 8)
    ∷ used_entry (layout_of 3 8) 8 9 ∷ used_counter (layout_of 3 8) ∷ []
    ≡ record { page = 3; from = 0; to = 128 } ∷ record { page = 3; from = 134; to = 136 }
    ∷ record { page = 3; from = 130; to = 132 } ∷ record { page = 3; from = 164; to = 172 }
    ∷ record { page = 3; from = 154; to = 156 } ∷ []
extents = refl

-- an extent has its first byte, and not the one at its end
first_in : IsIn (avail_counter (layout_of 3 8)) 3 130
first_in = record { page = refl; from = omega arith; to = omega arith }

end_outside : IsOutside (avail_counter (layout_of 3 8) ∷ []) 3 132
end_outside = (λ is. omega (arith, is.to), tt)

first_not_outside : IsOutside (avail_counter (layout_of 3 8) ∷ []) 3 130 → ⊥
first_not_outside outside = outside.0 first_in

-- a ring whose used ring begins in the available one doesn't fit
overlapping : Fits (record (layout_of 3 8) { used = record { page = 3; offset = 148 } }) 8 → ⊥
overlapping fits = omega (arith, fits.avail_used refl)

past_its_page : Fits (record (layout_of 3 8) { used = record { page = 9; offset = 4028 } }) 8 → ⊥
past_its_page fits = omega (arith, fits.used)

sizes : (IsSize 2) × (IsSize 256)
sizes = grind arith

no_size : IsSize 12 → ⊥
no_size size = omega (arith, size.divides)

too_large : IsSize 512 → ⊥
too_large size = omega (arith, size.most)

-- ---- what is next

-- an index goes round after 65,535
aheads : ahead 7 7 ∷ ahead 9 7 ∷ ahead 1 65535 ∷ ahead 6 7 ∷ [] ≡ 0 ∷ 2 ∷ 2 ∷ 65535 ∷ []
aheads = refl

nexts : next_by 0 8 IndexJump 5 ∷ next_by 1 8 IndexJump 5 ∷ next_by 8 8 IndexJump 5
    ∷ next_by 9 8 IndexJump 5 ∷ next_by 65535 8 IndexJump 5 ∷ []
    ≡ Ok None ∷ Ok (Some 5) ∷ Ok (Some 5) ∷ Err IndexJump ∷ Err IndexJump ∷ []
nexts = refl

-- ---- a driver's end: descriptors 0 and 2 are the chain of head 0, and 3 is one of its own

abbrev owners : List (Option ℕ)
owners = Some 0 ∷ None ∷ Some 0 ∷ Some 3 ∷ None ∷ None ∷ None ∷ None ∷ []

abbrev pub busy : DriverEnd
busy = record (fresh_end (layout_of 3 8) 8) { published = 65535; seen = 65533; owner = owners }

heads : map (is_head owners) (0 ∷ 1 ∷ 2 ∷ 3 ∷ 8 ∷ []) ≡ true ∷ false ∷ false ∷ true ∷ false ∷ []
heads = refl

unused : map (is_unused owners) (0 ∷ 1 ∷ 2 ∷ 3 ∷ []) ≡ false ∷ true ∷ false ∷ false ∷ []
unused = refl

-- an id that isn't the head of a chain that is out is none
ids : map (only_head owners) (Ok None ∷ Ok (Some 0) ∷ Ok (Some 2) ∷ Ok (Some 1) ∷ Ok (Some 8)
    ∷ Err IndexAhead ∷ []) ≡ Ok None ∷ Ok (Some 0)
    ∷ Err NotOutstanding ∷ Err NotOutstanding ∷ Err NotOutstanding ∷ Err IndexAhead ∷ []
ids = refl

free : free_descriptors busy ∷ heads_out busy ∷ next_path busy 2 ∷ []
    ≡ (1 ∷ 4 ∷ 5 ∷ 6 ∷ 7 ∷ []) ∷ (0 ∷ 3 ∷ []) ∷ (1 ∷ 4 ∷ []) ∷ []
unfolding numbers
free = refl

counts : (outstanding busy ≡ 2) × (next_head busy ≡ Some 1)
unfolding numbers
counts = (refl, refl)

not_single : AreSingle busy → ⊥
not_single single = (let no : false ≡ true = single 2 (omega arith) refl in absurd cc)

-- five pieces have room, six haven't
room : map (add_answer busy) (1 ∷ 5 ∷ 6 ∷ []) ≡ Ok 1 ∷ Ok 1 ∷ Err TooFewFree ∷ []
unfolding numbers
room = refl

added : after_add busy 2 (Ok 1) ≡ record busy {
  published = 0;
  owner = Some 0 ∷ Some 1 ∷ Some 0 ∷ Some 3 ∷ Some 1 ∷ None ∷ None ∷ None ∷ [];
}
unfolding numbers
added = refl

full_adds_nothing : after_add busy 6 (Err TooFewFree) ≡ busy
full_adds_nothing = refl

-- the whole chain is free again, and no other
taken_back : after_take busy (Ok (Some 0)) ≡ record busy {
  seen = 65534;
  owner = None ∷ None ∷ None ∷ Some 3 ∷ None ∷ None ∷ None ∷ None ∷ [];
}
taken_back = refl

-- the number that were seen goes round, and a new end has seen none and owns none
seen_goes_round : after_take (record busy { seen = 65535 }) (Ok (Some 3)) ≡ record busy {
  seen = 0;
  owner = Some 0 ∷ None ∷ Some 0 ∷ None ∷ None ∷ None ∷ None ∷ None ∷ [];
}
seen_goes_round = refl

begins : fresh_end (layout_of 3 2) 2 ≡ record {
  layout = layout_of 3 2;
  size = 2;
  published = 0;
  seen = 0;
  owner = None ∷ None ∷ [];
}
begins = refl

nothing_taken_back : map (after_take busy) (Ok None ∷ Err IndexAhead ∷ Err NotOutstanding ∷ [])
    ≡ busy ∷ busy ∷ busy ∷ []
nothing_taken_back = refl

-- ---- a device's end

abbrev pub device : DeviceEnd
device =
    record { layout = layout_of 3 8; size = 8; ready = true; next_avail = 65535; next_used = 4 }

pops : map (after_pop device) (Ok (Some (record { head = 1; chain = [] })) ∷ Ok None ∷ Err IndexJump ∷ [])
    ≡ record device { next_avail = 0 } ∷ device ∷ device ∷ []
pops = refl

popped_are : popped (Ok (Some 3)) [] ∷ popped (Ok None) [] ∷ popped (Err IndexJump) [] ∷ []
    ≡ Ok (Some (record { head = 3; chain = [] })) ∷ Ok None ∷ Err IndexJump ∷ []
popped_are = refl
