-- Rows of descriptors that are copied together, worked out.
use Rattle.std.proofs.Common.{true, ◌≡◌, refl, arith, ℕ, Bool, false, List, []}
use Rattle.std.proofs.Common.{◌∷◌, ◌++◌, length, Some, None}
use Rattle.std.specs.Prelude.{take, replicate}
use Rattle.vb_chain.specs.declared.pieces.Piece.{Piece}
use Rattle.vb_chain.specs.declared.fault.ChainFault.{ChainFault}
use Rattle.vb_chain.specs.declared.fault.ChainFault.TheVariants.{TooLong, OutOfRam, Indirect, WrongDirection}
use Rattle.vb_core.specs.declared.kinds.Kind.TheVariants.{Report}
use Rattle.vb_core.specs.declared.device.{Denial.TheVariants.Broken, Device.Device}
use Rattle.vb_core.specs.declared.ring.Virtqueue.{Virtqueue}
use Rattle.vb_monitor.specs.declared.{regions.Region.Region, step.Walk.Walk}
use Rattle.vb_monitor.specs.declared.outcome.Outcome.{Outcome}
use Rattle.vb_monitor.specs.declared.rows.RowEnd.TheVariants.{Leaves, Last, Broken as Faulty}
use Rattle.vb_monitor.specs.declared.step.Phase.TheVariants.{AwaitsDescriptor}
use Rattle.vb_monitor.specs.{Accesses.{Access, CopyBytes}, Ends.{Whole}, Rows.EndsRow}
use Rattle.vb_monitor.specs.Chains.{TableRow, row_of, no_row, in_row, most_further}
use Rattle.vb_monitor.specs.Chains.{further_in_row, AfterDescriptor, TakesRow, FollowsBy, Follows}
use Rattle.vb_monitor.specs.{Machine.{Fits, row_bytes, row_in}, SoFar.{Walks, Has, walked_in}}
use Rattle.vb_monitor.proofs.Samples.{Same, two, low, at, ring, ready, tally, piece, naming}
use Rattle.vb_monitor.proofs.Samples.{last_descriptor, zeros, with_two, discard}

-- ---- which descriptors a row has

-- descriptors 5, 6 and 7
abbrev three : TableRow
three = row_of 5 (naming 6 ++ naming 7 ++ last_descriptor)

first_of_it : in_row three 5 ≡ Some (naming 6)
first_of_it = refl

last_of_it : in_row three 7 ≡ Some last_descriptor
last_of_it = refl

one_before : in_row three 4 ≡ None
one_before = refl

one_after : in_row three 8 ≡ None
one_after = refl

-- of its 16 bytes one is left out
part_of_one : in_row (row_of 5 (naming 6 ++ take 15 (naming 7))) 6 ≡ None
part_of_one = refl

of_none : in_row no_row 0 ≡ None
of_none = refl

-- ---- how many are copied together

first_alone : most_further 256 3 [] ≡ 0
first_alone = refl

as_many_as_a_row_has : most_further 256 3 (piece ∷ []) ≡ 31
as_many_as_a_row_has = refl

just_a_row_left : most_further 256 224 (piece ∷ []) ≡ 31
just_a_row_left = refl

up_to_the_end : most_further 256 225 (piece ∷ piece ∷ []) ≡ 30
up_to_the_end = refl

last_of_the_table : most_further 8 7 (piece ∷ []) ≡ 0
last_of_the_table = refl

-- a table that lies in two regions, four descriptors in each
abbrev halves : List Region
halves = record low { length = 0x1000 } ∷ record low { guest = 0x1000; length = 0x1000 } ∷ []

abbrev over_both : Virtqueue
over_both = record ring { table = 0xfc0 }

apart : further_in_row halves over_both 1 (piece ∷ []) ≡ 0
apart = refl

one_of_two_regions : further_in_row halves over_both 3 (piece ∷ []) ≡ 0
one_of_two_regions = refl

in_the_second : further_in_row halves over_both 4 (piece ∷ []) ≡ 3
in_the_second = refl

in_one_region : further_in_row two over_both 1 (piece ∷ []) ≡ 6
in_one_region = refl

-- the first descriptor, or just the last one, lies in another region than the row
after_the_first : further_in_row halves (record ring { table = 0xff0 }) 1 (piece ∷ []) ≡ 6
after_the_first = refl

over_by_the_last : further_in_row halves (record ring { table = 0xf90 }) 1 (piece ∷ []) ≡ 0
over_by_the_last = refl

-- in a larger table a row goes on past number 255, up to the table's end
past_255 : further_in_row two (record ring { size = 512 }) 250 (piece ∷ []) ≡ 31
past_255 = refl

up_to_1023 : most_further 1024 1000 (piece ∷ []) ≡ 23
up_to_1023 = refl

-- ---- a chain is followed

abbrev outcome : Outcome
outcome = record { tally = tally; why = None; interrupt = false; more = false }

abbrev whole : Whole
whole = record { regions = two; kind = Report; device = ready; outcome = outcome }

abbrev broken_by : ChainFault → Whole
broken_by fault = record whole {
  device = record ready { status = 79 };
  outcome = record outcome { why = Some (Broken fault) };
}

abbrev Ended : ℕ → List Piece → List Access → Type 0
Ended n pieces log = (length pieces ≡ n) × (log ≡ [])

-- by two copies: of its first descriptor, and of the row from the next one on
abbrev after_3 : List ℕ → List Access
after_3 bytes = CopyBytes (at 0x30) (naming 5) ∷ CopyBytes (at 0x50) bytes ∷ []

in_a_row : Follows 8 whole ready tally (Ended 4) no_row 3 false []
    (after_3 (naming 6 ++ naming 7 ++ last_descriptor))
in_a_row = record {
  bytes = naming 5;
  rest = CopyBytes (at 0x50) (naming 6 ++ naming 7 ++ last_descriptor) ∷ [];
  asks = refl;
  long = refl;
  goes_on = record {
    bytes = naming 6 ++ naming 7 ++ last_descriptor;
    rest = [];
    asks = refl;
    long = refl;
    goes_on = (refl, refl);
  };
}

-- none that is read comes after one that the device may write, within a row and in the next one
abbrev writes : ℕ → List ℕ
writes next = 0 ∷ 4 ∷ 0 ∷ 0 ∷ 0 ∷ 0 ∷ 0 ∷ 0 ∷ 4 ∷ 0 ∷ 0 ∷ 0 ∷ 3 ∷ 0 ∷ next ∷ 0 ∷ []

read_in_it : Follows 8 (broken_by WrongDirection) ready tally (λ pieces log. ⊥) no_row 3 false []
    (after_3 (writes 6 ++ naming 7 ++ last_descriptor))
read_in_it = record {
  bytes = naming 5;
  rest = CopyBytes (at 0x50) (writes 6 ++ naming 7 ++ last_descriptor) ∷ [];
  asks = refl;
  long = refl;
  goes_on = record {
    bytes = writes 6 ++ naming 7 ++ last_descriptor;
    rest = [];
    asks = refl;
    long = refl;
    goes_on = record { nothing = refl; device = refl; outcome = refl };
  };
}

read_in_the_next : Follows 8 (broken_by WrongDirection) ready tally (λ pieces log. ⊥) no_row 3 false []
    (CopyBytes (at 0x30) (writes 5) ∷ CopyBytes (at 0x50) (naming 6 ++ naming 7 ++ last_descriptor) ∷ [])
read_in_the_next = record {
  bytes = writes 5;
  rest = CopyBytes (at 0x50) (naming 6 ++ naming 7 ++ last_descriptor) ∷ [];
  asks = refl;
  long = refl;
  goes_on = record {
    bytes = naming 6 ++ naming 7 ++ last_descriptor;
    rest = [];
    asks = refl;
    long = refl;
    goes_on = record { nothing = refl; device = refl; outcome = refl };
  };
}

-- no row goes over the end of a region
abbrev split : Device
split = record ready { report = over_both }

alone_before_an_end : FollowsBy None (record whole { regions = halves; device = split }) split tally (λ row n writing pieces log. ⊥)
    (Ended 2) no_row 3 false (piece ∷ []) (CopyBytes (at 0xff0) last_descriptor ∷ [])
alone_before_an_end = record { bytes = last_descriptor; rest = []; asks = refl; long = refl; goes_on = (refl, refl) }

-- no chain has more descriptors than the table, its last one either
a_ninth : AfterDescriptor (broken_by TooLong) ready tally (λ n writing pieces log. ⊥) (λ pieces log. ⊥) false
    (replicate 8 piece) last_descriptor []
a_ninth = record { nothing = refl; device = refl; outcome = refl }

-- of the largest ring none has more than 256, of which the last one is there
abbrev large : Device
large = record ready { report = record ring { size = 1024 } }

a_256th : AfterDescriptor (record whole { device = large }) large tally (λ n writing pieces log. ⊥) (Ended 256) false
    (replicate 255 piece) last_descriptor []
a_256th = (refl, refl)

a_257th : AfterDescriptor (record (broken_by TooLong) { device = record large { status = 79 } }) large tally
    (λ n writing pieces log. ⊥) (Ended 257) false (replicate 256 piece) last_descriptor []
a_257th = record { nothing = refl; device = refl; outcome = refl }

to_a_257th : AfterDescriptor (record (broken_by TooLong) { device = record large { status = 79 } }) large tally
    (λ n writing pieces log. ⊥) (Ended 256) false (replicate 255 piece) (naming 7) []
to_a_257th = record { nothing = refl; device = refl; outcome = refl }

-- a jump back to one that the row has asks for nothing
jumps_in_it : Follows 8 whole ready tally (Ended 4) no_row 3 false []
    (after_3 (naming 7 ++ last_descriptor ++ naming 6))
jumps_in_it = record {
  bytes = naming 5;
  rest = CopyBytes (at 0x50) (naming 7 ++ last_descriptor ++ naming 6) ∷ [];
  asks = refl;
  long = refl;
  goes_on = record {
    bytes = naming 7 ++ last_descriptor ++ naming 6;
    rest = [];
    asks = refl;
    long = refl;
    goes_on = (refl, refl);
  };
}

-- a loop in a row ends with the table
loops : Follows 8 (broken_by TooLong) ready tally (Ended 4) no_row 3 false []
    (after_3 (naming 6 ++ naming 5 ++ zeros))
loops = record {
  bytes = naming 5;
  rest = CopyBytes (at 0x50) (naming 6 ++ naming 5 ++ zeros) ∷ [];
  asks = refl;
  long = refl;
  goes_on = record {
    bytes = naming 6 ++ naming 5 ++ zeros;
    rest = [];
    asks = refl;
    long = refl;
    goes_on = record { nothing = refl; device = refl; outcome = refl };
  };
}

-- one that the row hasn't is copied, with those after it, though another row had it
abbrev later : TableRow
later = row_of 6 (naming 5 ++ zeros)

copied_again : Follows 4 whole ready tally (Ended 3) later 6 false (piece ∷ [])
    (CopyBytes (at 0x50) (with_two last_descriptor) ∷ [])
copied_again = record {
  bytes = with_two last_descriptor;
  rest = [];
  asks = refl;
  long = refl;
  goes_on = (refl, refl);
}

not_copied : (w : Whole) → Follows 4 (record w { regions = two; kind = Report }) ready tally
    (Ended 3) later 6 false (piece ∷ []) [] → ⊥
not_copied w h = let e = h.asks in absurd cc

of_the_row_twice : (w : Whole) → Follows 4 (record w { regions = two; kind = Report }) ready tally
    (Ended 2) (row_of 6 (last_descriptor ++ zeros)) 6 false (piece ∷ [])
    (CopyBytes (at 0x60) (last_descriptor ++ zeros) ∷ []) → ⊥
of_the_row_twice w h = let e = h.1 in absurd cc

-- the row's own bytes count, and no others
by_other_bytes : (w : Whole) → Follows 4 (record w { regions = two; kind = Report }) ready tally
    (Ended 3) (row_of 6 (last_descriptor ++ zeros)) 6 false (piece ∷ []) [] → ⊥
by_other_bytes w h = let e : Same 2 3 = h.0 in omega arith

-- in a hole the rule of memory's end is broken, as for one alone
abbrev holed : Device
holed = record ready { report = record ring { table = 0x15000 } }

in_the_hole : TakesRow (record (broken_by OutOfRam) { device = record holed { status = 79 } }) holed
    tally (λ r n writing pieces log. ⊥) (Ended 3) 5 0 false (piece ∷ []) []
in_the_hole = record { nothing = refl; device = refl; outcome = refl }

-- ---- what is known

known_in_a_row : walked_in 8 Report 3 three 5 [] ≡ Has 3 (piece ∷ piece ∷ piece ∷ []) [] []
known_in_a_row = refl

known_after_it : walked_in 8 Report 3 (row_of 5 (naming 6 ++ naming 2)) 5 (piece ∷ []) ≡
    Walks 3 2 (piece ∷ piece ∷ piece ∷ [])
known_after_it = refl

known_so_far : walked_in 2 Report 3 (row_of 5 (naming 6 ++ naming 5)) 5 [] ≡
    Walks 3 5 (piece ∷ piece ∷ [])
known_so_far = refl

-- ---- the walk that waits for it

abbrev walk : Walk
walk = record { head = 3; count = 1; writing = false; first = 5; further = 2 }

bytes_so : row_bytes walk ≡ 48
bytes_so = refl

its_row : row_in walk (naming 6 ++ naming 7 ++ last_descriptor ++ zeros) ≡ three
its_row = refl

all_of_the_room : Fits (AwaitsDescriptor (at 0x50) (record walk { further = 63 }))
all_of_the_room = omega arith

one_past_the_room : Fits (AwaitsDescriptor (at 0x50) (record walk { further = 64 })) → ⊥
one_past_the_room h = omega (arith, h)

-- ---- how the walk within a row ends

abbrev On : TableRow → ℕ → Bool → List Piece → List Access → Type 0
On r number writing pieces log = (r ≡ three) × ((number ≡ 5) × (log ≡ []))

breaks : (writing : Bool) → EndsRow (Faulty Indirect) (broken_by Indirect) ready tally On (Ended 1) writing (piece ∷ []) []
breaks writing = record { nothing = refl; device = refl; outcome = refl }

is_whole : (writing : Bool) → EndsRow Last whole ready tally On (Ended 1) writing (piece ∷ []) []
is_whole writing = (refl, refl)

more_pieces : EndsRow Last whole ready tally On (Ended 2) false (piece ∷ []) [] → ⊥
more_pieces h = let e : Same 1 2 = h.0 in omega arith

another_row : EndsRow (Leaves 5) whole ready tally (Follows 6 whole ready tally (Ended 2)) (Ended 2)
    false (piece ∷ []) (CopyBytes (at 0x50) (with_two last_descriptor) ∷ [])
another_row some = record {
  bytes = with_two last_descriptor;
  rest = [];
  asks = refl;
  long = refl;
  goes_on = (refl, refl);
}

-- what comes then has all accesses, and whether the chain has come to what the device writes
is_whole_then : EndsRow Last whole ready tally On (λ pieces log. log ≡ discard ∷ []) false (piece ∷ []) (discard ∷ [])
is_whole_then = refl

another_row_of_writes : EndsRow (Leaves 5) whole ready tally (λ r number writing pieces log. writing ≡ true) (Ended 2)
    true (piece ∷ []) (CopyBytes (at 0x50) (with_two (writes 6)) ∷ [])
another_row_of_writes some = record { bytes = with_two (writes 6); rest = []; asks = refl; long = refl; goes_on = refl }

no_row_asked : EndsRow (Leaves 5) whole ready tally (Follows 6 whole ready tally (Ended 2)) (Ended 2)
    false (piece ∷ []) (discard ∷ []) → ⊥
no_row_asked h = let x = h (omega arith) in let e = x.asks in absurd cc
