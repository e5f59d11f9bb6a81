-- What may still come where a notice waits for an answer of memory, worked out.
use Rattle.vb_monitor.proofs.Samples.{room_of}
use Rattle.vb_monitor.specs.declared.room.Room.{Room}
use Rattle.std.proofs.Common.{refl, ap, arith, ℕ, Bool, true, false, List, [], ◌∷◌, ◌++◌, length, Option, Some, None}
use Rattle.vb_chain.specs.declared.fault.ChainFault.{ChainFault}
use Rattle.vb_chain.specs.declared.fault.ChainFault.TheVariants.{BadHead, OutOfRam, TooLong, WrongDirection}
use Rattle.vb_core.specs.declared.kinds.Kind.{Kind}
use Rattle.vb_core.specs.declared.kinds.Kind.TheVariants.{Inflate, Statistics}
use Rattle.vb_core.specs.declared.{pieces.ChainPiece.ChainPiece}
use Rattle.vb_core.specs.declared.device.{Denial.Denial, Device.Device}
use Rattle.vb_core.specs.declared.device.Denial.TheVariants.{Broken, BadArgument}
use Rattle.vb_core.specs.{Pieces.pieces_in}
use Rattle.vb_monitor.specs.declared.outcome.{Tally.Tally, Outcome.Outcome}
use Rattle.vb_monitor.specs.declared.step.{Walk.Walk, Place.Place}
use Rattle.vb_monitor.specs.declared.step.Phase.TheVariants.{AwaitsIndex, AwaitsEntry, AwaitsDescriptor, AwaitsPart}
use Rattle.vb_monitor.specs.Accesses.{Access, ReadWord, CopyBytes, Acquire, Full}
use Rattle.vb_monitor.specs.{Ends.Whole, Machine.{whole, AheadAt}}
use Rattle.vb_monitor.proofs.Samples.{Same, two, at, ready, tally}
use Rattle.vb_monitor.proofs.Samples.{naming, last_descriptor}

-- ---- what a notice comes to

abbrev pub over : Kind → Device → Outcome → Whole
over kind d o = whole two kind d o

abbrev pub ends : Tally → Option Denial → Bool → Bool → Outcome
ends t why interrupt more = record { tally = t; why = why; interrupt = interrupt; more = more }

abbrev pub needs_reset : Device
needs_reset = record ready { status = 79 }

-- before a chain was given back a broken rule ends the notice at once
abbrev breaks : ChainFault → Whole
breaks fault = over Inflate needs_reset (ends tally (Some (Broken fault)) false false)

abbrev pub empty : Room
empty = room_of [] [] [] []

abbrev pub chains_left : ℕ → Tally
chains_left n = record tally { chains = n }

abbrev pub publishing : ℕ → Tally
publishing n = record tally { chains = n; published = 1 }

-- ---- the index

none_stands : AheadAt (AwaitsIndex (at 0x102)) (over Inflate ready (ends tally None false false)) tally ready empty
    (ReadWord (at 0x102) 0 ∷ [])
none_stands = record { index = 0; rest = []; asks = refl; goes_on = record { nothing = refl; device = refl; outcome = refl } }

-- one is there: of a budget of one chain it is taken, and of none it isn't
taken : AheadAt (AwaitsIndex (at 0x102)) (over Inflate needs_reset (ends (publishing 0) (Some (Broken BadHead)) false false))
    (chains_left 1) ready empty (ReadWord (at 0x102) 1 ∷ Acquire ∷ ReadWord (at 0x104) 8 ∷ [])
taken = record {
  index = 1;
  rest = Acquire ∷ ReadWord (at 0x104) 8 ∷ [];
  asks = refl;
  goes_on = record {
    head = 8;
    rest = [];
    asks = refl;
    goes_on = record { nothing = refl; device = refl; outcome = refl };
  };
}

not_taken : AheadAt (AwaitsIndex (at 0x102)) (over Inflate ready (ends (publishing 0) None false true)) (chains_left 0) ready
    empty (ReadWord (at 0x102) 1 ∷ [])
not_taken = record { index = 1; rest = []; asks = refl; goes_on = record { nothing = refl; device = refl; outcome = refl } }

abbrev pub word_at : List Access → ℕ
word_at (ReadWord at answer ∷ xs) = at.offset
word_at (Acquire ∷ ReadWord at answer ∷ xs) = at.offset
word_at (Full ∷ ReadWord at answer ∷ xs) = at.offset
word_at xs = 0

no_index : (w : Whole) → AheadAt (AwaitsIndex (at 0x102)) w tally ready empty [] → ⊥
no_index w h = let e = h.asks in absurd cc

another_index : (w : Whole) (rest : List Access) →
    AheadAt (AwaitsIndex (at 0x102)) w tally ready empty (ReadWord (at 0x100) 0 ∷ rest) → ⊥
another_index w rest h = let e : Same 0x100 0x102 = ap word_at h.asks in omega arith

-- ---- the entry

no_such_head : AheadAt (AwaitsEntry (at 0x104)) (breaks BadHead) tally ready empty (Acquire ∷ ReadWord (at 0x104) 8 ∷ [])
no_such_head = record {
  head = 8;
  rest = [];
  asks = refl;
  goes_on = record { nothing = refl; device = refl; outcome = refl };
}

no_fence : (w : Whole) (rest : List Access) →
    AheadAt (AwaitsEntry (at 0x104)) w tally ready empty (ReadWord (at 0x104) 3 ∷ rest) → ⊥
no_fence w rest h = let e = h.asks in absurd cc

another_entry : (w : Whole) (rest : List Access) →
    AheadAt (AwaitsEntry (at 0x104)) w tally ready empty (Acquire ∷ ReadWord (at 0x106) 3 ∷ rest) → ⊥
another_entry w rest h = let e : Same 0x106 0x104 = ap word_at h.asks in omega arith

-- ---- a descriptor, after pieces that were found: the first of them lies in the hole

abbrev in_the_hole : ChainPiece
in_the_hole = record { address = 0x15000; length = 4; writable = 0 }

abbrev there : ChainPiece
there = record { address = 0x400; length = 4; writable = 0 }

-- three bytes are no numbers
abbrev short : ChainPiece
short = record there { length = 3 }

abbrev pieces : List ChainPiece → Room
pieces found = room_of found [] [] []

abbrev walk : ℕ → ℕ → Walk
walk count further = record { head = 3; count = count; writing = false; first = 5; further = further }

-- of what is in the room the found ones alone count
after_one : AheadAt (AwaitsDescriptor (at 0x50) (walk 1 0)) (breaks OutOfRam) tally ready (pieces (in_the_hole ∷ short ∷ []))
    (CopyBytes (at 0x50) last_descriptor ∷ [])
unfolding pieces_in
after_one = record {
  bytes = last_descriptor;
  rest = [];
  asks = refl;
  long = refl;
  goes_on = record { nothing = refl; device = refl; outcome = refl };
}

-- a row of three, in which the chain is followed
in_a_row : AheadAt (AwaitsDescriptor (at 0x50) (walk 1 2)) (breaks OutOfRam) tally ready (pieces (in_the_hole ∷ []))
    (CopyBytes (at 0x50) (naming 6 ++ naming 7 ++ last_descriptor) ∷ [])
unfolding pieces_in
in_a_row = record {
  bytes = naming 6 ++ naming 7 ++ last_descriptor;
  rest = [];
  asks = refl;
  long = refl;
  goes_on = record { nothing = refl; device = refl; outcome = refl };
}

-- after six of the queue's eight two more fit, and after seven one, however many are in the room
two_more : AheadAt (AwaitsDescriptor (at 0x50) (walk 6 1)) (breaks OutOfRam) tally ready
    (pieces (in_the_hole ∷ there ∷ there ∷ there ∷ there ∷ there ∷ [])) (CopyBytes (at 0x50) (naming 6 ++ last_descriptor) ∷ [])
unfolding pieces_in
two_more = record {
  bytes = naming 6 ++ last_descriptor;
  rest = [];
  asks = refl;
  long = refl;
  goes_on = record { nothing = refl; device = refl; outcome = refl };
}

one_more : AheadAt (AwaitsDescriptor (at 0x50) (walk 7 1)) (breaks TooLong) tally ready (pieces (in_the_hole ∷ []))
    (CopyBytes (at 0x50) (naming 6 ++ last_descriptor) ∷ [])
unfolding pieces_in
one_more = record {
  bytes = naming 6 ++ last_descriptor;
  rest = [];
  asks = refl;
  long = refl;
  goes_on = record { nothing = refl; device = refl; outcome = refl };
}

-- after one that the device may write none is read
read_after : AheadAt (AwaitsDescriptor (at 0x50) (record (walk 1 0) { writing = true })) (breaks WrongDirection) tally ready
    (pieces (in_the_hole ∷ [])) (CopyBytes (at 0x50) last_descriptor ∷ [])
unfolding pieces_in
read_after = record {
  bytes = last_descriptor;
  rest = [];
  asks = refl;
  long = refl;
  goes_on = record { nothing = refl; device = refl; outcome = refl };
}

abbrev copied : List Access → ℕ
copied (CopyBytes at bytes ∷ xs) = length bytes
copied xs = 0

abbrev copied_at : List Access → ℕ
copied_at (CopyBytes at bytes ∷ xs) = at.offset
copied_at xs = 0

half_a_row : (w : Whole) (rest : List Access) → AheadAt (AwaitsDescriptor (at 0x50) (walk 1 1)) w tally ready empty
    (CopyBytes (at 0x50) last_descriptor ∷ rest) → ⊥
half_a_row w rest h = let e : Same 16 (length h.bytes) = ap copied h.asks in omega (arith, e, h.long)

another_row : (w : Whole) (rest : List Access) → AheadAt (AwaitsDescriptor (at 0x50) (walk 1 0)) w tally ready empty
    (CopyBytes (at 0x60) last_descriptor ∷ rest) → ⊥
another_row w rest h = let e : Same 0x60 0x50 = ap copied_at h.asks in omega arith

-- ---- a part of a piece that lies over the end of a page: a buffer of statistics of three bytes is
-- none

abbrev over_an_end : ChainPiece
over_an_end = record { address = 4095; length = 3; writable = 0 }

abbrev place : ℕ → ℕ → Place
place count done = record { head = 3; count = count; piece = 0; done = done }

abbrev no_statistics : Whole
no_statistics = over Statistics ready (ends tally (Some BadArgument) false false)

abbrev with_bytes : List ℕ → Room
with_bytes bytes = room_of (over_an_end ∷ in_the_hole ∷ []) bytes [] []

-- after the first part comes the second one, and then the chain's next piece, if it has one
both_parts : AheadAt (AwaitsPart (at 4095) (place 1 1) 0 1) no_statistics tally ready (with_bytes [])
    (CopyBytes (at 4095) (9 ∷ []) ∷ CopyBytes (at 4096) (8 ∷ 7 ∷ []) ∷ [])
unfolding pieces_in lib.Count.ones
both_parts = record {
  bytes = 9 ∷ [];
  rest = CopyBytes (at 4096) (8 ∷ 7 ∷ []) ∷ [];
  asks = refl;
  long = refl;
  goes_on = record {
    bytes = 8 ∷ 7 ∷ [];
    rest = [];
    asks = refl;
    long = refl;
    goes_on = record { nothing = refl; device = refl; outcome = refl };
  };
}

next_piece : AheadAt (AwaitsPart (at 4096) (place 2 3) 1 2)
    (over Statistics needs_reset (ends tally (Some (Broken OutOfRam)) false false)) tally ready (with_bytes (9 ∷ 0 ∷ []))
    (CopyBytes (at 4096) (8 ∷ 7 ∷ []) ∷ [])
unfolding pieces_in
next_piece = record {
  bytes = 8 ∷ 7 ∷ [];
  rest = [];
  asks = refl;
  long = refl;
  goes_on = record { nothing = refl; device = refl; outcome = refl };
}

-- what was copied before it is in front, and no more than that
one_before : AheadAt (AwaitsPart (at 4096) (place 1 3) 1 2) no_statistics tally ready
    (with_bytes (9 ∷ 1 ∷ 2 ∷ 3 ∷ 4 ∷ 5 ∷ 6 ∷ 7 ∷ [])) (CopyBytes (at 4096) (8 ∷ 7 ∷ []) ∷ [])
unfolding pieces_in lib.Count.ones
one_before = record {
  bytes = 8 ∷ 7 ∷ [];
  rest = [];
  asks = refl;
  long = refl;
  goes_on = record { nothing = refl; device = refl; outcome = refl };
}

not_all_of_it : (w : Whole) (rest : List Access) → AheadAt (AwaitsPart (at 4096) (place 1 3) 1 2) w tally ready
    (with_bytes (9 ∷ [])) (CopyBytes (at 4096) (8 ∷ []) ∷ rest) → ⊥
not_all_of_it w rest h = let e : Same 1 (length h.bytes) = ap copied h.asks in omega (arith, e, h.long)

another_part : (w : Whole) (rest : List Access) → AheadAt (AwaitsPart (at 4096) (place 1 3) 1 2) w tally ready
    (with_bytes (9 ∷ [])) (CopyBytes (at 4095) (8 ∷ 7 ∷ []) ∷ rest) → ⊥
another_part w rest h = let e : Same 4095 4096 = ap copied_at h.asks in omega arith
