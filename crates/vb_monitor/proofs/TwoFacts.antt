-- A notice of two chains, worked out: page 5 is inflated, by heads 3 and 4. The index is read once.
use Rattle.std.proofs.Common.{refl, ap, arith, ℕ, Bool, true, false, List, [], ◌∷◌, Some, None, Ok}
use Rattle.vb_request.specs.Request.{numbers_of}
use Rattle.vb_chain.specs.declared.fault.ChainFault.TheVariants.{IndexJump}
use Rattle.vb_core.specs.declared.device.Denial.TheVariants.{Broken}
use Rattle.vb_core.{specs.declared.kinds.Kind.TheVariants.Inflate, specs.Devices.with_one_taken}
use Rattle.vb_core.{specs.declared.device.Device.Device, specs.Name.NamesNumbersBy, specs.Runs.Tell}
use Rattle.vb_monitor.proofs.Samples.{Same, two, at, ready, page_5, last_descriptor, number, entry}
use Rattle.vb_monitor.proofs.Samples.{descriptor, part, pages, discard, id, used_length, used_index}
use Rattle.vb_monitor.proofs.Samples.{flags_are_read, flags, budget, outcome, one_page}
use Rattle.vb_monitor.specs.Accesses.{Access, ReadWord, CopyBytes, Acquire, Release, Full}
use Rattle.vb_monitor.specs.Accesses.{WriteNumber, WriteWord}
use Rattle.vb_monitor.specs.{declared.outcome.{Outcome.Outcome, Tally.Tally}, Giving.after_use}
use Rattle.vb_monitor.specs.{Ends.Whole, Notices.{Serves, ServesPublished}}
use Rattle.vb_monitor.proofs.TurnLaws.{reads_in_turn}

-- ---- the device, after each chain

abbrev taken : Device → Device
taken d = with_one_taken Inflate d

abbrev used : Device → Device
used d = after_use Inflate (taken d)

abbrev tells_5 : Tell (page_5 ∷ []) (5 ∷ [])
tells_5 = (5 ∷ [], ([], (record { whole = refl; grows = (5, ([], (refl, refl))) }, (tt, refl))))

names_first : NamesNumbersBy Inflate number 256 (page_5 ∷ []) ready ready (Ok one_page)
unfolding numbers_of lib.Count.ones
names_first = record {
  denied = λ why e. absurd cc;
  names = λ e. (
    Ok one_page,
    record {
      fault = λ f e. absurd cc;
      named = λ e. record { told_so = tells_5; few = omega arith; count = refl; others = refl };
    },
    refl,
    refl,
  );
}

names_second : NamesNumbersBy Inflate number 256 (page_5 ∷ []) (used ready) (used ready) (Ok one_page)
unfolding numbers_of lib.Count.ones
names_second = record {
  denied = λ why e. absurd cc;
  names = λ e. (
    Ok one_page,
    record {
      fault = λ f e. absurd cc;
      named = λ e. record { told_so = tells_5; few = omega arith; count = refl; others = refl };
    },
    refl,
    refl,
  );
}

-- ---- what comes of an index that publishes two

abbrev index : Access
index = ReadWord (at 0x102) 2

abbrev second_entry : Access
second_entry = ReadWord (at 0x106) 4

abbrev of_the_first : List Access → List Access
of_the_first rest = Acquire ∷ entry ∷ descriptor ∷ part ∷ pages ∷ discard ∷ id ∷ used_length
    ∷ Release ∷ used_index ∷ rest

abbrev given_then : List Access
given_then = WriteNumber (at 0x20c) 4 ∷ WriteNumber (at 0x210) 0 ∷ Release ∷ WriteWord (at 0x202) 2
    ∷ Full ∷ flags ∷ []

abbrev of_the_second : List Access
of_the_second = Acquire ∷ second_entry ∷ CopyBytes (at 0x40) last_descriptor ∷ part ∷ pages ∷ discard
    ∷ given_then

abbrev served_both : Outcome
served_both = record outcome {
  tally = record { chains = 6; pages = 254; keeps = false; given = true; held = None; published = 2; most_pages = 256; longest = 256; told = 1 };
}

abbrev whole : Device → Outcome → Whole
whole d o = record { regions = two; kind = Inflate; device = d; outcome = o }

-- after the first chain
abbrev one_given : Tally
one_given = record { chains = 7; pages = 255; keeps = false; given = true; held = None; published = 2; most_pages = 256; longest = 256; told = 1 }

serves_second : ServesPublished 7 (whole (used (used ready)) served_both) (used ready) one_given of_the_second
unfolding lib.Count.ones
serves_second = record {
  head = 4;
  rest = CopyBytes (at 0x40) last_descriptor ∷ part ∷ pages ∷ discard ∷ given_then;
  asks = refl;
  goes_on = record {
    bytes = last_descriptor;
    rest = part ∷ pages ∷ discard ∷ given_then;
    asks = refl;
    long = refl;
    goes_on = record {
      bytes = number;
      rest = pages ∷ discard ∷ given_then;
      asks = refl;
      long = refl;
      goes_on = record {
        answer = Ok one_page;
        runs = page_5 ∷ [];
        device = used ready;
        names = names_second;
        goes_on = record {
          rest = discard ∷ given_then;
          asks = refl;
          goes_on = record {
            rest = given_then;
            asks = refl;
            goes_on = record { rest = Full ∷ flags ∷ []; asks = refl; goes_on = flags_are_read refl refl };
          };
        };
      };
    };
  };
}

-- one index, two entries
serves_two : Serves two Inflate budget ready (used (used ready)) served_both (index ∷ of_the_first of_the_second)
unfolding lib.Count.ones
serves_two = record {
  index = 2;
  rest = of_the_first of_the_second;
  asks = refl;
  goes_on = record {
    head = 3;
    rest = descriptor ∷ part ∷ pages ∷ discard ∷ id ∷ used_length ∷ Release ∷ used_index ∷ of_the_second;
    asks = refl;
    goes_on = record {
      bytes = last_descriptor;
      rest = part ∷ pages ∷ discard ∷ id ∷ used_length ∷ Release ∷ used_index ∷ of_the_second;
      asks = refl;
      long = refl;
      goes_on = record {
        bytes = number;
        rest = pages ∷ discard ∷ id ∷ used_length ∷ Release ∷ used_index ∷ of_the_second;
        asks = refl;
        long = refl;
        goes_on = record {
          answer = Ok one_page;
          runs = page_5 ∷ [];
          device = ready;
          names = names_first;
          goes_on = record {
            rest = discard ∷ id ∷ used_length ∷ Release ∷ used_index ∷ of_the_second;
            asks = refl;
            goes_on = record {
              rest = id ∷ used_length ∷ Release ∷ used_index ∷ of_the_second;
              asks = refl;
              goes_on = record { rest = of_the_second; asks = refl; goes_on = serves_second };
            };
          };
        };
      };
    };
  };
}

-- ---- what doesn't, whatever the device and the outcome are then

abbrev IsServed : List Access → Type 0
IsServed log = (d : Device) × ((o : Outcome) × Serves two Inflate budget ready d o log)

-- the index read again after the first chain, with a fence before it or without
index_again : IsServed (index ∷ of_the_first (index ∷ of_the_second)) → ⊥
index_again (d, (o, h)) = absurd (reads_in_turn two Inflate budget ready d o _ h).1.1.1.1.1.1.1.1.1.1.1.0

-- the second entry with no fence before it
no_acquire : IsServed (index ∷ of_the_first (second_entry ∷ [])) → ⊥
no_acquire (d, (o, h)) = absurd (reads_in_turn two Inflate budget ready d o _ h).1.1.1.1.1.1.1.1.1.1.1.0

-- ---- by an index that was read: after the first chain, the second one's entry alone

abbrev entry_at : List Access → ℕ
entry_at (Acquire ∷ ReadWord at answer ∷ xs) = at.offset
entry_at xs = 0

first_again : (d : Device) (o : Outcome) (rest : List Access) →
    ServesPublished 7 (whole d o) (used ready) one_given (Acquire ∷ entry ∷ rest) → ⊥
first_again d o rest h = let e : Same 0x104 0x106 = ap entry_at h.asks in omega arith

-- the notice doesn't end before it
flags_first : (d : Device) (o : Outcome) →
    ServesPublished 7 (whole d o) (used ready) one_given (Full ∷ flags ∷ []) → ⊥
flags_first d o h = let e = h.asks in absurd cc

nothing_more : (d : Device) (o : Outcome) → ServesPublished 7 (whole d o) (used ready) one_given [] → ⊥
nothing_more d o h = let e = h.asks in absurd cc

-- a chain more than it publishes isn't served: after the last one the flags are read
abbrev of_one : Tally
of_one = record one_given { published = 1 }

abbrev ended : Tally → Bool → Outcome
ended t more = record { tally = t; why = None; interrupt = true; more = more }

last : ServesPublished 7 (whole (used ready) (ended of_one false)) (used ready) of_one (Full ∷ flags ∷ [])
last = flags_are_read refl refl

one_more : (d : Device) (o : Outcome) (rest : List Access) →
    ServesPublished 7 (whole d o) (used ready) of_one (Acquire ∷ rest) → ⊥
one_more d o rest h = let e = h.asks in absurd cc

flags_left_out : (d : Device) (o : Outcome) → ServesPublished 7 (whole d o) (used ready) of_one [] → ⊥
flags_left_out d o h = let e = h.asks in absurd cc

-- a budget of one chain of two: more is available
abbrev unpaid : Tally
unpaid = record one_given { chains = 0 }

more_stands : ServesPublished 0 (whole (used ready) (ended unpaid true)) (used ready) unpaid (Full ∷ flags ∷ [])
more_stands = flags_are_read refl refl

in_silence : (d : Device) →
    ServesPublished 0 (whole d (ended unpaid false)) (used ready) unpaid (Full ∷ flags ∷ []) → ⊥
in_silence d h = let e = ap (λ (o : Outcome). o.more) h.then_stops.outcome in absurd cc

served_unpaid : (d : Device) (o : Outcome) (rest : List Access) →
    ServesPublished 0 (whole d o) (used ready) unpaid (Acquire ∷ rest) → ⊥
served_unpaid d o rest h = let e = h.asks in absurd cc

-- an index that says less than was taken breaks a rule
jumped : ServesPublished 7 (whole (record (used ready) { status = 79 })
    (record { tally = record of_one { published = 0 }; why = Some (Broken IndexJump); interrupt = true; more = false }))
    (used ready) (record of_one { published = 0 }) (Full ∷ flags ∷ [])
jumped = flags_are_read refl refl
