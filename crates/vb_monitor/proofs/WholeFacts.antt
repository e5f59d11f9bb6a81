-- A whole notice, worked out: page 5 is inflated. Which accesses that makes, and which it doesn't.
use Rattle.std.proofs.Common.{◌≡◌, refl, arith, true, false, List, [], ◌∷◌, Some, Ok}
use Rattle.vb_request.specs.Request.{numbers_of}
use Rattle.vb_core.{specs.declared.kinds.Kind.TheVariants.Inflate}
use Rattle.vb_core.{specs.declared.device.Denial.TheVariants.NotReady, specs.Devices.with_one_taken}
use Rattle.vb_core.{specs.declared.device.Device.Device, specs.Name.NamesNumbersBy, specs.Runs.Tell}
use Rattle.vb_monitor.proofs.Samples.{Same, two, ready, page_5, last_descriptor, number, index}
use Rattle.vb_monitor.proofs.Samples.{entry, descriptor, part, pages, discard, id, used_length}
use Rattle.vb_monitor.{specs.declared.outcome.Outcome.Outcome}
use Rattle.vb_monitor.{specs.Accesses.{Access, Acquire, Release, Full}, specs.Giving.after_use}
use Rattle.vb_monitor.{specs.Notices.Serves, proofs.TurnLaws.in_order}
use Rattle.vb_monitor.proofs.TurnLaws.{reads_in_turn, tells_in_turn, writes_used}
use Rattle.vb_monitor.proofs.Samples.{flags_are_read, used_index, flags, given, budget, outcome, one_page}

-- the device once the chain was taken, and once it was given back
abbrev pub taken : Device
taken = with_one_taken Inflate ready

abbrev pub used : Device
used = after_use Inflate taken

-- ---- what it does

abbrev log : List Access
log = index ∷ Acquire ∷ entry ∷ descriptor ∷ part ∷ pages ∷ discard ∷ given

abbrev tells_5 : Tell (page_5 ∷ []) (5 ∷ [])
tells_5 = (5 ∷ [], ([], (record { whole = refl; grows = (5, ([], (refl, refl))) }, (tt, refl))))

pub names_5 : NamesNumbersBy Inflate number 256 (page_5 ∷ []) ready ready (Ok one_page)
unfolding numbers_of lib.Count.ones
names_5 = record {
  denied = λ why e. absurd cc;
  names = λ e. (
    Ok one_page,
    record {
      fault = λ f e. absurd cc;
      named = λ e. record { told_so = tells_5; few = omega arith; count = refl; others = refl };
    },
    refl,
    refl,
  );
}

serves : Serves two Inflate budget ready used outcome log
unfolding lib.Count.ones
serves = record {
  index = 1;
  rest = Acquire ∷ entry ∷ descriptor ∷ part ∷ pages ∷ discard ∷ given;
  asks = refl;
  goes_on = record {
    head = 3;
    rest = descriptor ∷ part ∷ pages ∷ discard ∷ given;
    asks = refl;
    goes_on = record {
      bytes = last_descriptor;
      rest = part ∷ pages ∷ discard ∷ given;
      asks = refl;
      long = refl;
      goes_on = record {
        bytes = number;
        rest = pages ∷ discard ∷ given;
        asks = refl;
        long = refl;
        goes_on = record {
          answer = Ok one_page;
          runs = page_5 ∷ [];
          device = ready;
          names = names_5;
          goes_on = record {
            rest = discard ∷ given;
            asks = refl;
            goes_on = record {
              rest = given;
              asks = refl;
              goes_on = record { rest = Full ∷ flags ∷ []; asks = refl; goes_on = flags_are_read refl refl };
            };
          };
        };
      };
    };
  };
}

-- ---- what it doesn't, whatever the device and the outcome are then

abbrev IsServed : List Access → Type 0
IsServed log = (d : Device) × ((o : Outcome) × Serves two Inflate budget ready d o log)

-- the entry before its fence
entry_first : IsServed (index ∷ entry ∷ Acquire ∷ descriptor ∷ part ∷ pages ∷ discard ∷ given) → ⊥
entry_first (d, (o, h)) = absurd (reads_in_turn two Inflate budget ready d o _ h).1.0

-- no fence before it
no_acquire : IsServed (index ∷ entry ∷ descriptor ∷ part ∷ pages ∷ discard ∷ given) → ⊥
no_acquire (d, (o, h)) = absurd (reads_in_turn two Inflate budget ready d o _ h).1.0

-- the descriptor twice, the bytes twice, the bytes not at all
descriptor_twice : IsServed (index ∷ Acquire ∷ entry ∷ descriptor ∷ descriptor ∷ part ∷ pages
    ∷ discard ∷ given) → ⊥
descriptor_twice (d, (o, h)) =
    let e : Same 16 4 = (reads_in_turn two Inflate budget ready d o _ h).1.1.1.1.0.long in omega arith

bytes_twice : IsServed (index ∷ Acquire ∷ entry ∷ descriptor ∷ part ∷ part ∷ pages ∷ discard
    ∷ given) → ⊥
bytes_twice (d, (o, h)) = absurd (reads_in_turn two Inflate budget ready d o _ h).1.1.1.1.1.0

bytes_unread : IsServed (index ∷ Acquire ∷ entry ∷ descriptor ∷ pages ∷ discard ∷ given) → ⊥
bytes_unread (d, (o, h)) =
    let e : Same 0 1024 = (tells_in_turn two Inflate budget ready d o _ h).1.1.1.1.0.1.0 in omega arith

-- the page told twice, or not at all
told_twice : IsServed (index ∷ Acquire ∷ entry ∷ descriptor ∷ part ∷ pages ∷ pages ∷ discard
    ∷ given) → ⊥
told_twice (d, (o, h)) = let e : false ≡ true = (in_order two Inflate budget ready d o _ h).1.1.1.1.1.1.0 in absurd cc

untold : IsServed (index ∷ Acquire ∷ entry ∷ descriptor ∷ part ∷ discard ∷ given) → ⊥
untold (d, (o, h)) = let e : false ≡ true = (in_order two Inflate budget ready d o _ h).1.1.1.1.1.0 in absurd cc

-- discarded after its used element, twice, before it is told, or not at all
discarded_after : IsServed (index ∷ Acquire ∷ entry ∷ descriptor ∷ part ∷ pages ∷ id
    ∷ used_length ∷ Release ∷ used_index ∷ discard ∷ Full ∷ flags ∷ []) → ⊥
discarded_after (d, (o, h)) = let e = (tells_in_turn two Inflate budget ready d o _ h).1.1.1.1.1.1.0 in absurd cc

discarded_twice : IsServed (index ∷ Acquire ∷ entry ∷ descriptor ∷ part ∷ pages ∷ discard
    ∷ discard ∷ given) → ⊥
discarded_twice (d, (o, h)) = absurd (tells_in_turn two Inflate budget ready d o _ h).1.1.1.1.1.1.1.0

discarded_first : IsServed (index ∷ Acquire ∷ entry ∷ descriptor ∷ part ∷ discard ∷ pages
    ∷ given) → ⊥
discarded_first (d, (o, h)) = absurd (tells_in_turn two Inflate budget ready d o _ h).1.1.1.1.1.0

not_discarded : IsServed (index ∷ Acquire ∷ entry ∷ descriptor ∷ part ∷ pages ∷ given) → ⊥
not_discarded (d, (o, h)) = let e = (tells_in_turn two Inflate budget ready d o _ h).1.1.1.1.1.1.0 in absurd cc

-- the used index before its element, or with no fence between
index_first : IsServed (index ∷ Acquire ∷ entry ∷ descriptor ∷ part ∷ pages ∷ discard
    ∷ used_index ∷ id ∷ used_length ∷ Release ∷ Full ∷ flags ∷ []) → ⊥
index_first (d, (o, h)) = let e = (in_order two Inflate budget ready d o _ h).1.1.1.1.1.1.1.0 in absurd cc

no_release : IsServed (index ∷ Acquire ∷ entry ∷ descriptor ∷ part ∷ pages ∷ discard ∷ id
    ∷ used_length ∷ used_index ∷ Full ∷ flags ∷ []) → ⊥
no_release (d, (o, h)) = let e = (in_order two Inflate budget ready d o _ h).1.1.1.1.1.1.1.1.1.0 in absurd cc

-- the length first, the length twice
length_first : IsServed (index ∷ Acquire ∷ entry ∷ descriptor ∷ part ∷ pages ∷ discard
    ∷ used_length ∷ id ∷ Release ∷ used_index ∷ Full ∷ flags ∷ []) → ⊥
length_first (d, (o, h)) =
    let e : Same 0 3 = (writes_used two Inflate budget ready d o _ h).1.1.1.1.1.1.1.0.1 in omega arith

-- the flags with no full fence, and read twice
no_full_fence : IsServed (index ∷ Acquire ∷ entry ∷ descriptor ∷ part ∷ pages ∷ discard ∷ id
    ∷ used_length ∷ Release ∷ used_index ∷ flags ∷ []) → ⊥
no_full_fence (d, (o, h)) = absurd (reads_in_turn two Inflate budget ready d o _ h).1.1.1.1.1.1.1.1.1.1.1.0

flags_twice : IsServed (index ∷ Acquire ∷ entry ∷ descriptor ∷ part ∷ pages ∷ discard ∷ id
    ∷ used_length ∷ Release ∷ used_index ∷ Full ∷ flags ∷ flags ∷ []) → ⊥
flags_twice (d, (o, h)) = absurd (reads_in_turn two Inflate budget ready d o _ h).1.1.1.1.1.1.1.1.1.1.1.1.1.0

-- another page, another outcome
another_outcome : Serves two Inflate budget ready used (record outcome { why = Some NotReady }) [] → ⊥
unfolding lib.Count.ones
another_outcome h = let e = h.asks in absurd cc
