-- Each kind's notice is of its own queue, worked out: all others are elsewhere, have fewer
-- descriptors, and have gone on farther.
use Rattle.std.proofs.Common.{◌≡◌, refl, ℕ, false, true, List, [], ◌∷◌, ◌++◌, Some, None}
use Rattle.vb_chain.specs.declared.fault.ChainFault.TheVariants.{BadNext}
use Rattle.vb_core.specs.declared.kinds.Kind.{Kind}
use Rattle.vb_core.specs.declared.kinds.Kind.TheVariants.{Inflate, Deflate, Statistics, Hint, Report}
use Rattle.vb_core.specs.declared.device.{Device.Device, Denial.TheVariants.{Broken, NotReady, NoQueue}}
use Rattle.vb_core.specs.Devices.{with_ring, needing_reset}
use Rattle.vb_monitor.specs.declared.outcome.{Outcome.Outcome, Tally.Tally}
use Rattle.vb_monitor.specs.Accesses.{Access, ReadWord, CopyBytes, Acquire, Release, Full, WriteNumber}
use Rattle.vb_monitor.specs.{Ends.{Whole, Ends}, Giving.{Then, with_given, after_use, GivesBack}}
use Rattle.vb_monitor.specs.Notices.{Looks, LooksBy, TakesChain, ServesPublished, GivesHeldBack, only_asked}
use Rattle.vb_monitor.proofs.Samples.{flags_are_read, two, at, ring, ready, far, only, tally, index, naming, used_length, used_index, flags, given}
use Rattle.vb_monitor.proofs.AheadFacts.{over, ends}

-- ---- the index

abbrev stop : Then
stop = λ d t log. log ≡ []

looks : (kind : Kind) (d : Device) (o : Outcome) → LooksBy None (over kind d o) stop (only kind) tally (index ∷ [])
looks Inflate d o = record { index = 1; rest = []; asks = refl; goes_on = refl }
looks Deflate d o = record { index = 1; rest = []; asks = refl; goes_on = refl }
looks Statistics d o = record { index = 1; rest = []; asks = refl; goes_on = refl }
looks Hint d o = record { index = 1; rest = []; asks = refl; goes_on = refl }
looks Report d o = record { index = 1; rest = []; asks = refl; goes_on = refl }

-- none is where the device isn't ready, or where the queue's feature wasn't negotiated
unready : Looks 1 (over Inflate (record ready { status = 11 }) (ends tally (Some NotReady) false false)) (record ready { status = 11 })
    tally []
unready = record { nothing = refl; device = refl; outcome = refl }

abbrev no_reports : Device
no_reports = record ready { features = 0x10000000f }

without_its_feature : Looks 1 (over Report no_reports (ends tally (Some NoQueue) false false)) no_reports tally []
unfolding lib.Count.ones
without_its_feature = record { nothing = refl; device = refl; outcome = refl }

abbrev no_hints : Device
no_hints = record ready { features = 0x100000027 }

without_hints : Looks 1 (over Hint no_hints (ends tally (Some NoQueue) false false)) no_hints tally []
unfolding lib.Count.ones
without_hints = record { nothing = refl; device = refl; outcome = refl }

-- what it publishes is taken, or is more than the queue has
abbrev published : ℕ → Tally
published n = record tally { chains = 0; published = n }

abbrev Serves : Kind → ℕ → List Access → Type 0
Serves kind n log =
    ServesPublished 0 (over kind (only kind) (ends (published n) None false true)) (only kind) (published n) log

eight_published : (kind : Kind) → Serves kind 8 []
eight_published Inflate = record { nothing = refl; device = refl; outcome = refl }
eight_published Deflate = record { nothing = refl; device = refl; outcome = refl }
eight_published Statistics = record { nothing = refl; device = refl; outcome = refl }
eight_published Hint = record { nothing = refl; device = refl; outcome = refl }
eight_published Report = record { nothing = refl; device = refl; outcome = refl }

-- ---- a chain: head 7, after it a row of the table's last three descriptors, and then the fifth
-- one, which goes on with none that is there

abbrev three : List ℕ
three = naming 6 ++ naming 7 ++ naming 4

abbrev four : List ℕ
four = naming 8 ++ three

abbrev rows : List Access
rows = CopyBytes (at 0x50) three ∷ CopyBytes (at 0x40) four ∷ []

abbrev broken : Kind → Whole
broken kind = over kind (needing_reset (only kind)) (ends tally (Some (Broken BadNext)) false false)

takes : (kind : Kind) → TakesChain (broken kind) stop (only kind) tally
    (Acquire ∷ ReadWord (at 0x104) 7 ∷ CopyBytes (at 0x70) (naming 5) ∷ rows)
takes Inflate = record {
  head = 7;
  rest = CopyBytes (at 0x70) (naming 5) ∷ rows;
  asks = refl;
  goes_on = record {
    bytes = naming 5;
    rest = rows;
    asks = refl;
    long = refl;
    goes_on = record {
      bytes = three;
      rest = CopyBytes (at 0x40) four ∷ [];
      asks = refl;
      long = refl;
      goes_on = record {
        bytes = four;
        rest = [];
        asks = refl;
        long = refl;
        goes_on = record { nothing = refl; device = refl; outcome = refl };
      };
    };
  };
}
takes Deflate = record {
  head = 7;
  rest = CopyBytes (at 0x70) (naming 5) ∷ rows;
  asks = refl;
  goes_on = record {
    bytes = naming 5;
    rest = rows;
    asks = refl;
    long = refl;
    goes_on = record {
      bytes = three;
      rest = CopyBytes (at 0x40) four ∷ [];
      asks = refl;
      long = refl;
      goes_on = record {
        bytes = four;
        rest = [];
        asks = refl;
        long = refl;
        goes_on = record { nothing = refl; device = refl; outcome = refl };
      };
    };
  };
}
takes Statistics = record {
  head = 7;
  rest = CopyBytes (at 0x70) (naming 5) ∷ rows;
  asks = refl;
  goes_on = record {
    bytes = naming 5;
    rest = rows;
    asks = refl;
    long = refl;
    goes_on = record {
      bytes = three;
      rest = CopyBytes (at 0x40) four ∷ [];
      asks = refl;
      long = refl;
      goes_on = record {
        bytes = four;
        rest = [];
        asks = refl;
        long = refl;
        goes_on = record { nothing = refl; device = refl; outcome = refl };
      };
    };
  };
}
takes Hint = record {
  head = 7;
  rest = CopyBytes (at 0x70) (naming 5) ∷ rows;
  asks = refl;
  goes_on = record {
    bytes = naming 5;
    rest = rows;
    asks = refl;
    long = refl;
    goes_on = record {
      bytes = three;
      rest = CopyBytes (at 0x40) four ∷ [];
      asks = refl;
      long = refl;
      goes_on = record {
        bytes = four;
        rest = [];
        asks = refl;
        long = refl;
        goes_on = record { nothing = refl; device = refl; outcome = refl };
      };
    };
  };
}
takes Report = record {
  head = 7;
  rest = CopyBytes (at 0x70) (naming 5) ∷ rows;
  asks = refl;
  goes_on = record {
    bytes = naming 5;
    rest = rows;
    asks = refl;
    long = refl;
    goes_on = record {
      bytes = three;
      rest = CopyBytes (at 0x40) four ∷ [];
      asks = refl;
      long = refl;
      goes_on = record {
        bytes = four;
        rest = [];
        asks = refl;
        long = refl;
        goes_on = record { nothing = refl; device = refl; outcome = refl };
      };
    };
  };
}

-- ---- it is given back, and the flags are read

abbrev pub used : Kind → Device
used kind = with_ring kind (record ring { next_used = 1 }) far

goes_on : (kind : Kind) → after_use kind (only kind) ≡ used kind
goes_on Inflate = refl
goes_on Deflate = refl
goes_on Statistics = refl
goes_on Hint = refl
goes_on Report = refl

gives : (kind : Kind) → GivesBack (over kind (used kind) (ends (with_given tally) None true false))
    (λ d t log. Ends (over kind (used kind) (ends (with_given tally) None true false)) d t None false log) (only kind) tally 7
    (WriteNumber (at 0x204) 7 ∷ used_length ∷ Release ∷ used_index ∷ Full ∷ flags ∷ [])
unfolding lib.Count.ones
gives Inflate = record { rest = Full ∷ flags ∷ []; asks = refl; goes_on = flags_are_read refl refl }
gives Deflate = record { rest = Full ∷ flags ∷ []; asks = refl; goes_on = flags_are_read refl refl }
gives Statistics = record { rest = Full ∷ flags ∷ []; asks = refl; goes_on = flags_are_read refl refl }
gives Hint = record { rest = Full ∷ flags ∷ []; asks = refl; goes_on = flags_are_read refl refl }
gives Report = record { rest = Full ∷ flags ∷ []; asks = refl; goes_on = flags_are_read refl refl }

-- a chain that is held is given back to its own queue
abbrev pub asked : Tally
asked = only_asked (record { head = 3; pages = 2 })

pub held_back : (kind : Kind) → GivesHeldBack two kind (record { head = 3; pages = 2 }) (only kind) (used kind)
    (ends (with_given asked) None true false) given
unfolding lib.Count.ones
held_back Inflate = record { rest = Full ∷ flags ∷ []; asks = refl; goes_on = flags_are_read refl refl }
held_back Deflate = record { rest = Full ∷ flags ∷ []; asks = refl; goes_on = flags_are_read refl refl }
held_back Statistics = record { rest = Full ∷ flags ∷ []; asks = refl; goes_on = flags_are_read refl refl }
held_back Hint = record { rest = Full ∷ flags ∷ []; asks = refl; goes_on = flags_are_read refl refl }
held_back Report = record { rest = Full ∷ flags ∷ []; asks = refl; goes_on = flags_are_read refl refl }
