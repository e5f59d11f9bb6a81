-- Buffers of statistics, worked out: one is served, whose figures are told, and one is given back,
-- to ask for new ones.
use Rattle.std.proofs.Common.{◌≡◌, refl, ap, arith, ℕ, zero, suc, true, false, List, [], ◌∷◌, ◌++◌, Some, None}
use Rattle.std.specs.Prelude.{take, replicate}
use Rattle.vb_chain.specs.declared.pieces.Piece.{Piece}
use Rattle.vb_chain.specs.declared.fault.ChainFault.TheVariants.{WrongDirection, BadLength}
use Rattle.vb_core.specs.declared.{kinds.Kind.TheVariants.Statistics, statistics.Statistic.Statistic}
use Rattle.vb_core.specs.declared.device.{Device.Device, Denial.TheVariants.{Broken, BadArgument, NotReady}}
use Rattle.vb_core.specs.{Devices.with_one_taken, Statistics.{AreFigures}}
use Rattle.vb_monitor.specs.declared.outcome.{HeldChain.HeldChain, Tally.Tally, Outcome.Outcome}
use Rattle.vb_monitor.specs.Accesses.{Access, CopyBytes, Acquire, Release, Full, TellFigures, WriteNumber}
use Rattle.vb_monitor.specs.{Ends.Whole, Giving.{Then, after_use}, Chains.{FiguresBy, AfterBytes, ServesPieces}}
use Rattle.vb_monitor.specs.Notices.{Serves, GivesHeldBack}
use Rattle.vb_monitor.proofs.Samples.{flags_are_read, chain_of, head_of, Same, two, at, ready, tally, budget, index, entry, flags, id, used_length, used_index, given}
use Rattle.vb_monitor.proofs.AheadFacts.{over, ends, needs_reset}

-- ---- two figures: 10 bytes each, a tag of two and a value of eight

abbrev figure : ℕ → Statistic
figure tag = record { tag = tag; value = 7 }

abbrev bytes_of : ℕ → List ℕ
bytes_of tag = tag ∷ 0 ∷ 7 ∷ 0 ∷ 0 ∷ 0 ∷ 0 ∷ 0 ∷ 0 ∷ 0 ∷ []

abbrev both : List ℕ
both = bytes_of 4 ++ bytes_of 5

abbrev figures : List Statistic
figures = figure 4 ∷ figure 5 ∷ []

are_both : AreFigures both figures
are_both zero d lt = refl
are_both (suc zero) d lt = refl
are_both (suc (suc k)) d lt = absurd (omega (arith, lt))

-- ---- a whole notice

-- descriptor 3: 20 bytes at 0x400, and no more
abbrev descriptor : Access
descriptor = CopyBytes (at 0x30) (0 ∷ 4 ∷ 0 ∷ 0 ∷ 0 ∷ 0 ∷ 0 ∷ 0 ∷ 20 ∷ 0 ∷ 0 ∷ 0 ∷ 0 ∷ 0 ∷ 0 ∷ 0 ∷ [])

abbrev copied : Access
copied = CopyBytes (at 0x400) both

abbrev taken : Device
taken = with_one_taken Statistics ready

-- the buffer is held: it isn't given back, so that no interrupt is asked about
abbrev held : Outcome
held = record {
  tally = record { chains = 7; pages = 256; keeps = false; given = false; held = chain_of 3 0; published = 1; most_pages = 256; longest = 256; told = 0 };
  why = None;
  interrupt = false;
  more = false;
}

serves : Serves two Statistics budget ready taken held (index ∷ Acquire ∷ entry ∷ descriptor ∷ copied ∷ TellFigures figures ∷ [])
unfolding lib.Count.ones
serves = record {
  index = 1;
  rest = Acquire ∷ entry ∷ descriptor ∷ copied ∷ TellFigures figures ∷ [];
  asks = refl;
  goes_on = record {
    head = 3;
    rest = descriptor ∷ copied ∷ TellFigures figures ∷ [];
    asks = refl;
    goes_on = record {
      bytes = 0 ∷ 4 ∷ 0 ∷ 0 ∷ 0 ∷ 0 ∷ 0 ∷ 0 ∷ 20 ∷ 0 ∷ 0 ∷ 0 ∷ 0 ∷ 0 ∷ 0 ∷ 0 ∷ [];
      rest = copied ∷ TellFigures figures ∷ [];
      asks = refl;
      long = refl;
      goes_on = record {
        bytes = both;
        rest = TellFigures figures ∷ [];
        asks = refl;
        long = refl;
        goes_on = record {
          figures = figures;
          are = are_both;
          tells = record { rest = []; asks = refl; ends = record { nothing = refl; device = refl; outcome = refl } };
        };
      };
    };
  };
}

-- ---- what the bytes come to

abbrev none : Then
none = λ d t log. ⊥

abbrev one_held : Tally
one_held = record tally { held = chain_of 3 0 }

abbrev Told : Outcome → List ℕ → List Access → Type 0
Told o bytes log = AfterBytes Statistics (over Statistics taken o) none ready tally 3 bytes log

-- an empty buffer is one too, and is held as well
of_no_figure : Told (ends one_held None false false) [] (TellFigures [] ∷ [])
unfolding lib.Count.ones
of_no_figure = record {
  figures = figures;
  are = λ k d lt. absurd (omega (arith, lt));
  tells = record { rest = []; asks = refl; ends = record { nothing = refl; device = refl; outcome = refl } };
}

-- of more figures than the bytes have, the first are told: four of forty bytes
abbrev four : List Statistic
four = figure 4 ∷ figure 5 ∷ figure 4 ∷ figure 5 ∷ []

of_five_figures : Told (ends one_held None false false) (both ++ both) (TellFigures four ∷ [])
unfolding lib.Count.ones
of_five_figures = record {
  figures = four ++ figure 6 ∷ [];
  are = are_four;
  tells = record { rest = []; asks = refl; ends = record { nothing = refl; device = refl; outcome = refl } };
} where
  are_four : AreFigures (both ++ both) (four ++ figure 6 ∷ [])
  are_four zero d lt = refl
  are_four (suc zero) d lt = refl
  are_four (suc (suc zero)) d lt = refl
  are_four (suc (suc (suc zero))) d lt = refl
  are_four (suc (suc (suc (suc k)))) d lt = absurd (omega (arith, lt))

untold : (o : Outcome) → Told o both [] → ⊥
unfolding lib.Count.ones
untold o h = let e = h.tells.asks in absurd cc

abbrev first_tag : List Access → ℕ
first_tag (TellFigures (f ∷ fs) ∷ xs) = f.tag
first_tag xs = 0

exchanged_in : (told : List Statistic) (rest : List Access) →
    TellFigures (figure 5 ∷ figure 4 ∷ []) ∷ [] ≡ TellFigures (take 2 told) ∷ rest → AreFigures both told → ⊥
exchanged_in [] rest e are = let x : Same 5 0 = ap first_tag e in omega arith
exchanged_in (f ∷ fs) rest e are =
    let x : Same 5 f.tag = ap first_tag e in
    let y : Same f.tag 4 = ap (λ (s : Statistic). s.tag) (are 0 (figure 0) (omega arith)) in
    omega (arith, x, y)

exchanged : (o : Outcome) → Told o both (TellFigures (figure 5 ∷ figure 4 ∷ []) ∷ []) → ⊥
unfolding lib.Count.ones
exchanged o h = exchanged_in h.figures h.tells.rest h.tells.asks h.are

abbrev has_second : List Access → ℕ
has_second (TellFigures (f ∷ g ∷ gs) ∷ xs) = 1
has_second xs = 0

one_alone_in : (told : List Statistic) (rest : List Access) →
    TellFigures (figure 4 ∷ []) ∷ [] ≡ TellFigures (take 2 told) ∷ rest → AreFigures both told → ⊥
one_alone_in [] rest e are = let x : Same 4 0 = ap first_tag e in omega arith
one_alone_in (f ∷ []) rest e are =
    let y : Same 0 5 = ap (λ (s : Statistic). s.tag) (are 1 (figure 0) (omega arith)) in omega arith
one_alone_in (f ∷ g ∷ gs) rest e are = let x : Same 0 1 = ap has_second e in omega arith

one_alone : (o : Outcome) → Told o both (TellFigures (figure 4 ∷ []) ∷ []) → ⊥
unfolding lib.Count.ones
one_alone o h = one_alone_in h.figures h.tells.rest h.tells.asks h.are

-- another buffer is held, or none
of_another_head : Told (ends (record tally { held = chain_of 4 0 }) None false false) both (TellFigures figures ∷ []) → ⊥
unfolding lib.Count.ones
of_another_head h = let e : Same 4 3 = ap head_of h.tells.ends.outcome in omega arith

of_no_head : Told (ends tally None false false) both (TellFigures figures ∷ []) → ⊥
unfolding lib.Count.ones
of_no_head h = let e = ap (λ (o : Outcome). o.tally.held) h.tells.ends.outcome in absurd cc

-- the entry isn't taken again
not_taken : (o : Outcome) →
    AfterBytes Statistics (over Statistics ready o) none ready tally 3 both (TellFigures figures ∷ []) → ⊥
unfolding lib.Count.ones
not_taken o h =
    let e : Same 0 1 = ap (λ (d : Device). d.statistics.next_avail) h.tells.ends.device in omega arith

-- ---- bytes that are no statistics

abbrev bad : Outcome
bad = ends tally (Some BadArgument) false false

eleven_bytes : AfterBytes Statistics (over Statistics ready bad) none ready tally 3 (0 ∷ bytes_of 4) []
unfolding lib.Count.ones
eleven_bytes = record { nothing = refl; device = refl; outcome = refl }

-- as many figures as have room are told, and one more is refused
as_many_untold : (o : Outcome) → Told o (replicate 1020 0) [] → ⊥
unfolding lib.Count.ones
as_many_untold o h = let e = h.tells.asks in absurd cc

one_too_many : AfterBytes Statistics (over Statistics ready bad) none ready tally 3 (replicate 1030 0) []
unfolding lib.Count.ones
one_too_many = record { nothing = refl; device = refl; outcome = refl }

told_although_refused : (w : Whole) → FiguresBy (Some NotReady) w ready tally 3 both (TellFigures figures ∷ []) → ⊥
told_although_refused w h = let e = h.nothing in absurd cc

for_another_reason : FiguresBy (Some NotReady) (over Statistics ready bad) ready tally 3 both [] → ⊥
for_another_reason h = let e = ap (λ (o : Outcome). o.why) h.outcome in absurd cc

taken_although_refused : (o : Outcome) → FiguresBy (Some NotReady) (over Statistics taken o) ready tally 3 both [] → ⊥
taken_although_refused o h =
    let e : Same 1 0 = ap (λ (d : Device). d.statistics.next_avail) h.device in omega arith

-- a piece that the device may write, and one of 12 bytes: nothing is copied
abbrev buffer : Piece
buffer = record { addr = 0x400; len = 20; writable = false }

to_write : ServesPieces Statistics (over Statistics needs_reset (ends tally (Some (Broken WrongDirection)) false false)) none
    ready tally 3 (record buffer { writable = true } ∷ []) []
to_write = record { nothing = refl; device = refl; outcome = refl }

twelve_bytes : ServesPieces Statistics (over Statistics needs_reset (ends tally (Some (Broken BadLength)) false false)) none
    ready tally 3 (record buffer { len = 12 } ∷ []) []
twelve_bytes = record { nothing = refl; device = refl; outcome = refl }

uncopied : (o : Outcome) → ServesPieces Statistics (over Statistics taken o) none ready tally 3 (buffer ∷ [])
    (TellFigures figures ∷ []) → ⊥
uncopied o h = let e = h.asks in absurd cc

-- ---- new ones are asked for: the buffer is given back, and the flags are read

abbrev spent : Tally
spent = record { chains = 0; pages = 0; keeps = false; given = true; held = chain_of 3 0; published = 0; most_pages = 0; longest = 0; told = 0 }

abbrev buffer_of : ℕ → HeldChain
buffer_of head = record { head = head; pages = 0 }

abbrev back : Device
back = after_use Statistics ready

asks : GivesHeldBack two Statistics (buffer_of 3) ready back (ends spent None true false) given
unfolding lib.Count.ones
asks = record { rest = Full ∷ flags ∷ []; asks = refl; goes_on = flags_are_read refl refl }

abbrev number_written : List Access → ℕ
number_written (WriteNumber at n ∷ xs) = n
number_written xs = 0

another_buffer : (d : Device) (o : Outcome) → GivesHeldBack two Statistics (buffer_of 4) ready d o given → ⊥
unfolding lib.Count.ones
another_buffer d o h = let e : Same 3 4 = ap number_written h.asks in omega arith

nothing_given : (d : Device) (o : Outcome) → GivesHeldBack two Statistics (buffer_of 3) ready d o (Full ∷ flags ∷ []) → ⊥
unfolding lib.Count.ones
nothing_given d o h = let e = h.asks in absurd cc

no_flags : (d : Device) (o : Outcome) → GivesHeldBack two Statistics (buffer_of 3) ready d o (id ∷ used_length ∷ Release ∷ used_index ∷ []) → ⊥
unfolding lib.Count.ones
no_flags d o h = let e = h.asks in let f = h.goes_on.asks in absurd cc

-- what is no descriptor's head isn't given back
no_such_head : GivesHeldBack two Statistics (buffer_of 8) ready ready (ends (record spent { given = false; held = chain_of 8 0 }) (Some BadArgument) false false) []
unfolding lib.Count.ones
no_such_head = record { nothing = refl; device = refl; outcome = refl }

given_all_the_same : (d : Device) (o : Outcome) → GivesHeldBack two Statistics (buffer_of 8) ready d o given → ⊥
unfolding lib.Count.ones
given_all_the_same d o h = let e = h.nothing in absurd cc
