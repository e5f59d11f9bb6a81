-- Where plain numbers say that a notice is, and what was done, worked out.
use Rattle.std.proofs.Common.{◌≡◌, refl, ℕ, true, false, List, [], ◌∷◌, map, Some, None}
use Rattle.vb_chain.specs.declared.fault.ChainFault.{ChainFault}
use Rattle.vb_chain.specs.declared.fault.ChainFault.TheVariants.{BadHead, BadNext, TooLong, Indirect, WrongDirection}
use Rattle.vb_chain.specs.declared.fault.ChainFault.TheVariants.{OutOfRam, IndexJump, BadLength, BadPage, ReservedPage}
use Rattle.vb_core.specs.declared.device.Denial.{Denial}
use Rattle.vb_core.specs.declared.device.Denial.TheVariants.{NoQueue, BadArgument, NotReady, NeedsReset, Misplaced, Broken}
use Rattle.vb_monitor.specs.declared.{regions.Spot.Spot, progress.Progress.Progress}
use Rattle.vb_monitor.specs.declared.step.{Walk.Walk, Place.Place}
use Rattle.vb_monitor.specs.declared.step.Phase.TheVariants.{AwaitsIndex, AwaitsEntry}
use Rattle.vb_monitor.specs.declared.step.Phase.TheVariants.{AwaitsDescriptor, AwaitsPart, Discards}
use Rattle.vb_monitor.specs.declared.step.Phase.TheVariants.{TellsPages, TellsFigures, TellsId, Paused}
use Rattle.vb_monitor.specs.declared.step.Phase.TheVariants.{GivesBack, AwaitsFlags, Ended}
use Rattle.vb_monitor.specs.Codes.{code_of, rule_in, fault_of, why_of, why_code, end_rule}
use Rattle.vb_monitor.specs.Steps.{tally_of, walk_of, phase_at, phase_of, step_of}
use Rattle.vb_monitor.specs.Machine.{may_go_on}

abbrev spot : Spot
spot = record { region = 1; offset = 0x102 }

abbrev none_at : Spot
none_at = record { region = 0; offset = 0 }

-- each number another one, so that none represents another
abbrev numbers : Progress
numbers = record {
  at = spot;
  length = 4;
  into = 3;
  number = 5;
  from = 6;
  piece = 21;
  done = 22;
  in_file = 7;
  cut_length = 8;
  code = 2;
  rule = 3;
  interrupt = 1;
  configuration = 0;
  more = 0;
  chains_left = 9;
  pages_left = 10;
  most_pages = 23;
  longest = 19;
  told = 20;
  head = 11;
  count = 12;
  taken_head = 13;
  given = 0;
  taken = 1;
  flag = 2;
  phase = 1;
  keeps = 0;
  published = 14;
  taken_pages = 15;
  named = record { runs = 16; pages = 17; skipped = 18 };
  spots = record { id = none_at; length = none_at; index = none_at };
  entry = record { element_at = 0; index_at = 0; id = 0; length = 0; index = 0 };
}

-- ---- what is to be done next

abbrev place : Place
place = record { head = 11; count = 12; piece = 21; done = 22 }

each_phase : map (λ n. phase_at n numbers) (0 ∷ 1 ∷ 2 ∷ 3 ∷ 4 ∷ 5 ∷ 6 ∷ 7 ∷ 8 ∷ 9 ∷ 10 ∷ 11 ∷ 12 ∷ []) ≡
    Ended (Some (Broken TooLong)) true false
    ∷ AwaitsIndex spot
    ∷ AwaitsEntry spot
    ∷ AwaitsDescriptor spot (record { head = 11; count = 12; writing = true; first = 5; further = 6 })
    ∷ AwaitsPart spot place 3 4
    ∷ AwaitsFlags spot (Some (Broken TooLong)) false
    ∷ Discards (record { region = 1; offset = 0x102; in_file = 7; length = 8 })
    (record { place = place; further = true; runs = 4; run = 5; from = 6 })
    ∷ TellsPages place (record { runs = 16; pages = 17; skipped = 18 }) true
    ∷ TellsFigures 11 4
    ∷ GivesBack numbers.spots numbers.entry
    ∷ TellsId 11 4
    ∷ Paused place
    ∷ GivesBack numbers.spots numbers.entry ∷ []
each_phase = refl

by_its_number : phase_of numbers ≡ AwaitsIndex spot
unfolding phase_of
by_its_number = refl

with_what_was_done : step_of numbers ≡ record { tally = tally_of numbers; phase = phase_of numbers }
with_what_was_done = refl

-- no more of the chain is copied once these pages were told
without_more : map (λ n. phase_at n (record numbers { flag = 0 })) (6 ∷ 7 ∷ []) ≡
    Discards (record { region = 1; offset = 0x102; in_file = 7; length = 8 })
    (record { place = place; further = false; runs = 4; run = 5; from = 6 })
    ∷ TellsPages place (record { runs = 16; pages = 17; skipped = 18 }) false ∷ []
without_more = refl

-- more is available
ended_with_more : phase_at 0 (record numbers { more = 1 }) ≡ Ended (Some (Broken TooLong)) true true
ended_with_more = refl

flags_with_more : phase_at 5 (record numbers { more = 1 }) ≡ AwaitsFlags spot (Some (Broken TooLong)) true
flags_with_more = refl

-- ---- which go on: those that wait, where bytes that are copied have room

which_go_on : map (λ n. may_go_on (phase_at n numbers)) (0 ∷ 1 ∷ 2 ∷ 3 ∷ 4 ∷ 5 ∷ 6 ∷ 7 ∷ 8 ∷ 9 ∷ 10 ∷ 11 ∷ []) ≡
    true ∷ true ∷ true ∷ true ∷ true ∷ true ∷ true ∷ false ∷ false ∷ false ∷ false ∷ true ∷ []
which_go_on = refl

last_that_fits : may_go_on (phase_at 4 (record numbers { into = 1020 })) ≡ true
last_that_fits = refl

one_past_it : may_go_on (phase_at 4 (record numbers { into = 1021 })) ≡ false
one_past_it = refl

row_too_long : may_go_on (AwaitsDescriptor spot (record { head = 0; count = 0; writing = false; first = 0; further = 64 })) ≡ false
row_too_long = refl

-- ---- what was done

tally_is : tally_of numbers ≡ record {
  chains = 9;
  pages = 10;
  keeps = false;
  given = false;
  held = Some (record { head = 13; pages = 15 });
  published = 14;
  most_pages = 23;
  longest = 19;
  told = 20;
}
tally_is = refl

keeping : map (λ n. (tally_of (record numbers { keeps = n })).keeps) (0 ∷ 1 ∷ 7 ∷ []) ≡ false ∷ true ∷ true ∷ []
keeping = refl

none_taken : tally_of (record numbers { taken = 0; given = 1 }) ≡
    record { chains = 9; pages = 10; keeps = false; given = true; held = None; published = 14; most_pages = 23; longest = 19; told = 20 }
none_taken = refl

-- a row that has no room is read as one that just has, and its first number has 16 bits
abbrev walk : ℕ → Walk
walk further = record { head = 11; count = 12; writing = true; first = 5; further = further }

as_many_as_fit : walk_of (record numbers { from = 64 }) ≡ walk 63
as_many_as_fit = refl

just_as_many : walk_of (record numbers { from = 63 }) ≡ walk 63
just_as_many = refl

of_sixteen_bits : (walk_of (record numbers { number = 0x10000 })).first ≡ 0xffff
of_sixteen_bits = refl

-- ---- denials

abbrev faults : List ChainFault
faults = BadHead ∷ BadNext ∷ TooLong
    ∷ Indirect ∷ WrongDirection ∷ OutOfRam ∷ IndexJump ∷ BadLength ∷ BadPage ∷ ReservedPage ∷ []

abbrev denials : List Denial
denials = Broken TooLong ∷ NotReady ∷ NeedsReset ∷ NoQueue ∷ Misplaced ∷ BadArgument ∷ []

code_by_code : map code_of denials ≡ 2 ∷ 3 ∷ 4 ∷ 5 ∷ 6 ∷ 7 ∷ []
code_by_code = refl

-- a broken rule has its number, and what breaks none has none
rule_by_rule : map (λ (f : ChainFault). rule_in (Broken f)) faults ≡
    1 ∷ 2 ∷ 3 ∷ 4 ∷ 5 ∷ 6 ∷ 7 ∷ 8 ∷ 9 ∷ 10 ∷ []
rule_by_rule = refl

no_rule : map rule_in (NotReady ∷ NeedsReset ∷ NoQueue ∷ Misplaced ∷ BadArgument ∷ []) ≡ 0 ∷ 0 ∷ 0 ∷ 0 ∷ 0 ∷ []
no_rule = refl

-- and back: a number below, each, and one above
back_to_rules : map fault_of (0 ∷ 1 ∷ 2 ∷ 3 ∷ 4 ∷ 5 ∷ 6 ∷ 7 ∷ 8 ∷ 9 ∷ 10 ∷ 11 ∷ []) ≡
    None ∷ Some BadHead ∷ Some BadNext ∷ Some TooLong ∷ Some Indirect ∷ Some WrongDirection ∷ Some OutOfRam
    ∷ Some IndexJump ∷ Some BadLength ∷ Some BadPage ∷ Some ReservedPage ∷ None ∷ []
back_to_rules = refl

back_to_denials : map (λ (code : ℕ). why_of code 3) (0 ∷ 1 ∷ 2 ∷ 3 ∷ 4 ∷ 5 ∷ 6 ∷ 7 ∷ 8 ∷ []) ≡
    None ∷ None ∷ Some (Broken TooLong) ∷ Some NotReady ∷ Some NeedsReset ∷ Some NoQueue ∷ Some Misplaced
    ∷ Some BadArgument ∷ None ∷ []
back_to_denials = refl

-- a broken rule that is none
no_such_rule : why_of 2 0 ≡ None
no_such_rule = refl

whys : map why_code (None ∷ Some NotReady ∷ Some (Broken TooLong) ∷ []) ≡ 0 ∷ 3 ∷ 2 ∷ []
whys = refl

rules : map end_rule (None ∷ Some NotReady ∷ Some (Broken TooLong) ∷ []) ≡ 0 ∷ 0 ∷ 3 ∷ []
rules = refl
