-- Where a notice is, as plain numbers: what was done, and what is to be done next.
use Rattle.std.specs.Prelude.{ℕ, ◌-◌, ◌/◌, min, Bool, true, false, not, ◌==◌}
use Rattle.std.specs.Prelude.{if◌then◌else◌, Option, Some, None}
use Rattle.vb_chain.specs.declared.descriptor.TheConstants.{DESCRIPTOR_SIZE}
use Rattle.vb_monitor.specs.declared.room.TheConstants.{MAX_BYTES}
use Rattle.vb_monitor.specs.declared.cuts.Cut.{Cut}
use Rattle.vb_monitor.specs.declared.outcome.{HeldChain.HeldChain, Tally.Tally}
use Rattle.vb_monitor.specs.declared.progress.Progress.{Progress}
use Rattle.vb_monitor.specs.declared.step.Walk.{Walk}
use Rattle.vb_monitor.specs.declared.step.Place.{Place}
use Rattle.vb_monitor.specs.declared.step.Discarding.{Discarding}
use Rattle.vb_monitor.specs.declared.step.Phase.{Phase}
use Rattle.vb_monitor.specs.declared.step.Phase.TheVariants.{AwaitsIndex, AwaitsEntry}
use Rattle.vb_monitor.specs.declared.step.Phase.TheVariants.{AwaitsDescriptor, AwaitsPart}
use Rattle.vb_monitor.specs.declared.step.Phase.TheVariants.{TellsPages, TellsFigures, TellsId}
use Rattle.vb_monitor.specs.declared.step.Phase.TheVariants.{Discards, Paused}
use Rattle.vb_monitor.specs.declared.step.Phase.TheVariants.{GivesBack, AwaitsFlags, Ended}
use Rattle.vb_monitor.specs.Codes.{why_of}

-- What is to be done next, and what was done.
pub record Step : Type 0 where
  pub tally : Tally
  pub phase : Phase

-- A number that is 0 says no.
abbrev pub says_yes : ℕ → Bool
says_yes n = not (n == 0)

abbrev pub held_in : Bool → ℕ → ℕ → Option HeldChain
held_in true head pages = None
held_in false head pages = Some (record { head = head; pages = pages })

abbrev pub tally_of : Progress → Tally
tally_of c = record {
  chains = c.chains_left;
  pages = c.pages_left;
  keeps = says_yes c.keeps;
  given = says_yes c.given;
  held = held_in (c.taken == 0) c.taken_head c.taken_pages;
  published = c.published;
  most_pages = c.most_pages;
  longest = c.longest;
  told = c.told;
}

-- The row that is copied begins with a descriptor's number, which has 16 bits, and has room.
abbrev pub walk_of : Progress → Walk
walk_of c = record {
  head = c.head;
  count = c.count;
  writing = says_yes c.flag;
  first = min c.number 0xffff;
  further = min c.from (MAX_BYTES / DESCRIPTOR_SIZE - 1);
}

abbrev pub place_of : Progress → Place
place_of c = record { head = c.head; count = c.count; piece = c.piece; done = c.done }

abbrev pub discarding_of : Progress → Discarding
discarding_of c = record {
  place = place_of c;
  further = says_yes c.flag;
  runs = c.length;
  run = c.number;
  from = c.from;
}

abbrev pub part_of : Progress → Cut
part_of c = record {
  region = c.at.region;
  offset = c.at.offset;
  in_file = c.in_file;
  length = c.cut_length;
}

-- What is to be done next, by its number.
abbrev pub phase_at : ℕ → Progress → Phase
phase_at n c =
    if n == 0 then Ended (why_of c.code c.rule) (says_yes c.interrupt) (says_yes c.more)
    else if n == 1 then AwaitsIndex c.at
    else if n == 2 then AwaitsEntry c.at
    else if n == 3 then AwaitsDescriptor c.at (walk_of c)
    else if n == 4 then AwaitsPart c.at (place_of c) c.into c.length
    else if n == 5 then AwaitsFlags c.at (why_of c.code c.rule) (says_yes c.more)
    else if n == 6 then Discards (part_of c) (discarding_of c)
    else if n == 7 then TellsPages (place_of c) c.named (says_yes c.flag)
    else if n == 8 then TellsFigures c.head c.length
    else if n == 10 then TellsId c.head c.length
    else if n == 11 then Paused (place_of c)
    else GivesBack c.spots c.entry

unfoldable pub phase_of : Progress → Phase
phase_of c = phase_at c.phase c

abbrev pub step_of : Progress → Step
step_of c = record { tally = tally_of c; phase = phase_of c }
