-- Which notice plain data of C is, what is none, and what a notice says at its end, worked out.
use Rattle.std.proofs.Common.{◌≡◌, refl, ap, arith, ℕ, Bool, true, false, [], ◌∷◌, map, Option, Some, None}
use Rattle.vb_chain.specs.declared.fault.ChainFault.TheVariants.{TooLong}
use Rattle.vb_core.specs.declared.ring.UsedEntry.{UsedEntry}
use Rattle.vb_core.specs.declared.kinds.Kind.TheVariants.{Inflate, Deflate, Statistics}
use Rattle.vb_core.specs.declared.device.Denial.TheVariants.{NoQueue, BadArgument, NotReady, NeedsReset, Misplaced, Broken}
use Rattle.vb_monitor.specs.declared.{regions.Spot.Spot, outcome.Tally.Tally}
use Rattle.vb_monitor.specs.declared.{outcome.Outcome.Outcome, orders.Orders.Orders}
use Rattle.vb_monitor.specs.declared.orders.Told.TheVariants.{Nothing, Pages}
use Rattle.vb_monitor.specs.declared.step.{Walk.Walk}
use Rattle.vb_monitor.specs.Steps.{tally_of, walk_of, place_of, part_of, discarding_of, phase_of}
use Rattle.vb_monitor.specs.declared.step.Phase.TheVariants.{AwaitsIndex, AwaitsEntry}
use Rattle.vb_monitor.specs.declared.step.Phase.TheVariants.{AwaitsDescriptor, AwaitsPart, Discards}
use Rattle.vb_monitor.specs.declared.step.Phase.TheVariants.{GivesBack, AwaitsFlags, Paused, Ended}
use Rattle.vb_c.specs.{declared.notice.VbNotice.VbNotice, Codes.code_of_kind}
use Rattle.vb_c.specs.Notices.{Notice, notice_of, end_code, breaks, SaysEnd, Says, answer_bits}
use Rattle.vb_c.specs.{Notices.{IsElse, IsNotice, HasEnded}, Serving.{held_by, held_then}}
use Rattle.vb_c.proofs.Samples.{Same, balloon, begun}
use Rattle.vb_monitor.specs.Snapshots.{snapshot_of}
use Rattle.vb_monitor.specs.declared.balloon.Balloon.{Balloon}
use Rattle.vb_c.proofs.Samples.{a_buffer, chain_of}
use Rattle.vb_monitor.specs.declared.outcome.HeldChain.{HeldChain}

abbrev spot : Spot
spot = record { region = 1; offset = 0x102 }

abbrev none_at : Spot
none_at = record { region = 0; offset = 0 }

abbrev orders : Orders
orders = record {
  named = record { runs = 0; pages = 0; skipped = 0 };
  figures = 0;
  cuts = 0;
  kept = 0;
  waits = 0;
  hint_id = 0;
  used = record { spots = record { id = none_at; length = none_at; index = none_at }; id = 0; length = 0; index = 0 };
}

-- each number another one, so that none represents another
abbrev notice : VbNotice
notice = record {
  what = 128;
  kind = 0;
  orders = orders;
  step = record {
    at = spot;
    length = 4;
    into = 3;
    number = 5;
    from = 6;
    piece = 16;
    done = 17;
    in_file = 7;
    cut_length = 8;
    code = 2;
    rule = 3;
    interrupt = 1;
    configuration = 0;
    more = 0;
    chains_left = 9;
    pages_left = 10;
    most_pages = 20;
    longest = 18;
    told = 19;
    head = 11;
    count = 12;
    taken_head = 13;
    given = 0;
    taken = 1;
    flag = 2;
    phase = 1;
    keeps = 0;
    published = 14;
    taken_pages = 15;
    named = record { runs = 0; pages = 0; skipped = 0 };
    spots = record { id = none_at; length = none_at; index = none_at };
    entry = record { element_at = 0; index_at = 0; id = 0; length = 0; index = 0 };
  };
  left = snapshot_of Inflate begun;
}

-- ---- which notice it is

abbrev at_index : Notice
at_index =
    record { kind = Inflate; step = record { tally = tally_of (notice.step); phase = AwaitsIndex spot } }

a_notice : notice_of notice ≡ Some at_index
unfolding phase_of
a_notice = refl

of_no_kind : notice_of (record notice { kind = 5 }) ≡ None
of_no_kind = refl

at_an_id : notice_of (record notice { step = record (notice.step) { phase = 10 } }) ≡ None
unfolding phase_of
at_an_id = refl

at_no_phase : notice_of (record notice { step = record (notice.step) { phase = 7 } }) ≡ None
unfolding phase_of
at_no_phase = refl

-- ---- what it says

abbrev used : UsedEntry
used = record { element_at = 0x204; index_at = 0x202; id = 3; length = 0; index = 1 }

-- a word is read, after an acquire fence, or after a full one; bytes are copied; the notice pauses; or
-- nothing is answered
answered : answer_bits (AwaitsIndex spot) ∷ answer_bits (AwaitsEntry spot) ∷ answer_bits (AwaitsDescriptor spot (walk_of (notice.step)))
    ∷ answer_bits (AwaitsPart spot (place_of (notice.step)) 3 4) ∷ answer_bits (AwaitsFlags spot None false)
    ∷ answer_bits (Discards (part_of (notice.step)) (discarding_of (notice.step))) ∷ answer_bits (GivesBack (orders.used.spots) used)
    ∷ answer_bits (Paused (place_of (notice.step))) ∷ answer_bits (Ended None false false) ∷ [] ≡ 128 ∷ 160 ∷ 256 ∷ 256 ∷ 192 ∷ 0 ∷ 0 ∷ 512 ∷ 0 ∷ []
answered = refl

says_it_all : IsNotice notice (record { told = Nothing; gives = false }) at_index
unfolding phase_of
says_it_all = record { read = refl; says = tt; what = refl }

abbrev kind_in : Option Notice → ℕ
kind_in None = 5
kind_in (Some n) = code_of_kind (Some (n.kind))

-- not what is told beside, nor another kind's
tells_nothing : IsNotice notice (record { told = Pages; gives = false }) at_index → ⊥
tells_nothing h = let e : Same 128 129 = h.what in omega arith

of_another_kind : IsNotice notice (record { told = Nothing; gives = false }) (record at_index { kind = Statistics }) → ⊥
unfolding phase_of
of_another_kind h = let e : Same 0 2 = ap kind_in h.read in omega arith

-- nor another end than the notice's
abbrev at_end : Notice
at_end = record at_index { step = record (at_index.step) { phase = Ended (Some (Broken TooLong)) true false } }

abbrev shows_end : ℕ → VbNotice
shows_end configuration = record notice { what = 0; step = record (notice.step) { phase = 0; configuration = configuration } }

end_is_said : IsNotice (shows_end 1) (record { told = Nothing; gives = false }) at_end
unfolding phase_of
end_is_said = record {
  read = refl;
  says = record { code = refl; rule = refl; interrupt_is = refl; configuration = refl; more_is = refl };
  what = refl;
}

end_half_said : IsNotice (shows_end 0) (record { told = Nothing; gives = false }) at_end → ⊥
end_half_said h = let e : Same 0 1 = h.says.configuration in omega arith

-- what is shown of a phase leaves what is to be done, the queue, and what needs no answer
nothing_else : IsElse notice (record notice { step = record (notice.step) { phase = 0; at = none_at; code = 1 } })
nothing_else = record { what = refl; kind = refl; orders = refl }

another_bit : IsElse notice (record notice { what = 0 }) → ⊥
another_bit h = let e : Same 0 128 = h.what in omega arith

another_queue : IsElse notice (record notice { kind = 2 }) → ⊥
another_queue h = let e : Same 2 0 = h.kind in omega arith

another_order : IsElse notice (record notice { orders = record orders { cuts = 1 } }) → ⊥
another_order h = let e : Same 1 0 = ap (λ (o : Orders). o.cuts) h.orders in omega arith

-- 16 bytes of each descriptor, in front
abbrev walk : ℕ → Walk
walk further = record { head = 11; count = 12; writing = true; first = 5; further = further }

seven_descriptors : Says (record notice { step = record (notice.step) { length = 112; into = 0 } }) (tally_of (notice.step)) (AwaitsDescriptor spot (walk 6))
seven_descriptors = (refl, refl)

descriptor_elsewhere : Says (record notice { step = record (notice.step) { length = 16 } }) (tally_of (notice.step)) (AwaitsDescriptor spot (walk 0)) → ⊥
descriptor_elsewhere h = let e : Same 3 0 = h.0 in omega arith

half_a_descriptor : Says (record notice { step = record (notice.step) { length = 8; into = 0 } }) (tally_of (notice.step)) (AwaitsDescriptor spot (walk 0)) → ⊥
half_a_descriptor h = let e : Same 8 16 = h.1 in omega arith

one_too_few : Says (record notice { step = record (notice.step) { length = 96; into = 0 } }) (tally_of (notice.step)) (AwaitsDescriptor spot (walk 6)) → ⊥
one_too_few h = let e : Same 96 112 = h.1 in omega arith

-- ---- its end

abbrev tally : Bool → Option HeldChain → Tally
tally given held = record { chains = 0; pages = 0; keeps = false; given = given; held = held; published = 0; most_pages = 0; longest = 0; told = 0 }

served : end_code None (tally true None) ≡ 0
served = refl

held : end_code None (tally false (chain_of 3 2)) ≡ 0
held = refl

nothing_stood_there : end_code None (tally false None) ≡ 1
nothing_stood_there = refl

-- why the last chain wasn't served counts before those that were
refused : end_code (Some NeedsReset) (tally true None) ≡ 4
refused = refl

broken_alone : map breaks
    (None ∷ Some (Broken TooLong) ∷ Some NotReady ∷ Some NeedsReset ∷ Some NoQueue ∷ Some Misplaced ∷ Some BadArgument ∷ []) ≡
    false ∷ true ∷ false ∷ false ∷ false ∷ false ∷ false ∷ []
broken_alone = refl

abbrev ended : VbNotice
ended = record notice { what = 0; step = record (notice.step) { phase = 0; configuration = 1 } }

says_its_end : SaysEnd ended (tally true None) (Some (Broken TooLong)) true false
says_its_end = record { code = refl; rule = refl; interrupt_is = refl; configuration = refl; more_is = refl }

change_untold : SaysEnd (record ended { step = record (ended.step) { configuration = 0 } }) (tally true None) (Some (Broken TooLong)) true false → ⊥
change_untold h = let e : Same 0 1 = h.configuration in omega arith

interrupt_lost : SaysEnd (record ended { step = record (ended.step) { interrupt = 0 } }) (tally true None) (Some (Broken TooLong)) true false → ⊥
interrupt_lost h = let e : Same 0 1 = h.interrupt_is in omega arith

more_lost : SaysEnd ended (tally true None) (Some (Broken TooLong)) true true → ⊥
more_lost h = let e : Same 0 1 = h.more_is in omega arith

another_code : SaysEnd (record ended { step = record (ended.step) { code = 0 } }) (tally true None) (Some (Broken TooLong)) true false → ⊥
another_code h = let e : Same 0 2 = h.code in omega arith

another_rule : SaysEnd (record ended { step = record (ended.step) { rule = 0 } }) (tally true None) (Some (Broken TooLong)) true false → ⊥
another_rule h = let e : Same 0 3 = h.rule in omega arith

-- ---- one that did nothing

abbrev over : VbNotice
over = record notice { what = 0; step = record (notice.step) { phase = 0; code = 7; rule = 0; interrupt = 0 } }

has_ended : HasEnded over 7
has_ended = record {
  what = refl;
  phase = refl;
  code_is = refl;
  rule = refl;
  interrupt = refl;
  configuration = refl;
  more = refl;
}

with_another_code : HasEnded over 5 → ⊥
with_another_code h = let e : Same 7 5 = h.code_is in omega arith

still_reading : HasEnded (record over { what = 128 }) 7 → ⊥
still_reading h = let e : Same 128 0 = h.what in omega arith

interrupting : HasEnded (record over { step = record (over.step) { interrupt = 1 } }) 7 → ⊥
interrupting h = let e : Same 1 0 = h.interrupt in omega arith

with_more : HasEnded (record over { step = record (over.step) { more = 1 } }) 7 → ⊥
with_more h = let e : Same 1 0 = h.more in omega arith

at_a_phase : HasEnded (record over { step = record (over.step) { phase = 1 } }) 7 → ⊥
at_a_phase h = let e : Same 1 0 = h.phase in omega arith

by_a_rule : HasEnded (record over { step = record (over.step) { rule = 3 } }) 7 → ⊥
by_a_rule h = let e : Same 3 0 = h.rule in omega arith

with_a_change : HasEnded (record over { step = record (over.step) { configuration = 1 } }) 7 → ⊥
with_a_change h = let e : Same 1 0 = h.configuration in omega arith

-- ---- the chains that are held

abbrev outcome : Outcome
outcome = record { tally = tally false (chain_of 6 2); why = None; interrupt = false; more = false }

abbrev none : Balloon
none = record balloon { held = a_buffer 0 }

taken_by_statistics : held_by (Some outcome) Statistics none ≡ a_buffer 7
taken_by_statistics = refl

taken_by_deflates : held_by (Some outcome) Deflate balloon ≡ record (a_buffer 4) { deflate = 7; pages = 2 }
taken_by_deflates = refl

kept_by_others : held_by (Some outcome) Inflate balloon ≡ a_buffer 4
kept_by_others = refl

kept_meanwhile : held_by None Statistics balloon ≡ a_buffer 4
kept_meanwhile = refl

noted_at_its_end : held_then (record {
  kind = Statistics;
  step = record { tally = tally true None; phase = Ended None true false };
}) balloon ≡ a_buffer 0
noted_at_its_end = refl
