-- How a queue is looked at, and a whole notice, worked out: which accesses it makes, and which it
-- doesn't.
use Rattle.std.proofs.Common.{◌≡◌, refl, ap, arith, ℕ, Bool, true, false, List, [], ◌∷◌, Option}
use Rattle.std.proofs.Common.{Some, None, Ok, Err}
use Rattle.vb_chain.specs.declared.fault.ChainFault.TheVariants.{IndexJump, BadHead, OutOfRam}
use Rattle.vb_core.specs.declared.kinds.Kind.TheVariants.{Inflate}
use Rattle.vb_core.{specs.declared.device.Denial.Denial, specs.declared.device.Device.Device}
use Rattle.vb_core.specs.declared.device.Denial.TheVariants.{Broken, NotReady, NeedsReset}
use Rattle.vb_monitor.specs.Notices.{entry_offset, stands, AfterIndex, AfterGiven, TakesNext}
use Rattle.vb_monitor.specs.Notices.{LooksBy, IndexAt, TakesUnlessSpent, ServesPublished, with_published}
use Rattle.vb_monitor.specs.declared.outcome.Tally.{Tally}
use Rattle.vb_monitor.{proofs.Samples.{Same, two, at, ring, ready, tally, index, chain_of}, specs.Giving.Then}
use Rattle.vb_monitor.{specs.Notices.{with_chains, fresh, HeadBy}, specs.Accesses.{Access, ReadWord, Acquire}}
use Rattle.vb_monitor.{specs.declared.outcome.Outcome.Outcome, specs.Ends.Whole}

-- ---- the index and the entry

-- as many as the queue has, and one more
all_of_eight : stands (record ring { next_avail = 65530 }) 2 ≡ Ok true
all_of_eight = refl

one_more : stands (record ring { next_avail = 65530 }) 3 ≡ Err IndexJump
one_more = refl

-- over the wrap of 16 bits
at_the_wrap : stands (record ring { next_avail = 65535 }) 0 ≡ Ok true
at_the_wrap = refl

none_at_the_wrap : stands (record ring { next_avail = 65535 }) 65535 ≡ Ok false
none_at_the_wrap = refl

one_after : stands (record ring { next_avail = 0 }) 65535 ≡ Err IndexJump
one_after = refl

first_entry : entry_offset ring ≡ 4
first_entry = refl

last_of_the_ring : entry_offset (record ring { next_avail = 65535 }) ≡ 18
last_of_the_ring = refl

around_the_ring : entry_offset (record ring { next_avail = 8 }) ≡ 4
around_the_ring = refl

of_no_ring : entry_offset (record ring { size = 0; next_avail = 5 }) ≡ 4
of_no_ring = refl

-- ---- what comes after the index

abbrev whole : Device → Outcome → Whole
whole d outcome = record { regions = two; kind = Inflate; device = d; outcome = outcome }

abbrev end : Option Denial → Bool → Outcome
end why more = record { tally = tally; why = why; interrupt = false; more = more }

none_stands : AfterIndex (Ok false) (whole ready (end None false)) (λ log. ⊥) ready tally []
none_stands = record { nothing = refl; device = refl; outcome = refl }

one_stands : AfterIndex (Ok true) (whole ready (end None false)) (λ log. log ≡ Acquire ∷ []) ready tally (Acquire ∷ [])
one_stands = refl

jumped : AfterIndex (Err IndexJump) (whole (record ready { status = 79 }) (end (Some (Broken IndexJump)) false))
    (λ log. ⊥) ready tally []
jumped = record { nothing = refl; device = refl; outcome = refl }

taken_although_jumped : (d : Device) (o : Outcome) →
    AfterIndex (Err IndexJump) (whole d o) (λ log. Unit {0}) ready tally (Acquire ∷ []) → ⊥
taken_although_jumped d o h = let e = h.nothing in absurd cc

-- ---- the look itself

-- no chain is available
looked : LooksBy None (whole ready (end None false)) (ServesPublished 8 (whole ready (end None false))) ready tally
    (ReadWord (at 0x102) 0 ∷ [])
looked = record { index = 0; rest = []; asks = refl; goes_on = record { nothing = refl; device = refl; outcome = refl } }

not_looked : LooksBy (Some NotReady) (whole ready (end (Some NotReady) false)) (λ d t log. ⊥) ready tally []
not_looked = record { nothing = refl; device = refl; outcome = refl }

looked_although_refused : (d : Device) (o : Outcome) →
    LooksBy (Some NotReady) (whole d o) (λ d t log. Unit {0}) ready tally (index ∷ []) → ⊥
looked_although_refused d o h = let e = h.nothing in absurd cc

for_another_reason : LooksBy (Some NotReady) (whole ready (end (Some NeedsReset) false)) (λ d t log. ⊥) ready tally [] → ⊥
for_another_reason h = let e = ap (λ (o : Outcome). o.why) h.outcome in absurd cc

refused_with_more : LooksBy (Some NotReady) (whole ready (end (Some NotReady) true)) (λ d t log. ⊥) ready tally [] → ⊥
refused_with_more h = let e = ap (λ (o : Outcome). o.more) h.outcome in absurd cc

refused_and_broken : LooksBy (Some NotReady) (whole (record ready { status = 79 }) (end (Some NotReady) false))
    (λ d t log. ⊥) ready tally [] → ⊥
refused_and_broken h = let e : Same 79 15 = ap (λ (d : Device). d.status) h.device in omega arith

abbrev read_at : List Access → ℕ
read_at (ReadWord at answer ∷ xs) = at.offset
read_at xs = 0

abbrev answer_of : List Access → ℕ
answer_of (ReadWord at answer ∷ xs) = answer
answer_of xs = 0

flags_in_its_place : (d : Device) (o : Outcome) →
    LooksBy None (whole d o) (λ d t log. Unit {0}) ready tally (ReadWord (at 0x100) 0 ∷ []) → ⊥
flags_in_its_place d o h = let e : Same 0x100 0x102 = ap read_at h.asks in omega arith

-- of a queue whose index lies in a hole nothing is read: the guest broke a rule
in_the_hole : LooksBy None (whole (record ready { inflate = record ring { avail = 0x14ffe }; status = 79 })
    (end (Some (Broken OutOfRam)) false)) (λ d t log. ⊥) (record ready { inflate = record ring { avail = 0x14ffe } }) tally []
in_the_hole = record { nothing = refl; device = refl; outcome = refl }

nowhere : IndexAt (whole (record ready { status = 79 }) (end (Some (Broken OutOfRam)) false)) (λ d t log. ⊥) ready tally
    None []
nowhere = record { nothing = refl; device = refl; outcome = refl }

of_another_rule : IndexAt (whole (record ready { status = 79 }) (end (Some (Broken IndexJump)) false)) (λ d t log. ⊥)
    ready tally None [] → ⊥
of_another_rule h = let e = ap (λ (o : Outcome). o.why) h.outcome in absurd cc

unbroken : (o : Outcome) → IndexAt (whole ready o) (λ d t log. ⊥) ready tally None [] → ⊥
unbroken o h = let e : Same 15 79 = ap (λ (d : Device). d.status) h.device in omega arith

somewhere : IndexAt (whole ready (end None false)) (λ d t log. (t ≡ record tally { published = 1 }) × (log ≡ []))
    ready tally (Some (at 6)) (ReadWord (at 6) 1 ∷ [])
somewhere = record { index = 1; rest = []; asks = refl; goes_on = (refl, refl) }

-- what was read is remembered
forgotten : IndexAt (whole ready (end None false)) (λ d t log. t ≡ tally) ready tally (Some (at 6))
    (ReadWord (at 6) 1 ∷ []) → ⊥
forgotten h =
    let read : Same 1 h.index = ap answer_of h.asks in
    let kept : Same h.index 0 = ap (λ (t : Tally). t.published) h.goes_on in
    omega (arith, read, kept)

elsewhere : (d : Device) (o : Outcome) →
    IndexAt (whole d o) (λ d t log. Unit {0}) ready tally (Some (at 6)) (ReadWord (at 8) 1 ∷ []) → ⊥
elsewhere d o h = let e : Same 8 6 = ap read_at h.asks in omega arith

unread : (d : Device) (o : Outcome) → IndexAt (whole d o) (λ d t log. Unit {0}) ready tally (Some (at 6)) [] → ⊥
unread d o h = let e = h.asks in absurd cc

-- ---- budgets

all_spent : TakesUnlessSpent true (whole ready (end None true)) (λ d t log. ⊥) ready tally []
all_spent = record { nothing = refl; device = refl; outcome = refl }

spent_in_silence : TakesUnlessSpent true (whole ready (end None false)) (λ d t log. ⊥) ready tally [] → ⊥
spent_in_silence h = let e = ap (λ (o : Outcome). o.more) h.outcome in absurd cc

spent_and_refused : TakesUnlessSpent true (whole ready (end (Some NotReady) true)) (λ d t log. ⊥) ready tally [] → ⊥
spent_and_refused h = let e = ap (λ (o : Outcome). o.why) h.outcome in absurd cc

taken_although_spent : (d : Device) (o : Outcome) (rest : List Access) →
    TakesUnlessSpent true (whole d o) (λ d t log. Unit {0}) ready tally (Acquire ∷ rest) → ⊥
taken_although_spent d o rest h = let e = h.nothing in absurd cc

-- an entry that names no descriptor of the queue
entry_read : TakesUnlessSpent false (whole (record ready { status = 79 }) (end (Some (Broken BadHead)) false))
    (λ d t log. ⊥) ready tally (Acquire ∷ ReadWord (at 0x104) 8 ∷ [])
entry_read = record {
  head = 8;
  rest = [];
  asks = refl;
  goes_on = record { nothing = refl; device = refl; outcome = refl };
}

entry_unread : (d : Device) (o : Outcome) → TakesUnlessSpent false (whole d o) (λ d t log. Unit {0}) ready tally [] → ⊥
entry_unread d o h = let e = h.asks in absurd cc

abbrev entry_at : List Access → ℕ
entry_at (Acquire ∷ ReadWord at answer ∷ xs) = at.offset
entry_at xs = 0

another_entry : (d : Device) (o : Outcome) →
    TakesUnlessSpent false (whole d o) (λ d t log. Unit {0}) ready tally (Acquire ∷ ReadWord (at 0x106) 8 ∷ []) → ⊥
another_entry d o h = let e : Same 0x106 0x104 = ap entry_at h.asks in omega arith

-- a budget that is spent ends the notice, and says that more is available
no_chain_left : TakesNext 0 (whole ready (end None true)) ready tally []
no_chain_left = record { nothing = refl; device = refl; outcome = refl }

no_page_left : TakesNext 5 (whole ready (record (end None true) {
  tally = record tally { chains = 4; pages = 0 };
})) ready (record tally { pages = 0 }) []
no_page_left = record { nothing = refl; device = refl; outcome = refl }

says_no_more : TakesNext 0 (whole ready (end None false)) ready tally [] → ⊥
says_no_more h = let e = ap (λ (o : Outcome). o.more) h.outcome in absurd cc

goes_on_unpaid : (d : Device) (o : Outcome) (rest : List Access) →
    TakesNext 0 (whole d o) ready tally (Acquire ∷ rest) → ⊥
goes_on_unpaid d o rest h = let e = h.nothing in absurd cc

one_chain_fewer : with_chains 4 (record tally { told = 9 }) ≡ record tally { chains = 4 }
one_chain_fewer = refl

at_first : fresh (record { chains = 8; pages = 3; keeps = false; longest = 256 }) ≡ tally
at_first = refl

remembered : with_published 4 tally ≡ record tally { published = 4 }
remembered = refl

-- after a chain was given back the next one comes, but after one that was held
abbrev next : Then
next = λ d t log. log ≡ Acquire ∷ []

goes_on : AfterGiven (whole ready (end None false)) next ready tally (Acquire ∷ [])
goes_on = refl

abbrev was_held : Tally
was_held = record tally { held = chain_of 3 2 }

held_once : AfterGiven (whole ready (record (end None false) { tally = was_held })) next ready was_held []
held_once = record { nothing = refl; device = refl; outcome = refl }

held_again : (d : Device) (o : Outcome) → AfterGiven (whole d o) next ready was_held (Acquire ∷ []) → ⊥
held_again d o h = let e = h.nothing in absurd cc

-- ---- heads

no_such_head : HeadBy false (whole (record ready { status = 79 }) (end (Some (Broken BadHead)) false))
    (λ d t log. ⊥) ready tally 8 []
no_such_head = record { nothing = refl; device = refl; outcome = refl }
