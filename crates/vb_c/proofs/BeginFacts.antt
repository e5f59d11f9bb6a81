-- Which notices begin, which go on, and which don't, worked out.
use Rattle.vb_monitor.specs.declared.room.Room.{Room}
use Rattle.std.proofs.Common.{◌≡◌, ◌∙◌, refl, ap, subst, sym, arith, ℕ, ◌++◌, true, false, List, []}
use Rattle.std.{proofs.Common.{◌∷◌, length, Option, Some, None}, specs.Option.unwrap_or}
use Rattle.vb_core.{specs.declared.kinds.Kind.Kind, specs.declared.device.Device.Device}
use Rattle.vb_core.specs.declared.kinds.Kind.TheVariants.{Inflate, Deflate, Statistics}
use Rattle.vb_monitor.specs.declared.{outcome.{Outcome.Outcome, Budget.Budget}}
use Rattle.vb_monitor.specs.{declared.step.Phase.TheVariants.{AwaitsFlags, Ended}, Accesses.Access}
use Rattle.vb_monitor.specs.{Accesses.{ReadWord, Full}, Ends.wants_interrupt, Machine.Ahead}
use Rattle.vb_monitor.specs.{Machine.whole, Orders.at_once, declared.balloon.Balloon.Balloon}
use Rattle.vb_c.specs.declared.notice.VbNotice.{VbNotice}
use Rattle.vb_monitor.specs.declared.orders.NoticeRoom.{NoticeRoom}
use Rattle.vb_c.{specs.Codes.code_of_kind, specs.Notices.{Notice, notice_of}}
use Rattle.vb_monitor.specs.Steps.{tally_of, phase_of}
use Rattle.vb_c.specs.Serving.{HandsOver, with_device, Begins, BeginsIf, GoesOn, held_then}
use Rattle.vb_c.proofs.HandingFacts.{spot, shown, nothing, at_index, handed}
use Rattle.vb_c.proofs.Samples.{Same, two, begun, ready, balloon, nothing_copied}
use Rattle.vb_c.proofs.Samples.{a_buffer}
use Rattle.vb_core.specs.declared.held.Held.{Held}
use Rattle.vb_monitor.specs.Snapshots.{snapshot_of}

abbrev pub room : NoticeRoom
room = record { copied = nothing_copied; cuts = [] }

abbrev kind_code : Notice → ℕ
kind_code n = code_of_kind (Some (n.kind))

-- which notice was handed over
handed_is : (m n : Notice) (b1 b2 : Balloon) (c : VbNotice) → notice_of c ≡ Some m →
    (h : HandsOver n two nothing_copied b1 b2 [] c) → m ≡ h.notice
handed_is m n b1 b2 c e h = ap (λ (o : Option Notice). unwrap_or o m) (sym e ∙ h.is.read)

-- ---- a notice that begins: what may come where the index is read may come

abbrev Reads : Device → Outcome → List Access → Type 0
Reads after outcome log =
    Ahead (whole two Inflate after outcome) at_index.step begun room.copied log

begins : Begins Reads two Inflate balloon balloon room room shown
begins = record {
  first = at_index;
  device = begun;
  kind_is = refl;
  step = λ after outcome room log h. h;
  hands = handed;
  room = refl;
}

of_another_kind : Begins Reads two Deflate balloon balloon room room shown → ⊥
unfolding phase_of
of_another_kind h =
    let read : Same 0 (kind_code h.hands.notice) =
    ap kind_code (handed_is at_index h.first (with_device h.device balloon) balloon shown refl h.hands) in
    let first : Same (kind_code h.hands.notice) (kind_code h.first) =
    ap (λ (k : Kind). code_of_kind (Some k)) h.hands.kind_is in
    let e : Same (kind_code h.first) 1 = ap (λ (k : Kind). code_of_kind (Some k)) h.kind_is in
    omega (arith, read, first, e)

bytes_changed : Begins Reads two Inflate balloon balloon room (record room { copied = record nothing_copied { bytes = 1 ∷ [] } }) shown → ⊥
bytes_changed h = let e : Same 1 0 = ap (λ (r : Room). length r.bytes) h.room in omega arith

buffer_lost : Begins Reads two Inflate balloon (record balloon { held = a_buffer 0 }) room room shown → ⊥
unfolding phase_of
buffer_lost h =
    let noted : Same 4 (held_then h.hands.notice (with_device h.device balloon)).statistics =
    ap (λ (n : Notice). (held_then n (with_device h.device balloon)).statistics) (handed_is at_index h.first (with_device h.device balloon)
    (record balloon { held = a_buffer 0 }) shown refl h.hands) in
    let e : Same 0 (held_then h.hands.notice (with_device h.device balloon)).statistics =
    ap (λ (x : Held). x.statistics) h.hands.held in
    omega (arith, noted, e)

-- no chain is available, and the notice ends
abbrev nothing_came : Outcome
nothing_came = record { tally = tally_of (shown.step); why = None; interrupt = false; more = false }

abbrev read_index : List Access
read_index = ReadWord spot 0 ∷ []

reads_it : Ahead (whole two Inflate begun nothing_came) at_index.step begun room.copied read_index
reads_it = record {
  index = 0;
  rest = [];
  asks = refl;
  goes_on = record { nothing = refl; device = refl; outcome = refl };
}

-- a notice that may read the index isn't one of which nothing may come
of_nothing : Begins (λ after outcome log. ⊥) two Inflate balloon balloon room room shown → ⊥
unfolding phase_of
of_nothing h =
    let first = h.first in
    let is : at_index ≡ h.hands.notice =
    handed_is at_index first (with_device h.device balloon) balloon shown refl h.hands in
    let read : Ahead (whole two first.kind begun nothing_came) h.hands.notice.step begun room.copied read_index =
    subst (λ (n : Notice). Ahead (whole two first.kind begun nothing_came) n.step begun room.copied read_index) is
    (subst (λ (k : Kind). Ahead (whole two k begun nothing_came) at_index.step begun room.copied read_index)
    (sym h.kind_is) reads_it) in
    h.step begun nothing_came room.copied _
    (subst (λ (k : Kind). Ahead (whole two k begun nothing_came) first.step h.device room.copied
    (at_once h.hands.asked k shown.orders [] [] [] read_index)) h.kind_is
    (h.hands.step begun nothing_came read_index read))

-- ---- of a queue that may be looked at, all that its notice may do may come

abbrev eight : Budget
eight = record { chains = 8; pages = 256; keeps = false; longest = 256 }

abbrev driven : Balloon
driven = record { device = ready; held = a_buffer 0 }

abbrev shown_there : VbNotice
shown_there = record shown { left = snapshot_of Inflate ready }

abbrev BeginsOf : Kind → NoticeRoom → Type 0
BeginsOf kind then = BeginsIf true two kind eight driven driven room then shown_there

handed_of_none : HandsOver at_index two nothing_copied driven driven [] shown_there
unfolding phase_of
handed_of_none = record {
  asked = nothing;
  notice = at_index;
  is = record { read = refl; says = tt; what = refl };
  kind_is = refl;
  step = λ after outcome rest h. h;
  has_room = record { runs = λ e. cc; figures = λ e. cc; cuts = omega arith };
  kept = λ e. absurd cc;
  held_back = λ e. absurd cc;
  waits_now = refl;
  fills = record { full = λ e. absurd (grind arith) };
  fits = tt;
  held = refl;
  left = refl;
}

begins_with_the_index : BeginsOf Inflate room
unfolding lib.Count.ones
begins_with_the_index = record {
  first = at_index;
  device = ready;
  kind_is = refl;
  step = λ after outcome room log h. h;
  hands = handed_of_none;
  room = refl;
}

of_another_queue : BeginsOf Deflate room → ⊥
unfolding phase_of
of_another_queue h =
    let read : Same 0 (kind_code h.hands.notice) =
    ap kind_code (handed_is at_index h.first (with_device h.device driven) driven shown_there refl h.hands) in
    let first : Same (kind_code h.hands.notice) (kind_code h.first) =
    ap (λ (k : Kind). code_of_kind (Some k)) h.hands.kind_is in
    let e : Same (kind_code h.first) 1 = ap (λ (k : Kind). code_of_kind (Some k)) h.kind_is in
    omega (arith, read, first, e)

room_changed : BeginsOf Inflate (record room { copied = record nothing_copied { bytes = 1 ∷ [] } }) → ⊥
room_changed h = let e : Same 1 0 = ap (λ (r : Room). length r.bytes) h.room in omega arith

-- one that may not be looked at does nothing, with code 1
not_begun : BeginsIf false two Statistics eight balloon balloon room room (record shown { what = 0; step = record (shown.step) { phase = 0; code = 1 } })
not_begun = record {
  ended = record {
    what = refl;
    phase = refl;
    code_is = refl;
    rule = refl;
    interrupt = refl;
    configuration = refl;
    more = refl;
  };
  balloon = refl;
  room = refl;
}

begun_all_the_same : BeginsIf false two Statistics eight balloon balloon room room shown → ⊥
begun_all_the_same h = let e : Same 128 0 = h.ended.what in omega arith

with_another_code : BeginsIf false two Statistics eight balloon balloon room room
    (record shown { what = 0; step = record (shown.step) { phase = 0; code = 4 } }) → ⊥
with_another_code h = let e : Same 4 1 = h.ended.code_is in omega arith

room_changed_then : (c : VbNotice) →
    BeginsIf false two Statistics eight balloon balloon room (record room { copied = record nothing_copied { bytes = 1 ∷ [] } }) c → ⊥
room_changed_then c h = let e : Same 1 0 = ap (λ (r : NoticeRoom). length r.copied.bytes) h.room in omega arith

-- ---- a notice that goes on: the flags were read, and it ends

abbrev pub at_flags : Notice
at_flags = record at_index { step = record { tally = tally_of (shown.step); phase = AwaitsFlags spot None false } }

abbrev pub ended : VbNotice
ended = record shown { what = 0; step = record (shown.step) { phase = 0; code = 1; interrupt = 1 } }

abbrev at_end : Notice
at_end = record at_index { step = record { tally = tally_of (shown.step); phase = Ended None true false } }

handed_over : HandsOver at_end two nothing_copied balloon balloon [] ended
unfolding phase_of
handed_over = record {
  asked = nothing;
  notice = at_end;
  is = record {
    read = refl;
    says = record { code = refl; rule = refl; interrupt_is = refl; configuration = refl; more_is = refl };
    what = refl;
  };
  kind_is = refl;
  step = λ after outcome rest h. h;
  has_room = record { runs = λ e. cc; figures = λ e. cc; cuts = omega arith };
  kept = λ e. absurd cc;
  held_back = λ e. absurd cc;
  waits_now = refl;
  fills = record { full = λ e. absurd (grind arith) };
  fits = tt;
  held = refl;
  left = refl;
}

pub goes_on : GoesOn at_flags two 0 balloon balloon room room ended
goes_on = record {
  next = at_end;
  device = begun;
  kind_is = refl;
  step = λ after outcome before done rest does h. record {
    flags = 0;
    rest = rest;
    asks = ap (λ (l : List Access). l ++ rest) does;
    then_stops = h;
  };
  hands = handed_over;
}

goes_on_as_another_kind : GoesOn (record at_flags { kind = Deflate }) two 0 balloon balloon room room ended → ⊥
unfolding phase_of
goes_on_as_another_kind h =
    let read : Same 0 (kind_code h.hands.notice) =
    ap kind_code (handed_is at_end h.next (with_device h.device balloon) balloon ended refl h.hands) in
    let next : Same (kind_code h.hands.notice) (kind_code h.next) =
    ap (λ (k : Kind). code_of_kind (Some k)) h.hands.kind_is in
    let e : Same (kind_code h.next) 1 = ap (λ (k : Kind). code_of_kind (Some k)) h.kind_is in
    omega (arith, read, next, e)

lost_meanwhile : GoesOn at_flags two 0 balloon (record balloon { held = a_buffer 0 }) room room ended → ⊥
unfolding phase_of
lost_meanwhile h =
    let noted : Same 4 (held_then h.hands.notice (with_device h.device balloon)).statistics =
    ap (λ (n : Notice). (held_then n (with_device h.device balloon)).statistics) (handed_is at_end h.next (with_device h.device balloon)
    (record balloon { held = a_buffer 0 }) ended refl h.hands) in
    let e : Same 0 (held_then h.hands.notice (with_device h.device balloon)).statistics =
    ap (λ (x : Held). x.statistics) h.hands.held in
    omega (arith, noted, e)

-- by flags that want no interrupt it doesn't end with one
abbrev interrupts : Outcome
interrupts = record { tally = tally_of (shown.step); why = None; interrupt = true; more = false }

abbrev flags_in : List Access → ℕ
flags_in (Full ∷ ReadWord at answer ∷ xs) = answer
flags_in xs = 0

unwanted : GoesOn at_flags two 1 balloon balloon room room ended → ⊥
unfolding phase_of
unwanted h =
    let next = h.next in
    let is : at_end ≡ h.hands.notice =
    handed_is at_end next (with_device h.device balloon) balloon ended refl h.hands in
    let stops : Ahead (whole two next.kind begun interrupts) h.hands.notice.step begun room.copied [] =
    subst (λ (n : Notice). Ahead (whole two next.kind begun interrupts) n.step begun room.copied []) is
    (record { nothing = refl; device = refl; outcome = refl }) in
    let handed : Ahead (whole two Inflate begun interrupts) next.step h.device room.copied
    (at_once h.hands.asked Inflate ended.orders [] [] [] []) =
    subst (λ (k : Kind). Ahead (whole two k begun interrupts) next.step h.device room.copied
    (at_once h.hands.asked k ended.orders [] [] [] [])) h.kind_is (h.hands.step begun interrupts [] stops) in
    let came = h.step begun interrupts [] (Full ∷ ReadWord spot 1 ∷ []) _ refl handed in
    let read : Same 1 came.flags = ap flags_in came.asks in
    let says : true ≡ wants_interrupt came.flags = ap (λ (o : Outcome). o.interrupt) came.then_stops.outcome in
    let no : wants_interrupt came.flags ≡ false = ap wants_interrupt (sym read) in
    absurd cc
