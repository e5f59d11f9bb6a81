-- Chains of hints, worked out: ids, pages in a round and late ones, and what isn't told.
use Rattle.std.proofs.Common.{◌≡◌, refl, arith, ap, sym, ◌∙◌, ℕ, Bool, true, false, List, [], ◌∷◌, map, Some, None, Ok, Err}
use Rattle.vb_chain.specs.declared.{pieces.Piece.Piece, fault.ChainFault.TheVariants.{BadLength, WrongDirection}}
use Rattle.vb_core.specs.declared.kinds.Kind.TheVariants.{Inflate, Deflate, Statistics, Hint, Report}
use Rattle.vb_core.specs.declared.{device.Device.Device, device.Denial.TheVariants.Broken, hints.Round.Round, name.Named.Named}
use Rattle.vb_core.specs.{Devices.{with_one_taken, needing_reset}, Report.NamesPiecesBy}
use Rattle.vb_core.specs.Hints.{Begins, Reads, is_open, are_next, round_after_all}
use Rattle.vb_core.proofs.HintLemmas.{heard_is_open}
use Rattle.vb_monitor.specs.declared.{outcome.Outcome.Outcome}
use Rattle.vb_monitor.specs.Accesses.{Access, Acquire, Release, Full, TellPages, TellId}
use Rattle.vb_monitor.specs.{Giving.{Then}}
use Rattle.vb_monitor.specs.Ends.{Whole}
use Rattle.vb_monitor.specs.Chains.{id_of, id_length, has_id, after_id, told_if, tells_pages, ServesPieces, AfterBytes}
use Rattle.vb_monitor.specs.SoFar.{Each, Unknown, Walks, Has, hears, round_so_far}
use Rattle.vb_monitor.specs.Turns.{TellsOf, IdOf, TellsInTurn, HintsInRound}
use Rattle.vb_monitor.specs.{declared.room.Room.Room, declared.step.Phase.TheVariants.TellsId, Machine.Does}
use Rattle.vb_monitor.specs.Rounds.{events_of, events_before, HintsHeard}
use Rattle.vb_monitor.proofs.{AheadFacts.{over, ends}}
use Rattle.vb_monitor.proofs.Samples.{Same, two, ready, tally, piece, page_5, one_page, number, told_id}
use Rattle.vb_monitor.proofs.Samples.{index, entry, descriptor, part, pages, discard, id, used_index}

-- ---- ids: 4 bytes, and no others (VIRTIO 1.2, 5.5.6.6)

ids : map id_of ((5 ∷ 0 ∷ 0 ∷ 0 ∷ []) ∷ (1 ∷ 2 ∷ 0 ∷ 0x80 ∷ []) ∷ []) ≡ Some 5 ∷ Some 0x80000201 ∷ []
ids = refl

no_ids : map id_of ([] ∷ (5 ∷ 0 ∷ 0 ∷ []) ∷ (5 ∷ 0 ∷ 0 ∷ 0 ∷ 0 ∷ []) ∷ []) ≡ None ∷ None ∷ None ∷ []
no_ids = refl

abbrev of_length : ℕ → Piece
of_length n = record piece { len = n }

abbrev to_write : Piece
to_write = record { addr = 0x5000; len = 0x1000; writable = true }

lengths : map id_length ((of_length 4 ∷ []) ∷ (of_length 1 ∷ of_length 3 ∷ []) ∷ (of_length 3 ∷ []) ∷ (of_length 5 ∷ [])
    ∷ (of_length 4 ∷ of_length 4 ∷ []) ∷ (of_length 4 ∷ to_write ∷ []) ∷ [])
    ≡ Ok 4 ∷ Ok 4 ∷ Err BadLength ∷ Err BadLength ∷ Err BadLength ∷ Err WrongDirection ∷ []
lengths = refl

-- the first piece says what a chain has
with_ids : map has_id ((piece ∷ []) ∷ (piece ∷ to_write ∷ []) ∷ (to_write ∷ []) ∷ (to_write ∷ piece ∷ []) ∷ [] ∷ [])
    ≡ true ∷ true ∷ false ∷ false ∷ false ∷ []
with_ids = refl

abbrev stop : Then
stop = λ d t log. log ≡ []

abbrev Refused : List Piece → Type 0
Refused pieces = (o : Outcome) → (d : Device) → ServesPieces Hint (over Hint d o) stop ready tally 3 pieces [] →
    (d ≡ needing_reset ready)

three_bytes : Refused (of_length 3 ∷ [])
three_bytes o d h = h.device

five_bytes : Refused (of_length 5 ∷ [])
five_bytes o d h = h.device

an_id_and_pages : Refused (piece ∷ to_write ∷ [])
an_id_and_pages o d h = h.device

-- so where bytes were copied: what isn't an id isn't told
three_copied : AfterBytes Hint (over Hint (needing_reset ready) (ends tally (Some (Broken BadLength)) false false)) stop
    ready tally 3 (5 ∷ 0 ∷ 0 ∷ []) []
three_copied = record { nothing = refl; device = refl; outcome = refl }

three_told : (w : Whole) (rest : List Access) → AfterBytes Hint w stop ready tally 3 (5 ∷ 0 ∷ 0 ∷ []) (told_id ∷ rest) → ⊥
three_told w rest h = let e = h.nothing in absurd cc

-- pages of which one is the device's to read
pages_to_read : NamesPiecesBy Hint (to_write ∷ piece ∷ []) 256 [] ready (needing_reset ready) (Err (Broken WrongDirection))
unfolding lib.Count.ones
pages_to_read = record {
  denied = λ why e. absurd cc;
  answer = λ e. refl;
  device = λ e. refl;
  runs_are = λ ok. absurd cc;
}

pages_break : ServesPieces Hint (over Hint (needing_reset ready) (ends tally (Some (Broken WrongDirection)) false false)) stop
    ready tally 3 (to_write ∷ piece ∷ []) []
pages_break = record {
  answer = Err (Broken WrongDirection);
  runs = [];
  device = needing_reset ready;
  names = pages_to_read;
  goes_on = record { nothing = refl; device = refl; outcome = refl };
}

-- ---- what a device's round becomes

abbrev round : ℕ → Round
round opened = record { shown = 5; last = 5; opened = opened }

abbrev showing_5 : Device
showing_5 = record ready { round = round 0 }

abbrev open_at_5 : Device
open_at_5 = record ready { round = round 1 }

-- of a list the last one is first: its own id; a late one, another one, and STOP; its own after these
abbrev opens : List Access → Bool
opens log = is_open (round_so_far (round 0) log)

opened_by : map opens ((told_id ∷ []) ∷ (told_id ∷ told_id ∷ []) ∷ (told_id ∷ TellId 4 ∷ []) ∷ (pages ∷ discard ∷ told_id ∷ part ∷ []) ∷ [])
    ≡ true ∷ true ∷ true ∷ true ∷ []
opened_by = refl

closed_by : map opens ([] ∷ (pages ∷ []) ∷ (TellId 4 ∷ []) ∷ (TellId 6 ∷ told_id ∷ []) ∷ (TellId 0 ∷ told_id ∷ []) ∷ (TellId 1 ∷ []) ∷ [])
    ≡ false ∷ false ∷ false ∷ false ∷ false ∷ false ∷ []
closed_by = refl

-- no other access moves it
abbrev after : Access → Round
after x = hears x (round 1)

stays : map after (index ∷ part ∷ Acquire ∷ Release ∷ Full ∷ pages ∷ discard ∷ id ∷ used_index ∷ []) ≡
    round 1 ∷ round 1 ∷ round 1 ∷ round 1 ∷ round 1 ∷ round 1 ∷ round 1 ∷ round 1 ∷ round 1 ∷ []
stays = refl

taken_and_heard : after_id 5 showing_5 ≡ record (with_one_taken Hint ready) { round = round 1 }
taken_and_heard = refl

-- ---- which pages are told

told_kinds : map (λ kind. tells_pages kind showing_5) (Inflate ∷ Deflate ∷ Statistics ∷ Hint ∷ Report ∷ [])
    ≡ true ∷ true ∷ false ∷ false ∷ true ∷ []
told_kinds = refl

told_once_open : tells_pages Hint open_at_5 ≡ true
told_once_open = refl

abbrev three : Named
three = record { runs = 2; pages = 3; skipped = 0 }

told_or_skipped : told_if true (Ok three) ∷ told_if false (Ok three) ∷ told_if false (Err (Broken BadLength)) ∷ []
    ≡ Ok three ∷ Ok (record { runs = 0; pages = 0; skipped = 3 }) ∷ Err (Broken BadLength) ∷ []
told_or_skipped = refl

-- in a round that is open its pages, and else none
abbrev none_told : Named
none_told = record { runs = 0; pages = 0; skipped = 1 }

hinted : TellsOf true Hint ready.settings (Has 3 (to_write ∷ []) [] []) (page_5 ∷ []) one_page
hinted = record { free = 5 ∷ []; sound = refl; are = refl; pages = refl; skipped = refl }

late : TellsOf false Hint ready.settings (Has 3 (to_write ∷ []) [] []) [] none_told
late = record { free = 5 ∷ []; sound = refl; none = refl; pages = refl; skipped = refl }

late_and_told : TellsOf false Hint ready.settings (Has 3 (to_write ∷ []) [] []) (page_5 ∷ []) one_page → ⊥
late_and_told h = let e = h.none in absurd cc

skipped_although_open : TellsOf true Hint ready.settings (Has 3 (to_write ∷ []) [] []) [] none_told → ⊥
skipped_although_open h = let e = h.are in absurd cc

late_and_counted : (skipped : ℕ) → TellsOf false Hint ready.settings (Has 3 (to_write ∷ []) [] [])
    [] (record { runs = 0; pages = 1; skipped = skipped }) → ⊥
late_and_counted skipped h = let e : Same 1 0 = h.pages in omega arith

-- an id is told once all its bytes were read, and no other
told_so : IdOf (Has 3 (piece ∷ []) [] number) 5
told_so = refl

another : IdOf (Has 3 (piece ∷ []) [] number) 6 → ⊥
another h = let e : Same 5 6 = cc in omega arith

unread : (n : ℕ) → IdOf (Walks 3 3 []) n → ⊥
unread n h = h

unknown : (n : ℕ) → IdOf Unknown n → ⊥
unknown n h = h

of_three_bytes : (n : ℕ) → IdOf (Has 3 (piece ∷ []) [] (5 ∷ 0 ∷ 0 ∷ [])) n → ⊥
of_three_bytes n h = absurd cc

-- the id is told that was read
abbrev room : Room
room = record { pieces = []; bytes = []; runs = []; figures = [] }

tells_an_id : Does (TellsId 3 6) Hint 0 [] room (TellId 6 ∷ [])
tells_an_id = refl

abbrev id_in : List Access → ℕ
id_in (TellId n ∷ xs) = n
id_in xs = 0

another_id_told : Does (TellsId 3 6) Hint 0 [] room (TellId 3 ∷ []) → ⊥
another_id_told h = let e : Same 3 6 = ap id_in h in omega arith

of_an_inflate : TellsInTurn two Inflate false ready (part ∷ descriptor ∷ entry ∷ Acquire ∷ index ∷ []) told_id → ⊥
of_an_inflate h = let e = h.0 in absurd cc

-- ---- hints in their round

abbrev hint : Access
hint = TellPages Hint (page_5 ∷ []) one_page

abbrev hint_late : Access
hint_late = TellPages Hint [] none_told

in_round : HintsInRound showing_5 (told_id ∷ []) hint
in_round = λ e. absurd cc

open_before : HintsInRound open_at_5 [] hint
open_before = λ e. absurd cc

late_ones : HintsInRound showing_5 (TellId 4 ∷ []) hint_late
late_ones = λ e. refl

abbrev Wrong : Device → List Access → Type 0
Wrong d before = HintsInRound d before hint → ⊥

before_any_id : Wrong showing_5 []
before_any_id h = let e = h refl in absurd cc

after_a_late_id : Wrong showing_5 (TellId 4 ∷ [])
after_a_late_id h = let e = h refl in absurd cc

after_another_id : Wrong open_at_5 (TellId 6 ∷ told_id ∷ [])
after_another_id h = let e = h refl in absurd cc

after_stop : Wrong open_at_5 (TellId 0 ∷ told_id ∷ [])
after_stop h = let e = h refl in absurd cc

with_no_round : Wrong ready (TellId 0 ∷ [])
with_no_round h = let e = h refl in absurd cc

-- within one notice: its id, pages, the driver's STOP, and pages that are late
stopped_amid : Each (HintsInRound showing_5) [] (told_id ∷ hint ∷ TellId 0 ∷ hint_late ∷ [])
stopped_amid = (tt, (in_round, (tt, (λ e. refl, tt))))

told_past_stop : Each (HintsInRound showing_5) [] (told_id ∷ TellId 0 ∷ hint ∷ []) → ⊥
told_past_stop h = let e = h.1.1.0 refl in absurd cc

reports_in_none : HintsInRound ready [] (TellPages Report (page_5 ∷ []) one_page)
reports_in_none = tt

-- ---- what came to the round

events : events_of (index ∷ TellId 4 ∷ part ∷ told_id ∷ hint ∷ []) ≡ Reads 4 ∷ Reads 5 ∷ []
events = refl

in_their_order : events_before (hint ∷ told_id ∷ part ∷ TellId 4 ∷ index ∷ []) ≡ Reads 4 ∷ Reads 5 ∷ []
in_their_order = refl

heard : HintsHeard showing_5 (Begins 5 ∷ []) (told_id ∷ []) hint
heard = λ some. record {
  before = [];
  unheard = [];
  since = [];
  whole = refl;
  only_ids = refl;
  only_its_own = refl;
}

-- a late id, another one after it, and STOP: what was heard would be open
abbrev before_5 : Round
before_5 = record { shown = 0; last = 4; opened = 0 }

unheard_by : (before : List Access) → are_next (Begins 5 ∷ events_before before) 4 ≡ true →
    is_open (round_after_all (Begins 5 ∷ events_before before) before_5) ≡ false →
    HintsHeard showing_5 (Begins 5 ∷ []) before hint → ⊥
unheard_by before next closed h =
    let open_so = (heard_is_open 5 (Begins 5 ∷ events_before before) before_5 next (h (λ e. absurd cc))).0 in
    let wrong : true ≡ false = sym open_so ∙ closed in absurd cc

late_unheard : HintsHeard showing_5 (Begins 5 ∷ []) (TellId 4 ∷ []) hint → ⊥
late_unheard h = unheard_by (TellId 4 ∷ []) refl refl h

none_unheard : HintsHeard showing_5 (Begins 5 ∷ []) [] hint → ⊥
none_unheard h = unheard_by [] refl refl h

stopped_unheard : HintsHeard showing_5 (Begins 5 ∷ []) (TellId 0 ∷ told_id ∷ []) hint → ⊥
stopped_unheard h = unheard_by (TellId 0 ∷ told_id ∷ []) refl refl h

-- no pages need none
none_need_it : HintsHeard showing_5 [] [] hint_late
none_need_it = λ some. absurd (some refl)
