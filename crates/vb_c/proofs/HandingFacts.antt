-- Which notices are handed over to C, and which aren't.
use Rattle.std.proofs.Common.{◌≡◌, ◌∙◌, refl, ap, sym, arith, ℕ, ◌+◌, ◌*◌, ◌≤◌, Bool, true, false, [], Option, Some, None}
use Rattle.vb_core.specs.declared.{kinds.Kind.{Kind, TheVariants.{Inflate, Deflate, Statistics, Hint, Report}}, name.Named.Named}
use Rattle.vb_monitor.specs.declared.{regions.Spot.Spot, orders.Orders.Orders}
use Rattle.vb_monitor.specs.declared.orders.{Told.{Told, TheVariants.{Nothing, Pages, Figures, Id}}, Asked.Asked}
use Rattle.vb_monitor.specs.declared.step.Phase.TheVariants.{AwaitsIndex}
use Rattle.vb_monitor.specs.Steps.{tally_of, phase_of}
use Rattle.vb_monitor.specs.declared.step.Phase.TheVariants.{AwaitsEntry, AwaitsDescriptor}
use Rattle.vb_monitor.specs.declared.step.Phase.TheVariants.{AwaitsPart, TellsPages, TellsFigures, TellsId}
use Rattle.vb_monitor.specs.declared.step.Phase.TheVariants.{Discards, GivesBack, AwaitsFlags, Paused}
use Rattle.vb_monitor.specs.declared.step.Phase.{TheVariants.Ended, Phase}
use Rattle.vb_monitor.specs.{declared.balloon.Balloon.Balloon, Machine.{Fits, row_bytes, stage, waits, is_ended}}
use Rattle.vb_c.specs.declared.notice.VbNotice.{VbNotice}
use Rattle.vb_monitor.specs.declared.orders.NoticeRoom.{NoticeRoom}
use Rattle.vb_virtio.specs.Tests.{one_if}
use Rattle.vb_c.specs.{Notices.{Notice, told_bits, asked_bits, answer_bits, what_of}, Serving.{held_then, Refuses}}
use Rattle.vb_c.{specs.Serving.HandsOver, proofs.Samples.{Same, two, begun, balloon, nothing_copied}}
use Rattle.vb_c.proofs.Samples.{a_buffer, chain_of}
use Rattle.vb_core.specs.declared.held.Held.{Held}
use Rattle.vb_monitor.specs.Snapshots.{snapshot_of}

abbrev pub spot : Spot
spot = record { region = 0; offset = 0x102 }

abbrev pub none_asked : Orders
none_asked = record {
  named = record { runs = 0; pages = 0; skipped = 0 };
  figures = 0;
  cuts = 0;
  kept = 0;
  waits = 0;
  hint_id = 0;
  used = record { spots = record { id = spot; length = spot; index = spot }; id = 0; length = 0; index = 0 };
}

-- the index is awaited
abbrev pub shown : VbNotice
shown = record {
  what = 128;
  kind = 0;
  orders = none_asked;
  step = record {
    at = spot;
    length = 0;
    into = 0;
    number = 0;
    from = 0;
    piece = 0;
    done = 0;
    in_file = 0;
    cut_length = 4096;
    code = 0;
    rule = 0;
    interrupt = 0;
    configuration = 0;
    more = 0;
    chains_left = 8;
    pages_left = 256;
    most_pages = 256;
    longest = 256;
    told = 0;
    head = 0;
    count = 0;
    taken_head = 0;
    given = 0;
    taken = 0;
    flag = 0;
    phase = 1;
    keeps = 0;
    published = 0;
    taken_pages = 0;
    named = record { runs = 0; pages = 0; skipped = 0 };
    spots = record { id = spot; length = spot; index = spot };
    entry = record { element_at = 0; index_at = 0; id = 0; length = 0; index = 0 };
  };
  left = snapshot_of Inflate begun;
}

abbrev pub nothing : Asked
nothing = record { told = Nothing; gives = false }

abbrev pub at_index : Notice
at_index = record { kind = Inflate; step = record { tally = tally_of (shown.step); phase = AwaitsIndex spot } }

pub handed : HandsOver at_index two nothing_copied balloon balloon [] shown
unfolding phase_of
handed = record {
  asked = nothing;
  notice = at_index;
  is = record { read = refl; says = tt; what = refl };
  kind_is = refl;
  step = λ after outcome rest h. h;
  has_room = record { runs = λ e. cc; figures = λ e. cc; cuts = omega arith };
  kept = λ e. absurd cc;
  held_back = λ e. absurd cc;
  waits_now = refl;
  fills = record { full = λ e. absurd (grind arith) };
  fits = tt;
  held = refl;
  left = refl;
}

abbrev stage_in : Option Notice → ℕ
stage_in None = 0
stage_in (Some n) = stage n.step.phase

-- parts are left though there is room: who obeys would take it for ended
abbrev left : VbNotice
left = record shown { what = 0; step = record (shown.step) { phase = 6 } }

left_with_room : (n : Notice) (b1 b2 : Balloon) → HandsOver n two nothing_copied b1 b2 [] left → ⊥
unfolding phase_of
left_with_room n b1 b2 h =
    let at : Same 1 (stage h.notice.step.phase) = ap stage_in h.is.read in
    let e : Same 0 256 = h.fills.full (sym at) in
    omega arith

-- one part more than the list has
too_many_parts : (n : Notice) (b1 b2 : Balloon) →
    HandsOver n two nothing_copied b1 b2 [] (record shown { what = 136; orders = record none_asked { cuts = 257 } }) → ⊥
too_many_parts n b1 b2 h = let e = h.has_room.cuts in omega (arith, e)

-- what is of no kind is no notice
of_no_kind : (n : Notice) (b1 b2 : Balloon) → HandsOver n two nothing_copied b1 b2 [] (record shown { kind = 5 }) → ⊥
unfolding phase_of
of_no_kind n b1 b2 h = let e = h.is.read in absurd cc

-- bytes that are to be copied have room: 1,024 of them, and no more
abbrev copying : ℕ → VbNotice
copying into = record shown { what = 256; step = record (shown.step) { phase = 4; length = 4; into = into } }

abbrev ends_in : Phase → ℕ
ends_in (AwaitsPart at place into len) = into + len
ends_in (AwaitsDescriptor at walk) = row_bytes walk
ends_in phase = 0

at_most : (phase : Phase) → Fits phase → ends_in phase ≤ 1024
at_most (AwaitsPart at place into len) fits = fits
at_most (AwaitsDescriptor at walk) fits = fits
at_most (AwaitsIndex at) fits = omega arith
at_most (AwaitsEntry at) fits = omega arith
at_most (TellsPages place named further) fits = omega arith
at_most (TellsFigures head count) fits = omega arith
at_most (TellsId head id) fits = omega arith
at_most (Discards cut x) fits = omega arith
at_most (Paused place) fits = omega arith
at_most (GivesBack spots entry) fits = omega arith
at_most (AwaitsFlags at why more) fits = omega arith
at_most (Ended why interrupt more) fits = omega arith

has_room : (n : Notice) (b1 b2 : Balloon) (c : VbNotice) → (h : HandsOver n two nothing_copied b1 b2 [] c) →
    ends_in h.notice.step.phase ≤ 1024
has_room n b1 b2 c h = at_most h.notice.step.phase h.fits

past_the_room : (n : Notice) (b1 b2 : Balloon) → HandsOver n two nothing_copied b1 b2 [] (copying 1021) → ⊥
unfolding phase_of
past_the_room n b1 b2 h = let e = h.is.read in absurd cc

abbrev held_in : Option Notice → Balloon → ℕ
held_in None b = 0
held_in (Some n) b = (held_then n b).statistics

-- the buffer that is held isn't lost while the notice goes on
buffer_lost : (n : Notice) → HandsOver n two nothing_copied balloon (record balloon { held = a_buffer 0 }) [] shown → ⊥
unfolding phase_of
buffer_lost n h =
    let noted : Same 4 (held_then h.notice balloon).statistics =
    ap (λ (o : Option Notice). held_in o balloon) h.is.read in
    let e : Same 0 4 = ap (λ (x : Held). x.statistics) h.held ∙ sym noted in
    omega arith

-- ---- how many of the pages that are told are kept

-- one run of two pages
abbrev two_pages : Named
two_pages = record { runs = 1; pages = 2; skipped = 0 }

abbrev telling : Kind → Bool → Notice
telling kind keeps = record {
  kind = kind;
  step = record { tally = record (tally_of (shown.step)) { keeps = keeps }; phase = TellsPages (record { head = 3; count = 1; piece = 1; done = 0 }) two_pages false };
}

-- they are told, their chain is given back, and the index is awaited
abbrev told : ℕ → VbNotice
told kept = record shown { what = 145; orders = record none_asked { named = two_pages; kept = kept }; step = record (shown.step) { given = 1 } }

abbrev bits_in : Option Notice → ℕ
bits_in None = 0
bits_in (Some n) = answer_bits n.step.phase

tells_pages : (t : Told) (gives : Bool) (bits : ℕ) → 128 ≡ bits →
    145 ≡ told_bits t + 0 + 16 * one_if gives + bits → t ≡ Pages
tells_pages Nothing true bits b e = absurd (omega (arith, b, e))
tells_pages Nothing false bits b e = absurd (omega (arith, b, e))
tells_pages Pages gives bits b e = refl
tells_pages Figures true bits b e = absurd (omega (arith, b, e))
tells_pages Figures false bits b e = absurd (omega (arith, b, e))
tells_pages Id true bits b e = absurd (omega (arith, b, e))
tells_pages Id false bits b e = absurd (omega (arith, b, e))

is_told : (n : Notice) (kept : ℕ) (b1 b2 : Balloon) →
    (h : HandsOver n two nothing_copied b1 b2 [] (told kept)) → h.asked.told ≡ Pages
unfolding phase_of
is_told n kept b1 b2 h =
    tells_pages h.asked.told h.asked.gives _ (ap bits_in h.is.read) h.is.what

-- those that are kept are counted, and no others are
uncounted : (b1 b2 : Balloon) → HandsOver (telling Inflate true) two nothing_copied b1 b2 [] (told 0) → ⊥
uncounted b1 b2 h =
    let e : Same 0 2 = h.kept (is_told (telling Inflate true) 0 b1 b2 h) in omega arith

discarded_and_counted : (b1 b2 : Balloon) →
    HandsOver (telling Inflate false) two nothing_copied b1 b2 [] (told 1) → ⊥
discarded_and_counted b1 b2 h =
    let e : Same 1 0 = h.kept (is_told (telling Inflate false) 1 b1 b2 h) in omega arith

asked_back_and_counted : (b1 b2 : Balloon) →
    HandsOver (telling Deflate true) two nothing_copied b1 b2 [] (told 1) → ⊥
asked_back_and_counted b1 b2 h =
    let e : Same 1 0 = h.kept (is_told (telling Deflate true) 1 b1 b2 h) in omega arith

-- a report's, where the device keeps them
abbrev keeping : Balloon
keeping = record balloon { device = record begun { features = 0x100000037; poison = 1 } }

uncounted_of_a_report : (b2 : Balloon) → HandsOver (telling Report false) two nothing_copied keeping b2 [] (told 0) → ⊥
unfolding lib.Count.ones
uncounted_of_a_report b2 h =
    let e : Same 0 2 = h.kept (is_told (telling Report false) 0 keeping b2 h) in omega arith

-- a hint's, unless the settings discard hints
uncounted_of_a_hint : (b2 : Balloon) → HandsOver (telling Hint false) two nothing_copied balloon b2 [] (told 0) → ⊥
unfolding lib.Count.ones
uncounted_of_a_hint b2 h =
    let e : Same 0 2 = h.kept (is_told (telling Hint false) 0 balloon b2 h) in omega arith

abbrev discarding : Balloon
discarding = record balloon { device = record begun { settings = record (begun.settings) { discards_hints = 1 } } }

counted_of_a_discarded_hint : (b2 : Balloon) → HandsOver (telling Hint false) two nothing_copied discarding b2 [] (told 2) → ⊥
unfolding lib.Count.ones
counted_of_a_discarded_hint b2 h =
    let e : Same 2 0 = h.kept (is_told (telling Hint false) 2 discarding b2 h) in omega arith

-- whether they wait for a grant is said: those of a deflate do where it is held, and no others
abbrev holding : Balloon
holding = record balloon { device = record begun { settings = record (begun.settings) { holds_deflates = 1 } } }

waiting_unsaid : (b2 : Balloon) → HandsOver (telling Deflate false) two nothing_copied holding b2 [] (told 0) → ⊥
waiting_unsaid b2 h =
    let e : Same 0 1 = h.held_back (is_told (telling Deflate false) 0 holding b2 h) in omega arith

-- ---- what is held: a chain where a notice has ended that took one of a kind that is held

abbrev taking : Kind → Phase → Notice
taking kind phase =
    record { kind = kind; step = record { tally = record (tally_of (shown.step)) { held = chain_of 6 2 }; phase = phase } }

held_then_7 : held_then (taking Statistics (Ended None false false)) (record balloon { held = a_buffer 0 }) ≡ a_buffer 7
held_then_7 = refl

of_deflates : held_then (taking Deflate (Ended None false false)) balloon
    ≡ record (a_buffer 4) { deflate = 7; pages = 2 }
of_deflates = refl

not_yet : held_then (taking Deflate (AwaitsIndex spot)) balloon ≡ a_buffer 4
not_yet = refl

of_inflates : held_then (taking Inflate (Ended None false false)) balloon ≡ a_buffer 4
of_inflates = refl

-- ---- what is refused changes nothing

refused_and_forgotten : (r1 r2 : NoticeRoom) (c : VbNotice) → Refuses 1 balloon (record balloon { held = a_buffer 0 }) r1 r2 c → ⊥
refused_and_forgotten r1 r2 c h = let e : Same 0 4 = ap (λ (b : Balloon). b.held.statistics) h.balloon in omega arith

-- ---- where nothing is asked for, it has ended

abbrev Full : Phase → ℕ → Type 0
Full p cuts = stage p ≡ 1 → cuts ≡ 256

ended_by : (p : Phase) (a : Asked) (cuts : ℕ) → waits p ≡ true → Full p cuts →
    what_of a cuts p ≡ 0 → is_ended p ≡ true
ended_by (Ended why interrupt more) a cuts w f e = refl
ended_by (AwaitsIndex at) a cuts w f e = absurd (omega (arith, e))
ended_by (AwaitsEntry at) a cuts w f e = absurd (omega (arith, e))
ended_by (AwaitsDescriptor at walk) a cuts w f e = absurd (omega (arith, e))
ended_by (AwaitsPart at place into len) a cuts w f e = absurd (omega (arith, e))
ended_by (AwaitsFlags at why more) a cuts w f e = absurd (omega (arith, e))
ended_by (Paused place) a cuts w f e = absurd (omega (arith, e))
ended_by (Discards cut x) a cuts w f e =
    let some : asked_bits a 256 + 0 ≡ 0 = ap (λ (n : ℕ). asked_bits a n + 0) (sym (f refl)) ∙ e in
    absurd (omega (arith, some))
ended_by (TellsPages place named further) a cuts w f e = absurd cc
ended_by (TellsFigures head count) a cuts w f e = absurd cc
ended_by (TellsId head id) a cuts w f e = absurd cc
ended_by (GivesBack spots entry) a cuts w f e = absurd cc

-- so a caller that obeys while there is something to do obeys to its end
nothing_to_do : (n : Notice) (b1 b2 : Balloon) (c : VbNotice) →
    (h : HandsOver n two nothing_copied b1 b2 [] c) → c.what ≡ 0 → is_ended h.notice.step.phase ≡ true
nothing_to_do n b1 b2 c h e =
    ended_by h.notice.step.phase h.asked c.orders.cuts h.waits_now h.fills.full (sym h.is.what ∙ e)
