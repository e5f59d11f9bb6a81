-- Courses that aren't safe: driver and device don't agree on a page, or `actual` is another number.
use Rattle.std.proofs.Common.{◌≡◌, true, false, [], ◌∷◌, ◌++◌, replicate, refl, inl, inr, arith}
use Rattle.vb_model.proofs.Samples.{ready, down, untold, page_16_at, request}
use Rattle.vb_model.specs.{Guest.Guest, Histories.IsSafeCourse, Requests.Requests}
use Rattle.vb_model.specs.declared.places.Place.{Place, TheVariants.{Giving, Lent, Taking}}
use Rattle.vb_model.specs.declared.places.Place.TheVariants.{Free as FreePlace, Used}
use Rattle.vb_model.proofs.SafeFacts.{stands, becomes, place_16, Same, request_16, posted, used}

-- ---- driver and device don't agree on a page

abbrev flagged : Guest → Guest
flagged g = record g { ballooned = replicate 16 false ++ (true ∷ []); actual = 1 }

ballooned_but_free : IsSafeCourse (stands (flagged (place_16 FreePlace))) → ⊥
ballooned_but_free s = elim ((s.both_agree 0 (flagged (place_16 FreePlace)) refl 16).0 refl) [
  | inl e ↦ cc
  | inr (inl l) ↦ omega arith
  | inr (inr (inl l)) ↦ omega arith
  | inr (inr (inr l)) ↦ omega arith
]

abbrev giving_twice : Guest
giving_twice = record (flagged (place_16 Giving)) {
  inflate = record { posted = request_16 ∷ []; taken = request 1 (16 ∷ []) 0 ∷ []; done = [] };
}

ballooned_while_giving : IsSafeCourse (stands giving_twice) → ⊥
ballooned_while_giving s = elim ((s.both_agree 0 giving_twice refl 16).0 refl) [
  | inl e ↦ cc
  | inr (inl l) ↦ omega arith
  | inr (inr (inl l)) ↦ omega arith
  | inr (inr (inr l)) ↦ omega arith
]

lent_but_not_ballooned : IsSafeCourse (stands (place_16 Lent)) → ⊥
lent_but_not_ballooned s = let e : false ≡ true =
    (s.both_agree 0 (place_16 Lent) refl 16).1 (inl refl) in cc

lent_but_not_ballooned_later : IsSafeCourse (becomes (page_16_at Lent down)) → ⊥
lent_but_not_ballooned_later s = let e : false ≡ true =
    (s.both_agree 1 (page_16_at Lent down) refl 16).1 (inl refl) in cc

-- a page that a used inflate names is ballooned, and so is one that a posted or a taken deflate
-- names; one that a used deflate names isn't
used_inflate_not_ballooned : IsSafeCourse
    (stands (record (place_16 Giving) { inflate = used request_16 })) → ⊥
used_inflate_not_ballooned s =
    let e : false ≡ true =
    (s.both_agree 0 (record (place_16 Giving) { inflate = used request_16 }) refl 16).1
    (inr (inl (omega arith))) in cc

abbrev asked_untold : Requests → Guest
asked_untold deflate = record (page_16_at FreePlace untold) { deflate = deflate; actual = 1 }

posted_deflate_not_ballooned : IsSafeCourse (stands (asked_untold (posted request_16))) → ⊥
posted_deflate_not_ballooned s =
    let e : false ≡ true =
    (s.both_agree 0 (asked_untold (posted request_16)) refl 16).1 (inr (inr (inl (omega arith)))) in
    cc

abbrev taken : Requests
taken = record { posted = []; taken = request_16 ∷ []; done = [] }

taken_deflate_not_ballooned : IsSafeCourse (stands (asked_untold taken)) → ⊥
taken_deflate_not_ballooned s =
    let e : false ≡ true =
    (s.both_agree 0 (asked_untold taken) refl 16).1 (inr (inr (inr (omega arith)))) in cc

used_deflate_ballooned_still : IsSafeCourse (stands (flagged (asked_untold (used request_16)))) → ⊥
used_deflate_ballooned_still s =
    elim ((s.both_agree 0 (flagged (asked_untold (used request_16))) refl 16).0 refl) [
      | inl e ↦ cc
      | inr (inl l) ↦ omega arith
      | inr (inr (inl l)) ↦ omega arith
      | inr (inr (inr l)) ↦ omega arith
    ]

-- while a report is out
abbrev reporting_too : Guest → Guest
reporting_too g = record g { report = posted (request 0 (40 ∷ []) 0) }

different_beside_a_report : IsSafeCourse (stands (reporting_too (place_16 Lent))) → ⊥
different_beside_a_report s =
    let e : false ≡ true = (s.both_agree 0 (reporting_too (place_16 Lent)) refl 16).1 (inl refl) in
    cc

-- ---- `actual` is another number than that of lent pages and those that deflates name

lent_not_counted : IsSafeCourse (stands (place_16 Lent)) → ⊥
lent_not_counted s = let e : Same 0 1 = s.actual 0 (place_16 Lent) refl in omega arith

not_counted_beside_a_report : IsSafeCourse (stands (reporting_too (place_16 Lent))) → ⊥
not_counted_beside_a_report s =
    let e : Same 0 1 = s.actual 0 (reporting_too (place_16 Lent)) refl in omega arith

abbrev named_by : Place → Requests → Guest → Guest
named_by place deflate g = record (page_16_at place g) { deflate = deflate }

actual_too_low : IsSafeCourse (stands (named_by Taking (used request_16) ready)) → ⊥
actual_too_low s =
    let e : Same 0 1 = s.actual 0 (named_by Taking (used request_16) ready) refl in omega arith

-- wherever these are where the guest doesn't tell the host
free_not_counted : IsSafeCourse (stands (named_by FreePlace (posted request_16) untold)) → ⊥
free_not_counted s =
    let e : Same 0 1 = s.actual 0 (named_by FreePlace (posted request_16) untold) refl in omega arith

used_not_counted : IsSafeCourse (stands (named_by Used (posted request_16) untold)) → ⊥
used_not_counted s =
    let e : Same 0 1 = s.actual 0 (named_by Used (posted request_16) untold) refl in omega arith

-- a taking page that none names isn't counted, nor one that isn't lent yet
taking_but_not_named : IsSafeCourse (stands (record (place_16 Taking) { actual = 1 })) → ⊥
taking_but_not_named s =
    let e : Same 1 0 = s.actual 0 (record (place_16 Taking) { actual = 1 }) refl in omega arith

actual_too_high : IsSafeCourse (stands (record (place_16 Giving) { actual = 1 })) → ⊥
actual_too_high s =
    let e : Same 1 0 = s.actual 0 (record (place_16 Giving) { actual = 1 }) refl in omega arith

-- in a later state, while a request is out
abbrev counted : Guest
counted = record (page_16_at Giving down) { inflate = posted request_16; actual = 1 }

actual_too_high_later : IsSafeCourse (becomes counted) → ⊥
actual_too_high_later s = let e : Same 1 0 = s.actual 1 counted refl in omega arith
