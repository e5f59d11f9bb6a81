-- What comes in its turn of a kind's own queue, worked out: all others are elsewhere, have fewer
-- descriptors, and have gone on farther. Of a list the last access is first.
use Rattle.std.proofs.Common.{◌≡◌, refl, true, false, List, [], ◌∷◌}
use Rattle.vb_request.specs.{Request.numbers_of}
use Rattle.vb_chain.specs.declared.pieces.Piece.{Piece}
use Rattle.vb_core.specs.declared.kinds.Kind.TheVariants.{Inflate, Deflate, Report}
use Rattle.vb_core.specs.declared.{runs.Run.Run, name.Named.Named, device.Device.Device}
use Rattle.vb_core.specs.Runs.{Tell}
use Rattle.vb_monitor.specs.Accesses.{Access, CopyBytes, Acquire, Full, TellPages, WriteNumber, WriteWord}
use Rattle.vb_monitor.specs.SoFar.{Unknown, Has}
use Rattle.vb_monitor.specs.Turns.{is_over, ends_in_number, CopiesFrom, ReadsInTurn, TellNumbers, TellPieces, FiguresOf, TellsInTurn, WritesUsedAlone}
use Rattle.vb_monitor.specs.Pieces.{all_parts}
use Rattle.vb_monitor.proofs.Samples.{two, at, settings, only, page_5, one_page, piece, number}
use Rattle.vb_monitor.proofs.Samples.{index, entry, descriptor, first_descriptor, last_descriptor, with_two, part, pages}
use Rattle.vb_monitor.proofs.Samples.{discard, id, used_length, used_index, flags}

abbrev taken : List Access
taken = entry ∷ Acquire ∷ index ∷ []

abbrev read : List Access
read = part ∷ descriptor ∷ taken

-- ---- pages that are requested back

abbrev asked : Device
asked = only Deflate

index_of_it : ReadsInTurn two Deflate asked [] index
index_of_it = refl

fence_of_it : ReadsInTurn two Deflate asked (index ∷ []) Acquire
fence_of_it = (refl, refl, refl)

entry_of_it : ReadsInTurn two Deflate asked (Acquire ∷ index ∷ []) entry
entry_of_it = refl

descriptor_of_it : ReadsInTurn two Deflate asked taken descriptor
descriptor_of_it = record { place = refl; long = refl }

row_of_it : ReadsInTurn two Deflate asked (CopyBytes (at 0x30) first_descriptor ∷ taken)
    (CopyBytes (at 0x50) (with_two last_descriptor))
row_of_it = record { place = refl; long = refl }

id_of_it : WritesUsedAlone two Deflate asked read id
id_of_it = (refl, refl)

used_index_of_it : WritesUsedAlone two Deflate asked (used_length ∷ id ∷ read) used_index
used_index_of_it = (refl, refl)

-- after a chain that was given back the next element, and the index after it
abbrev second : List Access
second = part ∷ descriptor ∷ entry ∷ Acquire ∷ used_index ∷ []

second_id : WritesUsedAlone two Deflate asked second (WriteNumber (at 0x20c) 3)
second_id = (refl, refl)

second_index : WritesUsedAlone two Deflate asked second (WriteWord (at 0x202) 2)
second_index = (refl, refl)

-- ---- a report: all of it was read once its descriptor was

abbrev of_page_5 : Access
of_page_5 = CopyBytes (at 0x30) (0 ∷ 0x50 ∷ 0 ∷ 0 ∷ 0 ∷ 0 ∷ 0 ∷ 0 ∷ 0 ∷ 0x10 ∷ 0 ∷ 0 ∷ 2 ∷ 0 ∷ 0 ∷ 0 ∷ [])

abbrev told : Access
told = TellPages Report (page_5 ∷ []) one_page

report_told : TellsInTurn two Report false (only Report) (of_page_5 ∷ taken) told
report_told = (refl, record { free = 5 ∷ []; sound = refl; are = refl; pages = refl; skipped = refl }, refl)

report_given_back : WritesUsedAlone two Report (only Report) (of_page_5 ∷ taken) id
report_given_back = (refl, refl)

report_counted : WritesUsedAlone two Report (only Report) (used_length ∷ id ∷ of_page_5 ∷ taken) used_index
report_counted = (refl, refl)

-- ---- pages that are kept aren't discarded, and their chain is given back without

kept_and_discarded : TellsInTurn two Inflate true (only Inflate) (pages ∷ read) discard → ⊥
kept_and_discarded h = h

kept_and_given_back : TellsInTurn two Inflate true (only Inflate) (pages ∷ read) id
kept_and_given_back = refl

abbrev keeping : Device
keeping = record (only Report) { features = 0x10000003f; poison = 1 }

report_kept_and_discarded : TellsInTurn two Report false keeping (told ∷ of_page_5 ∷ taken) discard → ⊥
unfolding lib.Count.ones
report_kept_and_discarded h = h

report_kept_and_given_back : TellsInTurn two Report false keeping (told ∷ of_page_5 ∷ taken) id
unfolding lib.Count.ones
report_kept_and_given_back = refl

-- ---- reserved pages, the first page past memory, and a second number

reserved : (runs : List Run) (named : Named) → TellNumbers (record settings { reserved_pages = 16 }) number runs named → ⊥
unfolding numbers_of
reserved runs named h = let e = h.sound in absurd cc

first_past_memory : (runs : List Run) (named : Named) → TellNumbers settings (32 ∷ 0 ∷ 0 ∷ 0 ∷ []) runs named → ⊥
unfolding numbers_of
first_past_memory runs named h = let e = h.sound in absurd cc

second_past_memory : (runs : List Run) (named : Named) →
    TellNumbers settings (5 ∷ 0 ∷ 0 ∷ 0 ∷ 32 ∷ 0 ∷ 0 ∷ 0 ∷ []) runs named → ⊥
unfolding numbers_of
second_past_memory runs named h = let e = h.sound in absurd cc

-- of pages 5 and 20 the first one is reserved, and is skipped
abbrev page_20 : Run
page_20 = record { first = 20; count = 1 }

tells_20 : Tell (page_20 ∷ []) (20 ∷ [])
tells_20 = (20 ∷ [], ([], (record { whole = refl; grows = (20, ([], (refl, refl))) }, (tt, refl))))

reserved_skipped : TellNumbers (record settings { reserved_pages = 16; skips_bad_pages = 1 })
    (5 ∷ 0 ∷ 0 ∷ 0 ∷ 20 ∷ 0 ∷ 0 ∷ 0 ∷ []) (page_20 ∷ []) (record one_page { skipped = 1 })
unfolding numbers_of
reserved_skipped = record { sound = refl; tell = tells_20; pages = refl; skipped = refl }

abbrev free : Piece
free = record { addr = 0x5000; len = 0x1000; writable = true }

reserved_report : (runs : List Run) (named : Named) →
    TellPieces (record settings { reserved_pages = 16 }) (free ∷ []) runs named → ⊥
reserved_report runs named h = let e = h.sound in absurd cc

two_pieces : TellPieces settings (free ∷ record free { addr = 0x14000 } ∷ []) (page_5 ∷ page_20 ∷ [])
    (record { runs = 2; pages = 2; skipped = 0 })
two_pieces = record { free = 5 ∷ 20 ∷ []; sound = refl; are = refl; pages = refl; skipped = refl }

-- ---- figures of no chain, and of one that wasn't read

of_no_chain : FiguresOf Unknown [] → ⊥
of_no_chain h = h

of_an_unread_one : FiguresOf (Has 3 (piece ∷ []) (all_parts (piece ∷ [])) []) [] → ⊥
of_an_unread_one h = h

-- ---- bytes over the end of a region, and what isn't the last access

over_the_end : CopiesFrom two 0x14ffe 4 (at 0x14ffe) number → ⊥
over_the_end h = let e = h.place in absurd cc

bytes_after_the_flags : is_over (part ∷ flags ∷ Full ∷ []) ≡ false
bytes_after_the_flags = refl

no_number_at_first : ends_in_number [] ≡ false
no_number_at_first = refl
