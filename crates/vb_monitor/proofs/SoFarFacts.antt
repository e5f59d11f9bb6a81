-- What accesses say so far, worked out. Of a list the last access is first.
use Rattle.std.proofs.Common.{◌≡◌, refl, ℕ, Bool, true, false, List, [], ◌∷◌, map, Option, Some, None}
use Rattle.vb_chain.specs.declared.pieces.Piece.{Piece}
use Rattle.vb_core.specs.declared.kinds.Kind.TheVariants.{Inflate, Deflate, Statistics, Hint, Report}
use Rattle.vb_monitor.specs.declared.cuts.Cut.{Cut}
use Rattle.vb_monitor.specs.declared.parts.Part.{Part}
use Rattle.vb_monitor.specs.Accesses.{Access, CopyBytes, Acquire, Release, Full, TellPages}
use Rattle.vb_monitor.specs.SoFar.{Each, Known, Unknown, Walks, Has, parts_read, walked_by, with_copied, is_fenced, known, ring_after, index_read, left, with_told, is_whole, pages_told}
use Rattle.vb_monitor.proofs.Samples.{two, ring, page_5, one_page, over_the_hole, cut_5, cut_20, cut_22, piece, first_descriptor, last_descriptor, number, index, entry, descriptor, part, pages, figures, told_id, discard, id, used_length, used_index, flags}

-- ---- what is known of a chain

abbrev of_piece : Part
of_piece = record { address = 0x400; plus = 0; length = 4 }

-- at first nothing, nor after the index, nor after the fence
none : known Inflate [] ≡ Unknown
none = refl

of_the_index : known Inflate (index ∷ []) ≡ Unknown
of_the_index = refl

of_the_fence : known Inflate (Acquire ∷ index ∷ []) ≡ Unknown
of_the_fence = refl

-- the entry names the chain's first descriptor
abbrev taken : List Access
taken = entry ∷ Acquire ∷ index ∷ []

of_the_entry : known Inflate taken ≡ Walks 3 3 []
of_the_entry = refl

-- one that isn't after an acquire fence names none
unfenced : known Inflate (entry ∷ index ∷ []) ≡ Unknown
unfenced = refl

after_another_fence : known Inflate (entry ∷ Full ∷ index ∷ []) ≡ Unknown
after_another_fence = refl

-- its pieces are in their order
abbrev other : Piece
other = record piece { addr = 0x800 }

in_their_order : walked_by (Some first_descriptor) (Walks 3) Inflate 3 7 (other ∷ []) ≡ Walks 3 5 (other ∷ piece ∷ [])
in_their_order = refl

-- a descriptor goes on with the one that it names, and the head stays
of_the_first : known Inflate (CopyBytes (record { region = 0; offset = 0x30 }) first_descriptor ∷ taken) ≡
    Walks 3 5 (piece ∷ [])
of_the_first = refl

of_both : known Inflate (CopyBytes (record { region = 0; offset = 0x50 }) last_descriptor
    ∷ CopyBytes (record { region = 0; offset = 0x30 }) first_descriptor ∷ taken)
    ≡ Has 3 (piece ∷ piece ∷ []) (of_piece ∷ of_piece ∷ []) []
of_both = refl

-- the last one ends the chain: its bytes are to be read, but a report's
of_the_last : known Inflate (descriptor ∷ taken) ≡ Has 3 (piece ∷ []) (of_piece ∷ []) []
of_the_last = refl

of_a_report : known Report (descriptor ∷ taken) ≡ Has 3 (piece ∷ []) [] []
of_a_report = refl

-- the bytes of an id are to be read, and not those of hinted pages
of_an_id : known Hint (descriptor ∷ taken) ≡ Has 3 (piece ∷ []) (of_piece ∷ []) []
of_an_id = refl

of_a_hint : parts_read Hint (record piece { writable = true } ∷ piece ∷ []) ∷ parts_read Hint [] ∷ [] ≡ [] ∷ [] ∷ []
of_a_hint = refl

of_statistics : parts_read Statistics (piece ∷ []) ≡ of_piece ∷ []
of_statistics = refl

of_a_deflate : parts_read Deflate (piece ∷ []) ≡ of_piece ∷ []
of_a_deflate = refl

-- a part is read once, and its bytes come after those before
of_the_part : known Inflate (part ∷ descriptor ∷ taken) ≡ Has 3 (piece ∷ []) [] number
of_the_part = refl

after_others : with_copied Inflate (7 ∷ 8 ∷ []) (Has 3 [] (of_piece ∷ of_piece ∷ []) (5 ∷ 6 ∷ [])) ≡
    Has 3 [] (of_piece ∷ []) (5 ∷ 6 ∷ 7 ∷ 8 ∷ [])
after_others = refl

past_all_parts : with_copied Inflate (7 ∷ []) (Has 3 [] [] (5 ∷ [])) ≡ Has 3 [] [] (5 ∷ [])
past_all_parts = refl

copied_of_no_chain : with_copied Inflate last_descriptor Unknown ≡ Unknown
copied_of_no_chain = refl

-- what is told, discarded and written keeps it, up to the index; then nothing is known
abbrev whole : List Access
whole = part ∷ descriptor ∷ taken

abbrev kept_after : Access → Known
kept_after x = known Inflate (x ∷ whole)

kept : map kept_after (Acquire ∷ Release ∷ Full ∷ pages ∷ figures ∷ told_id ∷ discard ∷ id ∷ []) ≡
    Has 3 (piece ∷ []) [] number ∷ Has 3 (piece ∷ []) [] number ∷ Has 3 (piece ∷ []) [] number
    ∷ Has 3 (piece ∷ []) [] [] ∷ Has 3 (piece ∷ []) [] number ∷ Has 3 (piece ∷ []) [] number
    ∷ Has 3 (piece ∷ []) [] number ∷ Has 3 (piece ∷ []) [] number ∷ []
kept = refl

once_used : known Inflate (used_index ∷ Release ∷ used_length ∷ id ∷ discard ∷ pages ∷ whole) ≡ Unknown
once_used = refl

-- an acquire fence is last, and no other access
fenced : is_fenced (Acquire ∷ index ∷ []) ≡ true
fenced = refl

abbrev is_last : Access → Bool
is_last x = is_fenced (x ∷ Acquire ∷ [])

others_last : map is_last (index ∷ part ∷ Release ∷ Full ∷ pages ∷ figures ∷ told_id ∷ discard ∷ id ∷ used_index ∷ []) ≡
    false ∷ false ∷ false ∷ false ∷ false ∷ false ∷ false ∷ false ∷ false ∷ false ∷ []
others_last = refl

nothing_last : is_fenced [] ≡ false
nothing_last = refl

-- ---- how far the queue is

abbrev taken_after : Access → ℕ
taken_after x = (ring_after Inflate ring (x ∷ whole)).next_avail

abbrev used_after : Access → ℕ
used_after x = (ring_after Inflate ring (x ∷ whole)).next_used

-- an entry is taken where the last pages of a chain, figures or an id are told
one_taken : map taken_after (index ∷ part ∷ Acquire ∷ Release ∷ Full
    ∷ pages ∷ figures ∷ told_id ∷ discard ∷ id ∷ used_index ∷ []) ≡ 0 ∷ 0 ∷ 0 ∷ 0 ∷ 0 ∷ 1 ∷ 1 ∷ 1 ∷ 0 ∷ 0 ∷ 0 ∷ []
one_taken = refl

-- an element is used where an index is written
one_used : map used_after (index ∷ part ∷ Acquire ∷ Release ∷ Full
    ∷ pages ∷ figures ∷ told_id ∷ discard ∷ id ∷ used_index ∷ []) ≡ 0 ∷ 0 ∷ 0 ∷ 0 ∷ 0 ∷ 0 ∷ 0 ∷ 0 ∷ 0 ∷ 0 ∷ 1 ∷ []
one_used = refl

twice : ring_after Inflate ring (used_index ∷ pages ∷ part ∷ descriptor ∷ entry ∷ Acquire ∷ used_index ∷ pages ∷ whole) ≡
    record ring { next_avail = 2; next_used = 2 }
twice = refl

-- none is where a portion is told, of which more is to be read
abbrev amid : List Access
amid = pages ∷ descriptor ∷ taken

not_taken_yet : (ring_after Inflate ring amid).next_avail ≡ 0
not_taken_yet = refl

-- its bytes are told, and no others; what is to be read stays
of_a_portion : known Inflate amid ≡ Has 3 (piece ∷ []) (of_piece ∷ []) []
of_a_portion = refl

told_of_it : with_told (Has 3 [] (of_piece ∷ []) (5 ∷ [])) ≡ Has 3 [] (of_piece ∷ []) []
told_of_it = refl

told_of_none : with_told Unknown ∷ with_told (Walks 3 4 []) ∷ [] ≡ Unknown ∷ Walks 3 4 [] ∷ []
told_of_none = refl

whole_then : is_whole Unknown ∷ is_whole (Walks 3 4 []) ∷ is_whole (Has 3 [] [] []) ∷ is_whole (Has 3 [] (of_piece ∷ []) [])
    ∷ [] ≡ false ∷ false ∷ true ∷ false ∷ []
whole_then = refl

-- pages of all portions count since the entry, and no others
pages_of_all : pages_told (TellPages Inflate [] (record one_page { pages = 256 }) ∷ part ∷ discard ∷ amid) ≡ 257
pages_of_all = refl

pages_of_another : pages_told (part ∷ descriptor ∷ entry ∷ Acquire ∷ used_index ∷ amid) ≡ 0
pages_of_another = refl

-- ---- the index that was read

-- the word that was read first, and no later one
first_word : index_read (flags ∷ Full ∷ used_index ∷ entry ∷ Acquire ∷ index ∷ []) ≡ Some 1
first_word = refl

none_was_read : index_read [] ≡ None
none_was_read = refl

-- no other access reads one
abbrev read_by : Access → Option ℕ
read_by x = index_read (x ∷ [])

one_reads : map read_by (index ∷ part ∷ Acquire ∷ Release ∷ Full ∷ pages ∷ figures ∷ told_id ∷ discard ∷ id ∷ used_index ∷ []) ≡
    Some 1 ∷ None ∷ None ∷ None ∷ None ∷ None ∷ None ∷ None ∷ None ∷ None ∷ None ∷ []
one_reads = refl

-- ---- what is left to discard

abbrev left_of : List Access → List Cut
left_of log = left false two log

abbrev hole_told : Access
hole_told = TellPages Inflate (over_the_hole ∷ page_5 ∷ []) one_page

all_left : left_of (hole_told ∷ whole) ≡ cut_20 ∷ cut_22 ∷ cut_5 ∷ []
all_left = refl

two_left : left_of (discard ∷ hole_told ∷ whole) ≡ cut_22 ∷ cut_5 ∷ []
two_left = refl

none_left : left_of (discard ∷ discard ∷ discard ∷ hole_told ∷ whole) ≡ []
none_left = refl

no_more_than_none : left_of (discard ∷ pages ∷ discard ∷ discard ∷ []) ≡ []
no_more_than_none = refl

-- none of a deflate's, all of a report's, and none before any was told
left_of_a_deflate : left_of (TellPages Deflate (page_5 ∷ []) one_page ∷ whole) ≡ []
left_of_a_deflate = refl

left_of_a_report : left_of (TellPages Report (page_5 ∷ []) one_page ∷ whole) ≡ cut_5 ∷ []
left_of_a_report = refl

left_of_a_kept_report : left true two (TellPages Report (page_5 ∷ []) one_page ∷ whole) ≡ []
left_of_a_kept_report = refl

-- of a hint as of a report
left_of_a_hint : left_of (TellPages Hint (page_5 ∷ []) one_page ∷ whole) ≡ cut_5 ∷ []
left_of_a_hint = refl

left_of_a_kept_hint : left true two (TellPages Hint (page_5 ∷ []) one_page ∷ whole) ≡ []
left_of_a_kept_hint = refl

left_at_first : left_of whole ≡ []
left_at_first = refl

-- those of the pages that were told last
of_the_last_told : left_of (pages ∷ hole_told ∷ whole) ≡ cut_5 ∷ []
of_the_last_told = refl

-- other accesses keep them
abbrev left_after : Access → List Cut
left_after x = left_of (x ∷ pages ∷ whole)

still_left : map left_after (index ∷ part ∷ Acquire ∷ Release ∷ Full ∷ figures ∷ told_id ∷ id ∷ used_index ∷ []) ≡
    (cut_5 ∷ []) ∷ (cut_5 ∷ []) ∷ (cut_5 ∷ []) ∷ (cut_5 ∷ []) ∷ (cut_5 ∷ []) ∷ (cut_5 ∷ []) ∷ (cut_5 ∷ []) ∷ (cut_5 ∷ [])
    ∷ (cut_5 ∷ []) ∷ []
still_left = refl

-- ---- by all those before

abbrev Stand : List Access → Access → Type 0
Stand before x = Each (λ further y. further ≡ index ∷ before) (index ∷ before) (x ∷ [])

-- each access sees all those before it, of which the last one is first
sees_all : Stand (Acquire ∷ flags ∷ []) entry
sees_all = (refl, tt)

abbrev IsFirst : List Access → Access → Type 0
IsFirst before x = before ≡ []

-- and what may not come there doesn't
not_the_first : Each IsFirst [] (index ∷ entry ∷ []) → ⊥
not_the_first all = let e = all.1.0 in absurd cc

first : Each IsFirst [] (index ∷ [])
first = (refl, tt)
