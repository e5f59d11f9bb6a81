-- Which reads come in their turn, worked out. Of a list the last access is first.
use Rattle.std.proofs.Common.{◌≡◌, refl, ap, arith, ℕ, Bool, true, false, List, [], ◌∷◌, ◌++◌, map, Option, Some, None, Result, Ok, Err}
use Rattle.vb_chain.specs.declared.fault.ChainFault.{ChainFault}
use Rattle.vb_core.specs.declared.kinds.Kind.TheVariants.{Inflate, Report}
use Rattle.vb_core.specs.declared.device.Device.{Device}
use Rattle.vb_monitor.specs.declared.regions.Spot.{Spot}
use Rattle.vb_monitor.specs.Accesses.{Access, ReadWord, CopyBytes, Acquire, Release, Full}
use Rattle.vb_monitor.specs.Turns.{ReadsWord, is_over, ReadsInTurn}
use Rattle.vb_monitor.proofs.Samples.{Same, two, at, ring, ready, naming, first_descriptor, last_descriptor, zeros, with_two, number, index, entry, descriptor, part, pages, figures, discard, id, used_length, used_index, flags}

abbrev is_there : Result Bool ChainFault → Bool
is_there (Ok there) = there
is_there (Err fault) = false

abbrev offset_in : Option Spot → ℕ
offset_in None = 0
offset_in (Some s) = s.offset

-- ---- words

-- first of all the index
index_first : ReadsWord two ring [] (at 0x102)
index_first = refl

-- and never again, also not once a chain was given back
index_again : ReadsWord two ring (used_index ∷ []) (at 0x102) → ⊥
index_again h = absurd h

-- after an acquire fence the entry that is taken next, after the index or a chain
entry_after_a_chain : ReadsWord two (record ring { next_avail = 9 }) (Acquire ∷ used_index ∷ []) (at 0x106)
entry_after_a_chain = refl

entry_next : ReadsWord two (record ring { next_avail = 9 }) (Acquire ∷ index ∷ []) (at 0x106)
entry_next = refl

-- after a full fence the flags
flags_last : ReadsWord two ring (Full ∷ index ∷ []) (at 0x100)
flags_last = refl

-- and each of them nowhere else
entry_first : ReadsWord two ring [] (at 0x104) → ⊥
entry_first h = let e : Same 0x102 0x104 = ap offset_in h in omega arith

flags_for_the_entry : ReadsWord two ring (Acquire ∷ index ∷ []) (at 0x100) → ⊥
flags_for_the_entry h = let e : Same 0x104 0x100 = ap offset_in h in omega arith

another_entry : ReadsWord two ring (Acquire ∷ index ∷ []) (at 0x106) → ⊥
another_entry h = let e : Same 0x104 0x106 = ap offset_in h in omega arith

index_for_the_flags : ReadsWord two ring (Full ∷ index ∷ []) (at 0x102) → ⊥
index_for_the_flags h = let e : Same 0x100 0x102 = ap offset_in h in omega arith

flags_once_used : ReadsWord two ring (used_index ∷ []) (at 0x100) → ⊥
flags_once_used h = absurd h

-- none after another word, bytes, another fence, what was told or discarded, and a number
index_twice : ReadsWord two ring (index ∷ []) (at 0x102) → ⊥
index_twice h = absurd h

word_after_bytes : ReadsWord two ring (part ∷ []) (at 0x102) → ⊥
word_after_bytes h = absurd h

word_after_a_release_fence : ReadsWord two ring (Release ∷ []) (at 0x102) → ⊥
word_after_a_release_fence h = absurd h

word_once_told : ReadsWord two ring (pages ∷ []) (at 0x102) → ⊥
word_once_told h = absurd h

word_after_figures : ReadsWord two ring (figures ∷ []) (at 0x102) → ⊥
word_after_figures h = absurd h

word_once_discarded : ReadsWord two ring (discard ∷ []) (at 0x102) → ⊥
word_once_discarded h = absurd h

word_after_a_number : ReadsWord two ring (id ∷ []) (at 0x102) → ⊥
word_after_a_number h = absurd h

-- ---- the end

over : is_over (flags ∷ Full ∷ index ∷ []) ≡ true
over = refl

-- no other access, nor a word after another fence, nor the fence alone
abbrev is_over_by : Access → Bool
is_over_by x = is_over (x ∷ Full ∷ [])

not_over : map is_over_by (flags ∷ part ∷ Acquire ∷ Release ∷ Full ∷ pages ∷ figures ∷ discard ∷ id ∷ used_index ∷ []) ≡
    true ∷ false ∷ false ∷ false ∷ false ∷ false ∷ false ∷ false ∷ false ∷ false ∷ []
not_over = refl

abbrev is_over_after : Access → Bool
is_over_after x = is_over (flags ∷ x ∷ [])

no_other_fence : map is_over_after (index ∷ part ∷ Acquire ∷ Release ∷ Full ∷ pages ∷ figures ∷ discard ∷ id ∷ used_index ∷ []) ≡
    false ∷ false ∷ false ∷ false ∷ true ∷ false ∷ false ∷ false ∷ false ∷ false ∷ []
no_other_fence = refl

not_over_at_first : is_over [] ≡ false
not_over_at_first = refl

not_over_by_one_word : is_over (index ∷ []) ≡ false
not_over_by_one_word = refl

-- ---- bytes

abbrev taken : List Access
taken = entry ∷ Acquire ∷ index ∷ []

-- the descriptor of the head, by its number, 16 bytes
of_the_head : ReadsInTurn two Inflate ready taken descriptor
of_the_head = record { place = refl; long = refl }

another_descriptor : ReadsInTurn two Inflate ready taken (CopyBytes (at 0x40) last_descriptor) → ⊥
another_descriptor h = let e : Same 0x30 0x40 = ap offset_in h.place in omega arith

half_a_descriptor : ReadsInTurn two Inflate ready taken (CopyBytes (at 0x30) (0 ∷ 4 ∷ 0 ∷ 0 ∷ 0 ∷ 0 ∷ 0 ∷ 0 ∷ [])) → ⊥
half_a_descriptor h = let e : Same 8 16 = h.long in omega arith

-- the one that it names, and not the head's again
abbrev walked : List Access
walked = CopyBytes (at 0x30) first_descriptor ∷ taken

of_the_next : ReadsInTurn two Inflate ready walked (CopyBytes (at 0x50) (with_two last_descriptor))
of_the_next = record { place = refl; long = refl }

-- those after it in the table are copied with it, and none after the table's end
next_alone : ReadsInTurn two Inflate ready walked (CopyBytes (at 0x50) last_descriptor) → ⊥
next_alone h = let e : Same 16 48 = h.long in omega arith

past_the_table : ReadsInTurn two Inflate ready walked (CopyBytes (at 0x50) (with_two last_descriptor ++ last_descriptor)) → ⊥
past_the_table h = let e : Same 64 48 = h.long in omega arith

-- a chain's first one is copied alone
first_with_others : ReadsInTurn two Inflate ready taken (CopyBytes (at 0x30) (with_two last_descriptor)) → ⊥
first_with_others h = let e : Same 48 16 = h.long in omega arith

-- of a row that was copied no descriptor is copied again: here the pieces come
abbrev in_a_row : List Access
in_a_row = CopyBytes (at 0x50) (naming 6 ++ last_descriptor ++ zeros) ∷ walked

of_the_pieces : ReadsInTurn two Inflate ready in_a_row part
of_the_pieces = record { place = refl; long = refl }

of_the_row_again : ReadsInTurn two Inflate ready in_a_row (CopyBytes (at 0x60) (last_descriptor ++ zeros)) → ⊥
of_the_row_again h = let e : Same 0x400 0x60 = ap offset_in h.place in omega arith

-- one that it hasn't is, with those after it
abbrev left_the_row : List Access
left_the_row = CopyBytes (at 0x50) (naming 6 ++ naming 2 ++ zeros) ∷ walked

of_another_row : ReadsInTurn two Inflate ready left_the_row (CopyBytes (at 0x20) (with_two zeros ++ with_two zeros))
of_another_row = record { place = refl; long = refl }

of_the_old_row : ReadsInTurn two Inflate ready left_the_row part → ⊥
of_the_old_row h = let e : Same 0x20 0x400 = ap offset_in h.place in omega arith

descriptor_again : ReadsInTurn two Inflate ready walked descriptor → ⊥
descriptor_again h = let e : Same 0x50 0x30 = ap offset_in h.place in omega arith

-- then the piece's bytes, at its place, as long as it is, once
abbrev chained : List Access
chained = descriptor ∷ taken

of_the_piece : ReadsInTurn two Inflate ready chained part
of_the_piece = record { place = refl; long = refl }

elsewhere : ReadsInTurn two Inflate ready chained (CopyBytes (at 0x404) number) → ⊥
elsewhere h = let e : Same 0x400 0x404 = ap offset_in h.place in omega arith

too_short : ReadsInTurn two Inflate ready chained (CopyBytes (at 0x400) (5 ∷ 0 ∷ [])) → ⊥
too_short h = let e : Same 2 4 = h.long in omega arith

twice : ReadsInTurn two Inflate ready (part ∷ chained) part → ⊥
twice h = absurd h

-- a report's pieces aren't read
of_a_report : ReadsInTurn two Report ready chained part → ⊥
of_a_report h = absurd h

-- none where no entry was read
without_an_entry : ReadsInTurn two Inflate ready (index ∷ []) descriptor → ⊥
without_an_entry h = absurd h

once_used : ReadsInTurn two Inflate ready (used_index ∷ Release ∷ used_length ∷ id ∷ discard ∷ pages ∷ part ∷ chained) part → ⊥
once_used h = absurd h

-- ---- fences, and the rest

fence_after_the_index : ReadsInTurn two Inflate ready (index ∷ []) Acquire
fence_after_the_index = (refl, refl, refl)

-- none before the index was read, nor where it publishes none, or more than the queue has
fence_first : ReadsInTurn two Inflate ready [] Acquire → ⊥
fence_first h = absurd h.2

abbrev Fenced : Device → ℕ → Type 0
Fenced d n = ReadsInTurn two Inflate d (ReadWord (at 0x102) n ∷ []) Acquire

all_published : Fenced ready 8
all_published = (refl, refl, refl)

none_published : Fenced ready 0 → ⊥
none_published h = let e : false ≡ true = ap is_there h.2 in absurd cc

more_than_the_queue : Fenced ready 9 → ⊥
more_than_the_queue h = let e : false ≡ true = ap is_there h.2 in absurd cc

-- indices begin anew after 65535
abbrev far : Device
far = record ready { inflate = record ring { next_avail = 65535 } }

published_anew : Fenced far 0
published_anew = (refl, refl, refl)

not_anew : Fenced far 65535 → ⊥
not_anew h = let e : false ≡ true = ap is_there h.2 in absurd cc

-- none while a chain is served, nor after the flags
second_entry : ReadsInTurn two Inflate ready chained Acquire → ⊥
second_entry h = let e = h.0 in absurd cc

entry_after_the_flags : ReadsInTurn two Inflate ready (flags ∷ Full ∷ index ∷ []) Acquire → ⊥
entry_after_the_flags h = let e : true ≡ false = h.1 in absurd cc

fence_before_the_flags : ReadsInTurn two Inflate ready (index ∷ []) Full
fence_before_the_flags = refl

flags_twice : ReadsInTurn two Inflate ready (flags ∷ Full ∷ index ∷ []) Full → ⊥
flags_twice h = let e : true ≡ false = h in absurd cc

-- the entry of the second chain is read once the first one was given back, and the index isn't
abbrev served_of : ℕ → List Access
served_of n = used_index ∷ Release ∷ used_length ∷ id ∷ discard ∷ pages ∷ part ∷ descriptor ∷ entry
    ∷ Acquire ∷ ReadWord (at 0x102) n ∷ []

abbrev served : List Access
served = served_of 2

fence_after_a_chain : ReadsInTurn two Inflate ready served Acquire
fence_after_a_chain = (refl, refl, refl)

-- where it publishes that one
all_were_taken : ReadsInTurn two Inflate ready (served_of 1) Acquire → ⊥
all_were_taken h = let e : false ≡ true = ap is_there h.2 in absurd cc

second_index : ReadsInTurn two Inflate ready served index → ⊥
second_index h = absurd h

entry_of_the_second : ReadsInTurn two Inflate ready (Acquire ∷ served) (ReadWord (at 0x106) 3)
entry_of_the_second = refl

first_entry_again : ReadsInTurn two Inflate ready (Acquire ∷ served) entry → ⊥
first_entry_again h = let e : Same 0x106 0x104 = ap offset_in h in omega arith

-- nor with an acquire fence before it
index_after_its_fence : ReadsInTurn two Inflate ready (Acquire ∷ served) index → ⊥
index_after_its_fence h = let e : Same 0x106 0x102 = ap offset_in h in omega arith
