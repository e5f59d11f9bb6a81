-- What may come directly after what, worked out: of each access what it may follow, and what not.
use Rattle.std.proofs.Common.{◌≡◌, refl, true, false, List, [], ◌∷◌, map, Option, Some, None}
use Rattle.vb_monitor.specs.Accesses.{Access, Acquire, Release, Full, Pause}
use Rattle.vb_monitor.specs.Order.{Row, MayFollow, is_copied, is_word, is_read, is_told, is_named, is_number}
use Rattle.vb_monitor.proofs.Samples.{index, entry, descriptor, part, pages, figures, discard, id, used_length, used_index, flags}

-- ---- what comes before

-- nothing, a word, bytes, an acquire, a release and a full fence, pages, figures, a pause, a discard,
-- a number, a written word
abbrev each : List (Option Access)
each = None ∷ Some index ∷ Some part ∷ Some Acquire ∷ Some Release
    ∷ Some Full ∷ Some pages ∷ Some figures ∷ Some Pause ∷ Some discard ∷ Some id ∷ Some used_index ∷ []

words : map is_word each ≡ false ∷ true ∷ false ∷ false ∷ false ∷ false ∷ false ∷ false ∷ false ∷ false ∷ false ∷ true ∷ []
words = refl

copies : map is_copied each ≡ false ∷ false ∷ true ∷ false ∷ false ∷ false ∷ false ∷ false ∷ false ∷ false ∷ false ∷ false ∷ []
copies = refl

reads : map is_read each ≡ false ∷ true ∷ true ∷ false ∷ false ∷ false ∷ false ∷ false ∷ true ∷ false ∷ false ∷ false ∷ []
reads = refl

told : map is_told each ≡ false ∷ false ∷ false ∷ false ∷ false ∷ false ∷ true ∷ false ∷ false ∷ true ∷ false ∷ false ∷ []
told = refl

named : map is_named each ≡ false ∷ false ∷ false ∷ false ∷ false ∷ false ∷ true ∷ false ∷ false ∷ true ∷ true ∷ false ∷ []
named = refl

numbers : map is_number each ≡ false ∷ false ∷ false ∷ false ∷ false ∷ false ∷ false ∷ false ∷ false ∷ false ∷ true ∷ false ∷ []
numbers = refl

-- ---- whole lists

-- page 5 is inflated, and the driver asked whether it wants an interrupt
abbrev inflated : List Access
inflated = index ∷ Acquire ∷ entry ∷ descriptor
    ∷ part ∷ pages ∷ discard ∷ id ∷ used_length ∷ Release ∷ used_index ∷ Full ∷ flags ∷ []

in_order : Row MayFollow None inflated
in_order = (tt, (refl, (tt, (refl, (refl, (refl, (refl, (refl, (refl, (refl, (refl, (tt, (tt, tt)))))))))))))

-- after a chain that was given back comes the next one's entry
next_in_order : Row MayFollow (Some Release) (used_index ∷ Acquire ∷ entry ∷ descriptor ∷ [])
next_in_order = (refl, (refl, (tt, (refl, tt))))

-- statistics are told, and the buffer stays
statistics_in_order : Row MayFollow None (index ∷ Acquire ∷ entry ∷ descriptor ∷ part ∷ figures ∷ [])
statistics_in_order = (tt, (refl, (tt, (refl, (refl, (refl, tt))))))

-- what is after the first one counts
not_the_second : Row MayFollow (Some part) (pages ∷ Release ∷ []) → ⊥
not_the_second row = let e : false ≡ true = row.1.0 in absurd cc

-- ---- what isn't in order

-- an acquire fence that comes first, after another one, after bytes, or after a number
fence_first : MayFollow None Acquire → ⊥
fence_first h = let e : false ≡ true = h in absurd cc

fence_twice : MayFollow (Some Acquire) Acquire → ⊥
fence_twice h = let e : false ≡ true = h in absurd cc

fence_after_bytes : MayFollow (Some part) Acquire → ⊥
fence_after_bytes h = let e : false ≡ true = h in absurd cc

fence_before_the_index : MayFollow (Some used_length) Acquire → ⊥
fence_before_the_index h = let e : false ≡ true = h in absurd cc

-- bytes after a fence, after figures that were told, and after an index
bytes_after_a_fence : MayFollow (Some Acquire) descriptor → ⊥
bytes_after_a_fence h = let e : false ≡ true = h in absurd cc

bytes_once_told : MayFollow (Some figures) part → ⊥
bytes_once_told h = let e : false ≡ true = h in absurd cc

-- those of the next portion after pages that were told or discarded
further_bytes : MayFollow (Some pages) part × MayFollow (Some discard) part
further_bytes = (refl, refl)

bytes_once_used : MayFollow (Some used_index) part → ⊥
bytes_once_used h = let e : false ≡ true = h in absurd cc

-- pages after an entry, after others, and after their discarding
told_unread : MayFollow (Some entry) pages → ⊥
told_unread h = let e : false ≡ true = h in absurd cc

told_twice : MayFollow (Some pages) pages → ⊥
told_twice h = let e : false ≡ true = h in absurd cc

told_once_discarded : MayFollow (Some discard) pages → ⊥
told_once_discarded h = let e : false ≡ true = h in absurd cc

-- figures after an entry
figures_unread : MayFollow (Some entry) figures → ⊥
figures_unread h = let e : false ≡ true = h in absurd cc

-- a discard after bytes, after an element, and after its index
discarded_untold : MayFollow (Some part) discard → ⊥
discarded_untold h = let e : false ≡ true = h in absurd cc

discarded_once_written : MayFollow (Some used_length) discard → ⊥
discarded_once_written h = let e : false ≡ true = h in absurd cc

discarded_once_used : MayFollow (Some used_index) discard → ⊥
discarded_once_used h = let e : false ≡ true = h in absurd cc

-- an element after bytes, and after a fence
given_back_untold : MayFollow (Some part) id → ⊥
given_back_untold h = let e : false ≡ true = h in absurd cc

number_after_a_fence : MayFollow (Some Release) used_length → ⊥
number_after_a_fence h = let e : false ≡ true = h in absurd cc

-- a release fence before its element, and after the index
fence_too_early : MayFollow (Some discard) Release → ⊥
fence_too_early h = let e : false ≡ true = h in absurd cc

fence_too_late : MayFollow (Some used_index) Release → ⊥
fence_too_late h = let e : false ≡ true = h in absurd cc

-- an index after its element with no fence, after another fence, and one that comes first
index_unfenced : MayFollow (Some used_length) used_index → ⊥
index_unfenced h = absurd cc

index_after_a_full_fence : MayFollow (Some Full) used_index → ⊥
index_after_a_full_fence h = absurd cc

index_first : MayFollow None used_index → ⊥
index_first h = absurd cc
