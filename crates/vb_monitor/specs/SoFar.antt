-- What the accesses of a notice say so far: of the chain that is served, of its queue, and of what
-- is left to discard.
use Rattle.std.specs.Prelude.{ℕ, zero, suc, Bool, true, false, List, [], ◌∷◌, ◌++◌, Option, Some}
use Rattle.std.specs.Prelude.{None}
use Rattle.vb_virtio.specs.declared.limits.TheConstants.{MAX_QUEUE_SIZE}
use Rattle.vb_chain.specs.declared.pieces.Piece.{Piece}
use Rattle.vb_chain.specs.Rules.{has_next, piece_of}
use Rattle.vb_core.specs.declared.kinds.Kind.{Kind}
use Rattle.vb_core.specs.declared.kinds.Kind.TheVariants.{Inflate, Deflate, Statistics, Hint}
use Rattle.vb_core.specs.declared.kinds.Kind.TheVariants.{Report}
use Rattle.vb_core.specs.declared.ring.Virtqueue.{Virtqueue}
use Rattle.vb_core.specs.Rings.{with_taken, with_used}
use Rattle.vb_monitor.specs.declared.regions.Region.{Region}
use Rattle.vb_monitor.specs.declared.cuts.Cut.{Cut}
use Rattle.vb_monitor.specs.declared.parts.Part.{Part}
use Rattle.vb_monitor.specs.Accesses.{Access, ReadWord, CopyBytes, Acquire, Release, Full}
use Rattle.vb_monitor.specs.Accesses.{TellPages, TellFigures, TellId, Pause, Discard, WriteNumber}
use Rattle.vb_monitor.specs.Accesses.{WriteWord}
use Rattle.vb_monitor.specs.Giving.{cuts_for, more_told}
use Rattle.vb_monitor.specs.Pieces.{all_parts}
use Rattle.vb_monitor.specs.Chains.{TableRow, row_of, in_row, descriptor_of, has_id}
use Rattle.vb_core.specs.declared.hints.Round.{Round}
use Rattle.vb_core.specs.Hints.{heard}

-- Each access of a list may come after all those before it, of which the last one is first.
abbrev pub Each : (List Access → Access → Type 0) → List Access → List Access → Type 0
Each may before [] = Unit {0}
Each may before (x ∷ xs) = may before x × Each may (x ∷ before) xs

-- ---- the chain

-- What is known of a chain since its entry was read: its head, the number of the descriptor that is
-- read next, and the pieces of those that were read; or, of a whole chain, its pieces, the parts of
-- them that are still to be read, and the bytes of those that were and weren't told yet.
pub data Known : Type 0 where
  Unknown : Known
  Walks : (head number : ℕ) (pieces : List Piece) → Known
  Has : (head : ℕ) (pieces : List Piece) (parts : List Part) (bytes : List ℕ) → Known

-- The parts of a chain of hints that are read: of an id all (VIRTIO 1.2, 5.5.6.6).
abbrev pub parts_of_hint : Bool → List Piece → List Part
parts_of_hint true pieces = all_parts pieces
parts_of_hint false pieces = []

-- The parts of pieces that are read: the bytes of a report aren't (VIRTIO 1.1, 5.5.6).
abbrev pub parts_read : Kind → List Piece → List Part
parts_read Inflate pieces = all_parts pieces
parts_read Deflate pieces = all_parts pieces
parts_read Statistics pieces = all_parts pieces
parts_read Hint pieces = parts_of_hint (has_id pieces) pieces
parts_read Report pieces = []

-- A descriptor goes on with the one that it names, or it is the chain's last.
abbrev pub with_descriptor : Bool → (ℕ → List Piece → Known) → Kind → ℕ → List Piece → ℕ → Known
with_descriptor true on kind head pieces next = on next pieces
with_descriptor false on kind head pieces next = Has head pieces (parts_read kind pieces) []

abbrev pub walked_by : Option (List ℕ) → (ℕ → List Piece → Known) → Kind → ℕ → ℕ → List Piece →
    Known
walked_by None on kind head number pieces = Walks head number pieces
walked_by (Some bytes) on kind head number pieces =
    with_descriptor (has_next (descriptor_of bytes)) on kind head
    (pieces ++ piece_of (descriptor_of bytes) ∷ []) (descriptor_of bytes).next

-- The descriptors of a row are known for as long as each names one that the row has, at most n.
abbrev pub walked_in : ℕ → Kind → ℕ → TableRow → ℕ → List Piece → Known
walked_in zero kind head row number pieces = Walks head number pieces
walked_in (suc n) kind head row number pieces =
    walked_by (in_row row number) (walked_in n kind head row) kind head number pieces

-- What is known once these bytes were copied: of no chain more descriptors are than one may have.
abbrev pub with_copied : Kind → List ℕ → Known → Known
with_copied kind bytes Unknown = Unknown
with_copied kind bytes (Walks head number pieces) =
    walked_in MAX_QUEUE_SIZE kind head (row_of number bytes) number pieces
with_copied kind bytes (Has head pieces [] so_far) = Has head pieces [] so_far
with_copied kind bytes (Has head pieces (part ∷ parts) so_far) =
    Has head pieces parts (so_far ++ bytes)

-- What is known once the pages were told that these bytes name.
abbrev pub with_told : Known → Known
with_told Unknown = Unknown
with_told (Walks head number pieces) = Walks head number pieces
with_told (Has head pieces parts so_far) = Has head pieces parts []

-- All of a chain was read.
abbrev pub is_whole : Known → Bool
is_whole Unknown = false
is_whole (Walks head number pieces) = false
is_whole (Has head pieces [] so_far) = true
is_whole (Has head pieces (part ∷ parts) so_far) = false

-- An acquire fence is last.
abbrev pub is_fenced : List Access → Bool
is_fenced (Acquire ∷ xs) = true
is_fenced [] = false
is_fenced (ReadWord at answer ∷ xs) = false
is_fenced (CopyBytes at answer ∷ xs) = false
is_fenced (Release ∷ xs) = false
is_fenced (Full ∷ xs) = false
is_fenced (TellPages kind runs named ∷ xs) = false
is_fenced (TellFigures figures ∷ xs) = false
is_fenced (TellId id ∷ xs) = false
is_fenced (Pause ∷ xs) = false
is_fenced (Discard cut ∷ xs) = false
is_fenced (WriteNumber at number ∷ xs) = false
is_fenced (WriteWord at word ∷ xs) = false

-- A word after an acquire fence is an entry: the head of a chain.
abbrev pub with_word : Bool → ℕ → Known
with_word true word = Walks word word []
with_word false word = Unknown

-- What is known of the chain; nothing, once its index was written.
abbrev pub known : Kind → List Access → Known
known kind [] = Unknown
known kind (ReadWord at answer ∷ xs) = with_word (is_fenced xs) answer
known kind (CopyBytes at answer ∷ xs) = with_copied kind answer (known kind xs)
known kind (Acquire ∷ xs) = known kind xs
known kind (Release ∷ xs) = known kind xs
known kind (Full ∷ xs) = known kind xs
known kind (TellPages of runs named ∷ xs) = with_told (known kind xs)
known kind (TellFigures figures ∷ xs) = known kind xs
known kind (TellId id ∷ xs) = known kind xs
known kind (Pause ∷ xs) = known kind xs
known kind (Discard cut ∷ xs) = known kind xs
known kind (WriteNumber at number ∷ xs) = known kind xs
known kind (WriteWord at word ∷ xs) = Unknown

-- ---- the queue

-- One more entry is taken, or not.
abbrev pub with_taken_if : Bool → Virtqueue → Virtqueue
with_taken_if true r = with_taken r
with_taken_if false r = r

-- How far the device is in a ring: one more entry is taken where the last pages of a chain or its
-- figures are told, and one more used where its index is written.
abbrev pub ring_after : Kind → Virtqueue → List Access → Virtqueue
ring_after kind r [] = r
ring_after kind r (ReadWord at answer ∷ xs) = ring_after kind r xs
ring_after kind r (CopyBytes at answer ∷ xs) = ring_after kind r xs
ring_after kind r (Acquire ∷ xs) = ring_after kind r xs
ring_after kind r (Release ∷ xs) = ring_after kind r xs
ring_after kind r (Full ∷ xs) = ring_after kind r xs
ring_after kind r (TellPages of runs named ∷ xs) =
    with_taken_if (is_whole (known kind xs)) (ring_after kind r xs)
ring_after kind r (TellFigures figures ∷ xs) = with_taken (ring_after kind r xs)
ring_after kind r (TellId id ∷ xs) = with_taken (ring_after kind r xs)
ring_after kind r (Pause ∷ xs) = ring_after kind r xs
ring_after kind r (Discard cut ∷ xs) = ring_after kind r xs
ring_after kind r (WriteNumber at number ∷ xs) = ring_after kind r xs
ring_after kind r (WriteWord at word ∷ xs) = with_used (ring_after kind r xs)

-- The index that was read, or else the word that this access reads.
abbrev pub earlier : Option ℕ → Access → Option ℕ
earlier (Some index) x = Some index
earlier None (ReadWord at answer) = Some answer
earlier None (CopyBytes at answer) = None
earlier None Acquire = None
earlier None Release = None
earlier None Full = None
earlier None (TellPages kind runs named) = None
earlier None (TellFigures figures) = None
earlier None (TellId id) = None
earlier None Pause = None
earlier None (Discard cut) = None
earlier None (WriteNumber at number) = None
earlier None (WriteWord at word) = None

-- The available index: the word that was read first.
abbrev pub index_read : List Access → Option ℕ
index_read [] = None
index_read (x ∷ xs) = earlier (index_read xs) x

-- ---- what is left to discard

abbrev pub without_first : List Cut → List Cut
without_first [] = []
without_first (cut ∷ cuts) = cuts

-- The parts of the pages that were told last that are still to be discarded, where pages are kept,
-- or not.
abbrev pub left : Bool → List Region → List Access → List Cut
left kept regions [] = []
left kept regions (ReadWord at answer ∷ xs) = left kept regions xs
left kept regions (CopyBytes at answer ∷ xs) = left kept regions xs
left kept regions (Acquire ∷ xs) = left kept regions xs
left kept regions (Release ∷ xs) = left kept regions xs
left kept regions (Full ∷ xs) = left kept regions xs
left kept regions (TellPages kind runs named ∷ xs) = cuts_for kind kept regions runs
left kept regions (TellFigures figures ∷ xs) = left kept regions xs
left kept regions (TellId id ∷ xs) = left kept regions xs
left kept regions (Pause ∷ xs) = left kept regions xs
left kept regions (Discard cut ∷ xs) = without_first (left kept regions xs)
left kept regions (WriteNumber at number ∷ xs) = left kept regions xs
left kept regions (WriteWord at word ∷ xs) = left kept regions xs

-- ---- what was told

-- How many pages were told since an entry was read, as far as 32 bits count them.
abbrev pub pages_told : List Access → ℕ
pages_told [] = 0
pages_told (ReadWord at answer ∷ xs) = 0
pages_told (CopyBytes at answer ∷ xs) = pages_told xs
pages_told (Acquire ∷ xs) = pages_told xs
pages_told (Release ∷ xs) = pages_told xs
pages_told (Full ∷ xs) = pages_told xs
pages_told (TellPages kind runs named ∷ xs) = more_told (pages_told xs) named.pages
pages_told (TellFigures figures ∷ xs) = pages_told xs
pages_told (TellId id ∷ xs) = pages_told xs
pages_told (Pause ∷ xs) = pages_told xs
pages_told (Discard cut ∷ xs) = pages_told xs
pages_told (WriteNumber at number ∷ xs) = pages_told xs
pages_told (WriteWord at word ∷ xs) = pages_told xs

-- ---- the round of hints

-- A round once this access came: an id that is told opens it or closes it.
abbrev pub hears : Access → Round → Round
hears (TellId id) r = heard id r
hears Pause r = r
hears (ReadWord at answer) r = r
hears (CopyBytes at answer) r = r
hears Acquire r = r
hears Release r = r
hears Full r = r
hears (TellPages kind runs named) r = r
hears (TellFigures figures) r = r
hears (Discard cut) r = r
hears (WriteNumber at number) r = r
hears (WriteWord at word) r = r

-- A device's round once these accesses came, of which the last one is first.
abbrev pub round_so_far : Round → List Access → Round
round_so_far r [] = r
round_so_far r (x ∷ xs) = hears x (round_so_far r xs)
