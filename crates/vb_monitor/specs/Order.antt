-- What comes directly after what in a list of accesses.
use Rattle.std.specs.Prelude.{◌≡◌, Bool, true, false, ◌||◌, List, [], ◌∷◌, Option, Some, None}
use Rattle.vb_monitor.specs.Accesses.{Access, ReadWord, CopyBytes, Acquire, Release, Full}
use Rattle.vb_monitor.specs.Accesses.{TellPages, TellFigures, TellId, Pause, Discard, WriteNumber}
use Rattle.vb_monitor.specs.Accesses.{WriteWord}

-- Each access of a list may come directly after the one before it, the first after this one.
abbrev pub Row : (Option Access → Access → Type 0) → Option Access → List Access → Type 0
Row may before [] = Unit {0}
Row may before (x ∷ xs) = may before x × Row may (Some x) xs

-- ---- what comes before

-- Bytes were copied.
abbrev pub is_copied : Option Access → Bool
is_copied (Some (CopyBytes at answer)) = true
is_copied None = false
is_copied (Some (ReadWord at answer)) = false
is_copied (Some Acquire) = false
is_copied (Some Release) = false
is_copied (Some Full) = false
is_copied (Some (TellPages kind runs named)) = false
is_copied (Some (TellFigures figures)) = false
is_copied (Some (TellId id)) = false
is_copied (Some Pause) = false
is_copied (Some (Discard cut)) = false
is_copied (Some (WriteNumber at number)) = false
is_copied (Some (WriteWord at word)) = false

-- A word was read or written.
abbrev pub is_word : Option Access → Bool
is_word (Some (ReadWord at answer)) = true
is_word (Some (WriteWord at word)) = true
is_word None = false
is_word (Some (CopyBytes at answer)) = false
is_word (Some Acquire) = false
is_word (Some Release) = false
is_word (Some Full) = false
is_word (Some (TellPages kind runs named)) = false
is_word (Some (TellFigures figures)) = false
is_word (Some (TellId id)) = false
is_word (Some Pause) = false
is_word (Some (Discard cut)) = false
is_word (Some (WriteNumber at number)) = false

-- A word or bytes were read, or the notice paused before it reads more.
abbrev pub is_read : Option Access → Bool
is_read (Some (ReadWord at answer)) = true
is_read (Some (CopyBytes at answer)) = true
is_read None = false
is_read (Some Acquire) = false
is_read (Some Release) = false
is_read (Some Full) = false
is_read (Some (TellPages kind runs named)) = false
is_read (Some (TellFigures figures)) = false
is_read (Some (TellId id)) = false
is_read (Some Pause) = true
is_read (Some (Discard cut)) = false
is_read (Some (WriteNumber at number)) = false
is_read (Some (WriteWord at word)) = false

-- Pages were told, or some of them discarded.
abbrev pub is_told : Option Access → Bool
is_told (Some (TellPages kind runs named)) = true
is_told (Some (Discard cut)) = true
is_told None = false
is_told (Some (ReadWord at answer)) = false
is_told (Some (CopyBytes at answer)) = false
is_told (Some Acquire) = false
is_told (Some Release) = false
is_told (Some Full) = false
is_told (Some (TellFigures figures)) = false
is_told (Some (TellId id)) = false
is_told (Some Pause) = false
is_told (Some (WriteNumber at number)) = false
is_told (Some (WriteWord at word)) = false

-- Pages or an id were told, some pages discarded, or a number of a used element was written.
abbrev pub is_named : Option Access → Bool
is_named (Some (TellPages kind runs named)) = true
is_named (Some (Discard cut)) = true
is_named (Some (WriteNumber at number)) = true
is_named None = false
is_named (Some (ReadWord at answer)) = false
is_named (Some (CopyBytes at answer)) = false
is_named (Some Acquire) = false
is_named (Some Release) = false
is_named (Some Full) = false
is_named (Some (TellFigures figures)) = false
is_named (Some (TellId id)) = true
is_named (Some Pause) = false
is_named (Some (WriteWord at word)) = false

-- A number was written.
abbrev pub is_number : Option Access → Bool
is_number (Some (WriteNumber at number)) = true
is_number None = false
is_number (Some (ReadWord at answer)) = false
is_number (Some (CopyBytes at answer)) = false
is_number (Some Acquire) = false
is_number (Some Release) = false
is_number (Some Full) = false
is_number (Some (TellPages kind runs named)) = false
is_number (Some (TellFigures figures)) = false
is_number (Some (TellId id)) = false
is_number (Some Pause) = false
is_number (Some (Discard cut)) = false
is_number (Some (WriteWord at word)) = false

-- ---- the order

-- Bytes are copied directly after what was read, or after pages of a portion that were told or
-- discarded, or after a pause, which is directly after such pages. Pages, figures and ids are told
-- directly after bytes that were copied. Pages are discarded directly after pages that were told or
-- discarded, and an element's numbers are written directly after these, or after an id; after them
-- a release fence, and directly after that the index. An acquire fence is directly after a word
-- that was read, or after an index that was written.
abbrev pub MayFollow : Option Access → Access → Type 0
MayFollow before (ReadWord at answer) = Unit {0}
MayFollow before (CopyBytes at answer) = (is_read before || is_told before) ≡ true
MayFollow before Acquire = is_word before ≡ true
MayFollow before Release = is_number before ≡ true
MayFollow before Full = Unit {0}
MayFollow before (TellPages kind runs named) = is_copied before ≡ true
MayFollow before (TellFigures figures) = is_copied before ≡ true
MayFollow before (TellId id) = is_copied before ≡ true
MayFollow before Pause = is_told before ≡ true
MayFollow before (Discard cut) = is_told before ≡ true
MayFollow before (WriteNumber at number) = is_named before ≡ true
MayFollow before (WriteWord at word) = before ≡ Some Release
