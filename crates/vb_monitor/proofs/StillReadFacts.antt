-- What memory has, and memory that stays as it is while it is read, worked out.
use Rattle.std.proofs.Common.{◌≡◌, refl, ap, arith, length, ℕ, false, true, List, [], ◌∷◌}
use Rattle.std.specs.List.{AllByRecursion}
use Rattle.vb_monitor.specs.declared.regions.Region.{Region}
use Rattle.vb_monitor.specs.Accesses.{Access, ReadWord, CopyBytes, Acquire, Release, Full}
use Rattle.vb_monitor.specs.Accesses.{TellPages, TellFigures, TellId, Pause, Discard, WriteNumber, WriteWord}
use Rattle.vb_monitor.specs.Still.{bytes_from, bytes_of, Holds, StaysUntil, AreThese}
use Rattle.vb_monitor.proofs.Samples.{Same, two, at, index, discard, pages}

-- each byte is the lowest of its address; all are 0
abbrev pub own : ℕ → ℕ
own a = a

abbrev pub zeros : ℕ → ℕ
zeros a = 0

-- ---- what memory has

three : bytes_from own 5 3 ≡ 5 ∷ 6 ∷ 7 ∷ []
three = refl

none : bytes_from own 5 0 ≡ []
none = refl

one_after_the_other : bytes_of own (record { addr = 5; len = 2; writable = false }
    ∷ record { addr = 9; len = 1; writable = true } ∷ []) ≡ 5 ∷ 6 ∷ 9 ∷ []
one_after_the_other = refl

-- ---- what is read

zero_is_read : Holds zeros two (ReadWord (at 0x102) 0)
zero_is_read = λ a e. refl

zeros_are_copied : Holds zeros two (CopyBytes (at 0x400) (0 ∷ 0 ∷ []))
zeros_are_copied = λ a e. refl

another_word : Holds zeros two (ReadWord (at 0x102) 1) → ⊥
another_word h = let e : Same 1 0 = h 0x102 refl in omega arith

-- lowest byte first, of the address that the guest has
first_low : Holds own two (ReadWord (at 0x10) 0x1011) → ⊥
first_low h = let e : Same 0x1011 0x1110 = h 0x10 refl in omega arith

abbrev first_of : List ℕ → ℕ
first_of [] = 9
first_of (n ∷ ns) = n

abbrev second_of : List ℕ → ℕ
second_of [] = 9
second_of (n ∷ ns) = first_of ns

another_byte : Holds zeros two (CopyBytes (at 0x400) (0 ∷ 7 ∷ [])) → ⊥
another_byte h = let e : Same 7 0 = ap second_of (h 0x400 refl) in omega arith

-- the rest of a list, and no other one; any rest
abbrev pub Rest : List Access → Type 0
Rest rest = rest ≡ discard ∷ []

abbrev pub Any : List Access → Type 0
Any rest = Unit {0}

-- each read up to the first other access; the accesses from that one on, whatever they read
until_the_discard : StaysUntil Rest zeros two (ReadWord (at 0x102) 0 ∷ Acquire ∷ discard ∷ [])
until_the_discard = (λ a e. refl, (tt, refl))

changed_once_pages_were_told : StaysUntil Any zeros two (ReadWord (at 0x102) 0 ∷ pages ∷ index ∷ [])
changed_once_pages_were_told = (λ a e. refl, tt)

changed_before_pages_are_told : StaysUntil Any zeros two (index ∷ pages ∷ []) → ⊥
changed_before_pages_are_told h = let e : Same 1 0 = h.0 0x102 refl in omega arith

changed_after_the_first_read : StaysUntil Any zeros two (ReadWord (at 0x102) 0 ∷ Acquire ∷ index ∷ pages ∷ []) → ⊥
changed_after_the_first_read h = let e : Same 1 0 = h.1.1.0 0x102 refl in omega arith

changed_bytes : StaysUntil Any zeros two (CopyBytes (at 0x400) (0 ∷ 7 ∷ []) ∷ pages ∷ []) → ⊥
changed_bytes h = let e : Same 7 0 = ap second_of (h.0 0x400 refl) in omega arith

-- where no other access comes, all reads
the_last_one_too : StaysUntil Any zeros two (Acquire ∷ index ∷ []) → ⊥
the_last_one_too h = let e : Same 1 0 = h.1.0 0x102 refl in omega arith

other_accesses_then : StaysUntil Rest zeros two (ReadWord (at 0x102) 0 ∷ pages ∷ discard ∷ []) → ⊥
other_accesses_then h = let e = ap (λ (l : List Access). length l) h.1 in absurd cc

none_then : StaysUntil Rest zeros two (ReadWord (at 0x102) 0 ∷ []) → ⊥
none_then h = let e = ap (λ (l : List Access). length l) h.1 in absurd cc

-- a fence that publishes, and each that the monitor or memory is asked to do
abbrev From : Access → Type 1
From x = (onward : List Access → Type 0) (byte : ℕ → ℕ) (regions : List Region)
    (xs : List Access) → StaysUntil onward byte regions (x ∷ xs) ≡ onward (x ∷ xs)

from_a_release : From Release
from_a_release onward byte regions xs = refl

from_a_full_fence : From Full
from_a_full_fence onward byte regions xs = refl

from_pages : From pages
from_pages onward byte regions xs = refl

from_figures : From (TellFigures [])
from_figures onward byte regions xs = refl

from_a_discard : From discard
from_a_discard onward byte regions xs = refl

from_a_number : From (WriteNumber (at 0x102) 3)
from_a_number onward byte regions xs = refl

from_an_index : From (WriteWord (at 0x102) 3)
from_an_index onward byte regions xs = refl

-- memory that stays for all of a notice is one that stays until any access, and stays from there on
abbrev All : (ℕ → ℕ) → List Region → List Access → Type 0
All byte regions log = AllByRecursion (Holds byte regions) log

all_of_it : (byte : ℕ → ℕ) (regions : List Region) (log : List Access) → All byte regions log →
    StaysUntil (All byte regions) byte regions log
all_of_it byte regions [] h = h
all_of_it byte regions (ReadWord spot answer ∷ xs) h = (h.0, all_of_it byte regions xs h.1)
all_of_it byte regions (CopyBytes spot answer ∷ xs) h = (h.0, all_of_it byte regions xs h.1)
all_of_it byte regions (Acquire ∷ xs) h = (h.0, all_of_it byte regions xs h.1)
all_of_it byte regions (Release ∷ xs) h = h
all_of_it byte regions (Full ∷ xs) h = h
all_of_it byte regions (TellPages kind runs named ∷ xs) h = h
all_of_it byte regions (TellFigures figures ∷ xs) h = h
all_of_it byte regions (TellId id ∷ xs) h = h
all_of_it byte regions (Pause ∷ xs) h = h
all_of_it byte regions (Discard cut ∷ xs) h = h
all_of_it byte regions (WriteNumber spot number ∷ xs) h = h
all_of_it byte regions (WriteWord spot word ∷ xs) h = h

and_back : (byte : ℕ → ℕ) (regions : List Region) (log : List Access) →
    StaysUntil (All byte regions) byte regions log → All byte regions log
and_back byte regions [] h = h
and_back byte regions (ReadWord spot answer ∷ xs) h = (h.0, and_back byte regions xs h.1)
and_back byte regions (CopyBytes spot answer ∷ xs) h = (h.0, and_back byte regions xs h.1)
and_back byte regions (Acquire ∷ xs) h = (h.0, and_back byte regions xs h.1)
and_back byte regions (Release ∷ xs) h = h
and_back byte regions (Full ∷ xs) h = h
and_back byte regions (TellPages kind runs named ∷ xs) h = h
and_back byte regions (TellFigures figures ∷ xs) h = h
and_back byte regions (TellId id ∷ xs) h = h
and_back byte regions (Pause ∷ xs) h = h
and_back byte regions (Discard cut ∷ xs) h = h
and_back byte regions (WriteNumber spot number ∷ xs) h = h
and_back byte regions (WriteWord spot word ∷ xs) h = h

-- whatever holds of the accesses that come then holds of these accesses
pub record Then (onward : List Access → Type 0) (byte : ℕ → ℕ) (regions : List Region)
    (log : List Access) : Type 0 where
  pub rest : List Access
  pub is : onward rest
  pub until : StaysUntil (AreThese rest) byte regions log

apart : (onward : List Access → Type 0) (byte : ℕ → ℕ) (regions : List Region)
    (log : List Access) → StaysUntil onward byte regions log → Then onward byte regions log
apart onward byte regions [] h = record { rest = []; is = h; until = refl }
apart onward byte regions (ReadWord spot answer ∷ xs) h =
    let then_so = apart onward byte regions xs h.1 in
    record { rest = then_so.rest; is = then_so.is; until = (h.0, then_so.until) }
apart onward byte regions (CopyBytes spot answer ∷ xs) h =
    let then_so = apart onward byte regions xs h.1 in
    record { rest = then_so.rest; is = then_so.is; until = (h.0, then_so.until) }
apart onward byte regions (Acquire ∷ xs) h =
    let then_so = apart onward byte regions xs h.1 in
    record { rest = then_so.rest; is = then_so.is; until = (tt, then_so.until) }
apart onward byte regions (Release ∷ xs) h = record { rest = Release ∷ xs; is = h; until = refl }
apart onward byte regions (Full ∷ xs) h = record { rest = Full ∷ xs; is = h; until = refl }
apart onward byte regions (TellPages kind runs named ∷ xs) h =
    record { rest = TellPages kind runs named ∷ xs; is = h; until = refl }
apart onward byte regions (TellFigures figures ∷ xs) h =
    record { rest = TellFigures figures ∷ xs; is = h; until = refl }
apart onward byte regions (TellId id ∷ xs) h =
    record { rest = TellId id ∷ xs; is = h; until = refl }
apart onward byte regions (Pause ∷ xs) h =
    record { rest = Pause ∷ xs; is = h; until = refl }
apart onward byte regions (Discard cut ∷ xs) h =
    record { rest = Discard cut ∷ xs; is = h; until = refl }
apart onward byte regions (WriteNumber spot number ∷ xs) h =
    record { rest = WriteNumber spot number ∷ xs; is = h; until = refl }
apart onward byte regions (WriteWord spot word ∷ xs) h =
    record { rest = WriteWord spot word ∷ xs; is = h; until = refl }

-- so the laws hold of memory that stays as it is for all of a notice
for_all_of_it : (byte : ℕ → ℕ) (regions : List Region) (log : List Access) →
    All byte regions log → Then (All byte regions) byte regions log
for_all_of_it byte regions log h =
    apart (All byte regions) byte regions log (all_of_it byte regions log h)
