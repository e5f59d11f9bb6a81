-- The portions of a request, where memory stays as it is.
use Rattle.std.proofs.Common.{◌≡◌, ◌≢◌, ◌∙◌, ap, sym, subst, refl, arith, ℕ, zero, suc, ◌+◌, ◌-◌, ◌%◌}
use Rattle.std.proofs.Common.{◌<◌, ◌≤◌, Bool, true, false, List, [], ◌∷◌, ◌++◌, length, take, drop, Option, Some}
use Rattle.std.{proofs.Common.{None, Result, Ok, Err}, specs.Prelude.{◌==◌, if◌then◌else◌}}
use Rattle.std.proofs.{lemmas.List.{append_assoc, append-nil, length-append}, Math.Seq.{take-append_seam, drop-append_seam}}
use Rattle.std.proofs.lemmas.{Bool.Decides.nat_tests, List.FromFn.length-map-range_with_len}
use Rattle.vb_chain.{specs.declared.pieces.Piece.Piece, specs.declared.fault.ChainFault.ChainFault}
use Rattle.vb_core.specs.declared.kinds.Kind.TheVariants.{Inflate, Deflate, Statistics, Hint, Report}
use Rattle.vb_core.{specs.declared.kinds.Kind.Kind, specs.declared.device.Device.Device}
use Rattle.vb_monitor.specs.declared.{parts.Part.Part, regions.Spot.Spot, outcome.Tally.Tally}
use Rattle.vb_monitor.specs.{declared.room.TheConstants.MAX_BYTES, Regions.spot, Accesses.Access}
use Rattle.vb_monitor.specs.{Accesses.CopyBytes, Ends.Whole}
use Rattle.vb_monitor.specs.Pieces.{next_part, parts_of, parts_on, all_parts, PartAt}
use Rattle.vb_monitor.specs.Portions.{CopiesPart, CopiesParts, CopiesFurther, GoesFurther, ServesPortion}
use Rattle.vb_monitor.specs.Chains.{ServesBytes, ServesPieces, CopiesBy}
use Rattle.vb_monitor.specs.{Giving.Then, Machine.{next_chain, serves, served}}
use Rattle.vb_monitor.specs.Still.{ArePartsMapped, Holds, is_read, length_of}
use Rattle.vb_monitor.specs.Still.{StaysUntil, AfterReads, in_portion, AreInPortions, ServesFirst}
use Rattle.vb_monitor.proofs.StillWalk.{copied_as}
use Rattle.vb_monitor.proofs.StillParts.{part_bytes, parts_bytes, copies}
use Rattle.vb_monitor.proofs.PartCosts.{AreSome}
use Rattle.vb_monitor.proofs.PartLemmas.{no_parts, more_parts, some_bytes, few_bytes}

abbrev Does : Type 1
Does = Device → Tally → List ℕ → List Access → Type 0

-- ---- each part of a chain is in its portion

-- n bytes of a portion were copied, where `into` bytes of the chain were
abbrev Alike : ℕ → ℕ → Type 0
Alike n into = in_portion n ≡ into % MAX_BYTES

next_alike : (b : Bool) (n m into len : ℕ) → (n + len == 1024) ≡ b → n ≡ into % 1024 → n + len ≤ 1024 →
    (if b then 0 else n + len) ≡ (into + len) % 1024
next_alike true n m into len e is le =
    let full : n + len ≡ 1024 = grind (arith, nat_tests) in omega (arith, full, is)
next_alike false n m into len e is le =
    let some : n + len < 1024 = grind (arith, nat_tests) in omega (arith, some, is)

fits_portion : (p : Piece) (done into : ℕ) → into % MAX_BYTES + (next_part p done into).length ≤ MAX_BYTES
fits_portion p done into = omega arith

in_by : (b : Bool) (k : ℕ) (p : Piece) (done into n : ℕ) (rest : List Part)
    (on : (d i m : ℕ) → p.len - d ≤ k → Alike m i →
    ((m2 : ℕ) → Alike m2 (i + (p.len - d)) → AreInPortions m2 rest) →
    AreInPortions m (parts_of k p d i ++ rest)) →
    (p.len - done == 0) ≡ b → p.len - done ≤ suc k → Alike n into →
    ((m : ℕ) → Alike m (into + (p.len - done)) → AreInPortions m rest) →
    AreInPortions n (parts_of (suc k) p done into ++ rest)
in_by true k p done into n rest on e le is then_in =
    let none : p.len - done ≡ 0 = grind (arith, nat_tests) in
    let same : into + (p.len - done) ≡ into = omega (arith, none) in
    subst (λ (l : List Part). AreInPortions n (l ++ rest))
    (sym (no_parts (suc k) p done into (omega (arith, none))))
    (then_in n (is ∙ ap (λ (i : ℕ). i % MAX_BYTES) (sym same)))
in_by false k p done into n rest on e le is then_in =
    let lt : done < p.len = grind (arith, nat_tests) in
    let part = next_part p done into in
    let some = some_bytes p done into lt in
    let few = few_bytes p done into lt in
    let fits : in_portion n + part.length ≤ MAX_BYTES =
    subst (λ (x : ℕ). x + part.length ≤ MAX_BYTES) (sym is) (fits_portion p done into) in
    let ends : into + (p.len - done) ≡
    (into + part.length) + (p.len - (done + part.length)) = omega (arith, few) in
    subst (λ (l : List Part). AreInPortions n (l ++ rest)) (sym (more_parts k p done into lt)) (
      some,
      fits,
      on (done + part.length) (into + part.length) (in_portion n + part.length)
          (omega (arith, le, some))
          (next_alike (in_portion n + part.length == 1024) (in_portion n) 0 into part.length refl is fits)
          (λ m h. then_in m (h ∙ ap (λ (i : ℕ). i % MAX_BYTES) (sym ends))),
    )

in_piece : (k : ℕ) (p : Piece) (done into n : ℕ) (rest : List Part) → p.len - done ≤ k → Alike n into →
    ((m : ℕ) → Alike m (into + (p.len - done)) → AreInPortions m rest) →
    AreInPortions n (parts_of k p done into ++ rest)
in_piece zero p done into n rest le is then_in =
    let same : into ≡ into + (p.len - done) = omega (arith, le) in
    then_in n (is ∙ ap (λ (i : ℕ). i % MAX_BYTES) same)
in_piece (suc k) p done into n rest le is then_in = in_by (p.len - done == 0) k p done into n rest
    (λ d i m x y z. in_piece k p d i m rest x y z) refl le is then_in

in_pieces : (ps : List Piece) (into n : ℕ) → Alike n into → AreInPortions n (parts_on into 0 ps)
in_pieces [] into n is = tt
in_pieces (p ∷ ps) into n is = in_piece (p.len - 0) p 0 into n (parts_on (into + (p.len - 0)) 0 ps)
    (omega arith) is (λ m h. in_pieces ps (into + (p.len - 0)) m h)

pub in_portions : (ps : List Piece) → AreInPortions 0 (all_parts ps)
in_portions ps = in_pieces ps 0 0 refl

-- ---- one portion

some_of : (n : ℕ) (parts : List Part) → AreInPortions n parts → AreSome parts
some_of n [] h = tt
some_of n (part ∷ parts) h = (h.0, some_of (in_portion n + part.length) parts h.2)

-- the first portion, some bytes of which were copied
record First (still : List Access → Type 0) (byte : ℕ → ℕ) (w : Whole) (does : Does) (d : Device)
    (t : Tally) (parts : List Part) (all : List ℕ) (log : List Access) : Type 0 where
  count : ℕ
  left : parts_bytes byte (drop count parts) ≡ drop MAX_BYTES all
  portions : AreInPortions 0 (drop count parts)
  serves_so : AfterReads still (ServesPortion w.kind w
      (λ d2 t2 rest. GoesFurther w does d2 (drop count parts) t2 rest) d t (take MAX_BYTES all)) log

abbrev Firsts : (List Access → Type 0) → (ℕ → ℕ) → Whole → Does → Device → Tally → List Part → Type 0
Firsts still byte w does d t parts = (now : List ℕ) (l : List Access) → length now ≤ MAX_BYTES →
    AreInPortions (length now) parts → MAX_BYTES < length (now ++ parts_bytes byte parts) → still l →
    CopiesParts w does d t parts now l → First still byte w does d t parts (now ++ parts_bytes byte parts) l

-- a part that is copied belongs to it
with_part : (onward : List Access → Type 0) (byte : ℕ → ℕ) (w : Whole) (does : Does) (d : Device)
    (t : Tally) (part : Part) (parts : List Part) (so_far : List ℕ) (o : Option Spot)
    (log : List Access) (on : Firsts (StaysUntil onward byte w.regions) byte w does d t parts) →
    spot w.regions (part.address + part.plus) part.length ≡ o → o ≢ None →
    length so_far + part.length ≤ MAX_BYTES → AreInPortions (length so_far + part.length) parts →
    MAX_BYTES < length (so_far ++ (part_bytes byte part ++ parts_bytes byte parts)) →
    StaysUntil onward byte w.regions log →
    PartAt w (CopiesParts w does d t parts) d t part so_far o log →
    First (StaysUntil onward byte w.regions) byte w does d t (part ∷ parts)
    (so_far ++ (part_bytes byte part ++ parts_bytes byte parts)) log
with_part onward byte w does d t part parts so_far None log on e mapped fits more long stays h =
    absurd (mapped refl)
with_part onward byte w does d t part parts so_far (Some at) log on e mapped fits more long stays h =
    let all : Holds byte w.regions (CopyBytes at h.bytes) × StaysUntil onward byte w.regions h.rest
    =
    subst (λ (l : List Access). StaysUntil onward byte w.regions l) h.asks stays in
    let same : h.bytes ≡ part_bytes byte part =
    copied_as byte w.regions (part.address + part.plus) part.length at h.bytes all.0 e h.long in
    let here = part_bytes byte part in
    let joined : (so_far ++ here) ++ parts_bytes byte parts ≡ so_far ++ (here ++ parts_bytes byte parts) =
    append_assoc so_far here (parts_bytes byte parts) in
    let count : length (so_far ++ here) ≡ length so_far + part.length =
    length-append so_far here ∙ ap (λ (n : ℕ). length so_far + n)
    (length-map-range_with_len byte (part.address + part.plus) part.length) in
    let after = on (so_far ++ here) h.rest (subst (λ (n : ℕ). n ≤ MAX_BYTES) (sym count) fits)
    (subst (λ (n : ℕ). AreInPortions n parts) (sym count) more)
    (subst (λ (l : List ℕ). MAX_BYTES < length l) (sym joined) long) all.1
    (subst (λ (l : List ℕ). CopiesParts w does d t parts (so_far ++ l) h.rest) same h.goes_on) in
    record {
      count = suc after.count;
      left = after.left ∙ ap (λ (l : List ℕ). drop MAX_BYTES l) joined;
      portions = after.portions;
      serves_so = record {
        read = CopyBytes at h.bytes ∷ after.serves_so.read;
        rest = after.serves_so.rest;
        all = h.asks ∙ ap (λ (l : List Access). CopyBytes at h.bytes ∷ l) after.serves_so.all;
        is = subst (λ (l : List ℕ). ServesPortion w.kind w (λ d2 t2 rest. GoesFurther w does d2
            (drop after.count parts) t2 rest) d t (take MAX_BYTES l) after.serves_so.rest) joined
            after.serves_so.is;
        still_so = after.serves_so.still_so;
      };
    }

part_or : (b : Bool) (onward : List Access → Type 0) (byte : ℕ → ℕ) (w : Whole) (does : Does)
    (d : Device) (t : Tally) (part : Part) (parts : List Part) (so_far : List ℕ)
    (log : List Access) (on : Firsts (StaysUntil onward byte w.regions) byte w does d t parts) →
    (length so_far == MAX_BYTES) ≡ b → ArePartsMapped w.regions (part ∷ parts) →
    length so_far ≤ MAX_BYTES → AreInPortions (length so_far) (part ∷ parts) →
    MAX_BYTES < length (so_far ++ (part_bytes byte part ++ parts_bytes byte parts)) →
    StaysUntil onward byte w.regions log →
    CopiesPart b w (λ d2 t2 now rest. PartAt w (CopiesParts w does d2 t2 parts) d2 t2 part now
    (spot w.regions (part.address + part.plus) part.length) rest) d t so_far log →
    First (StaysUntil onward byte w.regions) byte w does d t (part ∷ parts)
    (so_far ++ (part_bytes byte part ++ parts_bytes byte parts)) log
part_or true onward byte w does d t part parts so_far log on e mapped room fits long stays h =
    let full : length so_far ≡ MAX_BYTES = grind (arith, nat_tests) in
    let rest = part_bytes byte part ++ parts_bytes byte parts in
    record {
      count = 0;
      left = sym (ap (λ (n : ℕ). drop n (so_far ++ rest)) (sym full) ∙ drop-append_seam so_far rest);
      portions = subst (λ (n : ℕ). (1 ≤ part.length) × (n + part.length ≤ MAX_BYTES) ×
          AreInPortions (n + part.length) parts)
          (ap (λ (x : Bool). if x then 0 else length so_far) e) fits;
      serves_so = record {
        read = [];
        rest = log;
        all = refl;
        is = subst (λ (l : List ℕ). ServesPortion w.kind w (λ d2 t2 l2. GoesFurther w does d2
            (part ∷ parts) t2 l2) d t l log)
            (sym (ap (λ (n : ℕ). take n (so_far ++ rest)) (sym full) ∙ take-append_seam so_far rest)) h;
        still_so = stays;
      };
    }
part_or false onward byte w does d t part parts so_far log on e mapped room fits long stays h =
    let same : in_portion (length so_far) ≡ length so_far =
    ap (λ (x : Bool). if x then 0 else length so_far) e in
    with_part onward byte w does d t part parts so_far _ log on refl mapped.0
    (subst (λ (n : ℕ). n + part.length ≤ MAX_BYTES) same fits.1)
    (subst (λ (n : ℕ). AreInPortions (n + part.length) parts) same fits.2) long stays h

first_from : (onward : List Access → Type 0) (byte : ℕ → ℕ) (w : Whole) (does : Does) (d : Device)
    (t : Tally) (parts : List Part) → ArePartsMapped w.regions parts →
    Firsts (StaysUntil onward byte w.regions) byte w does d t parts
first_from onward byte w does d t [] mapped now l room fits long stays h =
    let all : length (now ++ []) ≡ length now = ap (λ (x : List ℕ). length x) (append-nil now) in
    absurd (omega (arith, room, long, all))
first_from onward byte w does d t (part ∷ parts) mapped now l room fits long stays h =
    part_or (length now == MAX_BYTES) onward byte w does d t part parts now l
    (first_from onward byte w does d t parts mapped.1) refl mapped room fits long stays h

-- ---- the laws

further_copies : (w : Whole) (does : Does) (d : Device) (t : Tally) (parts : List Part)
    (log : List Access) → parts ≢ [] → CopiesFurther w does d t parts log →
    CopiesParts w does d t parts [] log
further_copies w does d t [] log some h = absurd (some refl)
further_copies w does d t (part ∷ parts) log some h = h

long_some : (byte : ℕ → ℕ) (parts : List Part) → MAX_BYTES < length (parts_bytes byte parts) →
    parts ≢ []
long_some byte [] lt e = absurd (omega (arith, lt))
long_some byte (part ∷ parts) lt e = absurd cc

pub serves_first : (onward : List Access → Type 0) (byte : ℕ → ℕ) (w : Whole) (does : Does)
    (d : Device) (t : Tally) (parts : List Part) (log : List Access) → AreInPortions 0 parts →
    ArePartsMapped w.regions parts → MAX_BYTES < length (parts_bytes byte parts) →
    StaysUntil onward byte w.regions log → CopiesFurther w does d t parts log →
    ServesFirst (StaysUntil onward byte w.regions) byte w does d t parts log
serves_first onward byte w does d t parts log fits mapped long stays h =
    let is = first_from onward byte w does d t parts mapped [] log (omega arith) fits long stays
    (further_copies w does d t parts log (long_some byte parts long) h) in
    record { count = is.count; left = is.left; portions = is.portions; serves_so = is.serves_so }

pub serves_last : (onward : List Access → Type 0) (byte : ℕ → ℕ) (w : Whole) (does : Does)
    (d : Device) (t : Tally) (parts : List Part) (log : List Access) → parts ≢ [] →
    AreInPortions 0 parts → ArePartsMapped w.regions parts →
    length (parts_bytes byte parts) ≤ MAX_BYTES → StaysUntil onward byte w.regions log →
    CopiesFurther w does d t parts log →
    AfterReads (StaysUntil onward byte w.regions) (does d t (parts_bytes byte parts)) log
serves_last onward byte w does d t parts log some fits mapped room stays h =
    copies onward byte w does d t parts [] log (some_of 0 parts fits) mapped room stays
    (further_copies w does d t parts log some h)

-- a chain of some bytes is copied from its first part on
by_length : (o : Result ℕ ChainFault) (n : ℕ) (w : Whole) (next : Then) (d : Device) (t : Tally)
    (head : ℕ) (pieces : List Piece) (log : List Access) → o ≡ Ok n → all_parts pieces ≢ [] →
    CopiesBy o w next d t head pieces log →
    CopiesFurther w (ServesBytes w next head) d t (all_parts pieces) log
by_length (Err fault) n w next d t head pieces log e some h = absurd cc
by_length (Ok m) n w next d t head pieces log e some h =
    copies_further w (ServesBytes w next head) d t (all_parts pieces) log some h
  where
    copies_further : (w : Whole) (does : Does) (d : Device) (t : Tally) (parts : List Part)
        (log : List Access) → parts ≢ [] → CopiesParts w does d t parts [] log →
        CopiesFurther w does d t parts log
    copies_further w does d t [] log some h = absurd (some refl)
    copies_further w does d t (part ∷ parts) log some h = h

begins_by : (kind : Kind) (n : ℕ) (w : Whole) (next : Then) (d : Device) (t : Tally) (head : ℕ)
    (pieces : List Piece) (log : List Access) → is_read kind ≡ true →
    length_of kind t.longest pieces ≡ Ok n → all_parts pieces ≢ [] →
    ServesPieces kind w next d t head pieces log →
    CopiesFurther w (ServesBytes w next head) d t (all_parts pieces) log
begins_by Inflate n w next d t head pieces log read e some h = by_length _ n w next d t head pieces log e some h
begins_by Deflate n w next d t head pieces log read e some h = by_length _ n w next d t head pieces log e some h
begins_by Statistics n w next d t head pieces log read e some h = by_length _ n w next d t head pieces log e some h
begins_by Hint n w next d t head pieces log read e some h = absurd cc
begins_by Report n w next d t head pieces log read e some h = absurd cc

pub serves_begin : (w : Whole) (t : Tally) (d : Device) (head : ℕ) (pieces : List Piece) (n : ℕ)
    (log : List Access) → is_read w.kind ≡ true → length_of w.kind t.longest pieces ≡ Ok n →
    all_parts pieces ≢ [] → serves w t d head pieces log →
    CopiesFurther w (served w t head) d t (all_parts pieces) log
serves_begin w t d head pieces n log read e some h =
    begins_by w.kind n w (next_chain w t) d t head pieces log read e some h
