-- The bytes of a chain's pieces, where memory stays as it is.
use Rattle.std.proofs.Common.{◌≡◌, ◌≢◌, ◌∙◌, ap, sym, subst, refl, arith, ℕ, zero, suc, ◌+◌, ◌-◌}
use Rattle.std.proofs.Common.{◌<◌, ◌≤◌, Bool, true, false, List, [], ◌∷◌, ◌++◌, length, Option, Some}
use Rattle.std.{proofs.Common.{None, Result, Ok}, specs.Prelude.◌==◌}
use Rattle.std.{proofs.lemmas.List.{append_assoc, append-nil, length-append}}
use Rattle.std.proofs.lemmas.{List.Concat.flat_map-append, Bool.Decides.nat_tests}
use Rattle.std.proofs.lemmas.List.FromFn.{length-map-range_with_len}
use Rattle.vb_chain.{specs.declared.pieces.Piece.Piece, specs.declared.fault.ChainFault.ChainFault}
use Rattle.vb_core.specs.declared.kinds.Kind.TheVariants.{Inflate, Deflate, Statistics, Hint, Report}
use Rattle.vb_core.{specs.declared.kinds.Kind.Kind, specs.declared.device.Device.Device}
use Rattle.vb_monitor.specs.declared.{parts.Part.Part, regions.Spot.Spot, outcome.Tally.Tally}
use Rattle.vb_monitor.specs.{declared.room.TheConstants.MAX_BYTES, Regions.spot, Accesses.Access}
use Rattle.vb_monitor.specs.{Accesses.CopyBytes, Ends.Whole}
use Rattle.vb_monitor.specs.Pieces.{next_part, parts_of, parts_on, all_parts, PartAt}
use Rattle.vb_monitor.specs.Portions.{is_full, CopiesPart, CopiesParts}
use Rattle.vb_monitor.specs.Chains.{AfterBytes, ServesBytes, ServesPieces, CopiesBy}
use Rattle.vb_monitor.specs.{Giving.Then, Machine.{next_chain, serves, served}, Still.bytes_from}
use Rattle.vb_monitor.specs.Still.{bytes_of, ArePartsMapped, Holds, is_read, length_of}
use Rattle.vb_monitor.specs.Still.{StaysUntil, AfterReads, bytes_of_parts}
use Rattle.vb_monitor.proofs.{StillWalk.copied_as, PartCosts.{AreSome, some_all}}
use Rattle.vb_monitor.proofs.PartLemmas.{no_parts, more_parts, some_bytes, few_bytes}

-- ---- bytes in a row

split : (byte : ℕ → ℕ) (k m a : ℕ) → bytes_from byte a (k + m) ≡ bytes_from byte a k ++ bytes_from
    byte (a + k) m
split byte zero m a =
    let none : zero + m ≡ m = omega arith in
    let here : a ≡ a + zero = omega arith in
    ap (λ (n : ℕ). bytes_from byte a n) none ∙ ap (λ (n : ℕ). bytes_from byte n m) here
split byte (suc k) m a =
    let more : suc k + m ≡ suc (k + m) = omega arith in
    let on : a + 1 + k ≡ a + suc k = omega arith in
    ap (λ (n : ℕ). bytes_from byte a n) more
    ∙ (ap (λ (l : List ℕ). byte a ∷ l) (split byte k m (a + 1))
    ∙ ap (λ (n : ℕ). byte a ∷ (bytes_from byte (a + 1) k ++ bytes_from byte n m)) on)

split_at : (byte : ℕ → ℕ) (a len k : ℕ) → k ≤ len →
    bytes_from byte a k ++ bytes_from byte (a + k) (len - k) ≡ bytes_from byte a len
split_at byte a len k le =
    let sum : k + (len - k) ≡ len = omega (arith, le) in
    sym (split byte k (len - k) a) ∙ ap (λ (n : ℕ). bytes_from byte a n) sum

-- ---- parts of pieces

abbrev pub part_bytes : (ℕ → ℕ) → Part → List ℕ
part_bytes byte part = bytes_from byte (part.address + part.plus) part.length

abbrev pub parts_bytes : (ℕ → ℕ) → List Part → List ℕ
parts_bytes byte parts = bytes_of_parts byte parts

part_more : (byte : ℕ → ℕ) (p : Piece) (done n : ℕ) → n ≤ p.len - done →
    bytes_from byte (p.addr + done) n
    ++ bytes_from byte (p.addr + (done + n)) (p.len - (done + n)) ≡
    bytes_from byte (p.addr + done) (p.len - done)
part_more byte p done n le =
    let here : p.addr + (done + n) ≡ (p.addr + done) + n = omega arith in
    let left : p.len - (done + n) ≡ (p.len - done) - n = omega arith in
    ap (λ (a : ℕ). bytes_from byte (p.addr + done) n ++ bytes_from byte a (p.len - (done + n))) here
    ∙ (ap (λ (m : ℕ). bytes_from byte (p.addr + done) n ++ bytes_from byte ((p.addr + done) + n) m) left
    ∙ split_at byte (p.addr + done) (p.len - done) n le)

piece_by : (byte : ℕ → ℕ) (b : Bool) (k : ℕ) (p : Piece) (done into : ℕ)
    (on : (d i : ℕ) → p.len - d ≤ k →
    parts_bytes byte (parts_of k p d i) ≡ bytes_from byte (p.addr + d) (p.len - d)) →
    (p.len - done == 0) ≡ b → p.len - done ≤ suc k →
    parts_bytes byte (parts_of (suc k) p done into) ≡ bytes_from byte (p.addr + done) (p.len - done)
piece_by byte true k p done into on e le =
    let none : p.len - done ≡ 0 = grind (arith, nat_tests) in
    ap (λ (l : List Part). parts_bytes byte l) (no_parts (suc k) p done into (omega (arith, none)))
    ∙ sym (ap (λ (n : ℕ). bytes_from byte (p.addr + done) n) none)
piece_by byte false k p done into on e le =
    let lt : done < p.len = grind (arith, nat_tests) in
    let part = next_part p done into in
    let some = some_bytes p done into lt in
    let few = few_bytes p done into lt in
    ap (λ (l : List Part). parts_bytes byte l) (more_parts k p done into lt)
    ∙ (ap (λ (l : List ℕ). part_bytes byte part ++ l) (on (done + part.length) (into + part.length)
    (omega (arith, le, some)))
    ∙ part_more byte p done part.length (omega (arith, few)))

piece_bytes : (byte : ℕ → ℕ) (k : ℕ) (p : Piece) (done into : ℕ) → p.len - done ≤ k →
    parts_bytes byte (parts_of k p done into) ≡ bytes_from byte (p.addr + done) (p.len - done)
piece_bytes byte zero p done into le =
    let none : p.len - done ≡ 0 = omega (arith, le) in
    sym (ap (λ (n : ℕ). bytes_from byte (p.addr + done) n) none)
piece_bytes byte (suc k) p done into le = piece_by byte (p.len - done == 0) k p done into
    (λ d i x. piece_bytes byte k p d i x) refl le

all_on : (byte : ℕ → ℕ) (ps : List Piece) (into : ℕ) →
    parts_bytes byte (parts_on into 0 ps) ≡ bytes_of byte ps
all_on byte [] into = refl
all_on byte (p ∷ ps) into =
    let here : p.addr + 0 ≡ p.addr = omega arith in
    let len : p.len - 0 ≡ p.len = omega arith in
    flat_map-append (part_bytes byte) (parts_of (p.len - 0) p 0 into)
    (parts_on (into + (p.len - 0)) 0 ps)
    ∙ (ap (λ (l : List ℕ). l ++ parts_bytes byte (parts_on (into + (p.len - 0)) 0 ps))
    (piece_bytes byte (p.len - 0) p 0 into (omega arith)
    ∙ (ap (λ (a : ℕ). bytes_from byte a (p.len - 0)) here
    ∙ ap (λ (n : ℕ). bytes_from byte p.addr n) len))
    ∙ ap (λ (l : List ℕ). bytes_from byte p.addr p.len ++ l) (all_on byte ps (into + (p.len - 0))))

pub all_bytes : (byte : ℕ → ℕ) (ps : List Piece) → parts_bytes byte (all_parts ps) ≡ bytes_of byte ps
all_bytes byte ps = all_on byte ps 0

-- ---- the copies

abbrev Does : Type 1
Does = Device → Tally → List ℕ → List Access → Type 0

not_full : (so_far here rest : List ℕ) → 1 ≤ length here →
    length (so_far ++ (here ++ rest)) ≤ MAX_BYTES → is_full so_far ≡ false
not_full so_far here rest some room =
    let all : length (so_far ++ (here ++ rest)) ≡ length so_far + length (here ++ rest) =
    length-append so_far (here ++ rest) in
    let both : length (here ++ rest) ≡ length here + length rest = length-append here rest in
    let lt : length so_far < MAX_BYTES = omega (arith, all, both, some, room) in
    grind (arith, nat_tests)

copied : (onward : List Access → Type 0) (byte : ℕ → ℕ) (w : Whole) (does : Does) (d : Device)
    (t : Tally) (part : Part) (parts : List Part) (so_far : List ℕ) (o : Option Spot)
    (log : List Access)
    (on : (now : List ℕ) (l : List Access) → length (now ++ parts_bytes byte parts) ≤ MAX_BYTES →
    StaysUntil onward byte w.regions l → CopiesParts w does d t parts now l →
    AfterReads (StaysUntil onward byte w.regions) (does d t (now ++ parts_bytes byte parts)) l)
    → spot w.regions (part.address + part.plus) part.length ≡ o
    → o ≢ None → length (so_far ++ (part_bytes byte part ++ parts_bytes byte parts)) ≤ MAX_BYTES
    → StaysUntil onward byte w.regions log → PartAt w (CopiesParts w does d t parts) d t part so_far
    o log
    → AfterReads (StaysUntil onward byte w.regions) (does d t (so_far ++
    (part_bytes byte part ++ parts_bytes byte parts))) log
copied onward byte w does d t part parts so_far None log on e mapped room stays h = absurd
    (mapped refl)
copied onward byte w does d t part parts so_far (Some at) log on e mapped room stays h =
    let all : Holds byte w.regions (CopyBytes at h.bytes) × StaysUntil onward byte w.regions h.rest
    =
    subst (λ (l : List Access). StaysUntil onward byte w.regions l) h.asks stays in
    let same : h.bytes ≡ part_bytes byte part =
    copied_as byte w.regions (part.address + part.plus) part.length at h.bytes all.0 e h.long in
    let joined : (so_far ++ part_bytes byte part) ++ parts_bytes byte parts ≡
    so_far ++ (part_bytes byte part ++ parts_bytes byte parts) =
    append_assoc so_far (part_bytes byte part) (parts_bytes byte parts) in
    let after = on (so_far ++ part_bytes byte part) h.rest
    (subst (λ (l : List ℕ). length l ≤ MAX_BYTES) (sym joined) room) all.1
    (subst (λ (l : List ℕ). CopiesParts w does d t parts (so_far ++ l) h.rest) same h.goes_on) in
    record {
      read = CopyBytes at h.bytes ∷ after.read;
      rest = after.rest;
      all = h.asks ∙ ap (λ (l : List Access). CopyBytes at h.bytes ∷ l) after.all;
      is = subst (λ (l : List ℕ). does d t l after.rest) joined after.is;
      still_so = after.still_so;
    }

pub copies : (onward : List Access → Type 0) (byte : ℕ → ℕ) (w : Whole) (does : Does) (d : Device)
    (t : Tally) (parts : List Part) (so_far : List ℕ) (log : List Access) → AreSome parts →
    ArePartsMapped w.regions parts → length (so_far ++ parts_bytes byte parts) ≤ MAX_BYTES →
    StaysUntil onward byte w.regions log → CopiesParts w does d t parts so_far log →
    AfterReads (StaysUntil onward byte w.regions) (does d t (so_far ++ parts_bytes byte parts)) log
copies onward byte w does d t [] so_far log some mapped room stays h = record {
  read = [];
  rest = log;
  all = refl;
  is = subst (λ (l : List ℕ). does d t l log) (sym (append-nil so_far)) h;
  still_so = stays;
}
copies onward byte w does d t (part ∷ parts) so_far log some mapped room stays h =
    let long : length (part_bytes byte part) ≡ part.length =
    length-map-range_with_len byte (part.address + part.plus) part.length in
    let one = some.0 in
    let room_so : is_full so_far ≡ false =
    not_full so_far (part_bytes byte part) (parts_bytes byte parts) (omega (arith, long, one)) room in
    copied onward byte w does d t part parts so_far _ log
    (λ now l. copies onward byte w does d t parts now l some.1 mapped.1) refl mapped.0 room stays
    (subst (λ (b : Bool). CopiesPart b w (λ d2 t2 now l. PartAt w (CopiesParts w does d2 t2 parts) d2
    t2 part now (spot w.regions (part.address + part.plus) part.length) l) d t so_far log) room_so h)

-- ---- a chain

pub read_whole : (onward : List Access → Type 0) (byte : ℕ → ℕ) (w : Whole) (does : Does) (d : Device)
    (t : Tally) (pieces : List Piece) (log : List Access) →
    ArePartsMapped w.regions (all_parts pieces) → length (bytes_of byte pieces) ≤ MAX_BYTES →
    StaysUntil onward byte w.regions log → CopiesParts w does d t (all_parts pieces) [] log →
    AfterReads (StaysUntil onward byte w.regions) (does d t (bytes_of byte pieces)) log
read_whole onward byte w does d t pieces log mapped room stays h =
    let same : parts_bytes byte (all_parts pieces) ≡ bytes_of byte pieces = all_bytes byte pieces in
    subst (λ (l : List ℕ). AfterReads (StaysUntil onward byte w.regions) (does d t l) log) same
    (copies onward byte w does d t (all_parts pieces) [] log (some_all pieces) mapped
    (subst (λ (l : List ℕ). length l ≤ MAX_BYTES) (sym same) room) stays h)

by_kind : (onward : List Access → Type 0) (byte : ℕ → ℕ) (kind : Kind) (w : Whole) (next : Then)
    (d : Device) (t : Tally) (head : ℕ)
    (pieces : List Piece) (n : ℕ) (log : List Access) → is_read kind ≡ true → length_of kind t.longest pieces
    ≡ Ok n → ArePartsMapped w.regions (all_parts pieces) → length (bytes_of byte pieces) ≤ MAX_BYTES
    → StaysUntil onward byte w.regions log → ServesPieces kind w next d t head pieces log
    → AfterReads (StaysUntil onward byte w.regions) (AfterBytes w.kind w next d t head
    (bytes_of byte pieces)) log
by_kind onward byte Inflate w next d t head pieces n log read e mapped room stays h =
    read_whole onward byte w (ServesBytes w next head) d t pieces log mapped room stays
    (subst (λ (o : Result ℕ ChainFault). CopiesBy o w next d t head pieces log) e h)
by_kind onward byte Deflate w next d t head pieces n log read e mapped room stays h =
    read_whole onward byte w (ServesBytes w next head) d t pieces log mapped room stays
    (subst (λ (o : Result ℕ ChainFault). CopiesBy o w next d t head pieces log) e h)
by_kind onward byte Statistics w next d t head pieces n log read e mapped room stays h =
    read_whole onward byte w (ServesBytes w next head) d t pieces log mapped room stays
    (subst (λ (o : Result ℕ ChainFault). CopiesBy o w next d t head pieces log) e h)
by_kind onward byte Hint w next d t head pieces n log read e mapped room stays h = absurd cc
by_kind onward byte Report w next d t head pieces n log read e mapped room stays h = absurd cc

pub served_by_bytes : (onward : List Access → Type 0) (byte : ℕ →
    ℕ) (w : Whole) (t : Tally) (d : Device) (head : ℕ)
    (pieces : List Piece) (n : ℕ) (log : List Access) → is_read w.kind ≡ true →
    length_of w.kind t.longest pieces ≡ Ok n → ArePartsMapped w.regions (all_parts pieces) →
    length (bytes_of byte pieces) ≤ MAX_BYTES → StaysUntil onward byte w.regions log →
    serves w t d head pieces log → AfterReads (StaysUntil onward byte w.regions)
    (served w t head d t (bytes_of byte pieces)) log
served_by_bytes onward byte w t d head pieces n log read e mapped room stays h =
    by_kind onward byte w.kind w (next_chain w t) d t head pieces n log read e mapped room stays h
