-- What was saved is restored, and nothing else.
use Rattle.std.proofs.Common.{◌≡◌, ℕ, ◌-◌, ◌*◌, ◌%◌, ◌^◌, ◌<◌, ◌≤◌, Bool, true, false, not, List, []}
use Rattle.std.proofs.Common.{◌∷◌, ◌++◌, length, take, drop, refl, sym, ◌∙◌, ap, arith, lit<, append-nil}
use Rattle.std.proofs.lemmas.{Bool.{eqb-true, eq-eqb, or_cases, and_from}, List.{length-drop, take_at, drop_all}}
use Rattle.std.specs.Prelude.{Option, Some, None, Result, Ok, Err}
use Rattle.std.proofs.Common.{length-append, if◌then◌else◌, ◌==◌, ◌&&◌, ◌||◌, inl, inr, nat_lt, bit_xor, fold, get_or, subst}
use Rattle.vb_core.specs.Format.{u64_bytes, u32_at, u64_at, in_a_row, saved_parts, older_parts, oldest_parts}
use Rattle.vb_core.specs.Format.{hold_parts, hint_parts, with_sum, checksum, oldest_in, older_in, state_in, WasSaved}
use Rattle.vb_core.specs.Format.{saved_bytes, older_bytes, oldest_bytes, saved_in, ring_at, round_at}
use Rattle.vb_core.specs.Format.{FitsSaved, HoldsNoDeflate, HintsNothing}
use Rattle.vb_core.specs.Saved.{can_be, is_state, has_version, has_length, has_sum, header_denial}
use Rattle.vb_core.specs.Saved.{is_version, length_of, are_so_long, read_saved, unless_denied, restored}
use Rattle.vb_core.specs.declared.format.TheConstants.{MAGIC, FORMAT_VERSION, SAVED_LENGTH}
use Rattle.vb_core.specs.declared.format.TheConstants.{OLDER_VERSION, OLDER_LENGTH, OLDEST_VERSION, OLDEST_LENGTH}
use Rattle.vb_core.specs.declared.format.TheConstants.{VERSION_AT, LENGTH_AT, HEADER_LENGTH}
use Rattle.vb_core.specs.declared.saved.StateDenial.TheVariants.{BadLength, NotAState, OtherVersion}
use Rattle.vb_core.specs.declared.saved.StateDenial.{StateDenial, TheVariants.{BadSum, Impossible}}
use Rattle.vb_core.specs.declared.saved.Saved.{Saved}
use Rattle.vb_core.proofs.{Rows.row_more, Numbers.{AreBytes, u64_then, u64_again}}
use Rattle.vb_core.proofs.RoundTrip.{row, older_of, oldest_of, first_parts, says, holds_then}
use Rattle.vb_core.proofs.RoundTrip.{row_again, holds_again, hints_then, hints_again}

-- a checksum fits its field
checksum_fits : (bytes : List ℕ) → checksum bytes < 2 ^ 64
unfolding checksum
checksum_fits bytes = steps bytes 0xcbf29ce484222325 (lit< tt) where
  steps : (bytes : List ℕ) (sum : ℕ) → sum < 2 ^ 64
      → fold (λ s b. (bit_xor s b * 0x100000001b3) % 2 ^ 64) sum bytes < 2 ^ 64
  steps [] sum h = h
  steps (b ∷ bs) sum h = steps bs ((bit_xor sum b * 0x100000001b3) % 2 ^ 64) (omega arith)

length-u64_bytes : (n : ℕ) → length (u64_bytes n) ≡ 8
unfolding u64_bytes
length-u64_bytes n = refl

-- ---- tests one after the other

header_passes : (short state version fits : Bool) → short ≡ false → state ≡ true → version ≡ true
    → fits ≡ true → (if short then Some BadLength else if not state then Some NotAState
    else if not version then Some OtherVersion else if not fits then Some BadLength else None)
    ≡ None
header_passes short state version fits a b c d = grind arith

header_passed : (short state version fits : Bool)
    → (if short then Some BadLength else if not state then Some NotAState
    else if not version then Some OtherVersion else if not fits then Some BadLength else None)
    ≡ None → (short ≡ false) × (state ≡ true) × (version ≡ true) × (fits ≡ true)
header_passed short state version fits e = grind arith

read_passed : (sum possible : Bool) (x s : Saved)
    → (if not sum then Err BadSum else if not possible then Err Impossible else Ok x) ≡ Ok s
    → (sum ≡ true) × (possible ≡ true) × (x ≡ s)
read_passed sum possible x s e = grind arith

read_passes : (sum possible : Bool) (x : Saved) → sum ≡ true → possible ≡ true
    → (if not sum then Err BadSum else if not possible then Err Impossible else Ok x)
    ≡ Ok x
read_passes sum possible x a b = grind arith

not_denied : (o : Option StateDenial) (r : Result Saved StateDenial) (s : Saved)
    → unless_denied o r ≡ Ok s → (o ≡ None) × (r ≡ Ok s)
not_denied None r s e = (refl, e)
not_denied (Some why) r s e = cc

both : (a b : Bool) → (a && b) ≡ true → (a ≡ true) × (b ≡ true)
both a b e = grind arith

-- ---- what was saved is restored

-- the bytes before the checksum
front : (len : ℕ) (parts : List (List ℕ)) (bytes more : List ℕ) → 8 ≤ len → length bytes ≡ len
    → length more ≡ 8 → bytes ≡ in_a_row parts more → take (len - 8) bytes ≡ in_a_row parts []
front len parts bytes more enough so_long eight e =
    let whole : bytes ≡ in_a_row parts [] ++ more = e ∙ row_more parts more in
    let own : length (in_a_row parts []) ≡ len - 8 = omega (
      arith,
      enough,
      so_long,
      eight,
      ap (λ (xs : List ℕ). length xs) whole,
      length-append (in_a_row parts []) more,
    ) in
    ap (λ (xs : List ℕ). take (len - 8) xs) whole ∙ take_at (in_a_row parts []) more (len - 8) own

-- bytes with a good header and checksum are restored to the device that they say, if calls lead to
-- it
restores : (version len : ℕ) (s : Saved) (bytes : List ℕ) → is_version version ≡ true
    → length_of version ≡ len → nat_lt len HEADER_LENGTH ≡ false → length bytes ≡ len → u64_at bytes 0 ≡ MAGIC
    → u32_at bytes VERSION_AT ≡ version → u32_at bytes LENGTH_AT ≡ len
    → u64_at bytes (len - 8) ≡ checksum (take (len - 8) bytes) → state_in bytes ≡ s → can_be s ≡ true
    → restored bytes ≡ Ok s
restores version len s bytes known so_many enough so_long magic told_version told_length sum is possible =
    let header : header_denial bytes ≡ None = header_passes (nat_lt (length bytes) HEADER_LENGTH)
    (is_state bytes) (has_version bytes) (has_length bytes)
    (ap (λ (n : ℕ). nat_lt n HEADER_LENGTH) so_long ∙ enough) (eq-eqb (u64_at bytes 0) MAGIC magic)
    (ap (λ (n : ℕ). is_version n) told_version ∙ known)
    (ap (λ (n : ℕ). are_so_long n bytes) (ap (λ (n : ℕ). length_of n) told_version ∙ so_many)
    ∙ and_from (u32_at bytes LENGTH_AT == len) (length bytes == len)
    (eq-eqb (u32_at bytes LENGTH_AT) len told_length) (eq-eqb (length bytes) len so_long)) in
    let right : has_sum bytes ≡ true =
    ap (λ (n : ℕ). u64_at bytes (n - 8) == checksum (take (n - 8) bytes)) so_long
    ∙ eq-eqb (u64_at bytes (len - 8)) (checksum (take (len - 8) bytes)) sum in
    ap (λ (o : Option StateDenial). unless_denied o (read_saved bytes)) header
    ∙ read_passes (has_sum bytes) (can_be (state_in bytes)) (state_in bytes) right
    (ap (λ (x : Saved). can_be x) is ∙ possible)
    ∙ ap (λ (x : Saved). Ok x) is

-- the older version's device, by the oldest one's fields and what comes after them
older_is : (s : Saved) (bytes : List ℕ) → oldest_in bytes ≡ oldest_of s
    → get_or bytes 183 0 ≡ s.device.settings.holds_deflates → u32_at bytes 184 ≡ s.held.deflate
    → u32_at bytes 188 ≡ s.held.pages → older_in bytes ≡ older_of s
older_is s bytes e a b c = grind arith

-- this version's, by the older one's and what comes after that
newer_is : (s : Saved) (bytes : List ℕ) → older_in bytes ≡ older_of s
    → ring_at bytes 192 ≡ s.device.hint → round_at bytes 222 ≡ s.device.round
    → get_or bytes 231 0 ≡ s.device.settings.discards_hints → saved_in bytes ≡ s
newer_is s bytes e a b c = grind arith

-- the device that bytes say, by their number
abbrev state_of : ℕ → List ℕ → Saved
state_of len bytes =
    if len == OLDEST_LENGTH then oldest_in bytes
    else if len == OLDER_LENGTH then older_in bytes
    else saved_in bytes

pub saved_restored : (s : Saved) → FitsSaved s → can_be s ≡ true → restored (saved_bytes s) ≡ Ok s
saved_restored s f possible = let bytes = saved_bytes s in
    let parts = saved_parts s in
    let sum = u64_bytes (checksum (in_a_row parts [])) in
    let w = says FORMAT_VERSION SAVED_LENGTH s (in_a_row (hold_parts s ++ hint_parts s.device) sum) bytes
    (lit< tt) (lit< tt) f refl in
    let h = holds_then s (in_a_row (hint_parts s.device) sum) bytes f.holds w.behind in
    let g = hints_then s.device sum bytes f.hint f.round h.3 in
    let eight : length sum ≡ 8 = length-u64_bytes (checksum (in_a_row parts [])) in
    let len : length bytes ≡ 240 =
    omega (arith, eight, ap (λ (xs : List ℕ). length xs) g.3, length-drop 232 bytes) in
    let told = u64_then (checksum (in_a_row parts [])) [] bytes 232 240
    (checksum_fits (in_a_row parts [])) refl (g.3 ∙ sym (append-nil sum)) in
    let same = front 240 parts bytes sum (omega arith) len eight refl in
    restores FORMAT_VERSION SAVED_LENGTH s bytes refl refl refl len w.magic w.version_told
    w.length_told (told.0 ∙ ap (λ (xs : List ℕ). checksum xs) (sym same))
    (ap (λ (n : ℕ). state_of n bytes) len
    ∙ newer_is s bytes (older_is s bytes w.saved h.0 h.1 h.2) g.0 g.1 g.2) possible

as_older : (s : Saved) → HintsNothing s.device → older_of s ≡ s
as_older s none = rw (none.setting, none.ring, none.round)

pub older_restored : (s : Saved) → FitsSaved s → HintsNothing s.device → can_be s ≡ true
    → restored (older_bytes s) ≡ Ok s
older_restored s f none possible = let bytes = older_bytes s in
    let parts = older_parts s in
    let sum = u64_bytes (checksum (in_a_row parts [])) in
    let w = says OLDER_VERSION OLDER_LENGTH s (in_a_row (hold_parts s) sum) bytes (lit< tt) (lit< tt) f refl in
    let h = holds_then s sum bytes f.holds w.behind in
    let eight : length sum ≡ 8 = length-u64_bytes (checksum (in_a_row parts [])) in
    let len : length bytes ≡ 200 =
    omega (arith, eight, ap (λ (xs : List ℕ). length xs) h.3, length-drop 192 bytes) in
    let told = u64_then (checksum (in_a_row parts [])) [] bytes 192 200
    (checksum_fits (in_a_row parts [])) refl (h.3 ∙ sym (append-nil sum)) in
    let same = front 200 parts bytes sum (omega arith) len eight refl in
    restores OLDER_VERSION OLDER_LENGTH s bytes refl refl refl len w.magic w.version_told
    w.length_told (told.0 ∙ ap (λ (xs : List ℕ). checksum xs) (sym same))
    (ap (λ (n : ℕ). state_of n bytes) len
    ∙ older_is s bytes w.saved h.0 h.1 h.2 ∙ as_older s none) possible

as_oldest : (s : Saved) → HoldsNoDeflate s → HintsNothing s.device → oldest_of s ≡ s
as_oldest s none hints = rw (none.setting, none.deflate, none.pages, hints.setting, hints.ring, hints.round)

pub oldest_restored : (s : Saved) → FitsSaved s → HoldsNoDeflate s → HintsNothing s.device
    → can_be s ≡ true → restored (oldest_bytes s) ≡ Ok s
oldest_restored s f none hints possible = let bytes = oldest_bytes s in
    let parts = oldest_parts s in
    let sum = u64_bytes (checksum (in_a_row parts [])) in
    let w = says OLDEST_VERSION OLDEST_LENGTH s sum bytes (lit< tt) (lit< tt) f refl in
    let eight : length sum ≡ 8 = length-u64_bytes (checksum (in_a_row parts [])) in
    let len : length bytes ≡ 191 =
    omega (arith, eight, ap (λ (xs : List ℕ). length xs) w.behind, length-drop 183 bytes) in
    let told = u64_then (checksum (in_a_row parts [])) [] bytes 183 191
    (checksum_fits (in_a_row parts [])) refl (w.behind ∙ sym (append-nil sum)) in
    let same = front 191 parts bytes sum (omega arith) len eight refl in
    restores OLDEST_VERSION OLDEST_LENGTH s bytes refl refl refl len w.magic w.version_told
    w.length_told (told.0 ∙ ap (λ (xs : List ℕ). checksum xs) (sym same))
    (ap (λ (n : ℕ). state_of n bytes) len
    ∙ w.saved ∙ as_oldest s none hints) possible

-- ---- nothing else is

-- bytes whose checksum is right are their parts with it
summed : (len : ℕ) (parts : List (List ℕ)) (bytes : List ℕ) → AreBytes bytes → 8 ≤ len
    → length bytes ≡ len → bytes ≡ in_a_row parts (drop (len - 8) bytes)
    → u64_at bytes (len - 8) ≡ checksum (take (len - 8) bytes) → bytes ≡ with_sum parts
summed len parts bytes all enough so_long e told = let behind = drop (len - 8) bytes in
    let eight : length behind ≡ 8 = omega (arith, enough, so_long, length-drop (len - 8) bytes) in
    let same = front len parts bytes behind enough so_long eight e in
    let sum : u64_at bytes (len - 8) ≡ checksum (in_a_row parts []) =
    told ∙ ap (λ (xs : List ℕ). checksum xs) same in
    let last : behind ≡ u64_bytes (checksum (in_a_row parts [])) =
    u64_again bytes (len - 8) len all (omega (arith, enough)) (omega (arith, so_long))
    ∙ ap (λ (xs : List ℕ). u64_bytes (u64_at bytes (len - 8)) ++ xs)
    (drop_all len bytes (omega (arith, so_long)))
    ∙ append-nil (u64_bytes (u64_at bytes (len - 8))) ∙ ap (λ (n : ℕ). u64_bytes n) sum in
    e ∙ ap (λ (xs : List ℕ). in_a_row parts xs) last

-- what a good header and a right checksum say, of a version
newer_was : (bytes : List ℕ) → AreBytes bytes → length bytes ≡ 240 → u64_at bytes 0 ≡ MAGIC
    → u32_at bytes VERSION_AT ≡ 4 → u32_at bytes LENGTH_AT ≡ 240
    → u64_at bytes 232 ≡ checksum (take 232 bytes) → WasSaved bytes (saved_in bytes)
newer_was bytes all len magic version told sum =
    inl (summed 240 (saved_parts (saved_in bytes)) bytes all (omega arith) len
    (row (first_parts 4 240 (oldest_in bytes)) _ _ _
    (row_again 4 240 bytes all (omega (arith, len)) magic version told)
    (row (hold_parts (older_in bytes)) _ _ _ (holds_again bytes all (omega (arith, len)))
    (hints_again bytes all (omega (arith, len))))) sum)

older_was : (bytes : List ℕ) → AreBytes bytes → length bytes ≡ 200 → u64_at bytes 0 ≡ MAGIC
    → u32_at bytes VERSION_AT ≡ 3 → u32_at bytes LENGTH_AT ≡ 200
    → u64_at bytes 192 ≡ checksum (take 192 bytes) → WasSaved bytes (older_in bytes)
older_was bytes all len magic version told sum =
    inr (inl (
      summed 200 (older_parts (older_in bytes)) bytes all (omega arith) len
          (row (first_parts 3 200 (oldest_in bytes)) _ _ _
          (row_again 3 200 bytes all (omega (arith, len)) magic version told)
          (holds_again bytes all (omega (arith, len)))) sum,
      record { setting = refl; ring = refl; round = refl },
    ))

oldest_was : (bytes : List ℕ) → AreBytes bytes → length bytes ≡ 191 → u64_at bytes 0 ≡ MAGIC
    → u32_at bytes VERSION_AT ≡ 2 → u32_at bytes LENGTH_AT ≡ 191
    → u64_at bytes 183 ≡ checksum (take 183 bytes) → WasSaved bytes (oldest_in bytes)
oldest_was bytes all len magic version told sum =
    inr (inr (
      summed 191 (oldest_parts (oldest_in bytes)) bytes all (omega arith) len
          (row_again 2 191 bytes all (omega (arith, len)) magic version told) sum,
      (record { setting = refl; deflate = refl; pages = refl }, record { setting = refl; ring = refl; round = refl }),
    ))

-- bytes that are so long, and say so
long_so : (len version : ℕ) (bytes : List ℕ) → length_of version ≡ len
    → u32_at bytes VERSION_AT ≡ version → has_length bytes ≡ true
    → (u32_at bytes LENGTH_AT ≡ len) × (length bytes ≡ len)
long_so len version bytes e v t = let so : are_so_long len bytes ≡ true =
    ap (λ (n : ℕ). are_so_long n bytes) (sym (ap (λ (n : ℕ). length_of n) v ∙ e)) ∙ t in
    let parts = both (u32_at bytes LENGTH_AT == len) (length bytes == len) so in
    (eqb-true (u32_at bytes LENGTH_AT) len parts.0, eqb-true (length bytes) len parts.1)

-- so long, bytes have their checksum there
sum_so : (len : ℕ) (bytes : List ℕ) → length bytes ≡ len → has_sum bytes ≡ true
    → u64_at bytes (len - 8) ≡ checksum (take (len - 8) bytes)
sum_so len bytes e t = eqb-true (u64_at bytes (len - 8)) (checksum (take (len - 8) bytes))
    (ap (λ (n : ℕ). u64_at bytes (n - 8) == checksum (take (n - 8) bytes)) (sym e) ∙ t)

-- the device that they say, by their number
state_so : (len : ℕ) (bytes : List ℕ) → length bytes ≡ len → state_in bytes ≡ state_of len bytes
state_so len bytes e = ap (λ (n : ℕ). state_of n bytes) e

was_saved : (bytes : List ℕ) → AreBytes bytes → is_state bytes ≡ true → has_version bytes ≡ true
    → has_length bytes ≡ true → has_sum bytes ≡ true → WasSaved bytes (state_in bytes)
was_saved bytes all state version len sum =
    let magic = eqb-true (u64_at bytes 0) MAGIC state in
    elim (or_cases ((u32_at bytes VERSION_AT == 4) || (u32_at bytes VERSION_AT == 3))
    (u32_at bytes VERSION_AT == 2) version) [
      | inl after ↦
          elim (or_cases (u32_at bytes VERSION_AT == 4) (u32_at bytes VERSION_AT == 3) after) [
            | inl newer ↦ let v = eqb-true (u32_at bytes VERSION_AT) 4 newer in
                let l = long_so 240 4 bytes refl v len in
                subst (λ (s : Saved). WasSaved bytes s) (sym (state_so 240 bytes l.1))
                (newer_was bytes all l.1 magic v l.0 (sum_so 240 bytes l.1 sum))
            | inr older ↦ let v = eqb-true (u32_at bytes VERSION_AT) 3 older in
                let l = long_so 200 3 bytes refl v len in
                subst (λ (s : Saved). WasSaved bytes s) (sym (state_so 200 bytes l.1))
                (older_was bytes all l.1 magic v l.0 (sum_so 200 bytes l.1 sum))
          ]
      | inr oldest ↦ let v = eqb-true (u32_at bytes VERSION_AT) 2 oldest in
          let l = long_so 191 2 bytes refl v len in
          subst (λ (s : Saved). WasSaved bytes s) (sym (state_so 191 bytes l.1))
          (oldest_was bytes all l.1 magic v l.0 (sum_so 191 bytes l.1 sum))
    ]

pub only_saved : (bytes : List ℕ) (s : Saved) → AreBytes bytes → restored bytes ≡ Ok s
    → WasSaved bytes s × (can_be s ≡ true)
only_saved bytes s all e = let parts = not_denied (header_denial bytes) (read_saved bytes) s e in
    let header = header_passed (nat_lt (length bytes) HEADER_LENGTH) (is_state bytes)
    (has_version bytes) (has_length bytes) parts.0 in
    let rest = read_passed (has_sum bytes) (can_be (state_in bytes)) (state_in bytes) s parts.1 in (
      subst (λ (x : Saved). WasSaved bytes x) rest.2
          (was_saved bytes all header.1 header.2 header.3 rest.0),
      ap (λ (x : Saved). can_be x) (sym rest.2) ∙ rest.1,
    )
