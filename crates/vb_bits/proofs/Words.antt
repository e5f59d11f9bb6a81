-- The flags that words represent.
use Rattle.std.proofs.Common.{◌≡◌, ◌≢◌, ℕ, ◌+◌, ◌-◌, ◌*◌, ◌/◌, ◌%◌, ◌^◌, ◌<◌, ◌≤◌, Bool, true, List}
use Rattle.std.proofs.Common.{length, get_or, set, replicate, eqb, ltb, not, sym, ap, ◌∙◌, ◌↔◌}
use Rattle.std.proofs.lemmas.List.{get_or-set_same, get_or-set_other, get_or_past, ext_get_or}
use Rattle.std.{proofs.Common.{false, inl, inr, arith}, specs.Int.bit_at}
use Rattle.std.proofs.lemmas.Bool.{cases_lt, not-false, eqb-true, eq-eqb}
use Rattle.std.proofs.lemmas.Bool.Decides.{eqb_tells, nat_tests}
use Rattle.std.proofs.lemmas.List.{length-set, length-replicate, get_or-replicate}
use Rattle.std.proofs.lemmas.List.FromFn.{get_or-map-range_with_len, length-map-range_with_len}
use Rattle.std.proofs.lemmas.Nat.Bits.{bit_at-zero, bit_at-lt, same_from_bits_below, bit_at_ones}
use Rattle.vb_virtio.specs.Tests.{has_bit}
use Rattle.vb_bits.{specs.Sets.{has, HasNoneIn, IsLeastFrom}, proofs.Bits.{one_bit, no_bit}}
use Rattle.vb_bits.specs.Words.{in_words, flags_of, AreWordsOf, IsLowestFrom}

-- ---- the flags

pub length-flags : (bound : ℕ) (words : List ℕ) → length (flags_of bound words) ≡ bound
unfolding flags_of
length-flags bound words = length-map-range_with_len (in_words words) 0 bound

-- the bound is how many flags there are
pub bound_is : (bound : ℕ) (words : List ℕ) (flags : List Bool) → flags_of bound words ≡ flags
    → bound ≡ length flags
bound_is bound words flags e = sym (length-flags bound words) ∙ ap length e

pub has_flag : (bound : ℕ) (words : List ℕ) → AreWordsOf bound words → (n : ℕ)
    → has (flags_of bound words) n ≡ in_words words n
unfolding flags_of
has_flag bound words s n = grind (arith, get_or-map-range_with_len, get_or_past, length-flags)

-- the flags are the set that has just these numbers
pub flags_are : (bound : ℕ) (words : List ℕ) (flags : List Bool) → AreWordsOf bound words
    → length flags ≡ bound → ((n : ℕ) → n < bound → in_words words n ≡ has flags n)
    → flags_of bound words ≡ flags
flags_are bound words flags s e h =
    ext_get_or false (flags_of bound words) flags (length-flags bound words ∙ sym e)
    (λ n l. has_flag bound words s n ∙ h n (omega (arith, l, length-flags bound words)))

-- the number that a bit of a word represents
pub at_place : (words : List ℕ) (w b : ℕ) → b < 64
    → in_words words (64 * w + b) ≡ has_bit (get_or words w 0) b
at_place words w b l = grind arith

pub bit_is_flag : (bound : ℕ) (words : List ℕ) → AreWordsOf bound words → (w b : ℕ) → b < 64
    → has_bit (get_or words w 0) b ≡ has (flags_of bound words) (64 * w + b)
bit_is_flag bound words s w b l = sym (has_flag bound words s (64 * w + b) ∙ at_place words w b l)

-- ---- all bits 0

pub zero_bit : (b : ℕ) → has_bit 0 b ≡ false
zero_bit b = no_bit 0 b (bit_at-zero b)

read_zero : (len k : ℕ) → get_or {A = ℕ} (replicate len 0) k 0 ≡ 0
read_zero len k = grind (arith, get_or-replicate, get_or_past, length-replicate)

none_in_zeros : (len n : ℕ) → in_words (replicate len 0) n ≡ false
none_in_zeros len n =
    ap (λ (word : ℕ). has_bit word (n % 64)) (read_zero len (n / 64)) ∙ zero_bit (n % 64)

pub cleared : (bound len : ℕ) → bound ≤ 64 * len → 64 * len < bound + 64
    → AreWordsOf bound (replicate len 0)
cleared bound len enough fewest = grind (arith, length-replicate, none_in_zeros)

pub cleared_flags : (bound len : ℕ) → bound ≤ 64 * len → 64 * len < bound + 64
    → flags_of bound (replicate len 0) ≡ replicate bound false
cleared_flags bound len enough fewest =
    search (arith, flags_are, length-replicate, none_in_zeros, get_or-replicate)

-- ---- all bits 1

abbrev all_ones : ℕ → List ℕ
all_ones len = replicate len (2 ^ 64 - 1)

-- what is left of the numbers in the last word
low_test : (bound last n : ℕ) → 64 * last < bound → bound ≤ 64 * last + 64 → n / 64 ≡ last
    → ltb (n % 64) (bound - last * 64) ≡ ltb n bound
low_test bound last n from to e = grind arith

-- in a word before the last all bits are 1, and there is none after it
other_word : (bound len last n : ℕ) → 64 * last < bound → bound ≤ 64 * last + 64 → len ≡ last + 1
    → n / 64 ≢ last → has_bit (get_or (all_ones len) (n / 64) 0) (n % 64) ≡ ltb n bound
other_word bound len last n from to e ne = elim (cases_lt (n / 64) len) [
  | inl l ↦
      let inside : n < bound = omega arith in
      ap (λ (w : ℕ). has_bit w (n % 64)) (get_or-replicate len (n / 64) (2 ^ 64 - 1) 0 l) ∙ one_bit
      (2 ^ 64 - 1) (n % 64) (bit_at_ones 64 (n % 64) (omega arith)) ∙ grind (arith, nat_tests)
  | inr l ↦
      let outside : bound ≤ n = omega arith in
      ap (λ (w : ℕ). has_bit w (n % 64)) (get_or_past (all_ones len) (n / 64) 0
      (omega (arith, l, length-replicate {A = ℕ} len (2 ^ 64 - 1))))
      ∙ zero_bit (n % 64) ∙ grind (arith, nat_tests)
]

filled_at : (bound len last low n : ℕ) → 64 * last < bound → bound ≤ 64 * last + 64
    → len ≡ last + 1 → ((k : ℕ) → k < 64 → has_bit low k ≡ ltb k (bound - last * 64))
    → in_words (set (all_ones len) last low) n ≡ ltb n bound
filled_at bound len last low n from to e h = elim (eqb_tells (n / 64) last) [
  | inl same ↦ ap (λ (k : ℕ). has_bit (get_or (set (all_ones len) last low) k 0) (n % 64)) same.1
      ∙ ap (λ (w : ℕ). has_bit w (n % 64)) (get_or-set_same (all_ones len) last low 0
      (omega (arith, length-replicate {A = ℕ} len (2 ^ 64 - 1))))
      ∙ h (n % 64) (omega arith) ∙ low_test bound last n from to same.1
  | inr other ↦ ap (λ (w : ℕ). has_bit w (n % 64)) (get_or-set_other
      (all_ones len) last (n / 64) low 0 other.1) ∙ other_word bound len last n from to e other.1
]

past_test : (n bound : ℕ) → bound ≤ n → ltb n bound ≡ false
past_test n bound l = grind (arith, nat_tests)

below_test : (n bound : ℕ) → n < bound → ltb n bound ≡ true
below_test n bound l = grind (arith, nat_tests)

pub filled : (bound len last low : ℕ) → 64 * last < bound → bound ≤ 64 * last + 64
    → len ≡ last + 1 → ((k : ℕ) → k < 64 → has_bit low k ≡ ltb k (bound - last * 64))
    → AreWordsOf bound (set (all_ones len) last low)
filled bound len last low from to e h =
    let same : length (set (all_ones len) last low) ≡ len =
    length-set (all_ones len) last low ∙ length-replicate {A = ℕ} len (2 ^ 64 - 1) in
    record {
      enough = omega (arith, same);
      fewest = omega (arith, same);
      clear = λ n l. filled_at bound len last low n from to e h ∙ past_test n bound l;
    }

pub filled_flags : (bound len last low : ℕ) → 64 * last < bound → bound ≤ 64 * last + 64
    → len ≡ last + 1 → ((k : ℕ) → k < 64 → has_bit low k ≡ ltb k (bound - last * 64))
    → flags_of bound (set (all_ones len) last low) ≡ replicate bound true
filled_flags bound len last low from to e h = flags_are bound (set (all_ones len) last low)
    (replicate bound true) (filled bound len last low from to e h) (length-replicate bound true)
    (λ n l. filled_at bound len last low n from to e h ∙ below_test n bound l
    ∙ sym (get_or-replicate bound n true false l))

-- ---- one bit changed

-- the word with the bit of a number made 1 or 0
pub record IsWritten (words : List ℕ) (n : ℕ) (one : Bool) (word : ℕ) : Type 0 where
  pub within : n / 64 < length words
  pub same : has_bit word (n % 64) ≡ one
  pub others : (k : ℕ) → k < 64 → k ≢ n % 64 → has_bit word k ≡ has_bit (get_or words (n / 64) 0) k

put_same : (words : List ℕ) (n : ℕ) (one : Bool) (word : ℕ) → IsWritten words n one word
    → in_words (set words (n / 64) word) n ≡ one
put_same words n one word s =
    ap (λ (w : ℕ). has_bit w (n % 64)) (get_or-set_same words (n / 64) word 0 s.within) ∙ s.same

put_other : (words : List ℕ) (n : ℕ) (one : Bool) (word m : ℕ) → IsWritten words n one word
    → m ≢ n → in_words (set words (n / 64) word) m ≡ in_words words m
put_other words n one word m s ne = search (arith, get_or-set_same, get_or-set_other)

pub put : (bound : ℕ) (words : List ℕ) (n : ℕ) (one : Bool) (word : ℕ) → AreWordsOf bound words
    → n < bound → IsWritten words n one word → AreWordsOf bound (set words (n / 64) word)
put bound words n one word s l w = grind (arith, length-set, put_other)

pub put_flags : (bound : ℕ) (words : List ℕ) (n : ℕ) (one : Bool) (word : ℕ)
    → AreWordsOf bound words → n < bound → IsWritten words n one word
    → flags_of bound (set words (n / 64) word) ≡ set (flags_of bound words) n one
put_flags bound words n one word s l w = flags_are bound (set words (n / 64) word)
    (set (flags_of bound words) n one) (put bound words n one word s l w) (length-set
    (flags_of bound words) n one ∙ length-flags bound words) (λ m _. elim (eqb_tells m n) [
      | inl same ↦ ap (λ (k : ℕ). in_words (set words (n / 64) word) k) same.1
          ∙ put_same words n one word w ∙ sym (get_or-set_same (flags_of bound words) n one false
          (omega (arith, l, length-flags bound words)))
          ∙ ap (λ (k : ℕ). has (set (flags_of bound words) n one) k) (sym same.1)
      | inr other ↦ put_other words n one word m w other.1 ∙ sym (has_flag bound words s m)
          ∙ sym (get_or-set_other (flags_of bound words) n m one false other.1)
    ])

-- ---- words with no bit

bare : (word : ℕ) → word < 2 ^ 64 → ((k : ℕ) → k < 64 → has_bit word k ≡ false) → word ≡ 0
bare word fits none = same_from_bits_below 64 word 0 fits (omega arith)
    (λ k l. no_digit (bit_at word k) (bit_at-lt word k) (none k l) ∙ sym (bit_at-zero k))
  where
    no_digit : (digit : ℕ) → digit < 2 → eqb digit 1 ≡ false → digit ≡ 0
    no_digit digit l e = grind (arith, nat_tests)

-- a word is 0 exactly if none of its numbers is in the set
pub word_is_zero : (bound : ℕ) (words : List ℕ) (w word : ℕ) → AreWordsOf bound words
    → word < 2 ^ 64 → get_or words w 0 ≡ word
    → (not (eqb word 0) ≡ false) ↔ HasNoneIn (flags_of bound words) w
word_is_zero bound words w word s fits e = (
  λ zero n row. has_flag bound words s n ∙ ap (λ (k : ℕ). has_bit (get_or words k 0) (n % 64)) row
      ∙ ap (λ (k : ℕ). has_bit k (n % 64)) (e ∙ eqb-true word 0 (not-false (eqb word 0) zero))
      ∙ zero_bit (n % 64),
  λ none.
      let row = λ (k : ℕ) (l : k < 64). at_row w k l in
      ap not (eq-eqb word 0 (bare word fits (λ k l. ap (λ (n : ℕ). has_bit n k) (sym e)
      ∙ bit_is_flag bound words s w k l ∙ none (64 * w + k) (row k l)))),
) where
  at_row : (w k : ℕ) → k < 64 → (64 * w + k) / 64 ≡ w
  at_row w k l = omega arith

-- ---- the next number of a word

pub next : (set : List Bool) (word n bit : ℕ) → ((k : ℕ)
    → k < 64 → has_bit word k ≡ has set (64 * (n / 64) + k)) → IsLowestFrom word (n % 64) bit
    → ((n / 64 * 64 + bit) / 64 ≡ n / 64) × IsLeastFrom set n (n / 64 * 64 + bit)
next set word n bit h s = let within : bit < 64 = s.within in
    let low : n % 64 ≤ bit = s.from in
    let turned : n / 64 * 64 + bit ≡ 64 * (n / 64) + bit = omega arith in (
      omega arith,
      record {
        from = omega arith;
        member = ap (λ (m : ℕ). has set m) turned ∙ sym (h bit within) ∙ s.one;
        least = λ m from before.
            let place : 64 * (n / 64) + m % 64 ≡ m = omega arith in
            ap (λ (k : ℕ). has set k) (sym place)
            ∙ sym (h (m % 64) (omega arith)) ∙ s.lowest (m % 64) (omega arith) (omega arith);
      },
    )
