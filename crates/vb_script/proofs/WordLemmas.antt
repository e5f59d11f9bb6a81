-- What tells a word of digits from other words, as a test.
use Rattle.std.proofs.Common.{◌≡◌, ℕ, ◌*◌, ◌^◌, ◌<◌, ◌≤◌, ◌&&◌, Bool, cond, ltb, leb, List, length}
use Rattle.std.proofs.Common.{Option, Some, None, Ok, Err, SomeIff, IsOk, MatchOption, All, Decides}
use Rattle.std.{proofs.Common.{refl, arith}, specs.List.list_all}
use Rattle.std.proofs.lemmas.Bool.Decides.{Decides-and, Decides-by_and, nat_tests}
use Rattle.hex.{specs.Hex.{decode_of, decode_sized}, specs.declared.error.FromHexError.FromHexError}
use Rattle.vb_script.specs.Numbers.{IsDigit, IsDecimal, ShowsBits, decimal_value}
use Rattle.vb_script.{specs.Values.{bytes_of, features_of}, specs.Words.{is_digit, number_of}}

-- a value that is there exactly where a fact holds is there where its test passes
some_where : {T : Type 0} {P : Type 0} (r : Option T) (b : Bool) (v : T) → SomeIff r P v
    → Decides b P → r ≡ cond b (Some v) None
some_where r b v not d = grind arith

Decides-leb : (a b : ℕ) → Decides (leb a b) (a ≤ b)
Decides-leb a b = (λ t. grind (arith, nat_tests), λ le. grind (arith, nat_tests))

Decides-is_digit : (byte : ℕ) → Decides (is_digit byte) (IsDigit byte)
Decides-is_digit byte =
    Decides-and (leb 48 byte) (leb byte 57) (Decides-leb 48 byte) (Decides-leb byte 57)

Decides-digits : (word : List ℕ) → Decides (list_all is_digit word) (All IsDigit word)
Decides-digits word =
    Decides-by_and is_digit IsDigit (list_all is_digit) Decides-is_digit refl (λ _ _. refl) word

Decides-decimal : (word : List ℕ)
    → Decides ((ltb 0 (length word) && list_all is_digit word) && ltb (decimal_value word) (2 ^ 32))
    (IsDecimal word × (decimal_value word < 2 ^ 32))
Decides-decimal word = search (arith, Decides-digits)

pub number_shown : (word : List ℕ) (r : Option ℕ) → SomeIff r (IsDecimal word
    × (decimal_value word < 2 ^ 32)) (decimal_value word) → r ≡ number_of word
unfolding number_of
number_shown word r is = some_where r _ (decimal_value word) is (Decides-decimal word)

pub features_shown : (word : List ℕ) (r : Option ℕ)
    → MatchOption r (¬ IsOk (decode_sized word 8)) (λ bits. ShowsBits word bits)
    → r ≡ features_of word
unfolding features_of
features_shown word r not = grind arith

pub bytes_read : (word bytes : List ℕ) → 0 < length word → length word ≤ 2 * 4096
    → decode_of word ≡ Ok bytes → bytes_of word ≡ Some bytes
unfolding bytes_of
bytes_read word bytes some few is = grind (arith, ltb, leb)

pub no_bytes : (word : List ℕ) (fault : FromHexError) → decode_of word ≡ Err fault
    → bytes_of word ≡ None
unfolding bytes_of
no_bytes word fault is = grind (arith, leb)

pub bytes_out_of_range : (word : List ℕ) → (0 < length word → length word ≤ 2 * 4096 → ⊥)
    → bytes_of word ≡ None
unfolding bytes_of
bytes_out_of_range word not = grind (arith, ltb, leb)
