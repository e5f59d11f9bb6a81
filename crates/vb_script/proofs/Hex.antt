-- Which words of hexadecimal digits show bytes.
use Rattle.std.proofs.Common.{◌≡◌, ℕ, ◌*◌, ◌/◌, ◌<◌, ◌≤◌, List, length, Result}
use Rattle.{std.proofs.Common.{Ok, Err, MatchResult, arith}, vb_script.specs.Numbers.IsByteWord}
use Rattle.hex.specs.{Hex.{decode_of, decode_sized}, declared.error.FromHexError.FromHexError}
use Rattle.hex.proofs.HexLemmas.{decode_of-digits, decode_of-ok}

-- what decodes is digits
pub IsByteWord-decodes : (word bytes : List ℕ) → 0 < length word → length word ≤ 2 * 4096
    → decode_of word ≡ Ok bytes → IsByteWord word
IsByteWord-decodes word bytes some few e =
    let digits = decode_of-ok word bytes e in (some, few, digits.0, digits.1)

-- what is refused isn't
pub not_byte_word : (word : List ℕ) (fault : FromHexError) → decode_of word ≡ Err fault
    → IsByteWord word → ⊥
not_byte_word word fault e is = grind (arith, decode_of-digits)

-- room for just its digits' bytes asks nothing more of a word
sized_whole : (word : List ℕ) (n : ℕ) → n ≡ length word / 2 → decode_sized word n ≡ decode_of word
sized_whole word n e = grind arith

abbrev pub Decoded : List ℕ → List ℕ → Result Unit FromHexError → Type 0
Decoded word bytes result = MatchResult
    (decode_of word) (λ found. (result ≡ Ok tt) × (bytes ≡ found)) (λ fault. result ≡ Err fault)

pub decoded : (word bytes : List ℕ) (n : ℕ) (r : Result Unit FromHexError)
    → MatchResult (decode_sized word n) (λ found. (r ≡ Ok tt) × (bytes ≡ found))
    (λ fault. r ≡ Err fault) → n ≡ length word / 2 → Decoded word bytes r
decoded word bytes n r is e = rw (← sized_whole word n e) is

pub decoded_ok : (word bytes : List ℕ) (r : Result Unit FromHexError) → Decoded word bytes r
    → r ≡ Ok tt → decode_of word ≡ Ok bytes
decoded_ok word bytes r is ok = grind arith

pub decoded_err : (word bytes : List ℕ) (r : Result Unit FromHexError) (fault : FromHexError)
    → Decoded word bytes r → r ≡ Err fault → decode_of word ≡ Err fault
decoded_err word bytes r fault is err = grind arith
