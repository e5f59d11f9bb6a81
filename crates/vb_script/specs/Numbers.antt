-- What a word of decimal or hexadecimal digits shows.
use Rattle.std.specs.Prelude.{◌≡◌, ℕ, ◌+◌, ◌-◌, ◌*◌, ◌%◌, ◌<◌, ◌≤◌, List, [], ◌∷◌, length, All, Ok}
use Rattle.std.specs.List.{AllPass}
use Rattle.std.specs.Int.{from_be_bytes, w64}
use Rattle.hex.specs.Hex.{decode_sized, is_hex_digit}

-- `0` to `9` are the bytes 48 to 57
abbrev pub IsDigit : ℕ → Type 0
IsDigit byte = (48 ≤ byte) × (byte ≤ 57)

-- digits alone, at least one
abbrev pub IsDecimal : List ℕ → Type 0
IsDecimal word = (0 < length word) × All IsDigit word

-- a number with more digits after it
abbrev pub with_digits : ℕ → List ℕ → ℕ
with_digits n [] = n
with_digits n (digit ∷ digits) = with_digits (n * 10 + (digit - 48)) digits

-- the number that digits show, the first one the most significant
abbrev pub decimal_value : List ℕ → ℕ
decimal_value word = with_digits 0 word

-- hexadecimal digits of either case that show at least one byte and at most a page of them
abbrev pub IsByteWord : List ℕ → Type 0
IsByteWord word =
    (0 < length word) × (length word ≤ 2 * 4096) × (length word % 2 ≡ 0) × AllPass is_hex_digit word

-- 16 hexadecimal digits of either case, and the 64 bits that they show, the highest ones first
abbrev pub ShowsBits : List ℕ → ℕ → Type 0
ShowsBits word bits =
    (bytes : List ℕ) × (decode_sized word 8 ≡ Ok bytes) × (bits ≡ from_be_bytes w64 bytes)
