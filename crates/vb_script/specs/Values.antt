-- What a word of digits says.
use Rattle.std.specs.Prelude.{ℕ, ◌*◌, ◌&&◌, nat_lt, nat_le, if◌then◌else◌, List, length, Option}
use Rattle.std.specs.Prelude.{Some, None, Result, Ok, Err}
use Rattle.std.specs.Int.{from_be_bytes, w64}
use Rattle.hex.specs.Hex.{decode_of, decode_sized}
use Rattle.hex.specs.declared.error.FromHexError.{FromHexError}

-- the value, if there was no fault
abbrev pub value_in : {T : Type 0} → Result T FromHexError → Option T
value_in (Ok value) = Some value
value_in (Err fault) = None

abbrev pub bits_in : Result (List ℕ) FromHexError → Option ℕ
bits_in (Ok bytes) = Some (from_be_bytes w64 bytes)
bits_in (Err fault) = None

-- the features that 16 hexadecimal digits show, the first digit the highest four
unfoldable pub features_of : List ℕ → Option ℕ
features_of word = bits_in (decode_sized word 8)

-- the bytes that hexadecimal digits show: at least one, at most a page of them
unfoldable pub bytes_of : List ℕ → Option (List ℕ)
bytes_of word =
    if nat_lt 0 (length word) && nat_le (length word) (2 * 4096) then value_in (decode_of word)
    else None

-- the number, if it is at least 1
unfoldable pub positive_of : ℕ → Option ℕ
positive_of number = if nat_lt 0 number then Some number else None
