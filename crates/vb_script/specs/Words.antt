-- The words of a line, and those that are numbers.
use Rattle.std.specs.Prelude.{ℕ, ◌==◌, ◌^◌, ◌&&◌, nat_lt, nat_le, Bool, true, false, if◌then◌else◌}
use Rattle.std.specs.Prelude.{List, [], ◌∷◌, length, Option, Some, None}
use Rattle.std.specs.List.{slice_split, list_all}
use Rattle.std.specs.Option.{option_and_then}
use Rattle.vb_script.specs.Numbers.{decimal_value}
use denote.Ref.{Bor}

infixl 10 ◌>>=◌
abbrev pub ◌>>=◌ : {A B : Type 0} → Option A → (A → Option B) → Option B
o >>= f = option_and_then f o

-- one space is between two words
abbrev pub words_of : List ℕ → List (List ℕ)
words_of line = slice_split (λ byte. byte == 32) line

-- the words of what is left of a line, if anything is
abbrev pub words_left : Option (Bor (List ℕ)) → List (List ℕ)
words_left None = []
words_left (Some rest) = words_of rest.now

abbrev pub is_empty : List (List ℕ) → Bool
is_empty [] = true
is_empty (word ∷ words) = false

abbrev pub is_digit : ℕ → Bool
is_digit byte = nat_le 48 byte && nat_le byte 57

-- the number that digits alone show, if it fits 32 bits
unfoldable pub number_of : List ℕ → Option ℕ
number_of word =
    if nat_lt 0 (length word) && list_all is_digit word && nat_lt (decimal_value word) (2 ^ 32)
    then Some (decimal_value word)
    else None

-- the word, if it is the only one
abbrev pub only_word : List (List ℕ) → Option (List ℕ)
only_word [] = None
only_word (word ∷ []) = Some word
only_word (word ∷ more ∷ words) = None

-- its number
abbrev pub only_number : List (List ℕ) → Option ℕ
only_number words = option_and_then number_of (only_word words)

-- the numbers of n words, if they are all
abbrev pub two_numbers : List (List ℕ) → Option (ℕ × ℕ)
two_numbers [] = None
two_numbers (word ∷ words) = do
  first ← number_of word
  second ← only_number words
  Some (first, second)

abbrev pub three_numbers : List (List ℕ) → Option (ℕ × ℕ × ℕ)
three_numbers [] = None
three_numbers (word ∷ words) = do
  first ← number_of word
  others ← two_numbers words
  Some (first, others.0, others.1)

abbrev pub four_numbers : List (List ℕ) → Option (ℕ × ℕ × ℕ × ℕ)
four_numbers [] = None
four_numbers (word ∷ words) = do
  first ← number_of word
  others ← three_numbers words
  Some (first, others.0, others.1, others.2)

-- three numbers, and one word after them
abbrev pub three_numbers_and_a_word : List (List ℕ) → Option (ℕ × ℕ × ℕ × List ℕ)
three_numbers_and_a_word (a ∷ b ∷ c ∷ words) = do
  first ← number_of a
  second ← number_of b
  third ← number_of c
  word ← only_word words
  Some (first, second, third, word)
three_numbers_and_a_word _ = None
