-- A text, cut at the first place of a byte.
use Rattle.std.proofs.Common.{◌≡◌, ℕ, ◌+◌, ◌-◌, ◌<◌, ◌≤◌, ◌==◌, Option, Some, None, IfNone}
use Rattle.std.proofs.Common.{Bor, Bool, true, false, cond, ltb, List, [], ◌∷◌, length, length-drop}
use Rattle.std.proofs.lemmas.List.Sums.{fails_before_first, passes_at_first, position_or_len_is}
use Rattle.std.proofs.lemmas.List.Splits.{slice_split_first, slice_split_none}
use Rattle.std.proofs.lemmas.{List.{take_all, get_or-take, length-take-le}, Bool.Decides.nat_tests}
use Rattle.std.specs.{List.{slice_split, onto_first, position_or_len}, Option.option_map_or}
use Rattle.{std.proofs.Common.{take, drop, refl, arith}, memchr.specs.Find.{IsFirstByte, is_byte}}
use Rattle.vb_script.specs.{Texts.{last_line, lines_of}, Words.is_empty}

fails : (passes : Bool) → (passes ≡ true → ⊥) → passes ≡ false
fails true never = absurd (never refl)
fails false _ = refl

-- where the byte is found the first part ends
pub cut_found : (byte : ℕ) (text : List ℕ) (n : ℕ) → IsFirstByte (is_byte byte) text (Some n)
    → slice_split (λ x. x == byte) text ≡ take n text
    ∷ slice_split (λ x. x == byte) (take (length text - (n + 1)) (drop (n + 1) text))
cut_found byte text n first =
    grind (arith, position_or_len_is, take_all, length-drop, slice_split_first)

-- where it isn't there is one part
pub not_cut : (byte : ℕ) (text : List ℕ) → IsFirstByte (is_byte byte) text None
    → slice_split (λ x. x == byte) text ≡ text ∷ []
not_cut byte text none =
    let same : position_or_len (λ x. x == byte) text ≡ length text =
    position_or_len_is (λ x. x == byte) text (length text) 0 (omega arith)
    (λ k lt. fails _ (none k (omega arith) lt)) (λ lt. absurd (omega arith)) in
    slice_split_none (λ x. x == byte) text
    (λ k d lt. fails_before_first (λ x. x == byte) text k d (omega (arith, same, lt)))

-- what `position` answers of a test for a byte
abbrev Position : ℕ → List ℕ → Option ℕ → Type 0
Position byte text found = found ≡ cond (ltb (position_or_len (λ x. x == byte) text) (length text))
    (Some (position_or_len (λ x. x == byte) text)) None

-- the first place among a text's first bytes is its first place
pub found_near : (byte near : ℕ) (text : List ℕ) (n : ℕ) → near ≤ length text
    → Position byte (take near text) (Some n) → IsFirstByte (is_byte byte) text (Some n)
found_near byte near text n within e =
    at (ltb (position_or_len (λ x. x == byte) (take near text)) (length (take near text))) refl e
  where
    at : (b : Bool)
        → ltb (position_or_len (λ x. x == byte) (take near text)) (length (take near text)) ≡ b
        → Some n ≡ cond b (Some (position_or_len (λ x. x == byte) (take near text))) None
        → IsFirstByte (is_byte byte) text (Some n)
    at true t e =
        search (arith, length-take-le, nat_tests, fails_before_first, get_or-take, passes_at_first)
    at false t e = cc

-- there is always a part
pub some_part : (p : ℕ → Bool) (text : List ℕ) → is_empty (slice_split p text) ≡ false
some_part p [] = refl
some_part p (x ∷ xs) =
    elim (p x) as (λ b. is_empty (cond b ([] ∷ slice_split p xs) (onto_first x (slice_split p xs)))
    ≡ false) [ true ↦ refl | false ↦ onto (slice_split p xs) ]
  where
    onto : (parts : List (List ℕ)) → is_empty (onto_first x parts) ≡ false
    onto [] = refl
    onto (part ∷ parts) = refl

-- a text's first line, and the lines of what follows it, which is nothing where no line feed ends
-- it
pub first_of_lines : (text line rest : List ℕ) (after : Option (Bor (List ℕ))) → 0 < length text
    → slice_split (λ byte. byte == 10) text ≡ line
    ∷ option_map_or (λ rest. slice_split (λ byte. byte == 10) rest.now) after []
    → IfNone after (line ≡ text) → rest ≡ option_map_or (λ rest. rest.now) after []
    → lines_of text ≡ line ∷ lines_of rest
first_of_lines text line rest None some split whole is = rw (split, is, whole) (last text some)
  where
    last : (text : List ℕ) → 0 < length text → last_line text ≡ text ∷ []
    last [] some = absurd (omega arith)
    last (byte ∷ bytes) some = refl
first_of_lines text line rest (Some after) some split whole is =
    grind (arith, some_part (λ byte. byte == 10) after.now)
