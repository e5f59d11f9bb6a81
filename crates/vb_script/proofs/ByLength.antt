-- A word that is looked up among the words of its length.
use Rattle.std.proofs.Common.{◌≡◌, ◌≢◌, ℕ, ◌≤◌, ◌&&◌, Bool, true, false, cond, nat_eq, nat_le, List}
use Rattle.std.proofs.Common.{[], ◌∷◌, Some, None, length, refl, ap, ◌∙◌, arith, bytes_eq}
use Rattle.std.{proofs.lemmas.Bool.Decides.nat_tests, proofs.lemmas.Slice.Eq.bytes_eq-Decides}
use Rattle.vb_script.specs.Names.{meaning_of}

-- the entries whose words have n letters
abbrev pub of_length : {T : Type 0} → ℕ → List (List ℕ × T) → List (List ℕ × T)
of_length n [] = []
of_length n (entry ∷ table) =
    cond (nat_eq (length entry.0) n) (entry ∷ of_length n table) (of_length n table)

-- words of other lengths are others
other_word : (name word : List ℕ) → length name ≢ length word → bytes_eq name word ≡ false
other_word name word differ = grind (arith, bytes_eq-Decides)

-- a word means what it means among the words of its length
pub by_length : {T : Type 0} (table : List (List ℕ × T)) (word : List ℕ) (n : ℕ) → length word ≡ n
    → meaning_of table word ≡ meaning_of (of_length n table) word
by_length [] word n e = refl
by_length ((name, meaning) ∷ table) word n e =
    at (nat_eq (length name) n) refl (by_length table word n e)
  where
    at : (b : Bool) → nat_eq (length name) n ≡ b → meaning_of table word
        ≡ meaning_of (of_length n table) word → meaning_of ((name, meaning) ∷ table) word
        ≡ meaning_of (cond b ((name, meaning) ∷ of_length n table) (of_length n table)) word
    at true t rest = ap (λ o. cond (bytes_eq name word) (Some meaning) o) rest
    at false t rest = ap (λ (b : Bool). cond b (Some meaning) (meaning_of table word))
        (other_word name word (grind (arith, nat_tests, t, e))) ∙ rest

-- whether all words have three to eight letters
abbrev pub are_short : {T : Type 0} → List (List ℕ × T) → Bool
are_short [] = true
are_short (entry ∷ table) =
    cond (nat_le 3 (length entry.0) && nat_le (length entry.0) 8) (are_short table) false

-- then a word of another length means nothing
pub none_of_length : {T : Type 0} (table : List (List ℕ × T)) (word : List ℕ) → are_short table
    ≡ true → ((n : ℕ) → 3 ≤ n → n ≤ 8 → n ≢ length word) → meaning_of table word ≡ None
none_of_length [] word short differ = refl
none_of_length ((name, meaning) ∷ table) word short differ = at (nat_le 3
    (length name) && nat_le (length name) 8) refl short (λ s. none_of_length table word s differ)
  where
    at : (b : Bool) → (nat_le 3 (length name) && nat_le (length name) 8) ≡ b
        → cond b (are_short table) false ≡ true → (are_short table ≡ true
        → meaning_of table word ≡ None) → meaning_of ((name, meaning) ∷ table) word ≡ None
    at false t s rest = cc
    at true t s rest =
        ap (λ (b : Bool). cond b (Some meaning) (meaning_of table word)) (other_word name word
        (differ (length name) (grind (arith, nat_tests, t)) (grind (arith, nat_tests, t)))) ∙ rest s
