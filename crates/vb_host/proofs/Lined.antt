-- The first guest that waits in a line or a later one, and its number.
use Rattle.std.proofs.Common.{◌≡◌, ℕ, zero, suc, ◌+◌, ◌<◌, Bool, true, false, nat_lt, nat_le, if◌then◌else◌, List, [], ◌∷◌, length, get_or, map, refl, ap, sym, subst, ◌∙◌, arith}
use Rattle.std.proofs.lemmas.Bool.Decides.{nat_tests}
use Rattle.std.proofs.lemmas.List.{length-map}
use Rattle.vb_host.specs.declared.seat.Seat.{Seat}
use Rattle.vb_host.specs.Lending.{held_at, is_first, rank_at}
use Rattle.vb_host.specs.Line.{IsFirst, lined}
use Rattle.vb_host.specs.Relief.{first_from, found}
use Rattle.vb_host.specs.Seats.{line_rank, rank}
use Rattle.vb_host.proofs.Lines.{first_idle, first_is, is_the_first, one_first}
use Rattle.vb_host.proofs.Places.{value_map}
use Rattle.vb_host.proofs.Sound.{lt_false, lt_true}

-- ---- those of earlier lines left out

pub lined_held : (line n : ℕ) (xs : List Seat) (d : Seat) → n < length xs → held_at (map (lined line) xs) n ≡ (lined line (get_or xs n d)).held
lined_held line n [] d h = absurd (omega arith)
lined_held line zero (x ∷ xs) d h = refl
lined_held line (suc n) (x ∷ xs) d h = lined_held line n xs d (omega arith)

rank_by : (b : Bool) (s : Seat) → rank (if b then s else record s { held = 0 }) ≡ rank s
rank_by true s = refl
rank_by false s = refl

pub lined_rank : (line n : ℕ) (xs : List Seat) → rank_at (map (lined line) xs) n ≡ rank_at xs n
lined_rank line n xs = value_map rank (lined line) xs n (λ s. rank_by (nat_le line (line_rank s)) s)

pub lined_length : (line : ℕ) (xs : List Seat) → length (map (lined line) xs) ≡ length xs
lined_length line xs = length-map xs (lined line)

-- from the first line on nobody is
none_below : (n : ℕ) → nat_le 0 n ≡ true
none_below n = grind (arith, nat_tests)

stays_by : (b : Bool) (s : Seat) → b ≡ true → (if b then s else record s { held = 0 }) ≡ s
stays_by true s e = refl
stays_by false s e = absurd (cc)

pub lined_all : (xs : List Seat) → map (lined 0) xs ≡ xs
lined_all [] = refl
lined_all (x ∷ xs) = ap (λ (s : Seat). s ∷ map (lined 0) xs) (stays_by (nat_le 0 (line_rank x)) x (none_below (line_rank x))) ∙ ap (λ (ss : List Seat). x ∷ ss) (lined_all xs)

-- ---- its number

found_by : (b : Bool) (m : ℕ) (rest : ℕ) → b ≡ false → (if b then suc m else rest) ≡ rest
found_by true m rest e = absurd (cc)
found_by false m rest e = refl

found_here : (b : Bool) (m : ℕ) (rest : ℕ) → b ≡ true → (if b then suc m else rest) ≡ suc m
found_here true m rest e = refl
found_here false m rest e = absurd (cc)

pub found_none : (test : ℕ → Bool) (m : ℕ) → ((k : ℕ) → test k ≡ false) → found test m ≡ 0
found_none test zero h = refl
found_none test (suc m) h = found_by (test m) m (found test m) (h m) ∙ found_none test m h

abbrev IsTheOne : (ℕ → Bool) → ℕ → Type 0
IsTheOne test n = (k : ℕ) → test k ≡ true → k ≡ n

found_case : (test : ℕ → Bool) (n m : ℕ) (t b : Bool) → nat_lt n m ≡ t → test m ≡ b → n < suc m → test n ≡ true → IsTheOne test n → (n < m → found test m ≡ n + 1) → found test (suc m) ≡ n + 1
found_case test n m t true i f l e h rest = let same : m ≡ n = h m f in found_here (test m) m (found test m) f ∙ omega (arith, same)
found_case test n m true false i f l e h rest = found_by (test m) m (found test m) f ∙ rest (lt_true n m i)
found_case test n m false false i f l e h rest = let same : n ≡ m = omega (arith, l, lt_false n m i) in let here : test m ≡ true = subst (λ (k : ℕ). test k ≡ true) same e in absurd (cc)

pub found_at : (test : ℕ → Bool) (n m : ℕ) → n < m → test n ≡ true → IsTheOne test n → found test m ≡ n + 1
found_at test n zero l e h = absurd (omega arith)
found_at test n (suc m) l e h = found_case test n m (nat_lt n m) (test m) refl refl (omega (arith, l)) e h (λ i. found_at test n m i e h)

-- of the first guest, and where nobody waits
pub first_found : (line n : ℕ) (xs : List Seat) → n < length xs → IsFirst (map (lined line) xs) n → n + 1 ≡ first_from line xs
first_found line n xs l h = sym (found_at (is_first (map (lined line) xs)) n (length xs) l (is_the_first (map (lined line) xs) n h)
    (λ k e. one_first (map (lined line) xs) k n (first_is (map (lined line) xs) k e) h))

pub none_found : (line : ℕ) (xs : List Seat) → ((n : ℕ) → held_at (map (lined line) xs) n ≡ 0) → 0 ≡ first_from line xs
none_found line xs h = sym (found_none (is_first (map (lined line) xs)) (length xs) (λ k. sym (first_idle (map (lined line) xs) k (h k))))
