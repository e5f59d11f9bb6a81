-- What guests can spare together from a level on.
use Rattle.std.proofs.Common.{◌≡◌, ℕ, zero, suc, ◌+◌, ◌<◌, ◌≤◌, List, [], ◌∷◌, length, get_or, map}
use Rattle.std.proofs.{Common.{refl, ap, sym, arith}, lemmas.Bool.Decides.nat_tests}
use Rattle.std.proofs.lemmas.List.Sums.{sum_by-cons}
use Rattle.vb_virtio.specs.Targets.{Need, spare_at}
use Rattle.vb_balance.specs.Levels.{spare_from, spared_from}

-- the spare of the need at a place
pub spare_of : (needs : List Need) (i : ℕ) (n : Need) → i < length needs → n ≡ get_or needs i n
    → spare_at needs i ≡ n.spare
spare_of [] i n l e = absurd (omega arith)
spare_of (x ∷ xs) zero n l e = ap (λ (m : Need). m.spare) (sym e)
spare_of (x ∷ xs) (suc i) n l e = spare_of xs i n (omega arith) e

pub reaches : (level : ℕ) (n : Need) → level ≤ n.spare → spare_from level n ≡ n.spare
reaches level n h = grind (arith, nat_tests)

pub falls_short : (level : ℕ) (n : Need) → n.spare < level → spare_from level n ≡ 0
falls_short level n h = grind (arith, nat_tests)

-- none can spare more than the most
pub none_above : (needs : List Need) (most : ℕ)
    → ((i : ℕ) → i < length needs → spare_at needs i ≤ most) → spared_from needs (most + 1) ≡ 0
none_above [] most h = refl
none_above (n ∷ ns) most h = let first : n.spare ≤ most = h 0 (omega arith) in omega (
  arith,
  falls_short (most + 1) n (omega arith),
  sum_by-cons (spare_from (most + 1)) n ns,
  none_above ns most (λ i l. h (suc i) (omega arith)),
)

-- a number that is at least the spare of a guest from the level on is at least what it counts for
pub counts_at_most : (level : ℕ) (needs : List Need) (i t : ℕ) → i < length needs
    → (level ≤ spare_at needs i → spare_at needs i ≤ t)
    → get_or (map (spare_from level) needs) i 0 ≤ t
counts_at_most level [] i t l h = absurd (omega arith)
counts_at_most level (n ∷ ns) zero t l h = grind arith
counts_at_most level (n ∷ ns) (suc i) t l h = counts_at_most level ns i t (omega arith) h
