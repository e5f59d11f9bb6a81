-- A list that has something for each number below a limit, with one more.
use Rattle.std.proofs.{Common.◌≡◌, lemmas.List.{map-append, FromFn.map-range_with_len_more}}
use Rattle.std.{proofs.Common.{ℕ, ◌+◌, List, [], ◌∷◌, ◌++◌, map, arith}, specs.List.range_with_len}

pub one_more : {X Y : Type 0} → (g : X → Y) (f : ℕ → Y) (old new : List X) (one : X) (n : ℕ)
    → map g old ≡ map f (range_with_len 0 n) → new ≡ old ++ one ∷ [] → g one ≡ f n
    → map g new ≡ map f (range_with_len 0 (n + 1))
one_more g f old new one n before is same = grind (arith, map-append, map-range_with_len_more)
