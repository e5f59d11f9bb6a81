-- Pages that are put into a set and taken out, worked out, and changes that aren't admitted.
use Rattle.std.proofs.Common.{◌≡◌, refl, ap, arith, ℕ, true, false, List, [], ◌∷◌, Some, None}
use Rattle.std.proofs.Common.{Result, Ok, Err, map}
use Rattle.vb_core.specs.declared.{kinds.Kind.TheVariants.{Inflate, Deflate, Report}, runs.Run.Run}
use Rattle.vb_core.specs.declared.device.Denial.{Denial, TheVariants.{NoQueue, BadArgument}}
use Rattle.vb_core.specs.Ballooned.{is_ballooned, ballooned_count, is_changed, mark_denial, MarksBy, Loses}

-- pages 1 and 3 of a word's 64, and page 64 of the next
ballooned : map (is_ballooned (10 ∷ 1 ∷ [])) (1 ∷ 2 ∷ 64 ∷ 128 ∷ []) ≡ true ∷ false ∷ true ∷ false ∷ []
ballooned = refl

-- of the first page, the last one of a word, and the first one of the next
three : ballooned_count (0x8000000000000001 ∷ 1 ∷ []) ≡ 3
three = refl

-- in one of two sets, and in both
changed : map (is_changed (2 ∷ []) (10 ∷ [])) (3 ∷ 1 ∷ []) ≡ true ∷ false ∷ []
changed = refl

-- ---- what is refused

abbrev run_at : ℕ → ℕ → Run
run_at first count = record { first = first; count = count }

-- the last page, one past it, and what is no request
refused : mark_denial Inflate (run_at 63 1 ∷ []) 1 ∷ mark_denial Inflate (run_at 63 2 ∷ []) 1
    ∷ mark_denial Report (run_at 63 1 ∷ []) 1 ∷ [] ≡ None ∷ Some BadArgument ∷ Some NoQueue ∷ []
refused = refl

-- ---- what isn't admitted

abbrev word_of : List ℕ → ℕ
word_of [] = 0
word_of (w ∷ ws) = w

-- a refused call changes the set
refused_but_changed : (result : Result ℕ Denial) →
    MarksBy Report (run_at 1 1 ∷ []) (0 ∷ []) (2 ∷ []) result → ⊥
refused_but_changed result m = omega (arith, ap word_of (m.denied NoQueue refl).1)

-- the page isn't put in, or another one is, too, or none is taken out
not_put : (count : ℕ) → MarksBy Inflate (run_at 1 1 ∷ []) (0 ∷ []) (0 ∷ []) (Ok count) → ⊥
not_put count m = let e = (m.marked refl).pages 1 in absurd cc

another_put : (count : ℕ) → MarksBy Inflate (run_at 1 1 ∷ []) (0 ∷ []) (10 ∷ []) (Ok count) → ⊥
another_put count m = let e = (m.marked refl).pages 3 in absurd cc

not_taken_out : (count : ℕ) → MarksBy Deflate (run_at 1 1 ∷ []) (2 ∷ []) (2 ∷ []) (Ok count) → ⊥
not_taken_out count m = let e = (m.marked refl).pages 1 in absurd cc

-- a word more
longer : (count : ℕ) → MarksBy Inflate [] (0 ∷ []) (0 ∷ 0 ∷ []) (Ok count) → ⊥
longer count m = omega (arith, (m.marked refl).words)

-- a page that was there counts as changed
counts_again : MarksBy Inflate (run_at 1 1 ∷ []) (2 ∷ []) (2 ∷ []) (Ok 1) → ⊥
counts_again m = omega (arith, (m.marked refl).count)

-- a refusal that there is none of
refused_for_nothing : (why : Denial) → MarksBy Inflate [] [] [] (Err why) → ⊥
refused_for_nothing why m = m.marked refl

-- ---- pages that leave a set

-- a page stays that was to leave, another one leaves, or comes
not_gone : (left : ℕ) → Loses (2 ∷ []) (10 ∷ []) (10 ∷ []) left → ⊥
not_gone left l = let e = l.gone 1 in absurd cc

another_gone : (left : ℕ) → Loses (2 ∷ []) (10 ∷ []) (0 ∷ []) left → ⊥
another_gone left l = let e = l.gone 3 in absurd cc

come : (left : ℕ) → Loses (2 ∷ []) (0 ∷ []) (2 ∷ []) left → ⊥
come left l = let e = l.gone 1 in absurd cc

-- a page of the second word stays
second_word : (left : ℕ) → Loses (0 ∷ 1 ∷ []) (0 ∷ 1 ∷ []) (0 ∷ 1 ∷ []) left → ⊥
second_word left l = let e = l.gone 64 in absurd cc

-- one that wasn't there counts, one that was doesn't, and a word fewer
counts_absent : Loses (2 ∷ []) (8 ∷ []) (8 ∷ []) 1 → ⊥
counts_absent l = omega (arith, l.count)

uncounted : Loses (2 ∷ []) (10 ∷ []) (8 ∷ []) 0 → ⊥
uncounted l = omega (arith, l.count)

fewer_words : (left : ℕ) → Loses [] (0 ∷ []) [] left → ⊥
fewer_words left l = omega (arith, l.words)
