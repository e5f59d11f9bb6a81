-- What requests name, worked out, and what they don't.
use Rattle.std.proofs.Common.{◌≡◌, refl, ap, arith, ℕ, true, false, List, [], ◌∷◌, ◌++◌, length}
use Rattle.std.proofs.Common.{Some, None, Ok, Err, map}
use Rattle.vb_core.specs.{Runs.{Tell, pages_of_runs}, declared.kinds.Kind.TheVariants.Deflate}
use Rattle.vb_core.{proofs.{Examples.fresh, OneTelling.told_once}, specs.declared.runs.Run.Run}
use Rattle.vb_core.specs.Name.{AreNamed, right_numbers, fault_in, after_numbers, after_chain}
use Rattle.vb_chain.specs.declared.fault.ChainFault.TheVariants.{BadPage, ReservedPage}

-- ---- runs

abbrev run_at : ℕ → ℕ → Run
run_at first count = record { first = first; count = count }

-- 20, 21 and 22 are one run, and 5 another
abbrev four : List ℕ
four = 20 ∷ 21 ∷ 22 ∷ 5 ∷ []

abbrev both : List Run
both = run_at 20 3 ∷ run_at 5 1 ∷ []

told : Tell both four
told = (
  20 ∷ 21 ∷ 22 ∷ [],
  (
    5 ∷ [],
    (
      record { whole = refl; grows = (20, (21 ∷ 22 ∷ [], (refl, (run_at 20 2, (refl, (run_at 20 3, (refl, refl))))))) },
      (
        ((λ e. omega (arith, e)), (λ e. omega (arith, e))),
        (5 ∷ [], ([], (record { whole = refl; grows = (5, ([], (refl, refl))) }, (tt, refl)))),
      ),
    ),
  ),
)

-- a number before joins at the front: 21 and then 20 are one run
falling : Tell (run_at 20 2 ∷ []) (21 ∷ 20 ∷ [])
falling = (
  21 ∷ 20 ∷ [],
  ([], (record { whole = refl; grows = (21, (20 ∷ [], (refl, (run_at 20 2, (refl, refl))))) }, (tt, refl))),
)

abbrev first_of : List Run → ℕ
first_of [] = 0
first_of (r ∷ rs) = r.first

-- no other runs tell them: the two exchanged, one page a run, one run fewer, one page more
exchanged : Tell (run_at 5 1 ∷ run_at 20 3 ∷ []) four → ⊥
exchanged t =
    omega (arith, ap first_of (told_once both (run_at 5 1 ∷ run_at 20 3 ∷ []) four told t))

singly : Tell (run_at 20 1 ∷ run_at 21 1 ∷ run_at 22 1 ∷ run_at 5 1 ∷ []) four → ⊥
singly t =
    omega (
      arith,
      ap (λ (rs : List Run). length rs) (told_once both (run_at 20 1 ∷ run_at 21 1 ∷ run_at 22 1 ∷
          run_at 5 1 ∷ []) four told t),
    )

one_fewer : Tell (run_at 20 3 ∷ []) four → ⊥
one_fewer t =
    omega (arith, ap (λ (rs : List Run). length rs) (told_once both (run_at 20 3 ∷ []) four told t))

one_page_more : Tell (run_at 20 4 ∷ run_at 5 1 ∷ []) four → ⊥
one_page_more t =
    omega (
      arith,
      ap (λ (rs : List Run). length (pages_of_runs rs)) (told_once both (run_at 20 4 ∷ run_at 5 1 ∷
          []) four told t),
    )

-- ---- what is named

named : AreNamed four 5 (both ++ run_at 9 9 ∷ []) (record { runs = 2; pages = 4; skipped = 1 })
named = record { told_so = told; few = omega arith; count = refl; others = refl }

-- another count of pages, and another one of skipped numbers
more_pages : (runs : List Run) → AreNamed four 4 runs (record { runs = 2; pages = 5; skipped = 0 }) → ⊥
more_pages runs n = omega (arith, n.count)

none_skipped : (runs : List Run) → AreNamed four 5 runs (record { runs = 2; pages = 4; skipped = 0 }) → ⊥
none_skipped runs n = omega (arith, n.others)

-- runs that are left open
left_open : AreNamed four 4 [] (record { runs = 2; pages = 4; skipped = 0 }) → ⊥
left_open n = grind (arith, told)

-- other runs, more runs than numbers, and a number that wasn't skipped
exchanged_runs : AreNamed four 4 (run_at 5 1 ∷ run_at 20 3 ∷ []) (record { runs = 2; pages = 4; skipped = 0 })
    → ⊥
exchanged_runs n = exchanged n.told_so

more_runs : AreNamed [] 0 [] (record { runs = 1; pages = 0; skipped = 0 }) → ⊥
more_runs n = omega (arith, n.few)

one_skipped : (runs : List Run) → AreNamed four 4 runs (record { runs = 2; pages = 4; skipped = 1 }) → ⊥
one_skipped runs n = omega (arith, n.others)

-- ---- numbers

-- of memory of 64 pages, of which 16 are reserved
right : right_numbers 16 64 (20 ∷ 3 ∷ 64 ∷ 16 ∷ 63 ∷ []) ≡ 20 ∷ 16 ∷ 63 ∷ []
right = refl

-- the first wrong number counts, past the end or reserved; none where wrong ones are skipped
faults : map (fault_in false 16 64) ((20 ∷ 64 ∷ 3 ∷ []) ∷ (20 ∷ 3 ∷ 64 ∷ []) ∷ (20 ∷ 16 ∷ []) ∷ [])
    ≡ Some BadPage ∷ Some ReservedPage ∷ None ∷ []
faults = refl

skipped : fault_in true 16 64 (20 ∷ 3 ∷ 64 ∷ []) ≡ None
skipped = refl

-- ---- the device after it

taken : after_chain Deflate (Ok (record { runs = 0; pages = 0; skipped = 0 })) fresh ≡
    record fresh { deflate = record (fresh.deflate) { next_avail = 1 } }
taken = refl

broken : after_chain Deflate (Err BadPage) fresh ≡ record fresh { status = 64 }
broken = refl

-- numbers alone take nothing
untaken : after_numbers (Ok (record { runs = 0; pages = 0; skipped = 0 })) fresh ≡ fresh
untaken = refl

broken_by_numbers : after_numbers (Err BadPage) fresh ≡ record fresh { status = 64 }
broken_by_numbers = refl
