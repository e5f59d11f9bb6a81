-- Pages as runs of neighbours.
use Rattle.std.specs.Prelude.{◌≡◌, ◌≢◌, ℕ, ◌+◌, ◌==◌, List, [], ◌∷◌, ◌++◌, if◌then◌else◌}
use Rattle.std.specs.Prelude.{Option, Some, None}
use Rattle.std.specs.List.{range_with_len, flat_map}
use Rattle.vb_core.specs.declared.runs.Run.{Run}

-- The pages of a run, rising.
abbrev pub pages_of_run : Run → List ℕ
pages_of_run run = range_with_len run.first run.count

-- Those of all runs, in their order.
abbrev pub pages_of_runs : List Run → List ℕ
pages_of_runs runs = flat_map pages_of_run runs

-- A number joins neither end of a run.
abbrev pub IsApartFrom : Run → ℕ → Type 0
IsApartFrom run n = (n ≢ run.first + run.count) × (n + 1 ≢ run.first)

-- The first of these numbers, if there is one, joins neither end of a run.
abbrev pub IsApart : Run → List ℕ → Type 0
IsApart run [] = Unit {0}
IsApart run (n ∷ ns) = IsApartFrom run n

-- A run that takes a number in: at its end where the number follows its last page, else at its
-- front where the number is right before its first one.
abbrev pub joined : Run → ℕ → Option Run
joined run n =
    if n == run.first + run.count
    then Some (record { first = run.first; count = run.count + 1 })
    else if n + 1 == run.first then Some (record { first = n; count = run.count + 1 })
    else None

-- A run takes these numbers in, one after another.
abbrev pub Grows : Run → List ℕ → Run → Type 0
Grows old [] new = new ≡ old
Grows old (n ∷ ns) new = (next : Run) × ((joined old n ≡ Some next) × Grows next ns new)

-- The run of one page.
abbrev pub one_page : ℕ → Run
one_page page = record { first = page; count = 1 }

-- A list begins with a part that makes a run: its first number, which the others join.
pub record IsPart (run : Run) (ns part rest : List ℕ) : Type 0 where
  pub whole : ns ≡ part ++ rest
  pub grows : (n : ℕ) × ((more : List ℕ) × ((part ≡ n ∷ more) × Grows (one_page n) more run))

-- The runs tell these numbers in their order: the numbers fall into parts, one a run, of which each
-- makes its run; and the number after a part joins neither end of its run.
abbrev pub Tell : List Run → List ℕ → Type 0
Tell [] ns = ns ≡ []
Tell (run ∷ runs) ns =
    (part : List ℕ) ×
    ((rest : List ℕ) × (IsPart run ns part rest × (IsApart run rest × Tell runs rest)))
