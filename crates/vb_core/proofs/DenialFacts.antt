-- A denied call answers why and leaves the device and the set as they were; and a count of too many
-- changed pages is no answer.
use Rattle.std.{proofs.Common.{◌≡◌, ℕ, List, [], ◌∷◌, refl, ap, arith}, specs.Prelude.{Result, Ok, Err}}
use Rattle.vb_core.specs.declared.kinds.Kind.TheVariants.{Inflate, Statistics, Hint, Report}
use Rattle.vb_core.specs.declared.device.{Denial.{Denial, TheVariants.{NotReady, NoQueue, BadArgument}}, Device.Device}
use Rattle.vb_core.specs.declared.{name.Named.Named}
use Rattle.vb_core.specs.declared.{runs.Run.Run}
use Rattle.vb_core.{proofs.Examples.{fresh, ready}, specs.Report.NamesPiecesBy}
use Rattle.vb_core.specs.{Name.NamesNumbersBy, Ballooned.MarksBy}

abbrev other : Device
other = record fresh { target = 1 }

name_denied_but_changed : NamesNumbersBy Inflate (20 ∷ 0 ∷ 0 ∷ 0 ∷ []) 1 [] fresh other (Err NotReady) → ⊥
name_denied_but_changed n = omega (arith, ap (λ (d : Device). d.target) (n.denied NotReady refl).1)

-- a queue of statistics has no numbers, a byte is none, and no set has a page of it; a report wants room for 32 runs, and so does a hint
no_numbers : (runs : List Run) (d : Device) (result : Result Named Denial)
    → (NamesNumbersBy Statistics (20 ∷ 0 ∷ 0 ∷ 0 ∷ []) 1 runs ready d result → (result ≡ Err NoQueue) × (d ≡ ready))
    × (NamesNumbersBy Inflate (20 ∷ []) 1 runs ready d result → (result ≡ Err BadArgument) × (d ≡ ready))
no_numbers runs d result = (λ n. n.denied NoQueue refl, λ n. n.denied BadArgument refl)

no_room : (runs : List Run) (d : Device) (named : Result Named Denial)
    → (NamesPiecesBy Report [] 31 runs ready d named → (named ≡ Err BadArgument) × (d ≡ ready))
    × (NamesPiecesBy Hint [] 31 runs ready d named → (named ≡ Err BadArgument) × (d ≡ ready))
    × (NamesPiecesBy Inflate [] 32 runs ready d named → (named ≡ Err NoQueue) × (d ≡ ready))
no_room runs d named =
    (λ n. n.denied BadArgument refl, λ n. n.denied BadArgument refl, λ n. n.denied NoQueue refl)

no_set : (set : List ℕ) (result : Result ℕ Denial)
    → (MarksBy Statistics [] (5 ∷ []) set result → (result ≡ Err NoQueue) × (set ≡ 5 ∷ []))
    × (MarksBy Inflate (record { first = 64; count = 1 } ∷ []) (5 ∷ []) set result
    → (result ≡ Err BadArgument) × (set ≡ 5 ∷ []))
no_set set result = (λ m. m.denied NoQueue refl, λ m. m.denied BadArgument refl)

-- an empty list of runs changes no page
mark_counts_too_many : MarksBy Inflate [] [] [] (Ok 5) → ⊥
mark_counts_too_many m = omega (arith, (m.marked refl).count)
