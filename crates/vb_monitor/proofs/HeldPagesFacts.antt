-- With how many pages a chain is held, worked out, and that of an inflate none waits: a host that grants deflates goes by
-- both.
use Rattle.std.proofs.Common.{◌≡◌, refl, ap, arith, ℕ, false, List, [], ◌∷◌, map, Option, Some, None}
use Rattle.vb_virtio.specs.Tests.{one_if}
use Rattle.vb_core.specs.declared.kinds.Kind.TheVariants.{Inflate, Deflate, Statistics, Hint, Report}
use Rattle.vb_core.specs.Settings.{holds_chains}
use Rattle.vb_monitor.specs.declared.outcome.{HeldChain.HeldChain, Outcome.Outcome, Tally.Tally}
use Rattle.vb_monitor.specs.Accesses.{Access, CopyBytes, Acquire, TellPages}
use Rattle.vb_monitor.specs.{Giving.with_named, Holding.HoldsTold}
use Rattle.vb_monitor.proofs.Samples.{Same, at, tally, page_5, one_page, number, index, entry, part, descriptor}
use Rattle.vb_monitor.proofs.{Samples.{first_descriptor, last_descriptor, figures, chain_of}, HoldingFacts.holding}

abbrev told_with : ℕ → Access
told_with n = TellPages Deflate (page_5 ∷ []) (record one_page { pages = n })

-- a chain of one piece, and one of two, of which 256 pages were told
abbrev read : List Access
read = part ∷ descriptor ∷ entry ∷ Acquire ∷ index ∷ []

abbrev half : List Access
half = part ∷ CopyBytes (at 0x50) last_descriptor ∷ CopyBytes (at 0x30) first_descriptor ∷ entry ∷ Acquire ∷ index ∷ []

abbrev further : List Access
further = part ∷ told_with 256 ∷ half

abbrev ending : Option HeldChain → Outcome
ending held = record { tally = record tally { held = held }; why = None; interrupt = false; more = false }

abbrev pages_of : Option HeldChain → ℕ
pages_of None = 70000
pages_of (Some x) = x.pages

abbrev head_of : Option HeldChain → ℕ
head_of None = 70000
head_of (Some x) = x.head

-- ---- with the number of its pages, and no other one

held_with_one : HoldsTold Deflate holding (ending (chain_of 3 1)) read (told_with 1)
held_with_one e = (refl, refl)

with_two : HoldsTold Deflate holding (ending (chain_of 3 2)) read (told_with 1) → ⊥
with_two h = let e : Same 2 1 = ap pages_of (h refl).0 in omega arith

with_none : HoldsTold Deflate holding (ending (chain_of 3 0)) read (told_with 1) → ⊥
with_none h = let e : Same 0 1 = ap pages_of (h refl).0 in omega arith

another_head : HoldsTold Deflate holding (ending (chain_of 4 1)) read (told_with 1) → ⊥
another_head h = let e : Same 4 3 = ap head_of (h refl).0 in omega arith

not_held : HoldsTold Deflate holding (ending None) read (told_with 1) → ⊥
not_held h = let e : Same 70000 1 = ap pages_of (h refl).0 in omega arith

-- over two portions with those of both
amid : HoldsTold Deflate holding (ending None) half (told_with 256)
amid e = tt

held_with_all : HoldsTold Deflate holding (ending (chain_of 3 257)) further (told_with 1)
held_with_all e = (refl, refl)

with_the_last : HoldsTold Deflate holding (ending (chain_of 3 1)) further (told_with 1) → ⊥
with_the_last h = let e : Same 1 257 = ap pages_of (h refl).0 in omega arith

-- figures are held with none
held_with_figures : HoldsTold Statistics holding (ending (chain_of 3 0)) read figures
held_with_figures e = (refl, refl)

figures_with_one : HoldsTold Statistics holding (ending (chain_of 3 1)) read figures → ⊥
figures_with_one h = let e : Same 1 0 = ap pages_of (h refl).0 in omega arith

-- ---- an inflate doesn't wait, nor do hints and reports

which_wait : map (λ kind. one_if (holds_chains kind holding)) (Inflate ∷ Deflate ∷ Statistics ∷ Hint ∷ Report ∷ [])
    ≡ 0 ∷ 1 ∷ 1 ∷ 0 ∷ 0 ∷ []
which_wait = refl

abbrev held_of : Tally → ℕ
held_of t = pages_of t.held

which_are_held : map (λ kind. held_of (with_named kind holding 3 one_page tally)) (Inflate ∷ Deflate ∷ Statistics ∷ Hint ∷ Report ∷ [])
    ≡ 70000 ∷ 1 ∷ 1 ∷ 70000 ∷ 70000 ∷ []
which_are_held = refl
