-- What a notice reads first is what memory had at first.
use Rattle.std.proofs.Common.{◌≡◌, ◌∙◌, ap, subst, ℕ, List, [], ◌∷◌, length, Some}
use Rattle.std.specs.Int.{w16, from_le_bytes}
use Rattle.vb_request.specs.Request.{bytes_from}
use Rattle.vb_monitor.specs.declared.regions.{Region.Region, Spot.Spot}
use Rattle.vb_monitor.specs.Accesses.{Access, ReadWord, CopyBytes, Acquire, Release, Full, Steps}
use Rattle.vb_monitor.specs.Accesses.{TellPages, TellFigures, TellId, Pause, Discard, WriteNumber, WriteWord}
use Rattle.vb_monitor.specs.Regions.{spot}
use Rattle.vb_monitor.specs.Still.{StaysUntil}
use Rattle.vb_served.specs.{Store.{Store, After}, One.byte}

-- a place in these regions is an address
pub record IsPlain (regions : List Region) : Type 0 where
  pub place : (a len : ℕ) (at : Spot) → spot regions a len ≡ Some at → at.offset ≡ a

-- these accesses make one memory of another
abbrev pub Between : Store → Store → List Access → Type 0
Between s u log = Steps After s log u

pub from_same : (s t u : Store) (xs : List Access) → t ≡ s → Steps After t xs u → Steps After s xs u
from_same s t u xs e h = subst (λ (x : Store). Steps After x xs u) e h

-- what is read first is what memory had at first
pub stays_so : (s u : Store) (regions : List Region) (log : List Access) → IsPlain regions →
    Steps After s log u → StaysUntil (Between s u) (byte s) regions log
stays_so s u regions [] plain h = h
stays_so s u regions (ReadWord at answer ∷ xs) plain (t, (e, same), rest) = (
  λ a f. e ∙ ap (λ (n : ℕ). from_le_bytes w16 (bytes_from s.mem n 2)) (plain.place a 2 at f),
  stays_so s u regions xs plain (from_same s t u xs same rest),
)
stays_so s u regions (CopyBytes at answer ∷ xs) plain (t, (e, same), rest) = (
  λ a f. e ∙ ap (λ (n : ℕ). bytes_from s.mem n (length answer)) (plain.place a
      (length answer) at f),
  stays_so s u regions xs plain (from_same s t u xs same rest),
)
stays_so s u regions (Acquire ∷ xs) plain (t, same, rest) =
    (tt, stays_so s u regions xs plain (from_same s t u xs same rest))
stays_so s u regions (Release ∷ xs) plain h = h
stays_so s u regions (Full ∷ xs) plain h = h
stays_so s u regions (TellPages kind runs named ∷ xs) plain h = h
stays_so s u regions (TellFigures figures ∷ xs) plain h = h
stays_so s u regions (TellId id ∷ xs) plain h = h
stays_so s u regions (Pause ∷ xs) plain h = h
stays_so s u regions (Discard cut ∷ xs) plain h = h
stays_so s u regions (WriteNumber at number ∷ xs) plain h = h
stays_so s u regions (WriteWord at word ∷ xs) plain h = h
