-- A step has one outcome.
use Rattle.std.proofs.Common.{◌≡◌, ℕ, inl, inr, true, false, nat_lt, refl, subst, sym, ap, ◌∙◌, arith}
use Rattle.vb_host.specs.declared.event.Event.{Event}
use Rattle.vb_host.specs.declared.event.Event.TheVariants.{Grants}
use Rattle.vb_host.specs.Lending.{Lending, all_targeted, happens, test_at, value_at, room}
use Rattle.vb_host.specs.Line.{ByGrants, Granted, GrantsNone, IsNextGrant, IsStep, Stays}
use Rattle.vb_host.specs.Seats.{asked, covers}
use Rattle.vb_host.proofs.Lines.{one_first, same_by_order}

not_both : (l : Lending) (n : ℕ) → test_at covers l.seats n ≡ true → test_at covers l.seats n ≡ false → ⊥
not_both l n e f = absurd (cc)

next_one : (l : Lending) (a b : ℕ) → IsNextGrant l a → IsNextGrant l b → a ≡ b
next_one l a b e f = elim e [
  | inl x ↦ elim f [
    | inl y ↦ same_by_order a b (nat_lt a b) (nat_lt b a) refl refl (λ h. not_both l a x.0 (y.1 a h)) (λ h. not_both l b y.0 (x.1 b h))
    | inr y ↦ absurd (not_both l a x.0 (y.0 a))
  ]
  | inr x ↦ elim f [
    | inl y ↦ absurd (not_both l b y.0 (x.0 b))
    | inr y ↦ one_first l.seats a b x.1 y.1
  ]
]

next_none : (l : Lending) (n : ℕ) → GrantsNone l → IsNextGrant l n → ⊥
next_none l n g e = elim e [
  | inl x ↦ not_both l n x.0 (g.none_covered n)
  | inr x ↦ elim g.no_room [
    | inl none ↦ omega (arith, none n, x.1.waits)
    | inr first ↦ omega (arith, first.2, x.2, ap (λ (k : ℕ). value_at asked l.seats k) (one_first l.seats n first.0 x.1 first.1))
  ]
]

-- where no guest can be granted, none is
from_none : (l k : Lending) → GrantsNone l → ByGrants l k → l ≡ k
from_none _ _ g (Stays l) = refl
from_none _ _ g (Granted l k n e b) = absurd (next_none l n g e)

-- where one is granted next, that is the first grant
then_next : (l k : Lending) (n : ℕ) → IsNextGrant l n → ByGrants l k → GrantsNone k → ByGrants (happens l (Grants n)) k
then_next _ _ n e (Stays l) g = absurd (next_none l n g e)
then_next _ _ n e (Granted l k i f b) g = subst (λ (j : ℕ). ByGrants (happens l (Grants j)) k) (next_one l i n f e) b

grants_one : (l m k : Lending) → ByGrants l m → GrantsNone m → ByGrants l k → GrantsNone k → m ≡ k
grants_one _ _ k (Stays l) g c h = from_none l k g c
grants_one _ _ k (Granted l m n e b) g c h = grants_one (happens l (Grants n)) m k b g (then_next l k n e c h) h

pub step_one : (l m k : Lending) (e : Event) → IsStep l e m → IsStep l e k → m ≡ k
step_one l m k e s t = s.targets
    ∙ (ap (λ (g : Lending). record g { seats = all_targeted (room g) g.seats }) (grants_one (happens l e) s.granted t.granted s.by_grants s.grants_none t.by_grants t.grants_none)
    ∙ sym t.targets)
