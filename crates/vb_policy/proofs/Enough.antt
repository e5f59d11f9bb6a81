-- Targets are enough, and possible.
use Rattle.std.proofs.Common.{◌≡◌, ◌⊎◌, ℕ, ◌+◌, ◌-◌, ◌<◌, ◌≤◌, max, List, length, map, sum, sum_by}
use Rattle.std.proofs.Common.{Bool, true, false, ◌||◌, if◌then◌else◌, nat_lt, get_or}
use Rattle.std.proofs.Common.{inl, inr, refl, ap, Contains, arith, ◌∙◌}
use Rattle.std.proofs.lemmas.Bool.{cases_lt}
use Rattle.std.proofs.lemmas.Bool.Decides.{nat_tests}
use Rattle.std.proofs.lemmas.List.Sums.{AllPass-from_list_all, sum-map}
use Rattle.std.proofs.lemmas.List.Elements.{All-contains}
use Rattle.std.specs.List.{list_all}
use Rattle.vb_policy.specs.declared.guest.Decision.{Decision}
use Rattle.vb_policy.specs.declared.guest.Decision.TheVariants.{Enough, Divided, Short}
use Rattle.vb_policy.specs.declared.guest.Division.{Division}
use Rattle.vb_policy.specs.declared.guest.Guest.{Guest}
use Rattle.vb_policy.specs.declared.guest.Host.{Host}
use Rattle.vb_policy.specs.declared.guest.Tier.{Tier}
use Rattle.vb_policy.specs.declared.guest.Tier.TheVariants.{Unused, Reserve}
use Rattle.vb_policy.specs.Decisions.{Decides, may_stay, short_targets}
use Rattle.vb_policy.specs.Divisions.{fair}
use Rattle.vb_policy.specs.Laws.{value_at}
use Rattle.vb_policy.specs.Settling.{base, is_poor, is_squeezed, most_of, settled}
use Rattle.vb_policy.specs.Tiers.{through}
use Rattle.vb_policy.proofs.Giving.{all-through-le, through-le}
use Rattle.vb_policy.proofs.Maps.{maps_below, tested_below}
use Rattle.vb_policy.proofs.Order.{fair-le-through}

pub enough : (host : Host) (gs : List Guest) (decision : Decision) (targets : List ℕ)
    → Decides host gs decision targets → host.lack ≤ sum_by (through Reserve) gs
    → host.lack ≤ sum targets
enough host gs Enough targets is l = omega (arith, is.0)
enough host gs (Divided d gap) targets is l = omega (
  arith,
  is.1.enough,
  sum-map (settled host d gap) gs,
  ap (λ (ts : List ℕ). sum ts) is.2,
)
enough host gs (Short missing) targets is l = absurd (omega (arith, l, is.0, is.1))

-- ---- what a guest's target is at most

or_cases : (a b : Bool) → ((a || b) ≡ false → a ≡ false)
or_cases true b e = e
or_cases false b e = refl

-- a guest that isn't poor has no target beyond what may be
pub base-le : (host : Host) (t : Tier) (part : ℕ) (g : Guest) → part ≤ most_of g
    → base host t part g ≤ most_of g
base-le host t part g l = elim (is_poor host t part g) as
    (λ b. (is_poor host t part g ≡ b) → (if b then part else g.target) ≤ most_of g) [
      | true ↦ λ e. l
      | false ↦ λ e. grind (
        arith,
        nat_tests,
        or_cases (nat_lt (most_of g) g.target) (is_squeezed host t part g) e,
      )
    ] refl

fair-le-most : (d : Division) (g : Guest) → fair d g ≤ most_of g
fair-le-most d g = omega (arith, fair-le-through d g, through-le d.tier g)

pub settled-le-most : (host : Host) (d : Division) (gap : ℕ) (g : Guest)
    → settled host d gap g ≤ most_of g
settled-le-most host d gap g = of_two (base host d.tier (fair d g) g) (fair d g) gap (most_of g)
    (base-le host d.tier (fair d g) g (fair-le-most d g)) (fair-le-most d g) where
      of_two : (base fair gap most : ℕ) → base ≤ most → fair ≤ most → max base (fair - gap) ≤ most
      of_two base fair gap most l m = omega (arith, l, m)

-- ---- where nothing is missing

relieved : (host : Host) (g : Guest) → base host Unused 0 g ≤ g.target
relieved host g = elim (is_poor host Unused 0 g) as (λ b. (if b then 0 else g.target) ≤ g.target) [
  | true ↦ omega arith
  | false ↦ omega arith
]

at_place : (i n : ℕ) (one other : List ℕ) → one ≡ other → get_or other i 0 ≤ n → get_or one i 0 ≤ n
at_place i n one other e l = omega (arith, l, ap (λ (ts : List ℕ). get_or ts i 0) e)

pub kept_where_enough : (host : Host) (gs : List Guest) (targets : List ℕ) (i : ℕ)
    → Decides host gs Enough targets → get_or targets i 0 ≤ value_at (λ g. g.target) gs i
kept_where_enough host gs targets i is = at_place i _ targets (map (base host Unused 0) gs) is.1
    (maps_below (base host Unused 0) (λ g. g.target) (relieved host) gs i)

pub possible : (host : Host) (gs : List Guest) (decision : Decision) (targets : List ℕ) (i : ℕ)
    → Decides host gs decision targets → host.lack ≤ sum_by (through Reserve) gs
    → get_or targets i 0 ≤ value_at most_of gs i
possible host gs Enough targets i is l = at_place i _ targets (map (base host Unused 0) gs) is.1
    (maps_below (base host Unused 0) most_of (λ g. base-le host Unused 0 g (omega arith)) gs i)
possible host gs (Divided d gap) targets i is l = at_place i _ targets
    (map (settled host d gap) gs) is.2
    (maps_below (settled host d gap) most_of (settled-le-most host d gap) gs i)
possible host gs (Short missing) targets i is l = absurd (omega (arith, l, is.0, is.1))

-- ---- on a short host

stays-most : (host : Host) (g : Guest) → may_stay host g ≡ true → g.target ≤ g.spare + host.slack
stays-most host g e = grind (arith, nat_tests)

stays-least : (host : Host) (g : Guest) → may_stay host g ≡ true → g.spare ≤ g.target + host.slack
stays-least host g e = grind (arith, nat_tests)

more_at : (host : Host) (gs : List Guest) (i : ℕ) → i < length gs
    → get_or (short_targets host gs) i 0 ≤ value_at (λ g. g.spare) gs i + host.slack
more_at host gs i l = elim (list_all (may_stay host) gs) as
    (λ b. (list_all (may_stay host) gs ≡ b)
    → get_or (if b then map (λ g. g.target) gs else map (λ g. g.spare) gs) i 0
    ≤ value_at (λ g. g.spare) gs i + host.slack) [
      | true ↦ λ e. tested_below (may_stay host) (λ g. g.target) (λ g. g.spare) host.slack
          (stays-most host) gs i l e
      | false ↦ λ e. omega arith
    ] refl

less_at : (host : Host) (gs : List Guest) (i : ℕ) → i < length gs
    → value_at (λ g. g.spare) gs i ≤ get_or (short_targets host gs) i 0 + host.slack
less_at host gs i l = elim (list_all (may_stay host) gs) as
    (λ b. (list_all (may_stay host) gs ≡ b) → value_at (λ g. g.spare) gs i
    ≤ get_or (if b then map (λ g. g.target) gs else map (λ g. g.spare) gs) i 0 + host.slack) [
      | true ↦ λ e. tested_below (may_stay host) (λ g. g.spare) (λ g. g.target) host.slack
          (stays-least host) gs i l e
      | false ↦ λ e. omega arith
    ] refl

short_is : (host : Host) (gs : List Guest) (decision : Decision) (targets : List ℕ)
    → Decides host gs decision targets → sum_by (through Reserve) gs < host.lack
    → targets ≡ short_targets host gs
short_is host gs Enough targets is l = absurd (omega (arith, l, is.0))
short_is host gs (Divided d gap) targets is l =
    absurd (omega (arith, l, is.0.tier, all-through-le d.tier gs))
short_is host gs (Short missing) targets is l = is.2

pub short_most : (host : Host) (gs : List Guest) (decision : Decision) (targets : List ℕ) (i : ℕ)
    → Decides host gs decision targets → sum_by (through Reserve) gs < host.lack → i < length gs
    → get_or targets i 0 ≤ value_at (λ g. g.spare) gs i + host.slack
short_most host gs decision targets i is l within = omega (
  arith,
  more_at host gs i within,
  ap (λ (ts : List ℕ). get_or ts i 0) (short_is host gs decision targets is l),
)

pub short_least : (host : Host) (gs : List Guest) (decision : Decision) (targets : List ℕ) (i : ℕ)
    → Decides host gs decision targets → sum_by (through Reserve) gs < host.lack → i < length gs
    → value_at (λ g. g.spare) gs i ≤ get_or targets i 0 + host.slack
short_least host gs decision targets i is l within = omega (
  arith,
  less_at host gs i within,
  ap (λ (ts : List ℕ). get_or ts i 0) (short_is host gs decision targets is l),
)

-- ---- where one waits

waiting : (host : Host) (g : Guest) → g.waits ≡ true → may_stay host g ≡ true → ⊥
waiting host g e stays = grind (arith, nat_tests)

none_stay : (host : Host) (gs : List Guest) (g : Guest) → Contains gs g → g.waits ≡ true
    → short_targets host gs ≡ map (λ h. h.spare) gs
none_stay host gs g among e = elim (list_all (may_stay host) gs) as
    (λ b. (list_all (may_stay host) gs ≡ b)
    → (if b then map (λ h. h.target) gs else map (λ h. h.spare) gs) ≡ map (λ h. h.spare) gs) [
      | true ↦ λ all. absurd (waiting host g e (All-contains (λ h. may_stay host h ≡ true) gs g
          (AllPass-from_list_all (may_stay host) gs all) among))
      | false ↦ λ some. refl
    ] refl

pub not_in_vain : (host : Host) (gs : List Guest) (decision : Decision) (targets : List ℕ)
    (g : Guest) → Decides host gs decision targets → Contains gs g → g.waits ≡ true
    → (host.lack ≤ sum targets) ⊎ (targets ≡ map (λ h. h.spare) gs)
not_in_vain host gs decision targets g is among e =
    elim (cases_lt (sum_by (through Reserve) gs) host.lack) [
      | inl short ↦ inr (short_is host gs decision targets is short ∙ none_stay host gs g among e)
      | inr given ↦ inl (enough host gs decision targets is given)
    ]
