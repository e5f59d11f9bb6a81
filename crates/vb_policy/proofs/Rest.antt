-- Deciding again with the targets that were set.
use Rattle.std.proofs.Common.{◌≡◌, ℕ, ◌+◌, ◌-◌, ◌*◌, ◌<◌, ◌≤◌, max, min, List, [], ◌∷◌, map}
use Rattle.std.proofs.Common.{Bool, true, false, ◌||◌, if◌then◌else◌, nat_lt, sum, sum_by, refl, ap}
use Rattle.std.proofs.Common.{sym, ◌∙◌, subst, arith}
use Rattle.std.proofs.lemmas.Bool.Decides.{nat_tests}
use Rattle.std.proofs.lemmas.List.Sums.{sum-map}
use Rattle.std.proofs.lemmas.Bool.{true≢false}
use Rattle.std.proofs.lemmas.List.{map-id}
use Rattle.std.proofs.lemmas.Nat.{mul-le}
use Rattle.std.specs.List.{list_all}
use Rattle.vb_policy.specs.declared.guest.Decision.{Decision}
use Rattle.vb_policy.specs.declared.guest.Decision.TheVariants.{Enough, Divided, Short}
use Rattle.vb_policy.specs.declared.guest.Division.{Division}
use Rattle.vb_policy.specs.declared.guest.Guest.{Guest}
use Rattle.vb_policy.specs.declared.guest.Host.{Host}
use Rattle.vb_policy.specs.declared.guest.Tier.{Tier}
use Rattle.vb_policy.specs.declared.guest.Tier.TheVariants.{Reserve, Unused}
use Rattle.vb_policy.specs.Decisions.{Decides, may_stay, short_targets}
use Rattle.vb_policy.specs.Divisions.{Divides, fair}
use Rattle.vb_policy.specs.Laws.{CanGiveMore, with_targets}
use Rattle.vb_policy.specs.Settling.{base, is_poor, is_squeezed, most_of, settled, Settles}
use Rattle.vb_policy.specs.Tiers.{through}
use Rattle.vb_policy.proofs.Alike.{not_divided, same_division}
use Rattle.vb_policy.proofs.Enough.{base-le, settled-le-most}
use Rattle.vb_policy.proofs.Later.{all_more, more_share, more_through}

-- a guest with another target
abbrev pub retargeted : (Guest → ℕ) → Guest → Guest
retargeted f g = record g { target = f g }

with_map : (f : Guest → ℕ) (gs : List Guest)
    → with_targets gs (map f gs) ≡ map (retargeted f) gs
with_map f [] = refl
with_map f (g ∷ gs) = ap (λ (hs : List Guest). retargeted f g ∷ hs) (with_map f gs)

can_give : (f : Guest → ℕ) (gs : List Guest) → CanGiveMore gs (map (retargeted f) gs)
can_give f [] = tt
can_give f (g ∷ gs) = (refl, refl, omega arith, omega arith, omega arith, can_give f gs)

can_give_back : (f : Guest → ℕ) (gs : List Guest) → CanGiveMore (map (retargeted f) gs) gs
can_give_back f [] = tt
can_give_back f (g ∷ gs) = (refl, refl, omega arith, omega arith, omega arith, can_give_back f gs)

-- ---- of one guest

same_through : (t : Tier) (f : Guest → ℕ) (g : Guest) → through t (retargeted f g) ≡ through t g
same_through t f g = omega (
  arith,
  more_through t g (retargeted f g) (refl, refl, omega arith, omega arith, omega arith),
  more_through t (retargeted f g) g (refl, refl, omega arith, omega arith, omega arith),
)

same_fair : (d : Division) (f : Guest → ℕ) (g : Guest) → fair d (retargeted f g) ≡ fair d g
same_fair d f g = omega (
  arith,
  more_share d.tier d.priority d.kept g (retargeted f g)
      (refl, refl, omega arith, omega arith, omega arith),
  more_share d.tier d.priority d.kept (retargeted f g) g
      (refl, refl, omega arith, omega arith, omega arith),
)

squeezed_no : (host : Host) (t : Tier) (part : ℕ) (g : Guest)
    → is_squeezed host t part g ≡ false
    → min 100 host.band * (through t g - part) ≤ 100 * ((through t g - g.target) + host.slack)
squeezed_no host t part g e = grind (arith, nat_tests)

poor_no : (host : Host) (t : Tier) (part : ℕ) (g : Guest) → g.target ≤ most_of g
    → min 100 host.band * (through t g - part) ≤ 100 * ((through t g - g.target) + host.slack)
    → is_poor host t part g ≡ false
poor_no host t part g l m = grind (arith, nat_tests)

or_none : (a b : Bool) → (a || b) ≡ false → b ≡ false
or_none true b e = absurd (true≢false e)
or_none false b e = e

-- over plain numbers: a guest that has its part isn't squeezed, nor one that rises to no more
has_part : (product all part gap slack : ℕ) → product ≤ 100 * (all - part)
    → product ≤ 100 * ((all - max part (part - gap)) + slack)
has_part product all part gap slack l = omega (arith, l)

has_risen : (product all part gap target slack : ℕ) → product ≤ 100 * (all - part)
    → product ≤ 100 * ((all - target) + slack)
    → product ≤ 100 * ((all - max target (part - gap)) + slack)
has_risen product all part gap target slack l m = omega (arith, l, m)

band_of_part : (band all part : ℕ) → min 100 band * (all - part) ≤ 100 * (all - part)
band_of_part band all part =
    mul-le (min 100 band) (all - part) 100 (all - part) (omega arith) (omega arith)

settled_band : (host : Host) (t : Tier) (part gap : ℕ) (g : Guest)
    → min 100 host.band * (through t g - part)
    ≤ 100 * ((through t g - max (base host t part g) (part - gap)) + host.slack)
settled_band host t part gap g = elim (is_poor host t part g) as
    (λ b. (is_poor host t part g ≡ b) → min 100 host.band * (through t g - part)
    ≤ 100 * ((through t g - max (if b then part else g.target) (part - gap)) + host.slack)) [
      | true ↦ λ e. has_part (min 100 host.band * (through t g - part)) (through t g) part gap
          host.slack (band_of_part host.band (through t g) part)
      | false ↦ λ e. has_risen (min 100 host.band * (through t g - part)) (through t g) part gap
          g.target host.slack (band_of_part host.band (through t g) part) (squeezed_no host t part g
          (or_none (nat_lt (most_of g) g.target) (is_squeezed host t part g) e))
    ] refl

-- a guest whose target may be and isn't squeezed stays
rests : (host : Host) (t : Tier) (part : ℕ) (f : Guest → ℕ) (g : Guest) → f g ≤ most_of g
    → min 100 host.band * (through t g - part) ≤ 100 * ((through t g - f g) + host.slack)
    → base host t part (retargeted f g) ≡ f g
rests host t part f g l m = ap (λ (b : Bool). if b then part else f g)
    (poor_no host t part (retargeted f g) l (subst
    (λ (n : ℕ). min 100 host.band * (n - part) ≤ 100 * ((n - f g) + host.slack))
    (sym (same_through t f g)) m))

settled_rests : (host : Host) (d : Division) (gap n : ℕ) (g : Guest) → gap ≤ n
    → settled host d n (retargeted (settled host d gap) g) ≡ settled host d gap g
settled_rests host d gap n g l = let f : Guest → ℕ = settled host d gap in
    let part : ℕ = fair d g in
    ap (λ (p : ℕ). max (base host d.tier p (retargeted f g)) (p - n)) (same_fair d f g)
    ∙ within (base host d.tier part (retargeted f g)) (f g) (base host d.tier part g) part
    (rests host d.tier part f g (settled-le-most host d gap g)
    (settled_band host d.tier part gap g)) refl where
      within : (now new old part : ℕ) → now ≡ new → new ≡ max old (part - gap)
          → max now (part - n) ≡ new
      within now new old part e m = omega (arith, l, e, m)

relieved_rests : (host : Host) (g : Guest)
    → base host Unused 0 (retargeted (base host Unused 0) g) ≡ base host Unused 0 g
relieved_rests host g = rests host Unused 0 (base host Unused 0) g
    (base-le host Unused 0 g (omega arith)) (subst
    (λ (n : ℕ). min 100 host.band * (through Unused g - 0)
    ≤ 100 * ((through Unused g - n) + host.slack))
    (no_gap (base host Unused 0 g)) (settled_band host Unused 0 0 g)) where
      no_gap : (n : ℕ) → max n (0 - 0) ≡ n
      no_gap n = omega arith

-- ---- of all

maps_rest : (h f : Guest → ℕ) → ((g : Guest) → h (retargeted f g) ≡ f g) → (gs : List Guest)
    → map h (map (retargeted f) gs) ≡ map f gs
maps_rest h f same [] = refl
maps_rest h f same (g ∷ gs) = ap (λ (n : ℕ). n ∷ map h (map (retargeted f) gs)) (same g)
    ∙ ap (λ (ns : List ℕ). f g ∷ ns) (maps_rest h f same gs)

sums_rest : (h f : Guest → ℕ) → ((g : Guest) → h (retargeted f g) ≡ f g) → (gs : List Guest)
    → sum_by h (map (retargeted f) gs) ≡ sum_by f gs
sums_rest h f same gs = sym (sum-map h (map (retargeted f) gs))
    ∙ (ap (λ (ns : List ℕ). sum ns) (maps_rest h f same gs) ∙ sum-map f gs)

divided_again : (host : Host) (gs : List Guest) (d : Division) (gap : ℕ) (e : Decision)
    (us : List ℕ) → Divides host.lack gs d → Settles host gs d gap
    → Decides host (map (retargeted (settled host d gap)) gs) e us
    → us ≡ map (settled host d gap) gs
divided_again host gs d gap Enough us is settles q =
    absurd (omega (arith, q.0, is.tier_first))
divided_again host gs d gap (Short m) us is settles q =
    let f : Guest → ℕ = settled host d gap in
    absurd (not_divided host.lack m gs (map (retargeted f) gs) d
    (all_more gs (map (retargeted f) gs) (can_give f gs)) is q.0 q.1)
divided_again host gs d gap (Divided e n) us is settles q =
    let f : Guest → ℕ = settled host d gap in
    let hs : List Guest = map (retargeted f) gs in
    let same : d ≡ e = same_division host.lack gs hs d e (all_more gs hs (can_give f gs))
    (all_more hs gs (can_give_back f gs)) is q.0 in
    let wider : gap ≤ n = q.1.widest gap settles.fits (omega (
      arith,
      settles.enough,
      sums_rest f f (λ g. settled_rests host d gap gap g (omega arith)) gs,
      ap (λ (c : Division). sum_by (settled host c gap) hs) same,
    )) in
    q.2 ∙ (ap (λ (c : Division). map (settled host c n) hs) (sym same)
    ∙ maps_rest (settled host d n) f (λ g. settled_rests host d gap n g wider) gs)

relieved_again : (host : Host) (gs : List Guest) (e : Decision) (us : List ℕ) → host.lack ≡ 0
    → Decides host (map (retargeted (base host Unused 0)) gs) e us
    → us ≡ map (base host Unused 0) gs
relieved_again host gs Enough us none q =
    q.1 ∙ maps_rest (base host Unused 0) (base host Unused 0) (relieved_rests host) gs
relieved_again host gs (Divided e n) us none q = absurd (omega (arith, none, q.0.tier_first))
relieved_again host gs (Short m) us none q = absurd (omega (arith, none, q.0, q.1))

-- ---- on a short host

short_again : (host : Host) (gs : List Guest) (f : Guest → ℕ) (m : ℕ) (e : Decision)
    (us : List ℕ) → 0 < m → host.lack ≡ sum_by (through Reserve) gs + m
    → Decides host (map (retargeted f) gs) e us → us ≡ short_targets host (map (retargeted f) gs)
short_again host gs f m Enough us some is q = absurd (omega (arith, some, is, q.0))
short_again host gs f m (Short n) us some is q = q.2
short_again host gs f m (Divided e n) us some is q =
    let hs : List Guest = map (retargeted f) gs in
    absurd (not_divided host.lack m hs gs e (all_more hs gs (can_give_back f gs)) q.0 some is)

all_asked : (host : Host) (gs : List Guest)
    → short_targets host (map (retargeted (λ g. g.spare)) gs) ≡ map (λ g. g.spare) gs
all_asked host gs = elim (list_all (may_stay host) (map (retargeted (λ g. g.spare)) gs)) as
    (λ b. (if b then map (λ g. g.target) (map (retargeted (λ g. g.spare)) gs)
    else map (λ g. g.spare) (map (retargeted (λ g. g.spare)) gs)) ≡ map (λ g. g.spare) gs) [
      | true ↦ maps_rest (λ g. g.target) (λ g. g.spare) (λ g. refl) gs
      | false ↦ maps_rest (λ g. g.spare) (λ g. g.spare) (λ g. refl) gs
    ]

-- what all are asked for on a short host is asked again
short_at_rest : (host : Host) (gs : List Guest) (m : ℕ) (e : Decision) (us : List ℕ) (b : Bool)
    → list_all (may_stay host) gs ≡ b → 0 < m → host.lack ≡ sum_by (through Reserve) gs + m
    → Decides host
    (with_targets gs (if b then map (λ g. g.target) gs else map (λ g. g.spare) gs)) e us
    → us ≡ (if b then map (λ g. g.target) gs else map (λ g. g.spare) gs)
short_at_rest host gs m e us true stay some is q =
    short_again host gs (λ g. g.target) m e us some is
    (subst (λ (hs : List Guest). Decides host hs e us) (with_map (λ g. g.target) gs) q)
    ∙ (ap (λ (hs : List Guest). short_targets host hs) (map-id gs)
    ∙ ap (λ (b : Bool). if b then map (λ g. g.target) gs else map (λ g. g.spare) gs) stay)
short_at_rest host gs m e us false stay some is q =
    short_again host gs (λ g. g.spare) m e us some is
    (subst (λ (hs : List Guest). Decides host hs e us) (with_map (λ g. g.spare) gs) q)
    ∙ all_asked host gs

-- ---- deciding again

as_set : (host : Host) (gs : List Guest) (f : Guest → ℕ) (e : Decision) (ts us : List ℕ)
    → ts ≡ map f gs → Decides host (with_targets gs ts) e us
    → Decides host (map (retargeted f) gs) e us
as_set host gs f e ts us p q = subst (λ (hs : List Guest). Decides host hs e us)
    (ap (λ (vs : List ℕ). with_targets gs vs) p ∙ with_map f gs) q

pub at_rest : (host : Host) (gs : List Guest) (d e : Decision) (ts us : List ℕ)
    → Decides host gs d ts → Decides host (with_targets gs ts) e us → us ≡ ts
at_rest host gs Enough e ts us p q =
    relieved_again host gs e us p.0 (as_set host gs (base host Unused 0) e ts us p.1 q) ∙ sym p.1
at_rest host gs (Divided d gap) e ts us p q = divided_again host gs d gap e us p.0 p.1
    (as_set host gs (settled host d gap) e ts us p.2 q) ∙ sym p.2
at_rest host gs (Short m) e ts us p q =
    short_at_rest host gs m e us (list_all (may_stay host) gs) refl p.0 p.1
    (subst (λ (vs : List ℕ). Decides host (with_targets gs vs) e us) p.2 q) ∙ sym p.2
