-- How far targets change.
use Rattle.std.proofs.Common.{ℕ, ◌-◌, ◌≤◌, max, List, sum_by, arith}
use Rattle.std.proofs.lemmas.List.Sums.{sum_by-le-sum_by}
use Rattle.vb_policy.specs.declared.guest.Division.{Division}
use Rattle.vb_policy.specs.declared.guest.Guest.{Guest}
use Rattle.vb_policy.specs.declared.guest.Host.{Host}
use Rattle.vb_policy.specs.Divisions.{fair}
use Rattle.vb_policy.specs.Settling.{base, settled}

by_gap : (base fair m n : ℕ) → m ≤ n → max base (fair - n) ≤ max base (fair - m)
by_gap base fair m n l = omega arith

pub settled_falls : (h : Host) (d : Division) (m n : ℕ) (g : Guest) → m ≤ n
    → settled h d n g ≤ settled h d m g
settled_falls h d m n g l = by_gap (base h d.tier (fair d g) g) (fair d g) m n l

fair-le-settled : (h : Host) (d : Division) (g : Guest) → fair d g ≤ settled h d 0 g
fair-le-settled h d g = at_none (base h d.tier (fair d g) g) (fair d g) where
  at_none : (base fair : ℕ) → fair ≤ max base (fair - 0)
  at_none base fair = omega arith

pub sums_fall : (h : Host) (d : Division) (m n : ℕ) (gs : List Guest) → m ≤ n
    → sum_by (settled h d n) gs ≤ sum_by (settled h d m) gs
sums_fall h d m n gs l =
    sum_by-le-sum_by (settled h d n) (settled h d m) gs (λ g. settled_falls h d m n g l)

pub fair_suffices : (h : Host) (d : Division) (gs : List Guest)
    → sum_by (fair d) gs ≤ sum_by (settled h d 0) gs
fair_suffices h d gs = sum_by-le-sum_by (fair d) (settled h d 0) gs (fair-le-settled h d)
