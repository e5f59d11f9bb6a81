-- What goes back of large pages: whole pages of the machine, all given up, and no fewer than may.
use Rattle.std.proofs.Common.{◌≡◌, ◌∙◌, inl, inr, ap, sym, subst, refl, arith, ℕ, ◌+◌, ◌-◌, ◌*◌, ◌/◌, ◌%◌, ◌≤◌, ◌<◌, Bool, true, false, List}
use Rattle.std.specs.Prelude.{◌||◌}
use Rattle.std.proofs.Math.Nat.{mul-le-mul_left, mul-div-le, lt-mul-div-succ, zero-mod, mul-mod_right, le_of_mul-le-mul_left}
use Rattle.std.proofs.lemmas.Nat.{div-add-mod'}
use Rattle.vb_core.specs.Ballooned.{is_ballooned}
use Rattle.vb_monitor.specs.declared.regions.Region.{Region}
use Rattle.vb_monitor.specs.declared.cuts.Cut.{Cut}
use Rattle.vb_monitor.specs.declared.large.Large.{Large}
use Rattle.vb_monitor.specs.Large.{is_of_large, small_pages, first_of, end_of_part, is_of, may_go, Goes, all_wait, GoesBack, LargeIf, LargeBy, AreWholePages}
use Rattle.vb_monitor.proofs.LargeLemmas.{between_is, between_says}
use Rattle.vb_monitor.proofs.LargeRows.{Fits, fits, scale, lies, above, below_end}

-- ---- of nothing

none_given : (r : Region) (part : Cut) (p : ℕ) → is_of r (all_wait part).cut p ≡ true → ⊥
none_given r part p e =
    let says = between_says (first_of r (all_wait part).cut) (end_of_part r (all_wait part).cut) p e in
    let same : end_of_part r (all_wait part).cut ≡ first_of r (all_wait part).cut = omega arith in
    omega (arith, says.0, says.1, same)

none_whole : (size : ℕ) (r : Region) (part : Cut) → AreWholePages size r (all_wait part).cut
none_whole size r part = record {
  offset = zero-mod size;
  length = zero-mod size;
  in_file = zero-mod size;
  inside = omega arith;
}

-- ---- of a row

-- its first page, and the one after its last
row_first : (size : ℕ) (r : Region) (part : Cut) (set : List ℕ) (answer : Large) → Fits size r part
    → (g : GoesBack size r part set answer) → first_of r answer.cut ≡ small_pages size * g.low
row_first size r part set answer f g =
    let is = scale size g.low f.whole in omega (arith, is, g.begins)

row_end : (size : ℕ) (r : Region) (part : Cut) (set : List ℕ) (answer : Large) → Fits size r part
    → (g : GoesBack size r part set answer) → end_of_part r answer.cut ≡ small_pages size * g.high
row_end size r part set answer f g = let is = scale size g.high f.whole in omega (arith, is, g.ends)

small_positive : (size : ℕ) (r : Region) (part : Cut) → Fits size r part → 0 < small_pages size
small_positive size r part f = omega (arith, f.least)

row_given : (size : ℕ) (r : Region) (part : Cut) (set : List ℕ) (answer : Large) →
    Fits size r part → (g : GoesBack size r part set answer) → (p : ℕ) →
    is_of r answer.cut p ≡ true → (is_of r part p || is_ballooned set p) ≡ true
row_given size r part set answer f g p e =
    let small = small_pages size in
    let says = between_says (first_of r answer.cut) (end_of_part r answer.cut) p e in
    let first = row_first size r part set answer f g in
    let end = row_end size r part set answer f g in
    let n = p / small in
    let le : small * n ≤ p = mul-div-le p small in
    let lt : p < small * (n + 1) = lt-mul-div-succ p (small_positive size r part f) in
    let low : g.low ≤ n = above small g.low p p n (omega (arith, says.0, first)) (omega arith) lt in
    let high : n < g.high = below_end small g.high (small * g.high) p n (omega arith)
    (omega (arith, says.1, end)) le in
    (g.row.go n low high).given p (between_is (small * n) (small * (n + 1)) p le lt)

row_largest : (size : ℕ) (r : Region) (part : Cut) (set : List ℕ) (answer : Large)
    → Fits size r part → (g : GoesBack size r part set answer) → (n : ℕ) → Goes size r part set n
    → (p : ℕ) → is_of_large (small_pages size) n p ≡ true → is_of r answer.cut p ≡ true
row_largest size r part set answer f g n goes p there =
    let small = small_pages size in
    let says = between_says (small * n) (small * (n + 1)) p there in
    let first = row_first size r part set answer f g in
    let end = row_end size r part set answer f g in
    let bounds = g.row.others n goes in
    let down : small * g.low ≤ small * n = mul-le-mul_left small bounds.0 in
    let up : small * (n + 1) ≤ small * g.high = mul-le-mul_left small (omega (arith, bounds.1)) in
    between_is (first_of r answer.cut) (end_of_part r answer.cut) p
    (omega (arith, says.0, first, down)) (omega (arith, says.1, end, up))

-- a multiple of a size, and a sum with one
times : (size k a : ℕ) → a ≡ size * k → a % size ≡ 0
times size k a e = ap (λ (x : ℕ). x % size) e ∙ mul-mod_right size k

by_sum : (size a d b x : ℕ) → b ≡ a + d → size * a + x ≡ size * b → x ≡ size * d
by_sum size a d b x e h =
    let more : size * b ≡ size * (a + d) = ap (λ (k : ℕ). size * k) e in omega (arith, more, h)

split_up : (size a b : ℕ) → size * (a + b) ≡ size * a + size * b
split_up size a b = omega arith

row_whole : (size : ℕ) (r : Region) (part : Cut) (set : List ℕ) (answer : Large) →
    may_go size r part ≡ true → Fits size r part → (g : GoesBack size r part set answer) →
    AreWholePages size r answer.cut
row_whole size r part set answer may f g =
    let lie = lies size r part set g.low g.high may g.row in
    let q = r.guest / size in
    let q_is : size * q ≡ r.guest =
    let told = div-add-mod' r.guest size in omega (arith, told, f.guest) in
    let t_is : size * (r.in_file / size) ≡ r.in_file =
    let told = div-add-mod' r.in_file size in omega (arith, told, f.file) in
    let positive : 0 < size = omega (arith, f.least) in
    let q_low : q ≤ g.low = le_of_mul-le-mul_left {m = q} {n = g.low} {k = size}
    (omega (arith, q_is, lie.starts)) positive in
    let offset : answer.cut.offset ≡ size * (g.low - q) = by_sum size q
    (g.low - q) g.low answer.cut.offset (omega (arith, q_low)) (omega (arith, q_is, g.begins)) in
    let some = g.row.some in
    let long : answer.cut.length ≡ size * (g.high - g.low) = by_sum size g.low (g.high - g.low)
    g.high answer.cut.length (omega (arith, some)) (omega (arith, g.begins, g.ends)) in
    let sum = split_up size (r.in_file / size) (g.low - q) in
    record {
      offset = times size (g.low - q) answer.cut.offset offset;
      length = times size (g.high - g.low) answer.cut.length long;
      in_file = times size (r.in_file / size + (g.low - q)) answer.cut.in_file
          (omega (arith, sum, t_is, offset, g.in_file));
      inside = omega (arith, lie.stops, g.ends);
    }

-- ---- the laws

given_by_test : (b : Bool) (size : ℕ) (r : Region) (part : Cut) (set : List ℕ) (answer : Large) →
    may_go size r part ≡ b → LargeIf b size r part set answer → (p : ℕ) →
    is_of r answer.cut p ≡ true → (is_of r part p || is_ballooned set p) ≡ true
given_by_test false size r part set answer may is p e =
    absurd (none_given r part p (subst (λ (a : Large). is_of r a.cut p ≡ true) is e))
given_by_test true size r part set answer may (inl g) p e =
    row_given size r part set answer (fits size r part may) g p e
given_by_test true size r part set answer may (inr n) p e =
    absurd (none_given r part p (subst (λ (a : Large). is_of r a.cut p ≡ true) n.all e))

pub wholly_given : (size : ℕ) (r : Region) (part : Cut) (set : List ℕ) (answer : Large) →
    LargeBy size r part set answer → (p : ℕ) → is_of r answer.cut p ≡ true →
    (is_of r part p || is_ballooned set p) ≡ true
wholly_given size r part set answer is p e =
    given_by_test (may_go size r part) size r part set answer refl is p e

whole_by_test : (b : Bool) (size : ℕ) (r : Region) (part : Cut) (set : List ℕ) (answer : Large) →
    may_go size r part ≡ b → LargeIf b size r part set answer → AreWholePages size r answer.cut
whole_by_test false size r part set answer may is =
    subst (λ (a : Large). AreWholePages size r a.cut) (sym is) (none_whole size r part)
whole_by_test true size r part set answer may (inl g) =
    row_whole size r part set answer may (fits size r part may) g
whole_by_test true size r part set answer may (inr n) =
    subst (λ (a : Large). AreWholePages size r a.cut) (sym n.all) (none_whole size r part)

pub whole_pages : (size : ℕ) (r : Region) (part : Cut) (set : List ℕ) (answer : Large) →
    LargeBy size r part set answer → AreWholePages size r answer.cut
whole_pages size r part set answer is =
    whole_by_test (may_go size r part) size r part set answer refl is

largest_by_test : (b : Bool) (size : ℕ) (r : Region) (part : Cut) (set : List ℕ) (answer : Large) →
    may_go size r part ≡ b → b ≡ true → LargeIf b size r part set answer → (n : ℕ) →
    Goes size r part set n → (p : ℕ) → is_of_large (small_pages size) n p ≡ true →
    is_of r answer.cut p ≡ true
largest_by_test false size r part set answer may sure is n goes p there = cc
largest_by_test true size r part set answer may sure (inl g) n goes p there =
    row_largest size r part set answer (fits size r part may) g n goes p there
largest_by_test true size r part set answer may sure (inr waits) n goes p there =
    absurd (waits.none n goes)

pub largest : (size : ℕ) (r : Region) (part : Cut) (set : List ℕ) (answer : Large)
    → LargeBy size r part set answer → may_go size r part ≡ true → (n : ℕ) → Goes size r part set n
    → (p : ℕ) → is_of_large (small_pages size) n p ≡ true → is_of r answer.cut p ≡ true
largest size r part set answer is may n goes p there =
    largest_by_test (may_go size r part) size r part set answer refl may is n goes p there
