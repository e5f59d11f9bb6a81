-- Maximal blocks share no page.
use Rattle.std.proofs.Common.{Bool, List, [], ap, arith, false, inl, inr, refl, subst, suc, sym}
use Rattle.std.proofs.Common.{take, true, zero, ℕ, ◌*◌, ◌+◌, ◌-◌, ◌<◌, ◌^◌, ◌∙◌, ◌∷◌, ◌≡◌, ◌≤◌, ◌⊎◌}
use Rattle.std.proofs.Math.Nat.{lt_of_mul-lt-mul_left, mul-add, mul-lt-mul_of_pos_left, mul_assoc}
use Rattle.std.proofs.{Math.Nat.mul_comm, lemmas.Bool.{and_from, and_parts, cases_eq, cases_lt}}
use Rattle.std.proofs.lemmas.Bool.{eq-eqb, false_from_ne_true, le-leb, leb-true, lt-ltb, ltb-true}
use Rattle.std.proofs.lemmas.{Bool.{ne_eqb, or_left, or_right}, Nat.{mod-mul-add, pow-add, pow_pos}}
use Rattle.std.specs.{List.{flat_map, list_any, range_with_len}, Prelude.{count_by, filter, map}}
use Rattle.std.specs.Prelude.{nat_le, nat_lt, ◌%◌, ◌&&◌, ◌==◌}
use Rattle.vb_virtio.proofs.Distinct.{times-append, times-cons, times-none}
use Rattle.vb_virtio.proofs.Ranges.{is_in-range}
use Rattle.vb_virtio.proofs.Tables.{count_by-append, count_by-cons}
use Rattle.vb_virtio.specs.Limits.{max_order}
use Rattle.vb_virtio.specs.Tests.{times, one_if}
use Rattle.vb_model.specs.Pages.{Block, around, blocks_at, blocks_below, covers}
use Rattle.vb_model.specs.Pages.{is_aligned, is_maximal, is_whole, maximal_blocks, pages_of}
use Rattle.vb_model.specs.Pages.{pages_of_all, size}

-- of two aligned blocks round one page, the larger begins where the smaller's first page is rounded
-- down to
around_start : (m q s t page : ℕ) → 0 < m → m * s ≤ page → page < m * s + m → (m * q) * t ≤ page
    → page < (m * q) * t + m * q → m * s - (m * s) % (m * q) ≡ (m * q) * t
around_start m q s t page pm a b c d = let flat : (m * q) * t ≡ m * (q * t) = mul_assoc m q t in
    let next : m * (s + 1) ≡ m * s + m = mul-add m s 1 ∙ omega arith in
    let wide : m * (q * t + q) ≡ m * (q * t) + m * q = mul-add m (q * t) q in
    let low : q * t < s + 1 = lt_of_mul-lt-mul_left m (omega (arith, flat, next)) in
    let high : s < q * t + q = lt_of_mul-lt-mul_left m (omega (arith, flat, wide)) in
    let u : ℕ = s - q * t in
    let split : s ≡ q * t + u = omega arith in
    let parts : m * s ≡ m * (q * t) + m * u = ap (λ (x : ℕ). m * x) split ∙ mul-add m (q * t) u in
    let below : u < q = omega arith in
    let inside : m * u < m * q = mul-lt-mul_of_pos_left below pm in
    let swapped : t * (m * q) ≡ (m * q) * t = mul_comm t (m * q) in
    let is : m * s ≡ t * (m * q) + m * u = omega (arith, parts, swapped, flat) in
    let rest : (m * s) % (m * q) ≡ m * u =
    ap (λ (x : ℕ). x % (m * q)) is ∙ mod-mul-add t (m * q) (m * u) inside in
    omega (arith, rest, is, swapped)

-- ---- two blocks round a page

record CoversAligned (page : ℕ) (b : Block) : Type 0 where
  begins : ℕ
  first : b.start ≡ size b * begins
  low : b.start ≤ page
  high : page < b.start + size b

covering : (page : ℕ) (b : Block) → is_aligned b ≡ true → covers page b ≡ true
    → CoversAligned page b
covering page b aligned c = grind arith

-- the block of the larger order round the smaller one's start is the larger one
larger : (page : ℕ) (b c : Block) → b.order < c.order → is_aligned b ≡ true → covers page b ≡ true
    → is_aligned c ≡ true → covers page c ≡ true → (around b.start c.order).start ≡ c.start
larger page b c l ab cb ac cc' = let x = covering page b ab cb in
    let y = covering page c ac cc' in
    let gap : ℕ = c.order - b.order in
    let order : c.order ≡ b.order + gap = omega arith in
    let wide : 2 ^ c.order ≡ 2 ^ b.order * 2 ^ gap =
    ap (λ (k : ℕ). 2 ^ k) order ∙ pow-add 2 b.order gap in
    let start : c.start ≡ 2 ^ b.order * 2 ^ gap * y.begins =
    y.first ∙ ap (λ (k : ℕ). k * y.begins) wide in
    let e = around_start (2 ^ b.order) (2 ^ gap) x.begins y.begins page (pow_pos b.order)
    (omega (arith, x.first, x.low)) (omega (arith, x.first, x.high))
    (omega (arith, start, y.low)) (omega (arith, start, y.high, wide)) in
    ap (λ (k : ℕ). b.start - b.start % k) wide
    ∙ (ap (λ (k : ℕ). k - k % (2 ^ b.order * 2 ^ gap)) x.first ∙ (e ∙ sym start))

-- ---- at most one maximal block is round a page

-- a maximal block that covers the page
abbrev holds : (ℕ → Bool) → ℕ → Block → Bool
holds test page b = is_maximal test b && covers page b

record IsRound (test : ℕ → Bool) (page : ℕ) (b : Block) : Type 0 where
  free : is_whole test b ≡ true
  aligned : is_aligned b ≡ true
  cover : covers page b ≡ true
  widest : list_any (λ order. is_whole test (around b.start order))
      (range_with_len (suc b.order) (max_order - b.order)) ≡ false

is_round : (test : ℕ → Bool) (page : ℕ) (b : Block) → holds test page b ≡ true → IsRound test page b
is_round test page b h = grind (arith, h, h)

pub any_in_range : (test : ℕ → Bool) (k first count : ℕ) → first ≤ k → k < first + count → test k ≡ true
    → list_any test (range_with_len first count) ≡ true
any_in_range test k first zero a b h = absurd (omega arith)
any_in_range test k first (suc count) a b h = elim (cases_eq first k) [
  | inl e ↦ or_left (test first) _ (subst (λ (n : ℕ). test n ≡ true) (sym e) h)
  | inr d ↦ or_right (test first) _
      (any_in_range test k (first + 1) count (omega (arith, a, d)) (omega (arith, b)) h)
]

no_larger : (test : ℕ → Bool) (page : ℕ) (b c : Block) → c.order ≤ max_order
    → IsRound test page b → IsRound test page c → b.order < c.order → ⊥
no_larger test page b c small x y l =
    let start : (around b.start c.order).start ≡ c.start =
    larger page b c l x.aligned x.cover y.aligned y.cover in
    let there : is_whole test (around b.start c.order) ≡ true =
    ap (λ (s : ℕ). is_whole test (record { start = s; order = c.order })) start ∙ y.free in
    let any : list_any (λ order. is_whole test (around b.start order)) (range_with_len (suc b.order)
    (max_order - b.order)) ≡ true = any_in_range (λ order. is_whole test (around b.start order))
    c.order (suc b.order) (max_order - b.order) (omega arith) (omega arith) there in
    let bad : true ≡ false = sym any ∙ x.widest in absurd cc

-- two blocks of one order round a page are one
same_start : (page : ℕ) (b c : Block) → b.order ≡ c.order → is_aligned b ≡ true
    → covers page b ≡ true → is_aligned c ≡ true → covers page c ≡ true → b.start ≡ c.start
same_start page b c e ab cb ac cc' = let x = covering page b ab cb in
    let y = covering page c ac cc' in
    let m : ℕ = 2 ^ b.order in
    let same : 2 ^ c.order ≡ m = ap (λ (k : ℕ). 2 ^ k) (sym e) in
    let start : c.start ≡ m * y.begins = y.first ∙ ap (λ (k : ℕ). k * y.begins) same in
    let next : m * (x.begins + 1) ≡ m * x.begins + m = mul-add m x.begins 1 ∙ omega arith in
    let after : m * (y.begins + 1) ≡ m * y.begins + m = mul-add m y.begins 1 ∙ omega arith in
    let low : x.begins < y.begins + 1 =
    lt_of_mul-lt-mul_left m (omega (arith, after, start, x.first, x.low, y.high, same)) in
    let high : y.begins < x.begins + 1 =
    lt_of_mul-lt-mul_left m (omega (arith, next, start, x.first, y.low, x.high, same)) in
    let begins : x.begins ≡ y.begins = omega arith in
    x.first ∙ (ap (λ (k : ℕ). m * k) begins ∙ sym start)

-- the pages of a block, each once
times_in_range : (page first count : ℕ) → times page (range_with_len first count)
    ≡ one_if (nat_le first page && nat_lt page (first + count))
times_in_range page first count = cases (nat_le first page && nat_lt page (first + count)) refl
  where
    outside : (first count : ℕ) → (page < first) ⊎ (first + count ≤ page)
        → times page (range_with_len first count) ≡ 0
    outside first count beside = times-none page _ (false_from_ne_true _ (λ k.
        let r = is_in-range page first count k in
        elim beside [ inl l ↦ omega (arith, l, r.0) | inr l ↦ omega (arith, l, r.1) ]))

    inside : (first count : ℕ) → first ≤ page → page < first + count
        → times page (range_with_len first count) ≡ 1
    inside first zero a b = absurd (omega arith)
    inside first (suc count) a b = elim (cases_eq first page) [
      | inl e ↦ (let o : one_if (first == page) ≡ 1 = ap one_if (eq-eqb first page e) in omega (
        arith,
        times-cons page first (range_with_len (first + 1) count),
        outside (first + 1) count (inl (omega arith)),
      ))
      | inr d ↦ (let o : one_if (first == page) ≡ 0 = ap one_if (ne_eqb first page d) in omega (
        arith,
        times-cons page first (range_with_len (first + 1) count),
        inside (first + 1) count (omega (arith, a, d)) (omega (arith, b)),
      ))
    ]

    cases : (v : Bool) → (nat_le first page && nat_lt page (first + count)) ≡ v
        → times page (range_with_len first count) ≡ one_if v
    cases true e = let parts = and_parts (nat_le first page) (nat_lt page (first + count)) e in
        inside first count (leb-true first page parts.0) (ltb-true page (first + count) parts.1)
    cases false e = elim (cases_lt page first) [
      | inl l ↦ outside first count (inl l)
      | inr l ↦ elim (cases_lt page (first + count)) [
        | inl k ↦ (let bad : true ≡ false = sym (and_from _ _ (le-leb first page l)
            (lt-ltb page (first + count) k)) ∙ e in absurd cc)
        | inr k ↦ outside first count (inr k)
      ]
    ]

-- how often a page is in the pages of blocks
pub times_in_blocks : (page : ℕ) (bs : List Block)
    → times page (pages_of_all bs) ≡ count_by (covers page) bs
times_in_blocks page [] = refl
times_in_blocks page (b ∷ bs) = grind (
  arith,
  times-append page (pages_of b) (pages_of_all bs),
  times_in_range page b.start (size b),
  times_in_blocks page bs,
  count_by-cons (covers page) b bs,
)

count-take : {A : Type 0} (test : A → Bool) (n : ℕ) (xs : List A)
    → count_by test (take n xs) ≤ count_by test xs
count-take test zero xs = omega arith
count-take test (suc n) [] = omega arith
count-take test (suc n) (x ∷ xs) =
    omega (arith, count_by-cons test x xs, count_by-cons test x (take n xs), count-take test n xs)

count-filter : {A : Type 0} (test keep : A → Bool) (xs : List A)
    → count_by test (filter keep xs) ≤ count_by (λ x. keep x && test x) xs
count-filter test keep [] = omega arith
count-filter test keep (x ∷ xs) = grind (
  arith,
  count-filter test keep xs,
  count_by-cons test x (filter keep xs),
  count_by-cons (λ y. keep y && test y) x xs,
)

count-weaker : {A : Type 0} (keep test : A → Bool) (xs : List A)
    → count_by (λ x. keep x && test x) xs ≤ count_by test xs
count-weaker keep test [] = omega arith
count-weaker keep test (x ∷ xs) = omega (
  arith,
  less (keep x) (test x),
  count_by-cons (λ y. keep y && test y) x xs,
  count_by-cons test x xs,
  count-weaker keep test xs,
) where
  less : (a b : Bool) → one_if (a && b) ≤ one_if b
  less true b = omega arith
  less false true = omega arith
  less false false = omega arith

passes-none : (test : ℕ → Bool) (first count : ℕ) → ((k : ℕ) → first ≤ k
    → k < first + count → test k ≡ false) → count_by test (range_with_len first count) ≡ 0
passes-none test first zero h = refl
passes-none test first (suc count) h =
    let z : one_if (test first) ≡ 0 = ap one_if (h first (omega arith) (omega arith)) in omega (
      arith,
      count_by-cons test first (range_with_len (first + 1) count),
      passes-none test (first + 1) count (λ k a b. h k (omega arith) (omega arith)),
    )

passes-one : (test : ℕ → Bool) (first count : ℕ)
    → ((a b : ℕ) → a < first + count → b < first + count → test a ≡ true → test b ≡ true → a ≡ b)
    → count_by test (range_with_len first count) ≤ 1
passes-one test first zero one = omega arith
passes-one test first (suc count) one = step (test first) refl
    (passes-one test (first + 1) count (λ a b la lb. one a b (omega arith) (omega arith)))
  where
    step : (v : Bool) → test first ≡ v → count_by test (range_with_len (first + 1) count) ≤ 1
        → count_by test (range_with_len first (suc count)) ≤ 1
    step false e ih = let z : one_if (test first) ≡ 0 = ap one_if e in
        omega (arith, count_by-cons test first (range_with_len (first + 1) count))
    step true e ih = let o : one_if (test first) ≡ 1 = ap one_if e in
        let rest : count_by test (range_with_len (first + 1) count) ≡ 0 =
        passes-none test (first + 1) count (λ k a b. false_from_ne_true (test k)
        (λ t. let same : first ≡ k = one first k (omega arith) (omega arith) e t in
        absurd (omega arith))) in
        omega (arith, count_by-cons test first (range_with_len (first + 1) count))

passes-some : (test : ℕ → Bool) (first count : ℕ) → 0 < count_by test (range_with_len first count)
    → (k : ℕ) × (k < first + count) × (test k ≡ true)
passes-some test first zero h = absurd (omega arith)
passes-some test first (suc count) h = grind (arith, passes-some test (first + 1) count)

count-map : {A B : Type 0} (test : B → Bool) (f : A → B) (xs : List A)
    → count_by test (map f xs) ≡ count_by (λ x. test (f x)) xs
count-map test f [] = refl
count-map test f (x ∷ xs) = grind (
  arith,
  count_by-cons test (f x) (map f xs),
  count_by-cons (λ y. test (f y)) x xs,
  count-map test f xs,
)

flat-none : (test : Block → Bool) (f : ℕ → List Block) (first count : ℕ)
    → ((k : ℕ) → first ≤ k → k < first + count → count_by test (f k) ≡ 0)
    → count_by test (flat_map f (range_with_len first count)) ≡ 0
flat-none test f first zero h = refl
flat-none test f first (suc count) h = omega (
  arith,
  h first (omega arith) (omega arith),
  count_by-append test (f first) (flat_map f (range_with_len (first + 1) count)),
  flat-none test f (first + 1) count (λ k a b. h k (omega arith) (omega arith)),
)

flat-one : (test : Block → Bool) (f : ℕ → List Block) (first count : ℕ)
    → ((k : ℕ) → count_by test (f k) ≤ 1) → ((a b : ℕ) → 0 < count_by test (f a)
    → 0 < count_by test (f b) → a ≡ b) → count_by test (flat_map f (range_with_len first count)) ≤ 1
flat-one test f first zero each one = omega arith
flat-one test f first (suc count) each one =
    step (cases_lt 0 (count_by test (f first))) (flat-one test f (first + 1) count each one)
  where
    step : (0 < count_by test (f first)) ⊎ (count_by test (f first) ≤ 0)
        → count_by test (flat_map f (range_with_len (first + 1) count)) ≤ 1
        → count_by test (flat_map f (range_with_len first (suc count))) ≤ 1
    step (inr z) ih = omega
        (arith, count_by-append test (f first) (flat_map f (range_with_len (first + 1) count)))
    step (inl o) ih =
        let rest : count_by test (flat_map f (range_with_len (first + 1) count)) ≡ 0 =
        flat-none test f (first + 1) count (λ k a b. zero_from k a) in
        omega (
          arith,
          each first,
          count_by-append test (f first) (flat_map f (range_with_len (first + 1) count)),
        )
      where
        zero_from : (k : ℕ) → first + 1 ≤ k → count_by test (f k) ≡ 0
        zero_from k a = grind arith

one_block : (test : ℕ → Bool) (page : ℕ) (s t j k : ℕ) → j ≤ max_order → k ≤ max_order
    → holds test page (record { start = s; order = j }) ≡ true
    → holds test page (record { start = t; order = k }) ≡ true → (s ≡ t) × (j ≡ k)
one_block test page s t j k lj lk hj hk = let b : Block = record { start = s; order = j } in
    let c : Block = record { start = t; order = k } in
    let x = is_round test page b hj in
    let y = is_round test page c hk in
    let same : j ≡ k =
    elim (cases_lt j k) [
      | inl l ↦ absurd (no_larger test page b c lk x y l)
      | inr l ↦ elim (cases_lt k j)
          [ inl m ↦ absurd (no_larger test page c b lj y x m) | inr m ↦ omega arith ]
    ] in (same_start page b c same x.aligned x.cover y.aligned y.cover, same)

at_most_one : (test : ℕ → Bool) (page n : ℕ) → count_by (holds test page) (blocks_below n) ≤ 1
at_most_one test page n = flat-one (holds test page) blocks_at 0 n each_start starts where
  test_at : ℕ → ℕ → Bool
  test_at start order = holds test page (record { start = start; order = order })

  counted : (s : ℕ) → count_by (holds test page) (blocks_at s)
      ≡ count_by (test_at s) (range_with_len 0 (suc max_order))
  counted s = count-map (holds test page) (λ order. record { start = s; order = order })
      (range_with_len 0 (suc max_order))

  each_start : (s : ℕ) → count_by (holds test page) (blocks_at s) ≤ 1
  each_start s =
      let one = passes-one (test_at s) 0 (suc max_order)
      (λ a b la lb ha hb. (one_block test page s s a b (omega arith) (omega arith) ha hb).1) in
      omega (arith, counted s, one)

  starts : (s t : ℕ) → 0 < count_by (holds test page) (blocks_at s)
      → 0 < count_by (holds test page) (blocks_at t) → s ≡ t
  starts s t hs ht = let a = passes-some (test_at s) 0 (suc max_order) (omega (arith, counted s)) in
      let b = passes-some (test_at t) 0 (suc max_order) (omega (arith, counted t)) in
      (one_block test page s t a.0 b.0 (let l : a.0 < 0 + suc max_order = a.1 in omega arith)
      (let l : b.0 < 0 + suc max_order = b.1 in omega arith) a.2 b.2).0

-- the pages of some maximal blocks are distinct
pub reported_distinct : (test : ℕ → Bool) (keep : Block → Bool) (count n page : ℕ)
    → times page (pages_of_all (take n (filter keep (maximal_blocks count test)))) ≤ 1
reported_distinct test keep count n page = let maximal : List Block = maximal_blocks count test in
    let a = times_in_blocks page (take n (filter keep maximal)) in
    let b = count-take (covers page) n (filter keep maximal) in
    let c = count-filter (covers page) keep maximal in
    let d = count-weaker keep (covers page) maximal in
    let e = count-filter (covers page) (is_maximal test) (blocks_below count) in
    omega (arith, a, b, c, d, e, at_most_one test page count)

-- ---- tests that agree

-- the maximal blocks of two tests that agree
pub maximal_agree : (n : ℕ) (f g : ℕ → Bool) → ((page : ℕ) → f page ≡ g page)
    → maximal_blocks n f ≡ maximal_blocks n g
maximal_agree n f g same = grind arith
