-- Rows of large pages in a region: where they lie, and what is answered where none goes.
use Rattle.std.proofs.Common.{◌≡◌, ◌∙◌, inl, inr, ap, sym, subst, arith, ℕ, ◌+◌, ◌-◌, ◌*◌, ◌/◌, ◌%◌}
use Rattle.std.{proofs.Common.{◌≤◌, ◌<◌, Bool, true, List}, proofs.lemmas.Bool.Decides.nat_tests}
use Rattle.std.{proofs.Math.Nat.mul-le-mul_left, proofs.lemmas.Nat.div-add-mod'}
use Rattle.std.proofs.lemmas.Bool.{cases_lt}
use Rattle.vb_virtio.specs.Limits.{page_size}
use Rattle.vb_monitor.{specs.declared.regions.Region.Region, proofs.LargeLemmas.between_says}
use Rattle.vb_monitor.specs.declared.cuts.Cut.{Cut}
use Rattle.vb_monitor.specs.Large.{RowGoes, NoneGoes, may_go, small_pages, first_of, end_of_part}
use Rattle.vb_monitor.{specs.Large.{all_wait, LargeIf, LargeBy}, specs.declared.large.Large.Large}

-- what fits, in numbers
pub record Fits (size : ℕ) (r : Region) (part : Cut) : Type 0 where
  pub whole : size % page_size ≡ 0
  pub least : page_size ≤ size
  pub guest : r.guest % size ≡ 0
  pub long : r.length % size ≡ 0
  pub file : r.in_file % size ≡ 0
  pub inside : part.offset + part.length ≤ r.length

pub fits : (size : ℕ) (r : Region) (part : Cut) → may_go size r part ≡ true → Fits size r part
fits size r part e = record {
  whole = grind (arith, nat_tests);
  least = grind (arith, nat_tests);
  guest = grind (arith, nat_tests);
  long = grind (arith, nat_tests);
  file = grind (arith, nat_tests);
  inside = grind (arith, nat_tests);
}

-- bytes of large pages, by their pages of 4096 bytes
pub scale : (size n : ℕ) → size % page_size ≡ 0 → size * n ≡ page_size * (small_pages size * n)
scale size n e =
    let is : size ≡ page_size * (size / page_size) = omega (arith, e) in
    ap (λ (k : ℕ). k * n) is ∙ omega arith

-- where a row of large pages lies
pub record LiesIn (size : ℕ) (r : Region) (first end low high : ℕ) : Type 0 where
  pub starts : r.guest ≤ size * low
  pub order : size * low ≤ size * high
  pub stops : size * high ≤ r.guest + r.length
  pub small_order : small_pages size * low ≤ small_pages size * high
  pub small_stops : small_pages size * high ≤ r.guest + r.length
  pub meets_end : small_pages size * low ≤ end
  pub meets_first : first ≤ small_pages size * high

-- no large page with a page of a region lies outside it
pub above : (small q first p n : ℕ) → small * q ≤ first → first ≤ p → p < small * (n + 1) → q ≤ n
above small q first p n at from below = elim (cases_lt n q) [
  | inl lt ↦
      let step : small * (n + 1) ≤ small * q = mul-le-mul_left small (omega (arith, lt)) in
      absurd (omega (arith, step, at, from, below))
  | inr le ↦ le
]

pub below_end : (small q end p n : ℕ) → end ≤ small * q → p < end → small * n ≤ p → n < q
below_end small q end p n at before from = elim (cases_lt n q) [
  | inl lt ↦ lt
  | inr le ↦
      let step : small * q ≤ small * n = mul-le-mul_left small le in
      absurd (omega (arith, step, at, before, from))
]

lies_by : (size : ℕ) (r : Region) (part : Cut) (set : List ℕ) (low high q t : ℕ) →
    Fits size r part → r.guest ≡ size * q → r.guest + r.length ≡ size * t →
    RowGoes (small_pages size) (first_of r part) (end_of_part r part) set low high →
    LiesIn size r (first_of r part) (end_of_part r part) low high
lies_by size r part set low high q t f begins ends row =
    let small = small_pages size in
    let first = first_of r part in
    let end = end_of_part r part in
    let some = row.some in
    let one = row.go low (omega arith) row.some in
    let one_page = between_says (small * low) (small * (low + 1)) one.page one.there in
    let one_part = between_says first end one.page one.of_part in
    let h = high - 1 in
    let h_is : h + 1 ≡ high = omega (arith, some) in
    let last = row.go h (omega (arith, some)) (omega (arith, some)) in
    let last_page = between_says (small * h) (small * (h + 1)) last.page last.there in
    let last_part = between_says first end last.page last.of_part in
    let q_is = scale size q f.whole in
    let t_is = scale size t f.whole in
    let from : small * q ≤ first = omega (arith, begins, q_is) in
    let to : end ≤ small * t = omega (arith, ends, t_is, f.inside) in
    let q_low : q ≤ low = above small q first one.page low from one_part.0 one_page.1 in
    let h_t : h < t = below_end small t end last.page h to last_part.1 last_page.0 in
    let high_t : high ≤ t = omega (arith, h_t, h_is) in
    let low_high : low ≤ high = omega (arith, some) in
    let size_q : size * q ≤ size * low = mul-le-mul_left size q_low in
    let size_t : size * high ≤ size * t = mul-le-mul_left size high_t in
    let high_is = scale size high f.whole in
    let top : small * (h + 1) ≡ small * high = ap (λ (k : ℕ). small * k) h_is in
    record {
      starts = omega (arith, begins, size_q);
      order = mul-le-mul_left size low_high;
      stops = omega (arith, ends, size_t);
      small_order = mul-le-mul_left small low_high;
      small_stops = omega (arith, ends, size_t, high_is);
      meets_end = omega (arith, one_page.0, one_part.1);
      meets_first = omega (arith, last_page.1, last_part.0, top);
    }

pub lies : (size : ℕ) (r : Region) (part : Cut) (set : List ℕ) (low high : ℕ) → may_go size r part
    ≡ true → RowGoes (small_pages size) (first_of r part) (end_of_part r part) set low high
    → LiesIn size r (first_of r part) (end_of_part r part) low high
lies size r part set low high e row =
    let f = fits size r part e in
    let q = div-add-mod' r.guest size in
    let t = div-add-mod' r.length size in
    lies_by size r part set low high (r.guest / size) (r.guest / size + r.length / size) f
    (omega (arith, q, f.guest)) (omega (arith, q, t, f.guest, f.long)) row

-- the same of the numbers of a span
pub lies_at : (size : ℕ) (r : Region) (part : Cut) (set : List ℕ) (first end low high : ℕ) →
    may_go size r part ≡ true → first ≡ first_of r part → end ≡ end_of_part r part →
    RowGoes (small_pages size) first end set low high → LiesIn size r first end low high
lies_at size r part set first end low high may e f row =
    subst (λ (k : ℕ). LiesIn size r k end low high) (sym e)
    (subst (λ (k : ℕ). LiesIn size r (first_of r part) k low high) (sym f)
    (lies size r part set low high may
    (subst (λ (k : ℕ). RowGoes (small_pages size) k (end_of_part r part) set low high) e
    (subst (λ (k : ℕ). RowGoes (small_pages size) first k set low high) f row))))

-- ---- the answer

pub none_at : (size : ℕ) (r : Region) (part : Cut) (set told : List ℕ) (first end : ℕ)
    (answer : Large) → may_go size r part ≡ true → first ≡ first_of r part →
    end ≡ end_of_part r part → told ≡ set → NoneGoes (small_pages size) first end told →
    answer ≡ all_wait part → LargeBy size r part set answer
none_at size r part set told first end answer may e f g none all =
    subst (λ (b : Bool). LargeIf b size r part set answer) (sym may) (inr (record {
      none =
          subst (λ (s : List ℕ). NoneGoes (small_pages size) (first_of r part) (end_of_part r part) s) g
          (subst (λ (k : ℕ). NoneGoes (small_pages size) k (end_of_part r part) told) e
          (subst (λ (k : ℕ). NoneGoes (small_pages size) first k told) f none));
      all = all;
    }))
