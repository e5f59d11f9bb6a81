-- How many parts the pieces of a chain have, and how many portions these make.
use Rattle.std.proofs.Common.{◌≡◌, ◌∙◌, ap, sym, subst, refl, arith, ℕ, zero, suc, ◌+◌, ◌-◌, ◌*◌, ◌/◌}
use Rattle.std.proofs.Common.{◌<◌, ◌≤◌, Bool, true, false, List, [], ◌∷◌, ◌++◌, length, Ok, Err}
use Rattle.std.specs.Prelude.{◌==◌, ◌%◌, if◌then◌else◌, not, fold, min}
use Rattle.std.proofs.{Common.{inl, inr}, lemmas.Bool.cases_lt}
use Rattle.std.{specs.List.list_any, proofs.lemmas.Bool.Decides.nat_tests}
use Rattle.std.proofs.lemmas.List.{length-append}
use Rattle.vb_chain.specs.declared.{pieces.Piece.Piece}
use Rattle.vb_chain.specs.declared.fault.ChainFault.TheVariants.{WrongDirection, BadLength}
use Rattle.vb_request.specs.{Request.total_length, Statistics.{statistics_length, is_statistics_length}}
use Rattle.vb_monitor.specs.declared.{parts.Part.Part, room.TheConstants.MAX_BYTES}
use Rattle.vb_monitor.specs.Pieces.{next_part, parts_of, parts_on, all_parts}
use Rattle.vb_monitor.specs.Chains.{is_length_within, request_length_within, id_length}
use Rattle.vb_monitor.proofs.PartLemmas.{some_bytes, few_bytes, more_parts, no_parts}

-- how often a portion is told before the last one, where n bytes of it were copied
abbrev pub tells_in : ℕ → List Part → ℕ
tells_in n [] = 0
tells_in n (part ∷ parts) = if n == MAX_BYTES then 1 + tells_in part.length parts
    else tells_in (n + part.length) parts

abbrev pub cost : ℕ → List Part → ℕ
cost n parts = length parts + tells_in n parts

-- how many accesses the portions of a request of n numbers make after its first one, at most
abbrev pub further_cost : ℕ → ℕ
further_cost most = 3 * ((most - 1) / 256)

-- ---- bytes of parts

abbrev lens : List Part → ℕ
lens [] = 0
lens (part ∷ parts) = part.length + lens parts

abbrev pub AreSome : List Part → Type 0
AreSome [] = Unit {0}
AreSome (part ∷ parts) = (1 ≤ part.length) × AreSome parts

-- how many bytes of the last portion there are in the end
abbrev last_of : ℕ → List Part → ℕ
last_of n [] = n
last_of n (part ∷ parts) = if n == MAX_BYTES then last_of part.length parts
    else last_of (n + part.length) parts

told_by : (b : Bool) (n : ℕ) (part : Part) (parts : List Part) → (n == MAX_BYTES) ≡ b →
    1024 * tells_in part.length parts + last_of part.length parts ≡ part.length + lens parts →
    1024 * tells_in (n + part.length) parts + last_of (n + part.length) parts ≡
    (n + part.length) + lens parts →
    1024 * (if b then 1 + tells_in part.length parts else tells_in (n + part.length) parts)
    + (if b then last_of part.length parts else last_of (n + part.length) parts) ≡
    n + (part.length + lens parts)
told_by true n part parts e full on =
    let is : n ≡ 1024 = grind (arith, nat_tests) in omega (arith, is, full)
told_by false n part parts e full on = omega (arith, on)

told_all : (n : ℕ) (parts : List Part) →
    1024 * tells_in n parts + last_of n parts ≡ n + lens parts
told_all n [] = omega arith
told_all n (part ∷ parts) = told_by (n == MAX_BYTES) n part parts refl
    (told_all part.length parts) (told_all (n + part.length) parts)

last_by : (b : Bool) (x y : ℕ) → 1 ≤ x → 1 ≤ y → 1 ≤ (if b then x else y)
last_by true x y p q = p
last_by false x y p q = q

last_some : (n : ℕ) (parts : List Part) → 1 ≤ n → AreSome parts → 1 ≤ last_of n parts
last_some n [] le some = le
last_some n (part ∷ parts) le some = last_by (n == MAX_BYTES) _ _
    (last_some part.length parts some.0 some.1)
    (last_some (n + part.length) parts (let one = some.0 in omega (arith, one)) some.1)

fewer : (tells last n sum : ℕ) → 1024 * tells + last ≡ (0 + n) + sum → 1 ≤ last →
    1024 * tells ≤ (n + sum) - 1
fewer tells last n sum e some = omega (arith, e, some)

few_tells : (parts : List Part) → AreSome parts → 1024 * tells_in 0 parts ≤ lens parts - 1
few_tells [] some = omega arith
few_tells (part ∷ parts) some =
    let one = some.0 in
    let long : 1 ≤ 0 + part.length = omega (arith, one) in
    fewer (tells_in (0 + part.length) parts) (last_of (0 + part.length) parts) part.length
    (lens parts) (told_all (0 + part.length) parts) (last_some (0 + part.length) parts long some.1)

-- ---- the parts of a piece

-- of a piece with n bytes left after an address, where `into` bytes of the chain were copied
record OfPiece (a n into : ℕ) (parts : List Part) : Type 0 where
  pub all : lens parts ≡ n
  pub some : AreSome parts
  pub few : length parts ≤
      1 + (((into + n) - 1) / 1024 - into / 1024) + (((a + n) - 1) / 4096 - a / 4096)

nothing_of : (a n into : ℕ) → n ≡ 0 → OfPiece a n into []
nothing_of a n into e = record { all = sym e; some = tt; few = omega arith }

-- how many there are, with one more that ends with the piece, with its page or with its portion
abbrev Few : ℕ → ℕ → ℕ → ℕ → Type 0
Few a n into k = k ≤ 1 + (((into + n) - 1) / 1024 - into / 1024) + (((a + n) - 1) / 4096 - a / 4096)

last_here : (a n into k : ℕ) → k ≡ 0 → Few a n into (suc k)
last_here a n into k e = omega (arith, e)

page_here : (a n into l k : ℕ) → l < n → l ≡ 4096 - a % 4096 → Few (a + l) (n - l) (into + l) k →
    Few a n into (suc k)
page_here a n into l k lt e few =
    let page : (a + l) / 4096 ≡ a / 4096 + 1 = omega (arith, e) in
    let a_end : (a + l) + (n - l) ≡ a + n = omega (arith, lt) in
    let into_end : (into + l) + (n - l) ≡ into + n = omega (arith, lt) in
    omega (arith, lt, page, a_end, into_end, few)

portion_here : (a n into l k : ℕ) → l < n → l ≡ 1024 - into % 1024 →
    Few (a + l) (n - l) (into + l) k → Few a n into (suc k)
portion_here a n into l k lt e few =
    let portion : (into + l) / 1024 ≡ into / 1024 + 1 = omega (arith, e) in
    let a_end : (a + l) + (n - l) ≡ a + n = omega (arith, lt) in
    let into_end : (into + l) + (n - l) ≡ into + n = omega (arith, lt) in
    omega (arith, lt, portion, a_end, into_end, few)

one_here : (a n into k page portion : ℕ) → page ≡ 4096 - a % 4096 → portion ≡ 1024 - into % 1024 →
    (n ≤ min n (min page portion) → k ≡ 0) → Few (a + min n (min page portion))
    (n - min n (min page portion)) (into + min n (min page portion)) k → Few a n into (suc k)
one_here a n into k page portion e f none few =
    elim (cases_lt (min n (min page portion)) n) [
      | inr all ↦ last_here a n into k (none all)
      | inl lt ↦ elim (cases_lt portion page) [
        | inl less ↦ portion_here a n into (min n (min page portion)) k lt
            (omega (arith, lt, less, f)) few
        | inr more ↦ page_here a n into (min n (min page portion)) k lt
            (omega (arith, lt, more, e)) few
      ]
    ]

nothing_after : (k : ℕ) (p : Piece) (done into : ℕ) → p.len - done ≡ 0 →
    length (parts_of k p done into) ≡ 0
nothing_after k p done into e =
    ap (λ (l : List Part). length l) (no_parts k p done into (omega (arith, e)))

same_place : (a done l : ℕ) → a + (done + l) ≡ (a + done) + l
same_place a done l = omega arith

cons_of : (k : ℕ) (p : Piece) (done into : ℕ) → done < p.len →
    OfPiece (p.addr + (done + (next_part p done into).length))
    (p.len - (done + (next_part p done into).length)) (into + (next_part p done into).length)
    (parts_of k p (done + (next_part p done into).length) (into + (next_part p done into).length)) →
    OfPiece (p.addr + done) (p.len - done) into (next_part p done into ∷
    parts_of k p (done + (next_part p done into).length) (into + (next_part p done into).length))
cons_of k p done into lt is =
    let l = (next_part p done into).length in
    let rest = parts_of k p (done + l) (into + l) in
    let some = some_bytes p done into lt in
    let few = few_bytes p done into lt in
    let all = is.all in
    let left : p.len - (done + l) ≡ (p.len - done) - l = omega arith in
    record {
      all = omega (arith, all, few, lt);
      some = (some, is.some);
      few = one_here (p.addr + done) (p.len - done) into (length rest)
          (4096 - (p.addr + done) % 4096) (1024 - into % 1024) refl refl
          (λ le. nothing_after k p (done + l) (into + l) (omega (arith, le)))
          (subst (λ (a : ℕ). Few a ((p.len - done) - l) (into + l) (length rest))
          (same_place p.addr done l)
          (subst (λ (n : ℕ). Few (p.addr + (done + l)) n (into + l) (length rest)) left is.few));
    }

of_by : (b : Bool) (k : ℕ) (p : Piece) (done into : ℕ)
    (on : (d i : ℕ) → p.len - d ≤ k → OfPiece (p.addr + d) (p.len - d) i (parts_of k p d i)) →
    (p.len - done == 0) ≡ b → p.len - done ≤ suc k →
    OfPiece (p.addr + done) (p.len - done) into (parts_of (suc k) p done into)
of_by true k p done into on e le =
    let none : p.len - done ≡ 0 = grind (arith, nat_tests) in
    subst (λ (l : List Part). OfPiece (p.addr + done) (p.len - done) into l)
    (sym (no_parts (suc k) p done into (omega (arith, none))))
    (nothing_of (p.addr + done) (p.len - done) into none)
of_by false k p done into on e le =
    let lt : done < p.len = grind (arith, nat_tests) in
    let some = some_bytes p done into lt in
    let l = (next_part p done into).length in
    subst (λ (x : List Part). OfPiece (p.addr + done) (p.len - done) into x)
    (sym (more_parts k p done into lt))
    (cons_of k p done into lt (on (done + l) (into + l) (omega (arith, le, some))))

of_piece : (k : ℕ) (p : Piece) (done into : ℕ) → p.len - done ≤ k →
    OfPiece (p.addr + done) (p.len - done) into (parts_of k p done into)
of_piece zero p done into le = nothing_of (p.addr + done) (p.len - done) into (omega (arith, le))
of_piece (suc k) p done into le = of_by (p.len - done == 0) k p done into
    (λ d i x. of_piece k p d i x) refl le

-- ---- the parts of all pieces

abbrev bytes_in : List Piece → ℕ
bytes_in [] = 0
bytes_in (p ∷ ps) = p.len + bytes_in ps

-- how many ends of portions and of pages are within them
record OfPieces (n into : ℕ) (ps : List Piece) (parts : List Part) : Type 0 where
  portions : ℕ
  pages : ℕ
  all : lens parts ≡ n
  some : AreSome parts
  few : length parts ≤ 2 * length ps + portions + pages
  few_portions : portions ≤ ((into + n) - 1) / 1024 - into / 1024
  few_pages : pages * 4096 ≤ n

one_longer : (x a b c : ℕ) → a ≡ b + c → x + a ≡ (x + b) + c
one_longer x a b c e = omega (arith, e)

lens-append : (xs ys : List Part) → lens (xs ++ ys) ≡ lens xs + lens ys
lens-append [] ys = omega arith
lens-append (x ∷ xs) ys = one_longer x.length (lens (xs ++ ys)) (lens xs) (lens ys) (lens-append xs ys)

some-append : (xs ys : List Part) → AreSome xs → AreSome ys → AreSome (xs ++ ys)
some-append [] ys a b = b
some-append (x ∷ xs) ys a b = (a.0, some-append xs ys a.1 b)

few_ends : (x n m : ℕ) → (((x + n) - 1) / 1024 - x / 1024)
    + ((((x + n) + m) - 1) / 1024 - (x + n) / 1024) ≤ ((x + (n + m)) - 1) / 1024 - x / 1024
few_ends x n m = omega arith

few_page_ends : (a n : ℕ) → ((((a + n) - 1) / 4096 - a / 4096) - 1) * 4096 ≤ n
few_page_ends a n = omega arith

sum_two : (a b c n m : ℕ) → a ≡ b + c → b ≡ n → c ≡ m → a ≡ n + m
sum_two a b c n m e f g = omega (arith, e, f, g)

few_two : (a b c k cuts ends portions pages : ℕ) → a ≡ b + c → b ≤ 1 + cuts + ends →
    c ≤ 2 * k + portions + pages → a ≤ 2 * suc k + (cuts + portions) + ((ends - 1) + pages)
few_two a b c k cuts ends portions pages e f g = omega (arith, e, f, g)

portions_two : (into n m len portions : ℕ) → n ≡ len →
    portions ≤ (((into + n) + m) - 1) / 1024 - (into + n) / 1024 →
    ((((into + n) - 1) / 1024 - into / 1024) + portions) ≤
    ((into + (len + m)) - 1) / 1024 - into / 1024
portions_two into n m len portions e few =
    let ends = few_ends into n m in
    let same : into + (len + m) ≡ into + (n + m) = omega (arith, e) in
    subst (λ (x : ℕ). ((((into + n) - 1) / 1024 - into / 1024) + portions) ≤
    (x - 1) / 1024 - into / 1024) (sym same) (omega (arith, ends, few))

pages_two : (a n m len pages : ℕ) → n ≡ len → pages * 4096 ≤ m →
    (((((a + n) - 1) / 4096 - a / 4096) - 1) + pages) * 4096 ≤ len + m
pages_two a n m len pages e few = let ends = few_page_ends a n in omega (arith, ends, few, e)

of_pieces : (ps : List Piece) (into : ℕ) → OfPieces (bytes_in ps) into ps (parts_on into 0 ps)
of_pieces [] into = record {
  portions = 0;
  pages = 0;
  all = refl;
  some = tt;
  few = omega arith;
  few_portions = omega arith;
  few_pages = omega arith;
}
of_pieces (p ∷ ps) into =
    let len = p.len - 0 in
    let one = of_piece len p 0 into (omega arith) in
    let rest = of_pieces ps (into + len) in
    let here = parts_of len p 0 into in
    let there = parts_on (into + len) 0 ps in
    let cuts = ((into + len) - 1) / 1024 - into / 1024 in
    let page_ends = (((p.addr + 0) + len) - 1) / 4096 - (p.addr + 0) / 4096 in
    let same : len ≡ p.len = omega arith in
    record {
      portions = cuts + rest.portions;
      pages = (page_ends - 1) + rest.pages;
      all = sum_two (lens (here ++ there)) (lens here) (lens there) p.len (bytes_in ps)
          (lens-append here there) (one.all ∙ same) rest.all;
      some = some-append here there one.some rest.some;
      few = few_two (length (here ++ there)) (length here) (length there) (length ps) cuts page_ends
          rest.portions rest.pages (length-append here there) one.few rest.few;
      few_portions = portions_two into len (bytes_in ps) p.len rest.portions same rest.few_portions;
      few_pages = pages_two (p.addr + 0) len (bytes_in ps) p.len rest.pages same rest.few_pages;
    }

pub some_all : (ps : List Piece) → AreSome (all_parts ps)
some_all ps = (of_pieces ps 0).some

-- ---- requests, statistics and ids

total_from : (n : ℕ) (ps : List Piece) →
    fold (λ (m : ℕ) (p : Piece). m + p.len) n ps ≡ n + bytes_in ps
total_from n [] = omega arith
total_from n (p ∷ ps) = let on = total_from (n + p.len) ps in omega (arith, on)

total_so : (ps : List Piece) → total_length ps ≡ bytes_in ps
total_so ps = let same : 0 + bytes_in ps ≡ bytes_in ps = omega arith in total_from 0 ps ∙ same

few_all : (n most : ℕ) (ps : List Piece) → total_length ps ≤ 4 * most →
    cost 0 (all_parts ps) ≤ 2 * length ps + further_cost most
few_all n most ps le =
    let is = of_pieces ps 0 in
    let tells = few_tells (all_parts ps) is.some in
    let all = is.all in
    let few = is.few in
    let portions = is.few_portions in
    let pages = is.few_pages in
    let total = total_so ps in
    omega (arith, tells, all, few, portions, pages, total, le)

within_by : (bad fine : Bool) (most total n : ℕ) → is_length_within most total ≡ fine →
    (if bad then Err WrongDirection else (if not fine then Err BadLength else Ok total)) ≡ Ok n →
    total ≤ 4 * most
within_by true fine most total n e h = absurd cc
within_by false false most total n e h = absurd cc
within_by false true most total n e h = grind (arith, nat_tests)

pub request_cost : (most : ℕ) (ps : List Piece) (n : ℕ) → request_length_within most ps ≡ Ok n →
    cost 0 (all_parts ps) ≤ 2 * length ps + further_cost most
request_cost most ps n e = few_all n most ps
    (within_by (list_any (λ (p : Piece). p.writable) ps) (is_length_within most (total_length ps))
    most (total_length ps) n refl e)

statistics_by : (bad fine : Bool) (total n : ℕ) → is_statistics_length total ≡ fine →
    (if bad then Err WrongDirection else (if not fine then Err BadLength else Ok total)) ≡ Ok n →
    total ≤ 1020
statistics_by true fine total n e h = absurd cc
statistics_by false false total n e h = absurd cc
statistics_by false true total n e h = grind (arith, nat_tests)

few_short : (most : ℕ) (ps : List Piece) → total_length ps ≤ 1020 →
    cost 0 (all_parts ps) ≤ 2 * length ps + further_cost most
few_short most ps le =
    let few = few_all 0 255 ps (omega (arith, le)) in omega (arith, few)

pub statistics_cost : (most : ℕ) (ps : List Piece) (n : ℕ) → statistics_length ps ≡ Ok n →
    cost 0 (all_parts ps) ≤ 2 * length ps + further_cost most
statistics_cost most ps n e = few_short most ps
    (statistics_by (list_any (λ (p : Piece). p.writable) ps) (is_statistics_length (total_length ps))
    (total_length ps) n refl e)

id_by : (bad fine : Bool) (total n : ℕ) → (total == 4) ≡ fine →
    (if bad then Err WrongDirection else (if not fine then Err BadLength else Ok total)) ≡ Ok n →
    total ≤ 1020
id_by true fine total n e h = absurd cc
id_by false false total n e h = absurd cc
id_by false true total n e h = grind (arith, nat_tests)

pub id_cost : (most : ℕ) (ps : List Piece) (n : ℕ) → id_length ps ≡ Ok n →
    cost 0 (all_parts ps) ≤ 2 * length ps + further_cost most
id_cost most ps n e = few_short most ps
    (id_by (list_any (λ (p : Piece). p.writable) ps) (total_length ps == 4) (total_length ps) n refl e)
