-- Numbers, each once.
use Rattle.std.specs.Prelude.{◌≡◌, ℕ, ◌+◌, ◌<◌, ◌≤◌, Bool, true, false, not, ◌==◌, ◌||◌, List, []}
use Rattle.std.specs.Prelude.{◌∷◌, ◌++◌, length, filter, if◌then◌else◌, Some, None, refl, cond}
use Rattle.std.proofs.Common.{sym, ◌∙◌, eq-eqb, ap, arith, ◌/◌, get_or, take, drop, drop-cons}
use Rattle.std.proofs.{Common.add-one, lemmas.Bool.eqb-true, lemmas.List.Elements.filter-append}
use Rattle.std.proofs.lemmas.List.{append-nil, take_more, take-append-drop, length_push}
use Rattle.std.proofs.lemmas.List.FromFn.{length-map-range_with_len, get_or-map-range_with_len}
use Rattle.vb_virtio.specs.Tests.{is_in}
use Rattle.vb_chain.specs.declared.fault.ChainFault.{ChainFault}
use Rattle.vb_request.specs.Request.{each_once, number_fault, first_of_both, first_number_fault}
use Rattle.vb_request.specs.Request.{numbers_of, number_at}

true_false : true ≡ false → ⊥
true_false e = cc

-- all numbers but this one
abbrev but : ℕ → List ℕ → List ℕ
but m ns = filter (λ k. not (k == m)) ns

but_step : (n m x : ℕ) (xs : List ℕ) (b : Bool) → (x == m) ≡ b → (m == n) ≡ false →
    is_in n (but m xs) ≡ is_in n xs →
    is_in n (cond (not (x == m)) (x ∷ but m xs) (but m xs)) ≡ ((x == n) || is_in n xs)
but_step n m x xs b e ne ih = grind (arith, eqb-true)

-- a number that isn't left out is in the list as before
is_in-but : (n m : ℕ) (ns : List ℕ) → (m == n) ≡ false → is_in n (but m ns) ≡ is_in n ns
is_in-but n m [] ne = refl
is_in-but n m (x ∷ xs) ne = but_step n m x xs (x == m) refl ne (is_in-but n m xs ne)

once_step : (n x : ℕ) (xs : List ℕ) (b : Bool) → (x == n) ≡ b → is_in n (each_once xs) ≡ is_in n xs
    → ((x == n) || is_in n (but x (each_once xs))) ≡ ((x == n) || is_in n xs)
once_step n x xs b e ih = grind (arith, is_in-but)

-- a list's numbers are those of the list with each once
pub is_in-each_once : (n : ℕ) (ns : List ℕ) → is_in n (each_once ns) ≡ is_in n ns
is_in-each_once n [] = refl
is_in-each_once n (x ∷ xs) = once_step n x xs (x == n) refl (is_in-each_once n xs)

but_self : (m : ℕ) → but m (m ∷ []) ≡ []
but_self m = ap (λ v. cond (not v) (m ∷ []) []) (eq-eqb m m refl)

not_eq_sym : (m n : ℕ) (b : Bool) → (n == m) ≡ b → (m == n) ≡ false → (n == m) ≡ false
not_eq_sym m n true e f = absurd (true_false (sym (eq-eqb m n (sym (eqb-true n m e))) ∙ f))
not_eq_sym m n false e f = e

but_other : (m n : ℕ) → (m == n) ≡ false → but m (n ∷ []) ≡ n ∷ []
but_other m n f = ap (λ v. cond (not v) (n ∷ []) []) (not_eq_sym m n (n == m) refl f)

put_last : List ℕ → ℕ → Bool → List ℕ
put_last xs n b = if b then xs else xs ++ n ∷ []

push_step : (m n : ℕ) (ms : List ℕ) (b c : Bool) → is_in n ms ≡ b → (m == n) ≡ c → each_once (ms
    ++ n ∷ []) ≡ put_last (each_once ms) n (is_in n ms) → (m ∷ but m (each_once (ms ++ n ∷ [])))
    ≡ put_last (m ∷ but m (each_once ms)) n ((m == n) || is_in n ms)
unfolding put_last
push_step m n ms b c e f ih =
    grind (arith, put_last, filter-append, eqb-true, but_self, append-nil, but_other)

-- one more number
pub each_once_push : (ns : List ℕ) (n : ℕ) →
    each_once (ns ++ n ∷ []) ≡ (if is_in n ns then each_once ns else each_once ns ++ n ∷ [])
unfolding put_last
each_once_push [] n = refl
each_once_push (m ∷ ms) n = push_step m n ms (is_in n ms) (m == n) refl refl (each_once_push ms n)

-- ---- faults

pub first_fault-append : (reserved count : ℕ) (xs ys : List ℕ) →
    first_number_fault reserved count (xs ++ ys) ≡
    first_of_both (first_number_fault reserved count xs) (first_number_fault reserved count ys)
first_fault-append reserved count [] ys = refl
first_fault-append reserved count (x ∷ xs) ys =
    grind (arith, first_fault-append reserved count xs ys)

split_at : (ns : List ℕ) (k : ℕ) → k < length ns →
    ns ≡ take k ns ++ (get_or ns k 0 ∷ drop (k + 1) ns)
split_at ns k lt = grind (arith, take-append-drop k ns, drop-cons ns k 0 lt, add-one k)

-- the first wrong number
pub fault_here : (reserved count : ℕ) (ns : List ℕ) (k number : ℕ) (fault : ChainFault) →
    k < length ns → get_or ns k 0 ≡ number → first_number_fault reserved count (take k ns) ≡ None →
    number_fault reserved count number ≡ Some fault
    → first_number_fault reserved count ns ≡ Some fault
fault_here reserved count ns k number fault lt at before here =
    let rest : List ℕ = drop (k + 1) ns in ap (first_number_fault reserved count) (split_at ns k lt)
    ∙ (first_fault-append reserved count (take k ns) (get_or ns k 0 ∷ rest)
    ∙ (ap (λ o. first_of_both o (first_number_fault reserved count (get_or ns k 0 ∷ rest))) before
    ∙ ap (λ o. first_of_both o (first_number_fault reserved count rest))
    (ap (number_fault reserved count) at ∙ here)))

-- one more number that is right
pub sound_more : (reserved count : ℕ) (ns : List ℕ) (k number : ℕ) → k < length ns →
    get_or ns k 0 ≡ number →
    first_number_fault reserved count (take k ns) ≡ None → number_fault reserved count number ≡ None
    → first_number_fault reserved count (take (k + 1) ns) ≡ None
sound_more reserved count ns k number lt at before here = grind (
  arith,
  take_more ns k 0 lt,
  first_fault-append reserved count (take k ns) (get_or ns k 0 ∷ []),
)

-- one more number, put after the others where it is new
pub once_more : (ns pages new : List ℕ) (k number : ℕ) → k < length ns → get_or ns k 0 ≡ number
    → pages ≡ each_once (take k ns) → new ≡ (if is_in number pages then pages else pages
    ++ number ∷ []) → new ≡ each_once (take (k + 1) ns)
once_more ns pages new k number lt at so_far is = grind (
  arith,
  is_in-each_once number (take k ns),
  take_more ns k 0 lt,
  each_once_push (take k ns) number,
)

pub once_few : (pages new : List ℕ) (number : ℕ) (b : Bool) →
    new ≡ (if b then pages else pages ++ number ∷ []) → length new ≤ length pages + 1
once_few pages new number b e = grind (arith, length_push)

-- ---- the numbers of some bytes

pub numbers_of-length : (bytes : List ℕ) → length (numbers_of bytes) ≡ length bytes / 4
unfolding numbers_of
numbers_of-length bytes = length-map-range_with_len (number_at bytes) 0 (length bytes / 4)

pub numbers_of-at : (bytes : List ℕ) (k : ℕ) → k < length bytes / 4 →
    get_or (numbers_of bytes) k 0 ≡ number_at bytes k
unfolding numbers_of
numbers_of-at bytes k lt =
    get_or-map-range_with_len (number_at bytes) 0 (length bytes / 4) k k 0 lt (omega arith)
