-- Several pages get frames, one by one.
use Rattle.std.{proofs.Common.{sym, ◌∙◌, ap, subst, arith, eq-eqb}, specs.List.range_with_len}
use Rattle.std.specs.Prelude.{◌≡◌, ℕ, zero, suc, ◌+◌, ◌<◌, ◌≤◌, ◌==◌, ◌||◌, Bool, true, false, not}
use Rattle.std.specs.Prelude.{List, [], ◌∷◌, length, Option, None, IsSome, filter, count_by, refl}
use Rattle.vb_virtio.specs.Tests.{AllDistinct, times, is_in, each_from}
use Rattle.vb_model.specs.Driver.{given, claim_refusal, AreClaimsFor}
use Rattle.vb_model.specs.Guest.{backed, all_backed}
use Rattle.vb_model.specs.declared.calls.Claim.{Claim, TheVariants.{Gave, GaveNoFrame}}
use Rattle.{vb_model.specs.declared.calls.Claim.TheVariants.GaveNoMemory, vb_ram.specs.Pages.Pages}
use Rattle.{vb_ram.specs.Pages.{page_at, frame_at, Supplied}, vb_guest.proofs.Moving.times_first}
use Rattle.vb_guest.proofs.Writing.{HasFrames, frames_supplied, pages_supplied, count_backed}
use Rattle.vb_guest.specs.{Lives.AllSupplied, Stands.HasPages, Steps.is_frame}

-- neither of two tests holds
neither : (a b : Bool) → (a || b) ≡ false → (a ≡ false) × (b ≡ false)
neither x b e = grind arith

-- ---- the numbers of a range that pass a test

pub rising : (test : ℕ → Bool) (a n p : ℕ) → is_in p (filter test (range_with_len a n)) ≡ true
    → a ≤ p
rising test a zero p h = absurd cc
rising test a (suc n) p h = grind (arith, rising test (a + 1) n p)

pub bounded : (test : ℕ → Bool) (a n p : ℕ) → is_in p (filter test (range_with_len a n)) ≡ true
    → p < a + n
bounded test a zero p h = absurd cc
bounded test a (suc n) p h = grind (arith, bounded test (a + 1) n p)

pub not_again : (test : ℕ → Bool) (a n : ℕ)
    → is_in a (filter test (range_with_len (a + 1) n)) ≡ false
not_again test a n = grind (arith, rising)

pub all_distinct : (test : ℕ → Bool) (a n : ℕ) → AllDistinct (filter test (range_with_len a n))
all_distinct test a zero = tt
all_distinct test a (suc n) = grind (arith, not_again test a n, all_distinct test (a + 1) n)

-- a number that passes the test is among them
pub among : (test : ℕ → Bool) (a n p : ℕ) → a ≤ p → p < a + n → test p ≡ true
    → is_in p (filter test (range_with_len a n)) ≡ true
among test a zero p from to passes = absurd (omega arith)
among test a (suc n) p from to passes = grind (arith, among test (a + 1) n p)

-- ---- memory

pub supplied_count : (pages numbers : List ℕ) (old new : Pages) → AllSupplied pages numbers old new
    → length new ≡ length old
supplied_count [] numbers old new e = ap (λ (m : Pages). length m) e
supplied_count (p ∷ ps) [] old new none = absurd none
supplied_count (p ∷ ps) (n ∷ ns) old new (mid, before, bare, did) =
    did.count ∙ supplied_count ps ns old mid before

-- a page that isn't among them is as before
pub supplied_other : (pages numbers : List ℕ) (old new : Pages) (q : ℕ)
    → AllSupplied pages numbers old new → is_in q pages ≡ false → page_at new q ≡ page_at old q
supplied_other [] numbers old new q e out = ap (λ (m : Pages). page_at m q) e
supplied_other (p ∷ ps) [] old new q none out = absurd none
supplied_other (p ∷ ps) (n ∷ ns) old new q (mid, before, bare, did) out =
    let parts = neither (p == q) (is_in q ps) out in
    did.others q (λ e. (let same = eq-eqb p q (sym e) in let wrong = parts.0 in cc))
    ∙ supplied_other ps ns old mid q before parts.1

-- a page that is among them has a frame
pub supplied_backed : (pages numbers : List ℕ) (old new : Pages) (q : ℕ)
    → AllSupplied pages numbers old new → is_in q pages ≡ true → IsSome (frame_at new q)
supplied_backed [] numbers old new q e there = absurd cc
supplied_backed (p ∷ ps) [] old new q none there = absurd none
supplied_backed (p ∷ ps) (n ∷ ns) old new q (mid, before, bare, did) there =
    grind (arith, supplied_backed ps ns old mid q before)

-- ---- the table of frames

each_swap : {A : Type 0} (f g : ℕ → A → A) (k : ℕ) (xs : List A) → ((i : ℕ) (x : A) → f i (g i x)
    ≡ g i (f i x)) → each_from k f (each_from k g xs) ≡ each_from k g (each_from k f xs)
each_swap f g k [] same = refl
each_swap {A} f g k (x ∷ xs) same = grind (arith, each_swap f g (suc k) xs same)

pub backed_swap : (p f q k : ℕ) (frames : List (Option ℕ)) → (q == p) ≡ false
    → backed p f (backed q k frames) ≡ backed q k (backed p f frames)
backed_swap p f q k frames ne = grind (arith, each_swap)

pub backed_last : (p f : ℕ) (pages numbers : List ℕ) (frames : List (Option ℕ))
    → is_in p pages ≡ false
    → backed p f (all_backed pages numbers frames) ≡ all_backed pages numbers (backed p f frames)
backed_last p f [] numbers frames out = refl
backed_last p f (q ∷ qs) [] frames out = refl
backed_last p f (q ∷ qs) (k ∷ ks) frames out = let parts = neither (q == p) (is_in p qs) out in
    backed_last p f qs ks (backed q k frames) parts.1
    ∙ ap (λ (l : List (Option ℕ)). all_backed qs ks l) (backed_swap p f q k frames parts.0)

-- ---- memory, the table and the frames that are out

distinct_out : (p : ℕ) (ps : List ℕ) → not (is_in p ps) ≡ true → is_in p ps ≡ false
distinct_out p ps e = grind arith

-- what one page's new frame leaves, the new frames of all pages leave
filled_by : (Has : Pages → List (Option ℕ) → Type 0)
    (n : ℕ) (pages numbers : List ℕ) (m1 m2 : Pages) (frames : List (Option ℕ))
    → ((old new : Pages) (page frame : ℕ) (before : List (Option ℕ)) → page < n → frame_at old page
    ≡ None → Has old before → Supplied old new page frame → Has new (backed page frame before))
    → AllDistinct pages → ((p : ℕ) → is_in p pages ≡ true → p < n)
    → AllSupplied pages numbers m1 m2 → Has m1 frames → Has m2 (all_backed pages numbers frames)
filled_by Has n [] numbers m1 m2 frames one distinct below e has =
    subst (λ m. Has m frames) (sym e) has
filled_by Has n (p ∷ ps) [] m1 m2 frames one distinct below none has = absurd none
filled_by Has n (p ∷ ps) (k ∷ ks) m1 m2 frames one distinct below (mid, before, bare, did) has =
    let out = distinct_out p ps distinct.0 in
    let lt : p < n = below p (ap (λ (b : Bool). b || is_in p ps) (eq-eqb p p refl)) in
    let there = filled_by Has n ps ks m1 mid frames one distinct.1
    (λ q m. below q (later (p == q) (is_in q ps) m)) before has in
    subst (λ l. Has m2 l) (backed_last p k ps ks frames out)
    (one mid m2 p k (all_backed ps ks frames) lt bare there did) where
      later : (a b : Bool) → b ≡ true → (a || b) ≡ true
      later x b e = grind arith

pub pages_filled : {size n : ℕ} (pages numbers : List ℕ) {m1 m2 : Pages} {frames : List (Option ℕ)}
    {contents : List (List ℕ)} → AllDistinct pages → ((p : ℕ) → is_in p pages ≡ true → p < n)
    → AllSupplied pages numbers m1 m2 → HasPages m1 size n frames contents
    → HasPages m2 size n (all_backed pages numbers frames) contents
pages_filled {size} {n} pages numbers {m1} {m2} {frames} {contents} distinct below supplied has =
    filled_by (λ m l. HasPages m size n l contents) n pages numbers m1 m2 frames (λ old new
    page frame before lt bare all did. pages_supplied lt bare all did) distinct below supplied has

pub frames_given : {n : ℕ} (pages numbers : List ℕ) {m1 m2 : Pages} {frames : List (Option ℕ)}
    → AllDistinct pages → ((p : ℕ) → is_in p pages ≡ true → p < n) → AllSupplied pages numbers m1 m2
    → HasFrames m1 n frames → HasFrames m2 n (all_backed pages numbers frames)
frames_given {n} pages numbers {m1} {m2} {frames} distinct below supplied has =
    filled_by (λ m l. HasFrames m n l) n pages numbers m1 m2 frames (λ old
    new page frame before lt bare all did. frames_supplied lt all did) distinct below supplied has

-- each frame that was given backs a page more
pub frames_filled : (x : ℕ) {n : ℕ} (pages : List ℕ) (claims : List Claim)
    {m1 : Pages} (m2 : Pages) {frames : List (Option ℕ)} → claim_refusal claims ≡ None
    → AreClaimsFor pages claims → AllDistinct pages → ((p : ℕ) → is_in p pages ≡ true → p < n)
    → AllSupplied pages (given claims) m1 m2 → HasFrames m1 n frames → count_by (is_frame x)
    (all_backed pages (given claims) frames) ≡ count_by (is_frame x) frames + times x (given claims)
frames_filled x [] [] m2 all made distinct below supplied has = omega arith
frames_filled x [] (c ∷ cs) m2 all made distinct below supplied has =
    absurd (let none : c ∷ cs ≡ [] = made in cc)
frames_filled x (p ∷ ps) [] m2 all made distinct below supplied has = absurd made
frames_filled x (p ∷ ps) (GaveNoFrame ∷ cs) m2 all made distinct below supplied has = absurd cc
frames_filled x (p ∷ ps) (GaveNoMemory ∷ cs) m2 all made distinct below supplied has = absurd cc
frames_filled x {n}
    (p ∷ ps) (Gave f ∷ cs) m2 {frames} all made distinct below (mid, before, bare, did) has =
    let below_too : (q : ℕ) → is_in q ps ≡ true
    → q < n = λ q m. below q (later (p == q) (is_in q ps) m) in
    let lt : p < n = below p (ap (λ (b : Bool). b || is_in p ps) (eq-eqb p p refl)) in
    let there = frames_given ps (given cs) distinct.1 below_too before has in
    let rest = frames_filled x ps cs mid all made distinct.1 below_too before has in
    let more = count_backed x p f (all_backed ps (given cs) frames) (omega (arith, there.framed))
    (sym (there.behind p) ∙ bare) in
    let swap : count_by (is_frame x) (backed p f (all_backed ps (given cs) frames))
    ≡ count_by (is_frame x) (all_backed ps (given cs) (backed p f frames)) =
    ap (λ (l : List (Option ℕ)). count_by (is_frame x) l)
    (backed_last p f ps (given cs) frames (distinct_out p ps distinct.0)) in
    omega (arith, rest, more, swap, times_first x f (given cs)) where
      later : (a b : Bool) → b ≡ true → (a || b) ≡ true
      later x b e = grind arith
