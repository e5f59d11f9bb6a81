-- Flagged pages as a rising list, and what the calls on a device leave of the flags.
use Rattle.std.specs.Prelude.{◌≡◌, ℕ, zero, suc, ◌+◌, ◌<◌, ◌≤◌, ◌==◌, ◌||◌, ◌&&◌, not, Bool, true}
use Rattle.std.specs.Prelude.{false, List, [], ◌∷◌, ◌++◌, length, count_by, replicate, refl}
use Rattle.std.specs.Prelude.{if◌then◌else◌, cond, MatchOption, ⊤, Option, Some, None, is_none}
use Rattle.std.{specs.Prelude.Result, proofs.lemmas.List.Sums.count_by-le-length}
use Rattle.std.proofs.Common.{sym, ◌∙◌, ap, subst, arith, get_or, take, eq-eqb, Ok, Err}
use Rattle.std.proofs.lemmas.List.{append-nil, length-replicate, take_more, length-take}
use Rattle.vb_ram.specs.{declared.config.Config.Config, Pages.Pages, Part.{Part, QueuePart}}
use Rattle.vb_virtio.specs.declared.refusals.Refusal.TheVariants.{NoQueue, NotReady, NeedsReset}
use Rattle.vb_virtio.specs.declared.refusals.Refusal.TheVariants.{NotTaken, NotWorked, Broken}
use Rattle.vb_virtio.specs.Queues.{Request, is_queue_of_requests}
use Rattle.vb_virtio.specs.FirstRefusal.{◌⇒◌, first_refusal}
use Rattle.vb_virtio.specs.Status.{is_not_ready, has_fault}
use Rattle.vb_virtio.specs.declared.layout.TheConstants.{INFLATE_QUEUE, DEFLATE_QUEUE, REPORT_QUEUE}
use Rattle.vb_virtio.specs.declared.refusals.Refusal.{Refusal}
use Rattle.vb_virtio.specs.Tests.{is_in, pages_from, pages_where}
use Rattle.vb_virtio.proofs.Tables.{pages_where-passes, count_by-cons}
use Rattle.vb_model.specs.Tables.{has_unvisited}
use Rattle.vb_device.proofs.ServeCases.{Did, Not_served, Only_took, Took_and_used, what_it_did}
use Rattle.vb_device.specs.Calls.{ServesBy, TakeMeans, noting}
use Rattle.vb_device.specs.Calls.{attached, using, next_visit, WorksBy, SweepsBy, FinishesBy, Uses}
use Rattle.vb_device.specs.Conditions.{work_refusal, sweep_refusal, finish_refusal, ask_refusal}
use Rattle.vb_device.{specs.Discards.flagged, proofs.Marks.flagged-length, specs.Calls.AsksBy}
use Rattle.vb_device.{specs.declared.worked.Worked.Worked, specs.Conditions.taken_at}

pub pages_from-append : {A : Type 0} (first : ℕ) (test : A → Bool) (xs ys : List A)
    → pages_from first test (xs ++ ys) ≡ pages_from first test xs
    ++ pages_from (first + length xs) test ys
pages_from-append first test [] ys = ap (λ n. pages_from n test ys) (omega arith)
pages_from-append first test (x ∷ xs) ys =
    let ih : pages_from (suc first) test (xs ++ ys) ≡ pages_from (suc first) test xs
    ++ pages_from (suc first + length xs) test ys = pages_from-append (suc first) test xs ys in
    let at : pages_from (suc first + length xs) test ys
    ≡ pages_from (first + suc (length xs)) test ys = ap (λ n. pages_from n test ys) (omega arith) in
    let tail : pages_from (suc first) test (xs ++ ys) ≡ pages_from (suc first) test xs ++ pages_from
    (first + suc (length xs)) test ys = ih ∙ ap (λ l. pages_from (suc first) test xs ++ l) at in
    step (test x) (pages_from (suc first) test (xs ++ ys)) (pages_from (suc first) test xs)
    (pages_from (first + suc (length xs)) test ys) tail
  where
    step : (b : Bool) (all front back : List ℕ) → all ≡ front ++ back
        → cond b (first ∷ all) all ≡ cond b (first ∷ front) front ++ back
    step true all front back e = ap (λ l. first ∷ l) e
    step false all front back e = e

-- one page more of a table
pages_more : {A : Type 0} (test : A → Bool) (xs : List A) (i : ℕ) (d : A) → i < length xs
    → pages_where test (take (i + 1) xs) ≡ pages_where test (take i xs)
    ++ cond (test (get_or xs i d)) (i ∷ []) []
pages_more test xs i d lt = ap (pages_from 0 test) (take_more xs i d lt) ∙ (pages_from-append 0 test
    (take i xs) (get_or xs i d ∷ []) ∙ ap (λ n. pages_where test (take i xs)
    ++ cond (test (get_or xs i d)) (n ∷ []) []) (omega (arith, length-take i xs)))

flag_in : (k : ℕ) (flags : List Bool) (i : ℕ) → get_or flags i false ≡ true
    → is_in (k + i) (pages_from k (λ flag. flag) flags) ≡ true
flag_in k [] zero e = cc
flag_in k [] (suc i) e = cc
flag_in k (true ∷ flags) zero e = ap (λ v. v || is_in
    (k + 0) (pages_from (suc k) (λ flag. flag) flags)) (eq-eqb k (k + 0) (omega arith))
flag_in k (false ∷ flags) zero e = cc
flag_in k (f ∷ flags) (suc i) e =
    step f (subst (λ n. is_in n (pages_from (suc k) (λ flag. flag) flags) ≡ true) (omega arith)
    (flag_in (suc k) flags i e))
  where
    here : (v w : Bool) → w ≡ true → (v || w) ≡ true
    here true w e = refl
    here false w e = e

    step : (b : Bool) → is_in (k + suc i) (pages_from (suc k) (λ flag. flag) flags) ≡ true
        → is_in (k + suc i) (cond b (k ∷ pages_from (suc k) (λ flag. flag) flags)
        (pages_from (suc k) (λ flag. flag) flags)) ≡ true
    step true h = here (k == (k + suc i)) _ h
    step false h = h

same_truth : (a b : Bool) → (a ≡ true → b ≡ true) → (b ≡ true → a ≡ true) → a ≡ b
same_truth true b f g = sym (f refl)
same_truth false true f g = g refl
same_truth false false f g = refl

-- a page is in the list exactly where its flag is set
pub listed_is : (flags : List Bool) (page : ℕ)
    → is_in page (pages_where (λ flag. flag) flags) ≡ get_or flags page false
listed_is flags page = same_truth _ _ (λ e. pages_where-passes (λ flag. flag) flags page false e)
    (λ e. subst (λ n. is_in n (pages_where (λ flag. flag) flags) ≡ true) (omega arith)
    (flag_in 0 flags page e))

length_from : (first : ℕ) (flags : List Bool)
    → length (pages_from first (λ flag. flag) flags) ≡ count_by (λ flag. flag) flags
length_from first [] = refl
length_from first (true ∷ flags) =
    omega (arith, length_from (suc first) flags, count_by-cons (λ flag. flag) true flags)
length_from first (false ∷ flags) =
    omega (arith, length_from (suc first) flags, count_by-cons (λ flag. flag) false flags)

pub listed_count : (flags : List Bool)
    → length (pages_where (λ flag. flag) flags) ≡ count_by (λ flag. flag) flags
listed_count flags = length_from 0 flags

none_from : (first n : ℕ) → pages_from first (λ flag. flag) (replicate n false) ≡ []
none_from first zero = refl
none_from first (suc n) = none_from (suc first) n

pub none_listed : (n : ℕ) → pages_where (λ flag. flag) (replicate n false) ≡ []
none_listed n = none_from 0 n

-- what is said of what an option holds
pub told : {X : Type 0} (P : X → Type 0) (o : Option X) (x : X) → o ≡ Some x → MatchOption o ⊤ P
    → P x
told P o x e h = subst (λ v. MatchOption v ⊤ P) e h

-- one page more
pub listed_more : (flags : List Bool) (i : ℕ) (flag : Bool) (old new : List ℕ) → i < length flags
    → flag ≡ get_or flags i false → old ≡ pages_where (λ f. f) (take i flags)
    → new ≡ (if flag then old ++ i ∷ [] else old) → new ≡ pages_where (λ f. f) (take (i + 1) flags)
listed_more flags i true old new lt f o n =
    n ∙ (ap (λ (xs : List ℕ). xs ++ i ∷ []) o ∙ sym (pages_more (λ f. f) flags i false lt
    ∙ ap (λ (b : Bool). pages_where (λ f. f) (take i flags) ++ cond b (i ∷ []) []) (sym f)))
listed_more flags i false old new lt f o n = n ∙ (o ∙ sym (pages_more (λ f. f) flags i false lt
    ∙ (ap (λ (b : Bool). pages_where (λ f. f) (take i flags) ++ cond b (i ∷ []) []) (sym f)
    ∙ append-nil (pages_where (λ f. f) (take i flags)))))

-- no more flags are in the list than there are
pub listed_fits : (flags : List Bool) (items : List ℕ) (pages : ℕ) → length flags ≡ pages
    → items ≡ pages_where (λ f. f) flags → length items ≤ pages
listed_fits flags items pages size e = omega (
  arith,
  size,
  count_by-le-length (λ (f : Bool). f) flags,
  ap (λ (xs : List ℕ). length xs) e,
  listed_count flags,
)

-- a device that is attached has no flag set
pub attached_list : (p1 p2 : Part) (config : Config) (pages room : ℕ) (items : List ℕ)
    → p2 ≡ attached config p1 → pages ≡ config.pages → items ≡ [] → config.pages ≤ room
    → (length p2.ballooned ≡ pages) × (pages ≤ room) × (items ≡ pages_where (λ f. f) p2.ballooned)
attached_list p1 p2 config pages room items e size none fits =
    let flags : p2.ballooned ≡ replicate config.pages false = ap (λ (p : Part). p.ballooned) e in (
      ap (λ (fs : List Bool). length fs) flags ∙ (length-replicate config.pages false ∙ sym size),
      omega (arith, size, fits),
      none ∙ sym (ap (λ (fs : List Bool). pages_where (λ f. f) fs) flags
          ∙ none_listed config.pages),
    )

-- a sweep leaves the flags
pub sweep_keeps : (page : ℕ) (m1 m2 : Pages) (p1 p2 : Part) (result : Result Bool Refusal)
    → SweepsBy page m1 m2 p1 p2 result → p2.ballooned ≡ p1.ballooned
sweep_keeps page m1 m2 p1 p2 result s = step (sweep_refusal page p1) refl where
  step : (o : Option Refusal) → sweep_refusal page p1 ≡ o → p2.ballooned ≡ p1.ballooned
  step None e = ap (λ (p : Part). p.ballooned) (s.part e)
  step (Some why) e = ap (λ (p : Part). p.ballooned) (s.refused why e).1

-- work leaves the flags
pub work_keeps : (m1 m2 : Pages) (p1 p2 : Part) (result : Result (Option Worked) Refusal)
    → WorksBy m1 m2 p1 p2 result → p2.ballooned ≡ p1.ballooned
work_keeps m1 m2 p1 p2 result w =
    step (work_refusal p1) refl (next_visit INFLATE_QUEUE p1) refl (next_visit REPORT_QUEUE p1) refl
  where
    step : (o : Option Refusal) → work_refusal p1 ≡ o → (next : Option ℕ)
        → next_visit INFLATE_QUEUE p1 ≡ next → (other : Option ℕ)
        → next_visit REPORT_QUEUE p1 ≡ other → p2.ballooned ≡ p1.ballooned
    step (Some why) e next at other is = ap (λ (p : Part). p.ballooned) (w.refused why e).1
    step None e (Some page) at other is = ap (λ (p : Part). p.ballooned) (w.inflate page e at).part
    step None e None at (Some page) is = ap (λ (p : Part). p.ballooned) (w.report page e at is).part
    step None e None at None is = ap (λ (p : Part). p.ballooned) (w.idle e at is).1

-- a question for statistics leaves the flags
pub ask_keeps : {T : Type 0} (m1 m2 : Pages) (p1 p2 : Part) (result : Result T Refusal)
    → AsksBy m1 m2 p1 p2 result → p2.ballooned ≡ p1.ballooned
ask_keeps m1 m2 p1 p2 result a = step (ask_refusal p1) refl where
  step : (o : Option Refusal) → ask_refusal p1 ≡ o → p2.ballooned ≡ p1.ballooned
  step None e = ap (λ (p : Part). p.ballooned) (a.part e)
  step (Some why) e = ap (λ (p : Part). p.ballooned) (a.refused why e).1

-- ---- a finish leaves the number of flags

passed : (a b c d e : Bool) (v w x y z : Refusal)
    → first_refusal ((a ⇒ v) ∷ (b ⇒ w) ∷ (c ⇒ x) ∷ (d ⇒ y) ∷ (e ⇒ z) ∷ []) ≡ None → d ≡ false
passed true b c d e v w x y z h = absurd (some_none v h) where
  some_none : (why : Refusal) → Some why ≡ None → ⊥
  some_none why e = cc
passed false true c d e v w x y z h = absurd (some_none w h) where
  some_none : (why : Refusal) → Some why ≡ None → ⊥
  some_none why e = cc
passed false false true d e v w x y z h = absurd (some_none x h) where
  some_none : (why : Refusal) → Some why ≡ None → ⊥
  some_none why e = cc
passed false false false true e v w x y z h = absurd (some_none y h) where
  some_none : (why : Refusal) → Some why ≡ None → ⊥
  some_none why e = cc
passed false false false false e v w x y z h = refl

queue_keeps : (a b c : Bool) (x : QueuePart) (p : Part)
    → (if a then record p { inflate = x } else (if b then record p { deflate = x }
    else (if c then record p { statistics = x } else record p { report = x }))).ballooned
    ≡ p.ballooned
queue_keeps true b c x p = refl
queue_keeps false true c x p = refl
queue_keeps false false true x p = refl
queue_keeps false false false x p = refl

settled_size : (a b : Bool) (pages : List ℕ) (p : Part)
    → length (if a then record p { ballooned = flagged pages true p.ballooned }
    else (if b then record p { ballooned = flagged pages false p.ballooned }
    else p)).ballooned ≡ length p.ballooned
settled_size true b pages p = flagged-length pages true p.ballooned
settled_size false true pages p = flagged-length pages false p.ballooned
settled_size false false pages p = refl

used_size : (q index : ℕ) (r : Request) (m1 m2 : Pages) (p1 p2 : Part) (result : Result ℕ Refusal)
    → Uses q index r m1 m2 p1 p2 result → length p2.ballooned ≡ length p1.ballooned
used_size q index r m1 m2 p1 p2 result u = ap (λ (p : Part). length p.ballooned) u.part
    ∙ (settled_size (q == 0) (q == 1) r.pages (using q index p1)
    ∙ ap (λ (fs : List Bool). length fs) (queue_keeps (q == 0) (q == 1) (q == 2) _ p1))

used_some : (q index : ℕ) (m1 m2 : Pages) (p1 p2 : Part) (result : Result ℕ Refusal)
    (o : Option Request) → FinishesBy q index m1 m2 p1 p2 result → finish_refusal q index p1 ≡ None
    → taken_at q index p1 ≡ o → is_none o ≡ false → length p2.ballooned ≡ length p1.ballooned
used_some q index m1 m2 p1 p2 result None s e at h = absurd (true_false h) where
  true_false : true ≡ false → ⊥
  true_false e = cc
used_some q index m1 m2 p1 p2 result (Some r) s e at h =
    used_size q index r m1 m2 p1 p2 result (s.finished r e at)

finish_by : (q index : ℕ) (m1 m2 : Pages) (p1 p2 : Part) (result : Result ℕ Refusal)
    (o : Option Refusal) → FinishesBy q index m1 m2 p1 p2 result → finish_refusal q index p1 ≡ o
    → length p2.ballooned ≡ length p1.ballooned
finish_by q index m1 m2 p1 p2 result None s e = used_some q index m1 m2 p1 p2 result
    (taken_at q index p1) s e refl (passed (not (is_queue_of_requests q))
    (is_not_ready p1.status) (has_fault p1.status) (is_none (taken_at q index p1))
    (p1.paced && not (q == DEFLATE_QUEUE) && has_unvisited (taken_at q index p1)) NoQueue NotReady
    NeedsReset NotTaken NotWorked e)
finish_by q index m1 m2 p1 p2 result (Some why) s e =
    ap (λ (p : Part). length p.ballooned) (s.refused why e).1

pub finish_keeps : (q index : ℕ) (m1 m2 : Pages) (p1 p2 : Part) (result : Result ℕ Refusal)
    → FinishesBy q index m1 m2 p1 p2 result → length p2.ballooned ≡ length p1.ballooned
finish_keeps q index m1 m2 p1 p2 result s =
    finish_by q index m1 m2 p1 p2 result (finish_refusal q index p1) s refl

-- ---- so does a serve

take_size : (q : ℕ) (m1 m2 : Pages) (p1 p2 : Part) (result : Result (Option ℕ) Refusal)
    → TakeMeans q m1 p1 p2 result → length p2.ballooned ≡ length p1.ballooned
take_size q m1 m2 p1 p2 (Ok None) means = ap (λ (p : Part). length p.ballooned) means.1
take_size q m1 m2 p1 p2 (Ok (Some h)) means = ap (λ (p : Part). length p.ballooned) means.1.2
    ∙ ap (λ (fs : List Bool). length fs) (queue_keeps (q == 0) (q == 1) (q == 2) _
    (noting q m1 means.1.1.pieces p1))
take_size q m1 m2 p1 p2 (Err (Broken rule)) means = ap (λ (p : Part). length p.ballooned) means.1
take_size q m1 m2 p1 p2 (Err why) means = ap (λ (p : Part). length p.ballooned) means.1

serve_by : (q : ℕ) (m1 m2 : Pages) (p1 p2 : Part) (result : Result (Option ℕ) Refusal)
    → Did q m1 m2 p1 p2 result → length p2.ballooned ≡ length p1.ballooned
serve_by q m1 m2 p1 p2 result (Not_served why e answer part memory) =
    ap (λ (p : Part). length p.ballooned) part
serve_by q m1 m2 p1 p2 result (Only_took part e takes same memory) =
    ap (λ (p : Part). length p.ballooned) same ∙ take_size q m1 m1 p1 part result takes.means
serve_by q m1 m2 p1 p2 result (Took_and_used part h r e other answer takes at uses) =
    used_size q 0 r m1 m2 part p2 _ uses
    ∙ take_size q m1 m1 p1 part (Ok (Some h)) takes.means

pub serve_keeps : (q : ℕ) (m1 m2 : Pages) (p1 p2 : Part) (result : Result (Option ℕ) Refusal)
    → ServesBy q m1 m2 p1 p2 result → length p2.ballooned ≡ length p1.ballooned
serve_keeps q m1 m2 p1 p2 result did = serve_by q m1 m2 p1 p2 result (what_it_did did)

-- what is left of a list's facts while it is made anew
pub still_fits : {X : Type 0} (size room : X → ℕ) (E : X → Type 0) (o : Option X) (m n : ℕ) → n ≡ m
    → MatchOption o ⊤ (λ x. (m ≡ size x) × (size x ≤ room x) × E x)
    → MatchOption o ⊤ (λ x. (n ≡ size x) × (size x ≤ room x))
still_fits size room E None m n e h = h
still_fits size room E (Some x) m n e h = (e ∙ h.0, h.1)
