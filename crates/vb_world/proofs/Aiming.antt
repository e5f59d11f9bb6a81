-- All guests of a host in turn: what they need, and their new targets.
use Rattle.std.proofs.Common.{◌≡◌, ℕ, zero, suc, ◌+◌, ◌<◌, ◌≤◌, List, [], ◌∷◌, ◌++◌, length, refl}
use Rattle.std.{specs.Option.option_to_list, specs.Prelude.slice_index}
use Rattle.std.proofs.Common.{sym, ap, ◌∙◌, arith, Option, Some, None, is_some, count_by}
use Rattle.std.proofs.lemmas.List.{append-nil, append_assoc}
use Rattle.vb_virtio.specs.Targets.{Need}
use Rattle.vb_virtio.proofs.Tables.{count_by-cons}
use Rattle.vb_model.specs.Balance.{need}
use Rattle.vb_model.specs.Guest.{Guest}
use Rattle.vb_model.specs.{World.{World, guest_at, with_guest}, HostEvents.{with_targets, needs}}

plus_one : (n : ℕ) → n + 1 ≡ suc n
plus_one n = omega arith

abbrev pub nobody : Option Guest
nobody = None

-- ---- what they need

-- what there is at the first numbers, in rising order
abbrev pub first_of : {A : Type 0} → ℕ → (ℕ → Option A) → List A
first_of zero f = []
first_of (suc n) f = option_to_list (f 0) ++ first_of n (λ k. f (suc k))

first_step : {A : Type 0} (n : ℕ) (f : ℕ → Option A)
    → first_of (suc n) f ≡ first_of n f ++ option_to_list (f n)
first_step zero f = append-nil (option_to_list (f 0))
first_step (suc n) f =
    ap (λ (l : List _). option_to_list (f 0) ++ l) (first_step n (λ k. f (suc k))) ∙ sym
    (append_assoc (option_to_list (f 0)) (first_of n (λ k. f (suc k))) (option_to_list (f (suc n))))

pub first_more : {A : Type 0} (n : ℕ) (f : ℕ → Option A)
    → first_of (n + 1) f ≡ first_of n f ++ option_to_list (f n)
first_more n f = ap (λ (k : ℕ). first_of k f) (plus_one n) ∙ first_step n f

none_first : {A : Type 0} (n : ℕ) → first_of {A = A} n (λ k. None) ≡ []
none_first zero = refl
none_first (suc n) = none_first n

abbrev pub need_of : ℕ → Option Guest → Option Need
need_of floor None = None
need_of floor (Some g) = Some (need floor g)

abbrev pub need_at : ℕ → List (Option Guest) → ℕ → Option Need
need_at floor gs k = need_of floor (guest_at gs k)

-- n of them
pub first_few : (floor : ℕ) (gs : List (Option Guest)) (n : ℕ)
    → length (first_of n (need_at floor gs)) ≤ count_by is_some gs
first_few floor gs zero = omega arith
first_few floor [] (suc n) = omega (arith, ap {B = ℕ} length (none_first {A = Need} n))
first_few floor (None ∷ gs) (suc n) =
    omega (arith, first_few floor gs n, count_by-cons is_some nobody gs)
first_few floor (Some g ∷ gs) (suc n) =
    omega (arith, first_few floor gs n, count_by-cons is_some (Some g) gs)

-- where there is no guest from a number on, those are all
pub all_needs : (floor : ℕ) (w : World) (gs : List (Option Guest)) (n : ℕ) → ((k : ℕ) → n ≤ k
    → guest_at gs k ≡ None) → needs floor (record w { guests = gs }) ≡ first_of n (need_at floor gs)
all_needs floor w [] n none = sym (none_first n)
all_needs floor w (None ∷ gs) zero none =
    all_needs floor w gs zero (λ k l. none (suc k) (omega arith))
all_needs floor w (Some g ∷ gs) zero none = absurd (let e = none 0 (omega arith) in cc)
all_needs floor w (None ∷ gs) (suc n) none =
    all_needs floor w gs n (λ k l. none (suc k) (omega (arith, l)))
all_needs floor w (Some g ∷ gs) (suc n) none = ap (λ (l : List Need). need floor g ∷ l)
    (all_needs floor w gs n (λ k l. none (suc k) (omega (arith, l))))

-- ---- their targets

-- how many guests have a lower number
abbrev pub rank : ℕ → List (Option Guest) → ℕ
rank zero gs = 0
rank (suc n) [] = 0
rank (suc n) (None ∷ gs) = rank n gs
rank (suc n) (Some g ∷ gs) = suc (rank n gs)

rank_step : (n : ℕ) (gs : List (Option Guest)) (g : Guest) → guest_at gs n ≡ Some g
    → rank (suc n) gs ≡ suc (rank n gs)
rank_step n [] g e = absurd cc
rank_step zero (None ∷ gs) g e = absurd cc
rank_step zero (Some h ∷ gs) g e = refl
rank_step (suc n) (None ∷ gs) g e = rank_step n gs g e
rank_step (suc n) (Some h ∷ gs) g e = ap suc (rank_step n gs g e)

rank_still : (n : ℕ) (gs : List (Option Guest)) → guest_at gs n ≡ None → rank (suc n) gs ≡ rank n gs
rank_still zero [] e = refl
rank_still (suc n) [] e = refl
rank_still zero (None ∷ gs) e = refl
rank_still zero (Some h ∷ gs) e = absurd cc
rank_still (suc n) (None ∷ gs) e = rank_still n gs e
rank_still (suc n) (Some h ∷ gs) e = ap suc (rank_still n gs e)

pub rank_more : (n : ℕ) (gs : List (Option Guest)) (g : Guest) → guest_at gs n ≡ Some g
    → rank (n + 1) gs ≡ rank n gs + 1
rank_more n gs g e =
    ap (λ (k : ℕ). rank k gs) (plus_one n) ∙ (rank_step n gs g e ∙ sym (plus_one (rank n gs)))

pub rank_same : (n : ℕ) (gs : List (Option Guest)) → guest_at gs n ≡ None
    → rank (n + 1) gs ≡ rank n gs
rank_same n gs e = ap (λ (k : ℕ). rank k gs) (plus_one n) ∙ rank_still n gs e

-- a guest's rank is below their count
pub rank_below : (n : ℕ) (gs : List (Option Guest)) (g : Guest) → guest_at gs n ≡ Some g
    → rank n gs < count_by is_some gs
rank_below n [] g e = absurd cc
rank_below zero (None ∷ gs) g e = absurd cc
rank_below zero (Some h ∷ gs) g e = omega (arith, count_by-cons is_some (Some h) gs)
rank_below (suc n) (None ∷ gs) g e =
    omega (arith, rank_below n gs g e, count_by-cons is_some nobody gs)
rank_below (suc n) (Some h ∷ gs) g e =
    omega (arith, rank_below n gs g e, count_by-cons is_some (Some h) gs)

-- the guests below a number have their targets, and the others are as they were
abbrev pub aimed : ℕ → List ℕ → List (Option Guest) → List (Option Guest)
aimed zero ts gs = gs
aimed (suc n) ts [] = []
aimed (suc n) ts (None ∷ gs) = None ∷ aimed n ts gs
aimed (suc n) [] (Some g ∷ gs) = Some g ∷ aimed n [] gs
aimed (suc n) (t ∷ ts) (Some g ∷ gs) = Some (record g { target = t }) ∷ aimed n ts gs

pub aimed_at : (n : ℕ) (ts : List ℕ) (gs : List (Option Guest))
    → guest_at (aimed n ts gs) n ≡ guest_at gs n
aimed_at zero ts gs = refl
aimed_at (suc n) ts [] = refl
aimed_at (suc n) ts (None ∷ gs) = aimed_at n ts gs
aimed_at (suc n) [] (Some g ∷ gs) = aimed_at n [] gs
aimed_at (suc n) (t ∷ ts) (Some g ∷ gs) = aimed_at n ts gs

aimed_step : (n : ℕ) (ts : List ℕ) (gs : List (Option Guest)) (g : Guest)
    → guest_at gs n ≡ Some g → rank n gs < length ts → aimed (suc n) ts gs
    ≡ with_guest n (Some (record g { target = slice_index ts (rank n gs) })) (aimed n ts gs)
aimed_step n ts [] g e l = absurd cc
aimed_step zero ts (None ∷ gs) g e l = absurd cc
aimed_step zero [] (Some h ∷ gs) g e l = absurd (omega (arith, l))
aimed_step zero (t ∷ ts) (Some h ∷ gs) g e l =
    let P : Option Guest → Option Guest = at_target t in ap (λ (o : Option Guest). P o ∷ gs) e
  where
    at_target : ℕ → Option Guest → Option Guest
    at_target t None = None
    at_target t (Some h) = Some (record h { target = t })
aimed_step (suc n) ts (None ∷ gs) g e l =
    ap (λ (x : List (Option Guest)). None ∷ x) (aimed_step n ts gs g e l)
aimed_step (suc n) [] (Some h ∷ gs) g e l = absurd (omega (arith, l))
aimed_step (suc n) (t ∷ ts) (Some h ∷ gs) g e l = ap (λ (x : List (Option Guest)). Some
    (record h { target = t }) ∷ x) (aimed_step n ts gs g e (omega (arith, l)))

aimed_still : (n : ℕ) (ts : List ℕ) (gs : List (Option Guest)) → guest_at gs n ≡ None
    → aimed (suc n) ts gs ≡ aimed n ts gs
aimed_still zero ts [] e = refl
aimed_still zero ts (None ∷ gs) e = refl
aimed_still zero ts (Some h ∷ gs) e = absurd cc
aimed_still (suc n) ts [] e = refl
aimed_still (suc n) ts (None ∷ gs) e =
    ap (λ (x : List (Option Guest)). None ∷ x) (aimed_still n ts gs e)
aimed_still (suc n) [] (Some h ∷ gs) e =
    ap (λ (x : List (Option Guest)). Some h ∷ x) (aimed_still n [] gs e)
aimed_still (suc n) (t ∷ ts) (Some h ∷ gs) e =
    ap (λ (x : List (Option Guest)). Some (record h { target = t }) ∷ x) (aimed_still n ts gs e)

pub aimed_more : (n : ℕ) (ts : List ℕ) (gs : List (Option Guest)) (g : Guest)
    → guest_at gs n ≡ Some g → rank n gs < length ts → aimed (n + 1) ts gs
    ≡ with_guest n (Some (record g { target = slice_index ts (rank n gs) })) (aimed n ts gs)
aimed_more n ts gs g e l = ap (λ (k : ℕ). aimed k ts gs) (plus_one n) ∙ aimed_step n ts gs g e l

pub aimed_same : (n : ℕ) (ts : List ℕ) (gs : List (Option Guest)) → guest_at gs n ≡ None
    → aimed (n + 1) ts gs ≡ aimed n ts gs
aimed_same n ts gs e = ap (λ (k : ℕ). aimed k ts gs) (plus_one n) ∙ aimed_still n ts gs e

-- where there is no guest from a number on, all have theirs
pub all_aimed : (n : ℕ) (ts : List ℕ) (gs : List (Option Guest))
    → ((k : ℕ) → n ≤ k → guest_at gs k ≡ None) → aimed n ts gs ≡ with_targets ts gs
all_aimed zero ts [] none = refl
all_aimed (suc n) ts [] none = refl
all_aimed zero ts (None ∷ gs) none = ap (λ (x : List (Option Guest)). None ∷ x)
    (all_aimed zero ts gs (λ k l. none (suc k) (omega arith)))
all_aimed zero ts (Some g ∷ gs) none = absurd (let e = none 0 (omega arith) in cc)
all_aimed (suc n) ts (None ∷ gs) none = ap (λ (x : List (Option Guest)). None ∷ x)
    (all_aimed n ts gs (λ k l. none (suc k) (omega (arith, l))))
all_aimed (suc n) [] (Some g ∷ gs) none = ap (λ (x : List (Option Guest)). Some g ∷ x)
    (all_aimed n [] gs (λ k l. none (suc k) (omega (arith, l))))
all_aimed (suc n) (t ∷ ts) (Some g ∷ gs) none = ap (λ (x : List (Option Guest)). Some
    (record g { target = t }) ∷ x) (all_aimed n ts gs (λ k l. none (suc k) (omega (arith, l))))
