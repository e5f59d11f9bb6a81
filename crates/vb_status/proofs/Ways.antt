-- Which statuses follow which.
use Rattle.std.proofs.Common.{◌≡◌, ◌≢◌, ℕ, zero, suc, ◌+◌, ◌<◌, Bool, true, false, not, eqb, ◌&&◌}
use Rattle.std.proofs.Common.{◌||◌, List, [], ◌∷◌, None, cond, refl, sym, subst, ap, ◌∙◌, ◌⊎◌, inl}
use Rattle.std.proofs.{Common.{inr, below_more, arith}, lemmas.Bool.{false≢true, eqb-true, eq-eqb}}
use Rattle.vb_virtio.specs.FirstRefusal.{first_refusal}
use Rattle.vb_virtio.specs.Status.{contains, is_out_of_order, status_causes}
use Rattle.vb_status.specs.Agreement.{StatusRequest, Write, Negotiate, Agreement}
use Rattle.vb_status.specs.Agreement.{refusal_of_request, after_request, Leads, AreSteps, changes}
use Rattle.vb_status.{specs.Agreement.unplugged, proofs.Accepted.accepted_write}

-- the statuses on the way
data Stage : Type 0 where
  Reset Acknowledged Driven Agreed Ready : Stage

abbrev number : Stage → ℕ
number Reset = 0
number Acknowledged = 1
number Driven = 3
number Agreed = 11
number Ready = 15

abbrev next : Stage → Stage
next Reset = Acknowledged
next Acknowledged = Driven
next Driven = Agreed
next Agreed = Ready
next Ready = Ready

abbrev rest : Stage → List ℕ
rest Reset = 1 ∷ 3 ∷ 11 ∷ 15 ∷ []
rest Acknowledged = 3 ∷ 11 ∷ 15 ∷ []
rest Driven = 11 ∷ 15 ∷ []
rest Agreed = 15 ∷ []
rest Ready = []

abbrev holds_below : ℕ → (ℕ → Bool) → Bool
holds_below zero p = true
holds_below (suc n) p = p n && holds_below n p

both_true : (a b : Bool) → (a && b) ≡ true → (a ≡ true) × (b ≡ true)
both_true true b e = (refl, e)
both_true false b e = absurd (false≢true e)

below : (n : ℕ) (p : ℕ → Bool) → holds_below n p ≡ true → (k : ℕ) → k < n → p k ≡ true
below zero p e k h = absurd (omega arith)
below (suc n) p e k h = let both = both_true (p n) (holds_below n p) e in
    below_more (λ (m : ℕ). p m ≡ true) n (below n p both.1) both.0 k (omega arith)

-- the write clears nothing and is in order
abbrev may_follow : ℕ → ℕ → Bool
may_follow status write = contains write status && not (is_out_of_order status write)

-- whatever may follow is the same again, the next, or FAILED added
abbrev follows_rightly : Stage → ℕ → Bool
follows_rightly p w = not (may_follow (number p) w)
    || (eqb w (number p) || (eqb w (number (next p)) || eqb w (number p + 128)))

-- whatever may follow FAILED is the same again
abbrev fails_rightly : Stage → ℕ → Bool
fails_rightly p w = (eqb w 0 || not (may_follow (number p + 128) w)) || eqb w (number p + 128)

all_follow : (p : Stage) → holds_below 256 (follows_rightly p) ≡ true
all_follow Reset = refl
all_follow p = refl

all_fail : (p : Stage) → holds_below 256 (fails_rightly p) ≡ true
all_fail Reset = refl
all_fail p = refl

one_of : (a b c : Bool) → (a || (b || c)) ≡ true → (a ≡ true) ⊎ ((b ≡ true) ⊎ (c ≡ true))
one_of true b c e = inl refl
one_of false true c e = inr (inl refl)
one_of false false c e = inr (inr e)

following : (m a b c : Bool) → m ≡ true → (not m || (a || (b || c))) ≡ true
    → (a ≡ true) ⊎ ((b ≡ true) ⊎ (c ≡ true))
following true a b c m t = one_of a b c t
following false a b c m t = absurd (false≢true m)

failing : (z m s : Bool) → (z ≡ true → ⊥) → m ≡ true → ((z || not m) || s) ≡ true → s ≡ true
failing true m s z e t = absurd (z refl)
failing false true s z e t = t
failing false false s z e t = absurd (false≢true e)

follows : (p : Stage) (w : ℕ) → w < 256 → may_follow (number p) w ≡ true
    → (w ≡ number p) ⊎ ((w ≡ number (next p)) ⊎ (w ≡ number p + 128))
follows p w h e =
    elim (following (may_follow (number p) w) (eqb w (number p)) (eqb w (number (next p)))
    (eqb w (number p + 128)) e (below 256 (follows_rightly p) (all_follow p) w h)) [
      | inl same ↦ inl (eqb-true w (number p) same)
      | inr other ↦ search (arith, eqb-true)
    ]

fails : (p : Stage) (w : ℕ) → w < 256 → w ≢ 0 → may_follow (number p + 128) w ≡ true
    → w ≡ number p + 128
fails p w h ne e = eqb-true w (number p + 128)
    (failing (eqb w 0) (may_follow (number p + 128) w) (eqb w (number p + 128))
    (λ z. ne (eqb-true w 0 z)) e (below 256 (fails_rightly p) (all_fail p) w h))

-- what an accepted write that doesn't reset says
written : (status negotiated w : ℕ) (reset : Bool) → eqb w 0 ≡ reset → w ≢ 0
    → cond reset None (first_refusal (status_causes status negotiated w)) ≡ None
    → may_follow status w ≡ true
written s f w true z ne h = absurd (ne (eqb-true w 0 z))
written s f w false z ne h =
    let tests = accepted_write s f w h in may (contains w s) (is_out_of_order s w) tests.0 tests.1
  where
    may : (c o : Bool) → not c ≡ false → o ≡ false → (c && not o) ≡ true
    may true false a b = refl
    may true true a b = absurd (false≢true (sym b))
    may false o a b = absurd (false≢true (sym a))

-- where an accepted write that doesn't reset leads
led_to : (a : Agreement) (w : ℕ) (reset : Bool) → eqb w 0 ≡ reset → w ≢ 0
    → (cond reset (record { status = 0; features = 0 }) (record a { status = w })).status ≡ w
led_to a w true z ne = absurd (ne (eqb-true w 0 z))
led_to a w false z ne = refl

may_write : (a : Agreement) (w s : ℕ) → a.status ≡ s → w ≢ 0 → refusal_of_request a (Write w) ≡ None
    → may_follow s w ≡ true
may_write a w s at ne h =
    subst (λ (n : ℕ). may_follow n w ≡ true) at (written a.status a.features w (eqb w 0) refl ne h)

-- FAILED stays
never_ready : (p : Stage) (requests : List StatusRequest) (a last : Agreement)
    → a.status ≡ number p + 128 → Leads a requests last → AreSteps requests → last.status ≡ 15 → ⊥
never_ready p [] a last at h steps e = search arith
never_ready p (Write w ∷ requests) a last at h steps e =
    let same = fails p w steps.1 steps.0 (may_write a w (number p + 128) at steps.0 h.0) in
    never_ready p requests (after_request a (Write w)) last
    (led_to a w (eqb w 0) refl steps.0 ∙ same) h.1 steps.2 e
never_ready p (Negotiate wanted ∷ requests) a last at h steps e =
    never_ready p requests (record a { features = wanted }) last at h.1 steps e

at_the_end : (p : Stage) → number p ≡ 15 → [] ≡ rest p
at_the_end Ready e = refl
at_the_end p e = absurd (omega arith)

-- a write of the next status, and what the changes after it are
one_on : (p : Stage) (requests : List StatusRequest) → changes (number (next p)) requests
    ≡ rest (next p) → cond (eqb (number (next p)) (number p)) (changes (number p) requests)
    (number (next p) ∷ changes (number (next p)) requests) ≡ rest p
one_on Reset requests e = ap (λ (xs : List ℕ). 1 ∷ xs) e
one_on Acknowledged requests e = ap (λ (xs : List ℕ). 3 ∷ xs) e
one_on Driven requests e = ap (λ (xs : List ℕ). 11 ∷ xs) e
one_on Agreed requests e = ap (λ (xs : List ℕ). 15 ∷ xs) e
one_on Ready requests e = e

leads_on : (p : Stage) (requests : List StatusRequest) (a last : Agreement) → a.status ≡ number p
    → Leads a requests last → AreSteps requests → last.status ≡ 15
    → changes (number p) requests ≡ rest p
leads_on p [] a last at h steps e = at_the_end p (sym at ∙ ap (λ (x : Agreement). x.status) h ∙ e)
leads_on p (Write w ∷ requests) a last at h steps e =
    let arrived = led_to a w (eqb w 0) refl steps.0 in
    elim (follows p w steps.1 (may_write a w (number p) at steps.0 h.0)) [
      | inl same ↦ subst (λ (b : Bool). cond b (changes (number p) requests)
          (w ∷ changes w requests) ≡ rest p) (sym (eq-eqb w (number p) same))
          (leads_on p requests (after_request a (Write w)) last (arrived ∙ same) h.1 steps.2 e)
      | inr other ↦ elim other [
        | inl on ↦ subst (λ (v : ℕ). cond (eqb v (number p)) (changes (number p) requests)
            (v ∷ changes v requests) ≡ rest p) (sym on)
            (one_on p requests (leads_on (next p) requests (after_request a (Write w)) last
            (arrived ∙ on) h.1 steps.2 e))
        | inr gone ↦ absurd (never_ready p requests (after_request a (Write w)) last
            (arrived ∙ gone) h.1 steps.2 e)
      ]
    ]
leads_on p (Negotiate wanted ∷ requests) a last at h steps e =
    leads_on p requests (record a { features = wanted }) last at h.1 steps e

pub from_reset : (requests : List StatusRequest) (last : Agreement) → Leads unplugged requests last
    → AreSteps requests → last.status ≡ 15 → changes 0 requests ≡ 1 ∷ 3 ∷ 11 ∷ 15 ∷ []
from_reset requests last h steps e = leads_on Reset requests unplugged last refl h steps e
