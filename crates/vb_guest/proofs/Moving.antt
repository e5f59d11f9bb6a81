-- Frames go out of a guest's supply and come back to it.
use Rattle.std.specs.Prelude.{◌≡◌, ℕ, ◌+◌, ◌==◌, Bool, true, false, if◌then◌else◌, List, [], ◌∷◌}
use Rattle.{std.specs.Prelude.{slice_set, Some, refl}, vb_ram.specs.{Part.Part, Pages.Page}}
use Rattle.std.proofs.Common.{sym, ◌∙◌, ap, arith, inl, inr}
use Rattle.std.proofs.lemmas.{Bool.{cases_Bool, eq-eqb}, Grind.common_steps}
use Rattle.vb_virtio.specs.Tests.{one_if, times}
use Rattle.vb_virtio.proofs.Tables.{count_by-cons}
use Rattle.{vb_frames.specs.Out.is_out, vb_device.proofs.LooseFrames.has_less}
use Rattle.vb_device.specs.{Calls.{GoBack, HandsBack}, Own.{has, without, SameSet}}
use Rattle.vb_guest.specs.Supply.{Supply, supply_of, is_used, Moves, nothing, AreLoose}

-- ---- what is used

pub used_own : (s : Supply) (n : ℕ) → s.keeps ≡ true → is_used s n ≡ has s.own n
used_own s n e = ap (λ (b : Bool). if b then has s.own n else is_out s.out n) e

pub used_out : (s : Supply) (n : ℕ) → s.keeps ≡ false → is_used s n ≡ is_out s.out n
used_out s n e = ap (λ (b : Bool). if b then has s.own n else is_out s.out n) e

pub by_keeps : {P : Type 0} (s : Supply) → (s.keeps ≡ true → P) → (s.keeps ≡ false → P) → P
by_keeps s own out = elim (cases_Bool s.keeps) [ inl e ↦ own e | inr e ↦ out e ]

pub times_first : (k n : ℕ) (rest : List ℕ) → times k (n ∷ rest) ≡ one_if (n == k) + times k rest
times_first k n rest = count_by-cons (λ m. m == k) n rest

pub times_one : (k n : ℕ) → times k (n ∷ []) ≡ one_if (n == k)
times_one k n = omega (arith, times_first k n [])

-- ---- moves one after the other

pub moves_then : {s1 s2 s3 : Supply} {a b c d : ℕ → ℕ}
    → Moves s1 s2 a b → Moves s2 s3 c d → Moves s1 s3 (λ n. a n + c n) (λ n. b n + d n)
moves_then first second = grind arith

-- as much more gained as lost
pub moves_as : {s1 s2 : Supply} {a b c d : ℕ → ℕ}
    → Moves s1 s2 a b → ((n : ℕ) → c n + b n ≡ a n + d n) → Moves s1 s2 c d
moves_as moves same = grind arith

-- ---- one of the device's own

pub own_back : (p1 : Part) {p2 : Part} {out1 out2 : List Bool} (n : ℕ) → p1.keeps ≡ true
    → has p1.own n ≡ true → SameSet p2.own (without p1.own n) → p2 ≡ record p1 { own = p2.own }
    → out2 ≡ out1 → Moves (supply_of p1 out1) (supply_of p2 out2) nothing (λ k. times k (n ∷ []))
own_back p1 n keeps is now same kept = grind (arith, has_less)

-- a frame that the device took back was one of its own
pub kept_back : (p1 : Part) {p2 : Part} (out : List Bool) (n : ℕ) → (p1.keeps ≡ false → p1.own ≡ [])
    → has p1.own n ≡ true → SameSet p2.own (without p1.own n) → p2 ≡ record p1 { own = p2.own }
    → Moves (supply_of p1 out) (supply_of p2 out) nothing (λ k. times k (n ∷ []))
kept_back p1 out n none is now same = elim (cases_Bool p1.keeps) [
  | inl keeps ↦ own_back p1 n keeps is now same refl
  | inr not_kept ↦
      absurd
      (let wrong : false ≡ true = ap (λ (own : List ℕ). has own n) (sym (none not_kept)) ∙ is in
      cc)
]

-- a frame of a device that keeps frames is one of its own
pub not_another : {P : Type 0} (p : Part) (out : List Bool) (n : ℕ) → p.keeps ≡ true
    → is_used (supply_of p out) n ≡ true → has p.own n ≡ false → P
not_another p out n keeps used other =
    absurd (let own : has p.own n ≡ true = sym (used_own (supply_of p out) n keeps) ∙ used in cc)

-- ---- loose frames

no_members : (own : List ℕ) → ((n : ℕ) → has own n ≡ true → ⊥) → own ≡ []
no_members [] never = refl
no_members (n ∷ own) never = absurd (never n (grind (arith, eq-eqb n n refl)))

-- a device that has no frames of its own has none still
none_owned : (p1 p2 : Part) (given : List ℕ) → GoBack p1 p2 given → p1.own ≡ [] → p2.own ≡ []
none_owned p1 p2 given gone none = no_members p2.own (λ n is.
    (let wrong : false ≡ true = ap (λ (own : List ℕ). has own n) (sym none) ∙ gone.own n is in cc))

-- the device's own go back to it
pub own_gone : (p1 p2 : Part) (out : List Bool) → (p1.keeps ≡ false → p1.own ≡ []) → GoBack p1 p2 []
    → Moves (supply_of p1 out) (supply_of p2 out) (λ n. times n p2.loose) (λ n. times n p1.loose)
own_gone p1 p2 out none gone = grind (arith, none_owned p1 p2 [] gone)

-- another's is of a device that keeps none, and goes to the keeper
other_gone : (p1 p2 : Part) (out : List Bool) (frame : Page) → (p1.keeps ≡ false → p1.own ≡ [])
    → AreLoose p1.loose (supply_of p1 out) → HandsBack p1 p2 (Some frame)
    → (p1.keeps ≡ false) × Moves (supply_of p1 out)
    (supply_of p2 (slice_set out frame.number false))
    (λ k. times k p2.loose) (λ k. times k p1.loose)
other_gone p1 p2 out frame none loose back =
    let n = frame.number in
    let kept : p1.keeps ≡ false = by_keeps (supply_of p1 out) (λ keeps. absurd (omega (
      arith,
      loose n,
      back.0.balance n,
      ap one_if back.1,
      ap one_if (used_own (supply_of p1 out) n keeps),
      times_one n n,
      ap one_if (eq-eqb n n refl),
    ))) (λ keeps. keeps) in
    (kept, grind (arith, common_steps, none_owned p1 p2 (n ∷ []) back.0 (none kept), times_one))

pub goes_back : (p0 p1 p2 : Part) (out0 out1 out2 : List Bool) (frame : Page)
    → (p0.keeps ≡ false → p0.own ≡ [])
    → Moves (supply_of p0 out0) (supply_of p1 out1) (λ k. times k p1.loose) (λ k. times k p0.loose)
    → AreLoose p1.loose (supply_of p1 out1) → HandsBack p1 p2 (Some frame)
    → out2 ≡ slice_set out1 frame.number false
    → (p0.keeps ≡ false) × Moves (supply_of p0 out0) (supply_of p2 out2) (λ k. times k p2.loose)
    (λ k. times k p0.loose) × AreLoose p2.loose (supply_of p2 out2)
goes_back p0 p1 p2 out0 out1 out2 frame none moves loose back after =
    let gone = other_gone p1 p2 out1 frame (λ e. grind arith) loose back in
    (grind arith, grind arith, grind arith)
