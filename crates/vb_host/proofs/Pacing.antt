-- What is wanted by steps comes nearer to what was decided, and all at once where pages are needed.
use Rattle.std.proofs.Common.{◌≡◌, ◌⊎◌, inl, inr, ℕ, ◌+◌, ◌-◌, ◌*◌, ◌<◌, Bool, true, false, not, ◌==◌, ◌&&◌, ◌||◌, nat_lt, nat_le, max, if◌then◌else◌, refl, sym, subst, arith}
use Rattle.std.proofs.lemmas.Bool.Decides.{nat_tests}
use Rattle.vb_host.specs.Paces.{NoneStepsInNeed, StepsReach, growth, in_the_end, rises, stepped, told}
use Rattle.vb_host.proofs.Sound.{eq_true, lt_true}

-- ---- where somebody needs pages

no_steps : (r : Bool) (n h f : ℕ) → (0 < n) ⊎ (f < h) → (r && (n == 0) && nat_le h f) ≡ false
no_steps false n h f e = refl
no_steps true n h f (inl w) = grind (arith, nat_tests)
no_steps true n h f (inr w) = grind (arith, nat_tests)

pub none_steps_in_need : NoneStepsInNeed
none_steps_in_need a s n = subst (λ (b : Bool). (if not b then in_the_end a s else if (a.passed == 0) || (s.wanted == in_the_end a s) then s.wanted else stepped a s) ≡ in_the_end a s)
    (sym (no_steps (rises a s) a.needed a.held_kib (4 * a.frames) n)) refl

-- ---- by steps

grown : (b : Bool) (x : ℕ) → 0 < (if b then max x 1 else 1)
grown true x = omega arith
grown false x = omega arith

none_passed : (n : ℕ) → 0 < n → (n == 0) ≡ false
none_passed n w = grind (arith, nat_tests)

reach : (p w l : Bool) (had all t g target : ℕ) → p ≡ false → (w ≡ true → had ≡ all) → 0 < g → nat_lt g (target - t) ≡ l
    → ((if p || w then had else if l then t + g else all) ≡ all)
    ⊎ ((t < (if p || w then had else if l then t + g else all)) × ((if p || w then had else if l then t + g else all) < target))
reach true w l had all t g target e h k f = absurd (cc)
reach false true l had all t g target e h k f = inl (h refl)
reach false false true had all t g target e h k f = let less = lt_true g (target - t) f in inr (omega (arith, k), omega (arith, less))
reach false false false had all t g target e h k f = inl refl

pub steps_reach : StepsReach
steps_reach a s e n = subst (λ (b : Bool). ((if not b then in_the_end a s else if (a.passed == 0) || (s.wanted == in_the_end a s) then s.wanted else stepped a s) ≡ in_the_end a s)
    ⊎ ((told s < (if not b then in_the_end a s else if (a.passed == 0) || (s.wanted == in_the_end a s) then s.wanted else stepped a s))
    × ((if not b then in_the_end a s else if (a.passed == 0) || (s.wanted == in_the_end a s) then s.wanted else stepped a s) < a.target)))
    (sym e)
    (reach (a.passed == 0) (s.wanted == in_the_end a s) (nat_lt (growth a s) (a.target - told s)) s.wanted (in_the_end a s) (told s) (growth a s) a.target
    (none_passed a.passed n) (eq_true s.wanted (in_the_end a s)) (grown (nat_lt 0 (1000 * a.seconds)) _) refl)
