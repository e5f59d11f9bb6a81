-- Flags of the pages of runs.
use Rattle.std.proofs.Common.{◌≡◌, ◌∙◌, ap, sym, refl, arith, ℕ, ◌+◌, ◌<◌, Bool, true, false, List}
use Rattle.std.proofs.Common.{[], ◌∷◌, ◌++◌, length, get_or, take}
use Rattle.std.specs.Prelude.{◌||◌, ◌==◌, cond}
use Rattle.std.proofs.lemmas.List.{ext_get_or, take_more, Folds.list_any-append}
use Rattle.std.proofs.lemmas.Grind.{flat_map-append}
use Rattle.std.proofs.lemmas.List.{append-nil}
use Rattle.vb_virtio.specs.Tests.{is_in}
use Rattle.vb_core.specs.declared.runs.Run.{Run}
use Rattle.vb_core.specs.Runs.{pages_of_run, pages_of_runs}
use Rattle.vb_device.specs.Discards.{flagged}
use Rattle.vb_device.proofs.Marks.{flagged-length, flagged-at}

cond_both : (a b m x : Bool) → cond (a || b) m x ≡ cond b m (cond a m x)
cond_both true true m x = refl
cond_both true false m x = refl
cond_both false b m x = refl

-- these pages, and then those
pub flagged_both : (xs ys : List ℕ) (m : Bool) (flags : List Bool) →
    flagged (xs ++ ys) m flags ≡ flagged ys m (flagged xs m flags)
flagged_both xs ys m flags =
    let first : length (flagged (xs ++ ys) m flags) ≡ length flags = flagged-length
    (xs ++ ys) m flags in
    let inner : length (flagged xs m flags) ≡ length flags = flagged-length xs m flags in
    let second : length (flagged ys m (flagged xs m flags)) ≡ length (flagged xs m flags) =
    flagged-length ys m (flagged xs m flags) in
    ext_get_or false (flagged (xs ++ ys) m flags) (flagged ys m (flagged xs m flags))
    (first ∙ sym (second ∙ inner)) (λ k l.
    let here : k < length flags = omega (arith, l, first) in
    flagged-at (xs ++ ys) m flags k here
    ∙ (ap (λ (b : Bool). cond b m (get_or flags k false)) (list_any-append (λ n. n == k) xs ys)
    ∙ (cond_both (is_in k xs) (is_in k ys) m (get_or flags k false)
    ∙ sym (flagged-at ys m (flagged xs m flags) k (omega (arith, here, inner))
    ∙ ap (λ (x : Bool). cond (is_in k ys) m x) (flagged-at xs m flags k here)))))

-- one run more
pub runs_more : (runs : List Run) (i : ℕ) (d run : Run) (m : Bool) (first flags new : List Bool) →
    i < length runs → get_or runs i d ≡ run → flags ≡ flagged (pages_of_runs
    (take i runs)) m first →
    new ≡ flagged (pages_of_run run) m flags →
    new ≡ flagged (pages_of_runs (take (i + 1) runs)) m first
runs_more runs i d run m first flags new lt at e f =
    let all : pages_of_runs (take (i + 1) runs) ≡ pages_of_runs (take i runs) ++ pages_of_run run =
    ap pages_of_runs (take_more runs i d lt ∙ ap (λ (r : Run). take i runs ++ r ∷ []) at)
    ∙ (flat_map-append pages_of_run (take i runs) (run ∷ [])
    ∙ ap (λ (l : List ℕ). pages_of_runs (take i runs) ++ l) (append-nil (pages_of_run run))) in
    f ∙ (ap (λ (fs : List Bool). flagged (pages_of_run run) m fs) e
    ∙ (sym (flagged_both (pages_of_runs (take i runs)) (pages_of_run run) m first)
    ∙ sym (ap (λ (ps : List ℕ). flagged ps m first) all)))
