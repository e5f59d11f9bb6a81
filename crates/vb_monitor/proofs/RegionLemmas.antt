-- Places and parts of runs, one region after the other.
use Rattle.std.proofs.Common.{◌≡◌, ◌∙◌, ap, sym, refl, arith, ℕ, ◌+◌, ◌-◌, ◌<◌, ◌≤◌, Bool}
use Rattle.std.proofs.Common.{true, false, List, [], ◌∷◌, ◌++◌, length, drop, get_or, Some}
use Rattle.std.{proofs.Common.None, specs.Prelude.if◌then◌else◌}
use Rattle.std.proofs.lemmas.{List.{drop_more, drop_all}, Bool.Decides.nat_tests}
use Rattle.vb_core.{specs.declared.settings.TheConstants.MEMORY_LIMIT, specs.declared.runs.Run.Run}
use Rattle.vb_monitor.specs.declared.regions.Region.{Region}
use Rattle.vb_monitor.specs.{declared.cuts.Cut.Cut, Machine.{cuts_on, cuts_after}}
use Rattle.vb_monitor.specs.Regions.{holds, spot_from, meets, cut_of, cuts_from, cuts_of}

-- ---- places

pub spot_here : (rs : List Region) (n a len : ℕ) (d : Region) → n < length rs →
    holds (get_or rs n d) a len ≡ true →
    spot_from n (drop n rs) a len ≡ Some (record { region = n; offset = a - (get_or rs n d).guest })
spot_here rs n a len d lt h = ap (λ (l : List Region). spot_from n l a len) (drop_more rs n d lt)
    ∙ ap (λ (b : Bool). if b then Some (record { region = n; offset = a - (get_or rs n d).guest })
    else spot_from (n + 1) (drop (n + 1) rs) a len) h

pub spot_on : (rs : List Region) (n a len : ℕ) (d : Region) → n < length rs →
    holds (get_or rs n d) a len ≡ false →
    spot_from n (drop n rs) a len ≡ spot_from (n + 1) (drop (n + 1) rs) a len
spot_on rs n a len d lt h = ap (λ (l : List Region). spot_from n l a len) (drop_more rs n d lt)
    ∙ ap (λ (b : Bool). if b then Some (record { region = n; offset = a - (get_or rs n d).guest })
    else spot_from (n + 1) (drop (n + 1) rs) a len) h

pub spot_end : (rs : List Region) (n a len : ℕ) → length rs ≤ n →
    spot_from n (drop n rs) a len ≡ None
spot_end rs n a len le = ap (λ (l : List Region). spot_from n l a len) (drop_all n rs le)

-- no region has an address past the limit of memory
is_far : (r : Region) (a len : ℕ) → MEMORY_LIMIT < a → holds r a len ≡ false
is_far r a len h = grind (arith, nat_tests)

pub spot_far : (rs : List Region) (n a len : ℕ) → MEMORY_LIMIT < a → spot_from n rs a len ≡ None
spot_far [] n a len h = refl
spot_far (r ∷ rs) n a len h =
    ap (λ (b : Bool). if b then Some (record { region = n; offset = a - r.guest })
    else spot_from (n + 1) rs a len) (is_far r a len h) ∙ spot_far rs (n + 1) a len h

-- ---- parts of a run

pub cut_here : (rs : List Region) (n : ℕ) (run : Run) (d : Region) → n < length rs
    → meets (get_or rs n d) run ≡ true → cuts_from n (drop n rs) run ≡ cut_of n (get_or rs n d) run
    ∷ cuts_from (n + 1) (drop (n + 1) rs) run
cut_here rs n run d lt h = ap (λ (l : List Region). cuts_from n l run) (drop_more rs n d lt) ∙ ap
    (λ (b : Bool). if b then cut_of n (get_or rs n d) run ∷ cuts_from (n + 1) (drop (n + 1) rs) run
    else cuts_from (n + 1) (drop (n + 1) rs) run) h

pub cut_on : (rs : List Region) (n : ℕ) (run : Run) (d : Region) → n < length rs →
    meets (get_or rs n d) run ≡ false →
    cuts_from n (drop n rs) run ≡ cuts_from (n + 1) (drop (n + 1) rs) run
cut_on rs n run d lt h = ap (λ (l : List Region). cuts_from n l run) (drop_more rs n d lt) ∙ ap
    (λ (b : Bool). if b then cut_of n (get_or rs n d) run ∷ cuts_from (n + 1) (drop (n + 1) rs) run
    else cuts_from (n + 1) (drop (n + 1) rs) run) h

pub cut_end : (rs : List Region) (n : ℕ) (run : Run) → length rs ≤ n →
    cuts_from n (drop n rs) run ≡ []
cut_end rs n run le = ap (λ (l : List Region). cuts_from n l run) (drop_all n rs le)

-- ---- parts of runs

pub run_cut : (rs : List Region) (runs : List Run) (n k : ℕ) (cut : Cut) (d : Run) → n < length runs
    → cuts_from 0 (drop 0 rs) (get_or runs n d) ≡ cut ∷ cuts_from k (drop k rs) (get_or runs n d)
    → cuts_of rs (drop n runs) ≡ cut ∷ cuts_after k n rs runs
run_cut rs runs n k cut d lt h = ap (λ (l : List Run). cuts_of rs l) (drop_more runs n d lt)
    ∙ (ap (λ (l : List Cut). l ++ cuts_of rs (drop (n + 1) runs)) h
    ∙ ap (λ (l : List Run). cut ∷ (cuts_on rs k l ++ cuts_of rs (drop (n + 1) runs)))
    (sym (drop_more runs n d lt)))

pub run_passed : (rs : List Region) (runs : List Run) (n : ℕ) (d : Run) → n < length runs →
    cuts_from 0 (drop 0 rs) (get_or runs n d) ≡ [] →
    cuts_of rs (drop n runs) ≡ cuts_of rs (drop (n + 1) runs)
run_passed rs runs n d lt h = ap (λ (l : List Run). cuts_of rs l) (drop_more runs n d lt)
    ∙ ap (λ (l : List Cut). l ++ cuts_of rs (drop (n + 1) runs)) h

pub run_end : (rs : List Region) (runs : List Run) (n : ℕ) → length runs ≤ n →
    cuts_of rs (drop n runs) ≡ []
run_end rs runs n le = ap (λ (l : List Run). cuts_of rs l) (drop_all n runs le)

-- ---- for the functions that look for them

pub ruleset spot_steps = (spot_here, spot_on, spot_end)

pub ruleset cut_steps = (cut_here, cut_on, cut_end)

pub ruleset run_steps = (run_cut, run_passed, run_end)
