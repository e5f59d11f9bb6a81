-- What a notice discards of runs, over all of a memory, is their pages.
use Rattle.std.proofs.Common.{◌≡◌, ◌∙◌, ap, sym, subst, refl, arith, ℕ, ◌+◌, ◌*◌, ◌/◌, ◌<◌, ◌≤◌}
use Rattle.std.proofs.Common.{Bool, true, false, List, [], ◌∷◌, ◌++◌, length, get_or}
use Rattle.std.specs.Prelude.{◌==◌, ◌-◌, cond, if◌then◌else◌}
use Rattle.std.specs.List.{range_with_len}
use Rattle.std.proofs.lemmas.Bool.Decides.{nat_tests}
use Rattle.std.proofs.lemmas.List.{ext_get_or}
use Rattle.vb_virtio.specs.Tests.{is_in, times}
use Rattle.vb_virtio.proofs.Tables.{count_by-append}
use Rattle.vb_request.specs.Request.{each_once}
use Rattle.vb_core.specs.declared.{runs.Run.Run, settings.TheConstants.MEMORY_LIMIT}
use Rattle.vb_core.specs.Runs.{pages_of_run, pages_of_runs}
use Rattle.vb_device.specs.Discards.{discarded, frames_behind, flagged}
use Rattle.vb_device.proofs.{Discards.{discarded_none}, Marks.{flagged-at, flagged-length}}
use Rattle.vb_monitor.specs.declared.{regions.Region.Region, cuts.Cut.Cut}
use Rattle.vb_monitor.specs.Regions.{cuts_from, cuts_of, cut_of, meets, first_both, end_both}
use Rattle.vb_served.specs.Store.{Store, pages_of_cut}
use Rattle.vb_served.specs.One.{all_of, Discards}
use Rattle.vb_served.proofs.LostFrames.{backing, all_lost, discarded_both}

abbrev region : ℕ → Region
region n = record { guest = 0; length = 4096 * n; in_file = 0 }

-- a run of some pages has one part, which is all of it
one_part : (n : ℕ) (run : Run) → 4096 * n ≤ MEMORY_LIMIT → 0 < run.count →
    run.first + run.count ≤ n → meets (region n) run ≡ true
one_part n run few some fits =
    let end : 4096 * n / 4096 ≡ n = omega arith in
    grind (arith, nat_tests)

first_page : (n : ℕ) (run : Run) → first_both (region n) run ≡ run.first
first_page n run = grind (arith, nat_tests)

end_page : (n : ℕ) (run : Run) → run.first + run.count ≤ n →
    end_both (region n) run ≡ run.first + run.count
end_page n run fits =
    let end : (0 + 4096 * n) / 4096 ≡ n = omega arith in
    grind (arith, nat_tests)

its_pages : (n : ℕ) (run : Run) → run.first + run.count ≤ n →
    pages_of_cut (cut_of 0 (region n) run) ≡ pages_of_run run
its_pages n run fits =
    let a : first_both (region n) run ≡ run.first = first_page n run in
    let b : end_both (region n) run ≡ run.first + run.count = end_page n run fits in
    let from : (4096 * first_both (region n) run - 0) / 4096 ≡ run.first = omega (arith, a) in
    let many : (4096 * (end_both (region n) run - first_both (region n) run)) / 4096 ≡ run.count =
    omega (arith, a, b) in
    ap (λ (x : ℕ). range_with_len x
    ((4096 * (end_both (region n) run - first_both (region n) run)) / 4096)) from
    ∙ ap (λ (x : ℕ). range_with_len run.first x) many

its_cuts : (n : ℕ) (run : Run) → 4096 * n ≤ MEMORY_LIMIT → 0 < run.count →
    run.first + run.count ≤ n →
    cuts_from 0 (all_of n) run ≡ cut_of 0 (region n) run ∷ []
its_cuts n run few some fits = ap (λ (b : Bool). if b then cut_of 0 (region n) run ∷ [] else [])
    (one_part n run few some fits)

-- the pages of each run are some, and pages of memory
pub data AreInside (n : ℕ) : List Run → Type 0 where
  No_more : AreInside n []
  One_more : (run : Run) (runs : List Run) → 0 < run.count → run.first + run.count ≤ n
      → AreInside n runs → AreInside n (run ∷ runs)

-- these pages lost their frames, which are loose, and nothing else is changed
pub record Loses (pages : List ℕ) (s t : Store) : Type 0 where
  pub mem : t.mem ≡ discarded pages s.mem
  pub frames : (k : ℕ) → times k t.loose + backing k t.mem ≡ times k s.loose + backing k s.mem
  pub ballooned : t.ballooned ≡ s.ballooned
  pub last : t.last ≡ s.last

cut_loses : (cut : Cut) (pages : List ℕ) (s t : Store) → pages_of_cut cut ≡ pages →
    (t.mem ≡ discarded (pages_of_cut cut) s.mem)
    × (t.loose ≡ s.loose ++ frames_behind s.mem (each_once (pages_of_cut cut)))
    × (t.ballooned ≡ s.ballooned) × (t.last ≡ s.last) → Loses pages s t
cut_loses cut pages s t e (mem, loose, ballooned, last) =
    let lost = frames_behind s.mem (each_once (pages_of_cut cut)) in
    record {
      mem = mem ∙ ap (λ (ps : List ℕ). discarded ps s.mem) e;
      frames = λ k. omega (
        arith,
        ap (times k) loose,
        count_by-append (λ m. m == k) s.loose lost,
        all_lost k s.mem (pages_of_cut cut),
        ap (backing k) mem,
      );
      ballooned = ballooned;
      last = last;
    }

both_lose : (xs ys : List ℕ) (s m t : Store) → Loses xs s m → Loses ys m t → Loses (xs ++ ys) s t
both_lose xs ys s m t a b = record {
  mem = b.mem ∙ (ap (discarded ys) a.mem ∙ sym (discarded_both xs ys s.mem));
  frames = λ k. b.frames k ∙ a.frames k;
  ballooned = b.ballooned ∙ a.ballooned;
  last = b.last ∙ a.last;
}

none_lost : (s : Store) → Loses [] s s
none_lost s = record {
  mem = discarded_none s.mem;
  frames = λ k. refl;
  ballooned = refl;
  last = refl;
}

pub discards_lose : (n : ℕ) (runs : List Run) (s t : Store) → 4096 * n ≤ MEMORY_LIMIT →
    AreInside n runs → Discards s (cuts_of (all_of n) runs) t → Loses (pages_of_runs runs) s t
discards_lose n [] s t few inside same = subst (λ (x : Store). Loses [] s x) (sym same) (none_lost s)
discards_lose n (run ∷ runs) s t few (One_more _ _ some fits inside) did =
    let (next, lost, rest) = subst (λ (cs : List Cut). Discards s (cs ++ cuts_of (all_of n) runs) t)
    (its_cuts n run few some fits) did in
    both_lose (pages_of_run run) (pages_of_runs runs) s next t
    (cut_loses (cut_of 0 (region n) run) (pages_of_run run) s next (its_pages n run fits) lost)
    (discards_lose n runs next t few inside rest)

-- ---- marks

pub flagged_alike : (xs ys : List ℕ) (m : Bool) (flags : List Bool) →
    ((p : ℕ) → is_in p xs ≡ is_in p ys) → flagged xs m flags ≡ flagged ys m flags
flagged_alike xs ys m flags same =
    ext_get_or false (flagged xs m flags) (flagged ys m flags)
    (flagged-length xs m flags ∙ sym (flagged-length ys m flags)) (λ k l.
    let here : k < length flags = omega (arith, l, flagged-length xs m flags) in
    flagged-at xs m flags k here
    ∙ (ap (λ (b : Bool). cond b m (get_or flags k false)) (same k)
    ∙ sym (flagged-at ys m flags k here)))
