-- From a plan and its slots to guests that are started.
use Rattle.std.proofs.Common.{◌≡◌, refl, subst, ℕ, zero, suc, ◌+◌, Bool, true, List, [], ◌∷◌, ◌++◌}
use Rattle.std.proofs.{Common.{length, Some, slice_get, arith, drop, map}, lemmas.Bool.and_parts}
use Rattle.{std.specs.declared.{alloc.Global.Global, vec.Vec.Vec}, vb_run.specs.Rounds.Rounded}
use Rattle.vb_virtio.specs.Limits.{is_config}
use Rattle.vb_model.specs.declared.calls.Call.{Call}
use Rattle.vb_run.specs.{declared.plan.GuestPlan.GuestPlan, Past.{Progress, AreBegun, IsScript}}
use Rattle.vb_run.specs.{Plans.{are_scripts, is_script, is_guest_plan}, Reports.IsGuestReport}
use Rattle.vb_run.{specs.declared.report.GuestReport.GuestReport, proofs.Lists.each_push}

-- the script at a place is that of its processor
scripts_at : (first : ℕ) (scripts : List (Vec Call Global)) (cpu : ℕ) (calls : Vec Call Global)
    → are_scripts first scripts ≡ true → slice_get scripts cpu ≡ Some calls
    → is_script (first + cpu) calls.items ≡ true
scripts_at first [] cpu calls h at = cc
scripts_at first (s ∷ ss) zero calls h at = grind arith
scripts_at first (s ∷ ss) (suc cpu) calls h at =
    grind (
      arith,
      scripts_at (suc first) ss cpu calls (and_parts (is_script first s.items) (are_scripts (suc first) ss) h).1 at,
    )

pub script_at : (scripts : List (Vec Call Global)) (cpu : ℕ) (calls : Vec Call Global)
    → are_scripts 0 scripts ≡ true → slice_get scripts cpu ≡ Some calls → IsScript cpu calls.items
script_at scripts cpu calls h at = grind (arith, scripts_at 0 scripts cpu calls h at)

pub begun_push : (scripts : List Progress) (calls : List Call) → AreBegun scripts → IsScript
    (length scripts) calls → AreBegun (scripts ++ record { calls = calls; place = 0 } ∷ [])
begun_push scripts calls begun own = each_push (λ cpu s. (s.place ≡ 0) × IsScript cpu s.calls)
    scripts (record { calls = calls; place = 0 }) begun (refl, own)

-- what is left of a list from a place on begins with what is there
pub drop_head : {X : Type 0} (xs : List X) (n : ℕ) (x : X) (rest : List X)
    → drop n xs ≡ x ∷ rest → (slice_get xs n ≡ Some x) × (drop (n + 1) xs ≡ rest)
drop_head [] zero x rest e = cc
drop_head [] (suc n) x rest e = cc
drop_head (y ∷ xs) zero x rest e = (cc, cc)
drop_head (y ∷ xs) (suc n) x rest e = grind (arith, drop_head xs n x rest e)

pub guest_parts : (p : GuestPlan) → is_guest_plan p ≡ true
    → (is_config p.config.pages p.config.queue_size p.config.processors ≡ true)
    × (are_scripts 0 p.scripts.items ≡ true)
guest_parts p h = grind (arith, and_parts)

-- the report of one guest more
pub swapped : {S : Type 0} (seat : S → Bool) (floor : ℕ) (plans : List GuestPlan) (seats : List S)
    (rounds : List Rounded) (reports : List GuestReport) (report : GuestReport)
    → ((g : ℕ) (r : GuestReport) (p : GuestPlan) (s : S) → slice_get reports g ≡ Some r
    → slice_get plans g ≡ Some p → slice_get seats g ≡ Some s
    → IsGuestReport floor g p (seat s) rounds r) → ((p : GuestPlan) (s : S)
    → slice_get plans (length reports) ≡ Some p → slice_get seats (length reports) ≡ Some s
    → IsGuestReport floor (length reports) p (seat s) rounds report) → (g : ℕ) (r : GuestReport)
    (p : GuestPlan) (s : S) → slice_get (reports ++ report ∷ []) g ≡ Some r → slice_get plans g
    ≡ Some p → slice_get seats g ≡ Some s → IsGuestReport floor g p (seat s) rounds r
swapped {S} seat floor plans seats rounds reports report each here g r p s at planned seated =
    each_push (λ n x. (q : GuestPlan) (t : S) → slice_get plans n ≡ Some q
    → slice_get seats n ≡ Some t → IsGuestReport floor n q (seat t) rounds x) reports report
    (λ n x there q t own its. each n x q t there own its) here g r at p s planned seated

-- one more of a list is mapped, and of what is left of another one its first element
pub map_next : {X Y Z : Type 0} (f : X → Z) (h : Y → Z) (xs : List X) (x : X) (ys rest : List Y)
    (y : Y) (all : List Z) → map f xs ++ map h ys ≡ all → ys ≡ y ∷ rest → f x ≡ h y
    → map f (xs ++ x ∷ []) ++ map h rest ≡ all
map_next f h [] x ys rest y all whole is same =
    rw same (subst (λ (l : List _). map h l ≡ all) is whole)
map_next f h (z ∷ xs) x ys rest y [] whole is same = absurd cc
map_next f h (z ∷ xs) x ys rest y (a ∷ all) whole is same =
    let before : map f xs ++ map h ys ≡ all = cc in
    let head : f z ≡ a = cc in rw (map_next f h xs x ys rest y all before is same, head) refl
