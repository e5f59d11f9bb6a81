-- The queue of statistics, of which one buffer is out at the most: at descriptor 0.
use Rattle.std.proofs.Common.{◌≡◌, ◌∙◌, sym, ap, arith, refl, ℕ, ◌+◌, ◌<◌, ◌%◌, Bool, true}
use Rattle.std.proofs.Common.{false, List, [], ◌∷◌, length, inl, inr, eq-eqb, Option, Some, None}
use Rattle.std.proofs.{Common.{Result, Ok, is_none, is_some, MatchBool}, lemmas.Bool.cases_Bool}
use Rattle.{vb_ram.specs.Pages.Pages, vb_ring.specs.Ends.{DriverEnd, IsDriverEnd, is_unused}}
use Rattle.vb_ring.specs.Ends.{outstanding, next_head, next_path, after_add, claimed, released}
use Rattle.vb_ring.specs.{Ends.used_answer, Entries.{is_own, is_head, only_head}, Calls.TakesUsedBy}
use Rattle.vb_ring.{specs.declared.driver.RingBroken.RingBroken, proofs.Numbers.numbers_first}
use Rattle.vb_ring.proofs.{Numbers.{numbers_has, numbers_none}, OwnerLaws.released-at}
use Rattle.vb_driver.proofs.RequestTables.{next_path_is, claimed_same, claimed_other}
use Rattle.vb_driver.{proofs.ReportTables.none_owned, specs.State.IsStatisticsQueue}
use Rattle.vb_driver.specs.{State.fresh_statistics, Calls.emptied}

-- ---- nothing is out

-- where nothing is out, no descriptor is in use
pub none_used : {r : DriverEnd} {n : ℕ}
    → IsStatisticsQueue r n → 0 < r.size → outstanding r ≡ 0 → (i : ℕ) → is_unused r.owner i ≡ true
none_used {r} queue some none i = grind (arith, numbers_has (is_head r.owner) r.size 0 some)

no_head : (owner : List (Option ℕ)) (i : ℕ) → is_unused owner i ≡ true → is_head owner i ≡ false
no_head owner i unused = grind arith

-- and the other way round
pub none_out : (r : DriverEnd) → ((i : ℕ) → is_unused r.owner i ≡ true) → outstanding r ≡ 0
none_out r unused =
    ap length (numbers_none (is_head r.owner) r.size (λ i lt. no_head r.owner i (unused i)))

-- the next head is 0 then
pub first_head : (r : DriverEnd) → 0 < r.size → ((i : ℕ) → is_unused r.owner i ≡ true)
    → next_head r ≡ Some 0
first_head r some unused =
    numbers_first (is_unused r.owner) r.size 0 some (unused 0) (λ j below. absurd (omega arith))

-- a queue that begins has nothing out
fresh_unused : (size i : ℕ) → is_unused (fresh_statistics size).owner i ≡ true
fresh_unused size i = ap is_none (none_owned size i)

pub fresh_none : (size : ℕ) → outstanding (fresh_statistics size) ≡ 0
fresh_none size = none_out (fresh_statistics size) (fresh_unused size)

-- ---- the buffer goes out

claimed_queue : (owner : List (Option ℕ)) → ((i : ℕ) → is_unused owner i ≡ true)
    → 0 < length owner → (i : ℕ) → is_unused (claimed (0 ∷ []) 0 owner) i ≡ false → i ≡ 0
claimed_queue owner unused some i used = grind (arith, claimed_other)

pub queue_added : {r : DriverEnd} {n : ℕ} → IsStatisticsQueue r n → IsDriverEnd r → 0 < r.size
    → ((i : ℕ) → is_unused r.owner i ≡ true) → IsStatisticsQueue (after_add r 1 (Ok 0)) n
queue_added {r} {n} queue end some unused = let owner = claimed (0 ∷ []) 0 r.owner in
    let inside : 0 < length r.owner = omega (arith, end.table) in
    let path : next_path r 1 ≡ 0 ∷ [] = next_path_is r 0 (first_head r some unused) in
    let good : IsStatisticsQueue
    (record r { published = (r.published + 1) % 65536; owner = owner }) n = record {
      single = λ i used.
          let zero_is : i ≡ 0 = claimed_queue r.owner unused inside i used in
          ap (is_head owner) zero_is
          ∙ (ap (is_own 0) (claimed_same 0 r.owner inside) ∙ eq-eqb 0 0 refl);
      first = λ i head. elim (cases_Bool (is_unused owner i)) [
        | inl free ↦ (let wrong : true ≡ false = sym head ∙ no_head owner i free in cc)
        | inr used ↦ claimed_queue r.owner unused inside i used
      ];
      layout = queue.layout;
      size = queue.size;
    } in rw path good

-- ---- and comes back

released_unused : {r : DriverEnd} {n : ℕ}
    → IsStatisticsQueue r n → (i : ℕ) → is_unused (released 0 r.owner) i ≡ true
released_unused queue i = grind (arith, released-at)

pub queue_taken : {r : DriverEnd} {n : ℕ} → IsStatisticsQueue r n → IsStatisticsQueue (emptied r) n
queue_taken queue = grind (arith, released_unused, no_head)

pub taken_none : {r : DriverEnd} {n : ℕ} → IsStatisticsQueue r n → outstanding (emptied r) ≡ 0
taken_none {r} queue = none_out (emptied r) (released_unused queue)

-- a head that is taken is 0
pub taken_first : {r : DriverEnd} {n h : ℕ} (next : Result (Option ℕ) RingBroken)
    → IsStatisticsQueue r n → only_head r.owner next ≡ Ok (Some h) → h ≡ 0
taken_first next queue e = grind arith

-- what is told of a take: whether the buffer was used
abbrev Tells : Pages → DriverEnd → DriverEnd → ℕ → Bool → Type 0
Tells mem r r2 n told = MatchBool told
    ((used_answer mem r ≡ Ok (Some 0)) × TakesUsedBy mem r r2 (Ok (Some 0)) × (r2 ≡ emptied r)
    × (outstanding r2 ≡ 0) × IsStatisticsQueue r2 n) ((used_answer mem r ≡ Ok None) × (r2 ≡ r))

pub tells_of : {mem : Pages} {r r2 now : DriverEnd} {n : ℕ} (used : Option ℕ) {told : Bool}
    → r ≡ now → IsStatisticsQueue now n
    → told ≡ is_some used → TakesUsedBy mem r r2 (Ok used) → Tells mem now r2 n told
tells_of {mem} {r} {r2} {n} used at queue is takes = rw (← at) (rw is
    (by_used used (rw at queue) takes)) where
      by_used : (o : Option ℕ) → IsStatisticsQueue r n → TakesUsedBy mem r r2 (Ok o)
          → Tells mem r r2 n (is_some o)
      by_used None q t = (sym t.value, t.state)
      by_used (Some h) q t = let first : h ≡ 0 = taken_first _ q (sym t.value) in
          let taken : TakesUsedBy mem r r2 (Ok (Some 0)) = rw (← first) t in (
            sym taken.value,
            taken,
            taken.state,
            ap outstanding taken.state ∙ taken_none q,
            rw taken.state (queue_taken q),
          )
