-- A take from a queue, from what its next chain gives; and what it leaves of the ring.
use Rattle.std.specs.Prelude.{◌≡◌, true, false, ◌∷◌, length, Option, None, Result, Ok, Err, refl}
use Rattle.{std.specs.Prelude.{ℕ, [], Some}, vb_chain.specs.declared.fault.ChainFault.ChainFault}
use Rattle.vb_virtio.specs.declared.refusals.Refusal.TheVariants.{Busy}
use Rattle.vb_virtio.specs.declared.refusals.Refusal.{Refusal}
use Rattle.vb_virtio.specs.declared.statistics.LastStatistics.{LastStatistics}
use Rattle.std.proofs.Common.{arith}
use Rattle.vb_ram.{specs.Pages.{Pages, byte_at}, proofs.FieldLaws.field_zero}
use Rattle.vb_ring.specs.{declared.layout.Layout.Layout, Entries.next_entry}
use Rattle.vb_device.specs.QueueState.{QueueState, next_of, is_full, NextMeans, TakesNext}

true_false : true ≡ false → ⊥
true_false e = cc

none_some : (r : Result (Option ℕ) ChainFault) (h : ℕ) → r ≡ Ok None → r ≡ Ok (Some h) → ⊥
none_some r h a b = cc

pub next_busy : (q : ℕ) (mem : Pages) (x : QueueState) (l : LastStatistics) →
    is_full q x ≡ true → TakesNext q mem x x l l (Err Busy)
next_busy q mem x l full = grind (arith, true_false)

-- ---- memory of no pages

no_byte : (p k : ℕ) → byte_at [] p k ≡ 0
unfolding byte_at
no_byte p k = refl

no_entry : (l : Layout) (q : ℕ) → next_entry [] l q 0 ≡ Ok None
no_entry l q = grind (arith, field_zero, no_byte)

no_pages : (mem : Pages) → length mem ≡ 0 → mem ≡ []
no_pages [] e = refl
no_pages (x ∷ xs) e = absurd (omega arith)

pub idle_next : (mem : Pages) (x : QueueState) → length mem ≡ 0 → x.ring.next_avail ≡ 0 →
    next_of mem x ≡ Ok None
idle_next mem x e z = grind (arith, no_pages, no_entry)

pub next_idle : (q : ℕ) (mem : Pages) (x : QueueState) (l : LastStatistics) →
    is_full q x ≡ false → length mem ≡ 0 → x.ring.next_avail ≡ 0 → TakesNext q mem x x l l (Ok None)
next_idle q mem x l free e z = grind (arith, idle_next mem x e z)

-- ---- what a take leaves

-- The ring is as before but for its count, which stays where memory has no pages, as do the taken
-- requests.
pub record KeepsRing (mem : Pages) (x1 x2 : QueueState) : Type 0 where
  pub number : x2.number ≡ x1.number
  pub layout : x2.ring.layout ≡ x1.ring.layout
  pub size : x2.ring.size ≡ x1.ring.size
  pub ready : x2.ring.ready ≡ x1.ring.ready
  pub idle : length mem ≡ 0 → x2 ≡ x1

kept : (mem : Pages) (x1 x2 : QueueState) → x2 ≡ x1 → KeepsRing mem x1 x2
kept mem x1 x2 e = search (arith)

pub keeps_ring : (q : ℕ) (mem : Pages) (x1 x2 : QueueState) (l1 l2 : LastStatistics)
    (result : Result (Option ℕ) Refusal) → (length mem ≡ 0 → x1.ring.next_avail ≡ 0) →
    NextMeans q mem x1 x2 l1 l2 result → KeepsRing mem x1 x2
keeps_ring q mem x1 x2 l1 l2 result idle m = grind (arith, kept, none_some, idle_next)
