-- FAILED may be added to any status.
use Rattle.std.proofs.Common.{◌≡◌, ap, refl, arith, ℕ, ◌<◌, Bool, true, not, ◌&&◌}
use Rattle.std.{proofs.Common.{Option, None, is_none, cond, eqb, bit_or}, specs.List.list_all}
use Rattle.vb_virtio.specs.declared.refusals.Refusal.{Refusal}
use Rattle.vb_virtio.specs.Status.{status_refusal, adds, driver_ok}
use Rattle.vb_virtio.proofs.Tables.{list_all-at}
use Rattle.std.specs.List.{range_with_len}
use Rattle.{vb_ram.specs.Part.Part, vb_status.specs.After.{after_status, part_after_reset}}
use Rattle.{vb_status.specs.After.with_new_queues, vb_pages.proofs.Sets.in_block}

abbrev passes : ℕ → ℕ → Bool
passes f s = is_none (status_refusal s f (bit_or s 128))
    && (not (eqb (bit_or s 128) 0) && not (adds s (bit_or s 128) driver_ok))

table : (f : ℕ) → list_all (passes f) (range_with_len 0 256) ≡ true
table f = refl

passed : (s f : ℕ) → s < 256 → passes f s ≡ true
passed s f lt = list_all-at (passes f) (range_with_len 0 256) s (table f)
    (in_block 0 8 s (omega arith) lt)

-- the write is accepted, and changes the status alone
pub accepted : (s f : ℕ) → s < 256 → status_refusal s f (bit_or s 128) ≡ None
accepted s f lt = at (status_refusal s f (bit_or s 128))
    (not (eqb (bit_or s 128) 0) && not (adds s (bit_or s 128) driver_ok)) (passed s f lt) where
      at : (o : Option Refusal) (r : Bool) → (is_none o && r) ≡ true → o ≡ None
      at x r h = grind arith

pub after_failing : {s : ℕ} (f : ℕ) (part : Part) → part.status ≡ s
    → s < 256 → after_status (bit_or s 128) part ≡ record part { status = bit_or s 128 }
after_failing {s} f part is lt = at (is_none (status_refusal s f (bit_or s 128))) (eqb
    (bit_or s 128) 0) (adds s (bit_or s 128) driver_ok) (adds part.status (bit_or s 128) driver_ok)
    (passed s f lt) (ap (λ n. adds n (bit_or s 128) driver_ok) is) where
      at : (o z a b : Bool) → (o && (not z && not a)) ≡ true → b ≡ a → cond z (part_after_reset part)
          (cond b (record (with_new_queues part) { status = bit_or s 128 })
          (record part { status = bit_or s 128 })) ≡ record part { status = bit_or s 128 }
      at x z a b h g = grind arith
