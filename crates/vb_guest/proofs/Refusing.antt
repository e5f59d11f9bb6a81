-- Device and model refuse the same calls.
use Rattle.std.{proofs.Common.{ap, sym, subst, inl, inr}, specs.Prelude.{◌≡◌, ℕ, true, false, not}}
use Rattle.vb_virtio.proofs.Queues.{queue_cases, IsNoQueue, no_chains_at}
use Rattle.vb_virtio.specs.Queues.{has_chains, is_queue_of_requests}
use Rattle.vb_virtio.specs.declared.refusals.Refusal.TheVariants.{NoQueue}
use Rattle.std.specs.Prelude.{length, Some, drop}
use Rattle.vb_model.specs.Guest.{Guest}
use Rattle.vb_model.specs.Refusals.{causes, refusal_of}
use Rattle.vb_model.specs.Tables.{take_causes, finish_causes}
use Rattle.vb_model.specs.declared.calls.Call.TheVariants.{Take, Finish}
use Rattle.vb_ram.specs.Part.{Part}
use Rattle.vb_device.specs.Conditions.{negotiated, take_refusal, finish_refusal, taken_at}
use Rattle.{vb_device.specs.Queues.queue_part, vb_guest.proofs.Closing.first_holds}

pub no_chains : {q : ℕ} → IsNoQueue q → not (has_chains q) ≡ true
no_chains {q} h = ap not (no_chains_at q h)

-- ---- take

pub take_no_queue : {q : ℕ} (g : Guest) (part : Part)
    → IsNoQueue q → (take_refusal q part ≡ Some NoQueue) × (refusal_of g (Take q) ≡ Some NoQueue)
take_no_queue {q} g part h = (
  first_holds NoQueue
      (drop 1 (take_causes q (negotiated part) (length (queue_part q part).taken))) (no_chains h),
  first_holds NoQueue (drop 1 (causes g (Take q))) (no_chains h),
)

-- ---- finish

pub finish_no_queue : (q i : ℕ) (g : Guest) (part : Part) → is_queue_of_requests q ≡ false
    → (finish_refusal q i part ≡ Some NoQueue) × (refusal_of g (Finish q i) ≡ Some NoQueue)
finish_no_queue q i g part h = (
  first_holds NoQueue
      (drop 1 (finish_causes q (negotiated part) part.paced (taken_at q i part))) (ap not h),
  first_holds NoQueue (drop 1 (causes g (Finish q i))) (ap not h),
)

-- one of the four queues, or none
pub by_queue : (P : ℕ → Type 0) (q : ℕ) → P 0 → P 1 → P 2 → P 4 → (IsNoQueue q → P q) → P q
by_queue P q first second third last none = elim (queue_cases q) [
  | inl is ↦ subst P (sym is) first
  | inr a ↦ elim a [
    | inl is ↦ subst P (sym is) second
    | inr b ↦ elim b [
      | inl is ↦ subst P (sym is) third
      | inr c ↦ elim c [ inl is ↦ subst P (sym is) last | inr out ↦ none out ]
    ]
  ]
]
