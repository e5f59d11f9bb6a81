-- Which notices may continue over a device, and what they may discard, worked out.
use Rattle.std.proofs.Common.{◌≡◌, refl, ap, arith, ℕ, true, false, List, [], ◌∷◌, map, Bool}
use Rattle.vb_core.specs.declared.kinds.Kind.{Kind, TheVariants.{Inflate, Deflate, Statistics, Hint, Report}}
use Rattle.vb_core.specs.declared.{device.Device.Device, ring.Virtqueue.Virtqueue}
use Rattle.vb_core.specs.{Devices.{ring_of, with_ring}, Rings.{with_taken, with_used}, Statuses.after_write}
use Rattle.vb_monitor.specs.Snapshots.{snapshot_of, IsCurrent, may_discard}
use Rattle.vb_monitor.proofs.Samples.{Same, ready, elsewhere}

-- a device as it was, and one of which another queue moved
unchanged : (kind : Kind) → IsCurrent (snapshot_of kind ready) kind ready
unchanged kind = record { ring = refl; status = refl }

another_queue : IsCurrent (snapshot_of Inflate ready) Inflate (record ready { deflate = elsewhere; target = 7 })
another_queue = record { ring = refl; status = refl }

-- after a reset none is current, nor after the status says more
was_reset : (kind : Kind) → IsCurrent (snapshot_of kind ready) kind (after_write 0 ready) → ⊥
was_reset kind h = let e : Same 15 0 = h.status in omega arith

failed : (kind : Kind) → IsCurrent (snapshot_of kind ready) kind (record ready { status = 143 }) → ⊥
failed kind h = let e : Same 15 143 = h.status in omega arith

-- nor where the queue's ring differs in any field
abbrev with_inflate : Virtqueue → Device
with_inflate r = record ready { inflate = r }

abbrev CurrentWith : Virtqueue → Type 0
CurrentWith r = IsCurrent (snapshot_of Inflate ready) Inflate (with_inflate r)

taken : CurrentWith (with_taken ready.inflate) → ⊥
taken h = let e : Same 0 1 = ap (λ (r : Virtqueue). r.next_avail) h.ring in omega arith

used : CurrentWith (with_used ready.inflate) → ⊥
used h = let e : Same 0 1 = ap (λ (r : Virtqueue). r.next_used) h.ring in omega arith

smaller : CurrentWith (record (ready.inflate) { size = 4 }) → ⊥
smaller h = let e : Same 8 4 = ap (λ (r : Virtqueue). r.size) h.ring in omega arith

table_moved : CurrentWith (record (ready.inflate) { table = 16 }) → ⊥
table_moved h = let e : Same 0 16 = ap (λ (r : Virtqueue). r.table) h.ring in omega arith

available_moved : CurrentWith (record (ready.inflate) { avail = 16 }) → ⊥
available_moved h = let e : Same 0x100 16 = ap (λ (r : Virtqueue). r.avail) h.ring in omega arith

used_moved : CurrentWith (record (ready.inflate) { used = 16 }) → ⊥
used_moved h = let e : Same 0x200 16 = ap (λ (r : Virtqueue). r.used) h.ring in omega arith

-- hints are discarded in their own round while it is open; all else at any time
abbrev in_round : ℕ → ℕ → Device
in_round shown opened = record ready { round = record { shown = shown; last = 5; opened = opened } }

abbrev discards_in : Kind → Device → Bool
discards_in kind d = may_discard (snapshot_of kind (in_round 4 1)) kind d

of_hints : map (discards_in Hint) (in_round 4 1 ∷ in_round 4 0 ∷ in_round 5 1 ∷ in_round 1 0 ∷ in_round 0 1 ∷ [])
    ≡ true ∷ false ∷ false ∷ false ∷ false ∷ []
of_hints = refl

of_others : map (λ (kind : Kind). discards_in kind (in_round 1 0)) (Inflate ∷ Deflate ∷ Statistics ∷ Report ∷ [])
    ≡ true ∷ true ∷ true ∷ true ∷ []
of_others = refl
