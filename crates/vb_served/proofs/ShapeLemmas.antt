-- What a device keeps once a chain was served, by what another one that is alike has then.
use Rattle.std.proofs.Common.{◌≡◌, ◌∙◌, ap, sym, refl, ℕ, List, [], ◌∷◌, ◌++◌, Bool, Option}
use Rattle.std.proofs.Common.{Result}
use Rattle.std.specs.Prelude.{remove}
use Rattle.vb_virtio.specs.Queues.{Request}
use Rattle.vb_virtio.specs.declared.refusals.Refusal.{Refusal}
use Rattle.vb_virtio.specs.declared.statistics.LastStatistics.{LastStatistics}
use Rattle.vb_ram.specs.Part.{Part}
use Rattle.vb_core.specs.declared.kinds.Kind.{Kind}
use Rattle.vb_core.specs.declared.kinds.Kind.TheVariants.{Inflate, Deflate, Statistics, Hint, Report}
use Rattle.vb_core.specs.declared.device.Device.{Device}
use Rattle.vb_core.specs.{Kinds.queue_of, Devices.ring_of}
use Rattle.vb_device.specs.Faults.{needing_reset}
use Rattle.vb_device.specs.Queues.{queue_part, with_queue}
use Rattle.vb_device.specs.QueueState.{status_after}
use Rattle.vb_device.specs.ServedChains.{advanced, with_held}
use Rattle.vb_served.specs.{Store.Store, Alike.IsAlike, Tied.{beside, chain_of, held_by}}

-- the part with these of a kind's queue and beside it
abbrev pub put : Kind → ℕ → ℕ → List Request → ℕ → List ℕ → List Bool → LastStatistics → Part → Part
put kind a u ts st lo ba la p =
    record
    (with_queue (queue_of kind) (record { next_avail = a; next_used = u; taken = ts }) p)
    { status = st; loose = lo; ballooned = ba; last = la }

same_put : (kind : Kind) (a b u v : ℕ) (ts us : List Request) (st su : ℕ) (lo lu : List ℕ)
    (ba bu : List Bool) (la lb : LastStatistics) (p : Part) → a ≡ b → u ≡ v → ts ≡ us → st ≡ su →
    lo ≡ lu → ba ≡ bu → la ≡ lb → put kind a u ts st lo ba la p ≡ put kind b v us su lu bu lb p
same_put kind a b u v ts us st su lo lu ba bu la lb p e f g h i j k =
    ap (λ (x : ℕ). put kind x u ts st lo ba la p) e
    ∙ (ap (λ (x : ℕ). put kind b x ts st lo ba la p) f
    ∙ (ap (λ (x : List Request). put kind b v x st lo ba la p) g
    ∙ (ap (λ (x : ℕ). put kind b v us x lo ba la p) h
    ∙ (ap (λ (x : List ℕ). put kind b v us su x ba la p) i
    ∙ (ap (λ (x : List Bool). put kind b v us su lu x la p) j
    ∙ ap (λ (x : LastStatistics). put kind b v us su lu bu x p) k)))))

-- a part that differs from another one by no more
abbrev pub DiffersThere : Kind → Part → Part → Type 0
DiffersThere kind new p =
    new ≡ put kind (queue_part (queue_of kind) new).next_avail (queue_part (queue_of kind) new).next_used
    (queue_part (queue_of kind) new).taken new.status new.loose new.ballooned new.last p

pub put_same : (kind : Kind) (p : Part) → DiffersThere kind p p
put_same Inflate p = refl
put_same Deflate p = refl
put_same Statistics p = refl
put_same Hint p = refl
put_same Report p = refl

pub put_reset : (kind : Kind) (p : Part) → DiffersThere kind (needing_reset p) p
put_reset Inflate p = refl
put_reset Deflate p = refl
put_reset Statistics p = refl
put_reset Hint p = refl
put_reset Report p = refl

pub shape_so : (kind : Kind) (d : Device) (new p : Part) (t : Store)
    (result : Result (Option ℕ) Refusal) → IsAlike kind d new t → DiffersThere kind new p →
    (queue_part (queue_of kind) new).taken
    ≡ with_held (held_by kind result) (queue_part (queue_of kind) p).taken →
    new.status ≡ status_after result p.status →
    new ≡ advanced (queue_of kind) (chain_of kind d result) (beside t) p
shape_so kind d new p t result a is taken status = is
    ∙ same_put kind _ (ring_of kind d).next_avail _ (ring_of kind d).next_used _
    (with_held (held_by kind result) (queue_part (queue_of kind) p).taken) _ (status_after result p.status)
    _ t.loose _ t.ballooned _ t.last p (sym a.ring.next_avail) (sym a.ring.next_used) taken status
    (sym a.loose) (sym a.ballooned) (sym a.last)

-- the only one of a queue's chains is used
pub used_alone : (ts : List Request) (r : Request) → ts ≡ [] → remove (ts ++ (r ∷ [])) 0 ≡ ts
used_alone ts r e =
    ap (λ (xs : List Request). remove (xs ++ (r ∷ [])) 0) e ∙ sym e
