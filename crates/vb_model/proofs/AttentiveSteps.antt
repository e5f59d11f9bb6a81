-- Nothing is outstanding of a guest that isn't ready.
use Rattle.std.proofs.Common.{List, arith, false, subst, sym, true, ℕ, ◌≡◌, ◌⊎◌}
use Rattle.std.proofs.Common.{refl}
use Rattle.vb_model.{proofs.Deeds.Was_reset, specs.Life.after_reset}
use Rattle.vb_model.proofs.{Deeds.Has_served, AttentiveServing.{attentive_finish, attentive_take}}
use Rattle.vb_model.proofs.AttentiveServing.{attentive_reap, attentive_work, serves_attentive}
use Rattle.vb_model.proofs.Deeds.{Buffered, Has_finished, Has_reaped, Has_scribbled, Has_taken}
use Rattle.vb_model.proofs.Deeds.{Initialised, Visited}
use Rattle.vb_model.specs.{HonestRuns.has_buffer, Requests.StatisticsBuffer}
use Rattle.vb_virtio.specs.declared.statistics.LastStatistics.{LastStatistics}
use Rattle.vb_virtio.specs.Queues.{Kind}
use Rattle.vb_virtio.specs.Status.{is_up}
use Rattle.vb_model.proofs.Deeds.{Aimed, Allocated, Deed, Freed, Has_posted, Has_swept, Has_written}
use Rattle.vb_model.{proofs.Deeds.{Stayed, deed}, specs.Guest.{Guest, with_requests}}
use Rattle.vb_model.specs.HonestRuns.{IsAttentive}
use Rattle.vb_model.specs.Orderly.{IsOrderly}
use Rattle.vb_model.specs.Requests.{Requests}
use Rattle.vb_model.specs.Step.{HonestStep}
use Rattle.vb_model.specs.declared.calls.Call.{Call}
use Rattle.vb_model.specs.declared.calls.Claim.{Claim}
use Rattle.vb_model.specs.declared.{places.Place.Place, replies.Reply.Reply}

-- ---- a ready guest

ready : (status : ℕ) → (status ≡ 0) ⊎ (status ≡ 15) ⊎ (status ≡ 131) → is_up status ≡ true
    → status ≡ 15
ready status state up = grind arith

-- a request is out
posted_attentive : (kind : Kind) (rs : Requests) (places : List Place) (g : Guest) → g.status ≡ 15
    → IsAttentive g → IsAttentive (record (with_requests kind rs g) { places = places })
posted_attentive kind rs places g is h = grind arith

reset_attentive : (g : Guest) → IsAttentive (after_reset g)
reset_attentive g = record {
  inflating = λ e. refl;
  deflating = λ e. refl;
  reporting = λ e. refl;
  buffered = refl;
}

attentive_buffer : (g : Guest) (buffer : StatisticsBuffer) (last : LastStatistics)
    → has_buffer buffer ≡ has_buffer g.buffer → IsAttentive g
    → IsAttentive (record g { buffer = buffer; last = last })
attentive_buffer g buffer last has h = grind (arith, h)

attentive : (call : Call) (g : Guest) (claims : List Claim) (reply : Reply) (new : Guest)
    → IsOrderly g → IsAttentive g → Deed call g claims reply new → new.rogue ≡ false
    → IsAttentive new
attentive call g claims reply new o h (Stayed why e) honest = subst IsAttentive (sym e) h
attentive call g claims reply new o h (Aimed n is told e) honest = subst IsAttentive (sym e) h
attentive call g claims reply new o h (Allocated b small free told e) honest =
    subst IsAttentive (sym e) h
attentive call g claims reply new o h (Freed b held told e) honest = subst IsAttentive (sym e) h
attentive call g claims reply new o h (Has_swept page flag tells told e) honest =
    subst IsAttentive (sym e) h
attentive call g claims reply new o h (Has_written page offset bytes is passed are none w) honest =
    subst IsAttentive (sym w.1) h
attentive call g claims reply new o h (Has_posted kind head pages p told e) honest =
    subst IsAttentive (sym e) (posted_attentive kind _ g.places g (ready g.status o.state p.up) h)
attentive call g claims reply new o h (Has_served kind chains s told) honest =
    serves_attentive kind g reply new h s
attentive call g claims reply new o h (Was_reset told e) honest =
    subst IsAttentive (sym e) (reset_attentive g)
attentive call g claims reply new o h (Has_reaped kind r rest is done told e) honest =
    subst IsAttentive (sym e) (attentive_reap kind g r rest done h)
attentive call g claims reply new o h (Has_taken kind r rest posted told e) honest =
    subst IsAttentive (sym e) (attentive_take kind g r rest posted h)
attentive call g claims reply new o h (Visited kind page named other told e) honest =
    subst IsAttentive (sym e) (attentive_work kind g page h)
attentive call g claims reply new o h (Has_finished kind i r is told e) honest =
    subst IsAttentive (sym e) (attentive_finish kind g i r is h)
attentive call g claims reply new o h (Buffered b last has told e) honest =
    subst IsAttentive (sym e) (attentive_buffer g b last has h)
attentive call g claims reply new o h (Initialised wanted is passed n) honest = grind (arith, h)
attentive call g claims reply new o h (Has_scribbled page offset bytes is passed s) honest =
    absurd (let rogue : new.rogue ≡ true = s.state.still in cc)

pub honest_attentive : (g : Guest) (call : Call) (claims : List Claim) (reply : Reply) (new : Guest)
    → IsOrderly g → IsAttentive g → HonestStep g call claims reply new → new.rogue ≡ false
    → IsAttentive new
honest_attentive g call claims reply new o h s honest =
    attentive call g claims reply new o h (deed g call claims reply new s) honest
