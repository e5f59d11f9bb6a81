-- Nothing is outstanding of a guest that isn't ready, once a request is taken, used or reaped.
use Rattle.std.proofs.Common.{List, arith, refl, ℕ, ◌∷◌, ◌≡◌}
use Rattle.std.specs.Prelude.{Some, slice_get}
use Rattle.vb_model.proofs.{PageSteps.after_take, Serving.serving_keeps}
use Rattle.vb_model.specs.{Device.visited, Driver.reaped}
use Rattle.vb_model.specs.{Device.{ServesRequests, settled, used}, Guest.{Guest, requests}}
use Rattle.vb_virtio.specs.Queues.{Kind, Request}
use Rattle.vb_model.specs.Guest.{with_requests}
use Rattle.vb_model.specs.HonestRuns.{IsAttentive}
use Rattle.vb_model.specs.declared.replies.Reply.{Reply}

pub attentive_take : (kind : Kind) (g : Guest) (r : Request) (rest : List Request)
    → (requests kind g).posted ≡ r ∷ rest → IsAttentive g
    → IsAttentive (with_requests kind (after_take r rest (requests kind g)) g)
attentive_take kind g r rest e h = grind (arith, h)

pub attentive_finish : (kind : Kind) (g : Guest) (i : ℕ) (r : Request)
    → slice_get (requests kind g).taken i ≡ Some r → IsAttentive g
    → IsAttentive (settled kind r.pages (used kind i r g))
attentive_finish kind g i r e h = grind (arith, h)

pub attentive_reap : (kind : Kind) (g : Guest) (r : Request) (rest : List Request)
    → (requests kind g).done ≡ r ∷ rest → IsAttentive g → IsAttentive (reaped kind r rest g)
attentive_reap kind g r rest e h = grind (arith, h)

pub attentive_work : (kind : Kind) (g : Guest) (page : ℕ) → IsAttentive g
    → IsAttentive (visited kind page g)
attentive_work kind g page h = grind (arith, h)

pub serves_attentive : (kind : Kind) (g : Guest) (reply : Reply) (new : Guest) → IsAttentive g
    → ServesRequests kind (requests kind g).posted 0 g reply new → IsAttentive new
serves_attentive kind g reply new h s = serving_keeps kind IsAttentive
    (λ x r rest posted a. attentive_take kind x r rest posted a)
    (λ x r is a. attentive_finish kind x 0 r is a) (requests kind g).posted 0 g reply new refl s h
