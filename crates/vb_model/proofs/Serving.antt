-- What holds of a guest whose requests are served, one after the other.
use Rattle.std.proofs.Common.{List, [], ap, refl, subst, sym, ℕ, ◌+◌, ◌∙◌, ◌∷◌, ◌≡◌}
use Rattle.std.specs.Prelude.{Some, slice_get}
use Rattle.vb_model.proofs.PageSteps.{after_take}
use Rattle.vb_model.specs.{Device.{ServesRequests, settled, used}, Guest.{Guest, requests}}
use Rattle.vb_virtio.specs.Queues.{Deflating, Inflating, Kind, Reporting_free, Request}
use Rattle.vb_model.specs.Guest.{with_requests}
use Rattle.vb_model.specs.declared.replies.Reply.{Reply}

-- what is posted after a request that was taken and used
rest_posted : (kind : Kind) (r x : Request) (rest : List Request) (g : Guest)
    → (requests kind (settled kind x.pages (used kind 0 x
    (with_requests kind (after_take r rest (requests kind g)) g)))).posted ≡ rest
rest_posted Inflating r x rest g = refl
rest_posted Deflating r x rest g = refl
rest_posted Reporting_free r x rest g = refl

-- what each take and each finish leaves true is true when all is served
pub serving_keeps : (kind : Kind) (P : Guest → Type 0)
    → ((g : Guest) (r : Request) (rest : List Request) → (requests kind g).posted ≡ r ∷ rest → P g
    → P (with_requests kind (after_take r rest (requests kind g)) g))
    → ((g : Guest) (r : Request) → slice_get (requests kind g).taken 0 ≡ Some r → P g
    → P (settled kind r.pages (used kind 0 r g)))
    → (posted : List Request) (chains : ℕ) (g : Guest) (reply : Reply) (new : Guest)
    → (requests kind g).posted ≡ posted → ServesRequests kind posted chains g reply new → P g
    → P new
serving_keeps kind P takes finishes [] chains g reply new is s h = subst P (sym s.1) h
serving_keeps kind P takes finishes (r ∷ rest) chains g reply new is s h =
    let taken = with_requests kind (after_take r rest (requests kind g)) g in
    let (first, next, take, finish, more) = s in
    let (x, at, told, left) = finish in
    let there = subst (λ (y : Guest). slice_get (requests kind y).taken 0 ≡ Some x) take.1 at in
    let after : next ≡ settled kind x.pages (used kind 0 x taken) =
    left ∙ ap (λ (y : Guest). settled kind x.pages (used kind 0 x y)) take.1 in
    serving_keeps kind P takes finishes rest (chains + 1) next reply new
    (ap (λ (y : Guest). (requests kind y).posted) after ∙ rest_posted kind r x rest g) more
    (subst P (sym after) (finishes taken x there (takes g r rest is h)))
