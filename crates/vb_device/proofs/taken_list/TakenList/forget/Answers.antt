use Rattle.std.proofs.Common.{◌≡◌, ◌∙◌, ◌<◌, ◌-◌, ◌++◌, ◌∷◌, [], ℕ, List, get_or, take, drop}
use Rattle.std.proofs.{Common.{remove, length, ap, arith}, Math.Seq.take-append_seam}
use Rattle.std.proofs.lemmas.List.{append_assoc, length-take, Edits.length-remove}
use Rattle.vb_virtio.specs.Queues.{Request}
use Rattle.std.proofs.lemmas.Option.{slice_get-get_or}
use Rattle.vb_device.proofs.taken_list.TakenList.forget.Goals as goal

pub returns : goal.returns
returns c = let rs : List Request = c.self.inside.requests in
    let len : ℕ = c.self.inside.len in
    let taken : List Request = take len rs in
    let index : ℕ = c.args.index in
    let there : index < length taken =
    omega (arith, c.requires, ap (λ (l : List Request). length l) c.self.view_is) in
    let r : Request = get_or taken index (record { head = 0; pages = []; visited = 0 }) in
    let moved : c.move_to_end.new.taken ≡ remove taken index ++ r ∷ [] =
    c.move_to_end.ensures r (slice_get-get_or taken index _ there) in
    let size : len - 1 ≡ length (remove taken index) =
    omega (arith, length-remove taken index there, length-take len rs, c.self.ranges) in
    ap (λ (ms : List Request). take (len - 1) (ms ++ drop len rs)) moved
    ∙ (ap (take (len - 1)) (append_assoc (remove taken index) (r ∷ []) (drop len rs))
    ∙ (ap (λ (k : ℕ). take k (remove taken index ++ (r ∷ [] ++ drop len rs))) size
    ∙ (take-append_seam (remove taken index) (r ∷ [] ++ drop len rs)
    ∙ ap (λ (l : List Request). remove l index) c.self.view_is)))
