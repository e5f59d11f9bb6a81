use Rattle.std.proofs.Common.{◌∙◌, ◌++◌, ◌∷◌, ◌-◌, [], List, ap, arith, remove, length}
use Rattle.std.{proofs.lemmas.Option.get_or_from_slice_get, proofs.lemmas.Slice.put_mid-rotated}
use Rattle.vb_virtio.specs.Queues.{Request}
use Rattle.vb_device.proofs.taken_list.move_to_end.Goals as goal

pub returns : goal.returns
returns c r here = let all : List Request = c.args.taken.now in
    put_mid-rotated c.args.index (length all - c.args.index) all c.rotate_left.new.self r
    c.requires (omega arith) c.rotate_left.ensures.after
    ∙ ap (λ (x : Request). remove all c.args.index ++ x ∷ [])
    (get_or_from_slice_get all c.args.index r r here)
