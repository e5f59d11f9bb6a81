use Rattle.std.{proofs.Common.{sym, ◌∙◌}, proofs.lemmas.List.length-take-le}
use Rattle.vb_core.proofs.saved.put_front.Goals as goal

pub slice_bounds-copy_from_slice-end-2 : goal.slice_bounds-copy_from_slice-end-2
slice_bounds-copy_from_slice-end-2 c = sym (length-take-le 240 c.args.out.now c.requires.room)

pub copy_from_slice-requires : goal.copy_from_slice-requires
copy_from_slice-requires c =
    length-take-le 240 c.args.out.now c.requires.room ∙ sym c.requires.count
