use Rattle.std.proofs.Common.{List, Bool, false, ℕ, map, not, replicate, length, ap, ◌∙◌}
use Rattle.std.proofs.lemmas.List.{length-replicate}
use Rattle.vb_frames.proofs.Free.{none_out}
use Rattle.vb_frames.proofs.table.FrameTable.new.Goals as goal

pub returns : goal.returns
returns c = ap (λ (free : List Bool). map not free) c.fill.ensures
    ∙ none_out (length c.in_ok-free.free) ∙ ap (λ (n : ℕ). replicate n false)
    (ap length c.in_ok-free.ensures ∙ length-replicate c.args.frames false)
