use Rattle.std.proofs.Common.{ℕ, List, Bool, true, false, map, not, set, ap, ◌∙◌}
use Rattle.std.proofs.lemmas.List.{map-set}
use Rattle.vb_frames.proofs.table.FrameTableFrameKeeper.put_back.Goals as goal

pub returns : goal.returns
returns c = ap (λ (xs : List Bool). map not xs) c.insert.ensures.set
    ∙ map-set not c.self.inside.free c.number.result true
    ∙ ap (λ (out : List Bool). set out c.number.result false) c.self.view_is
    ∙ ap (λ (n : ℕ). set c.args.self.now n false) c.number.ensures.number
