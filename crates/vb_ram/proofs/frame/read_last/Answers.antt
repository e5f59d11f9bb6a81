use Rattle.std.proofs.Common.{ℕ, List, ◌++◌, ◌∙◌, ap, length, drop, replicate}
use Rattle.std.specs.Prelude.{slice_index}
use Rattle.vb_ram.proofs.Blanks.{zeros_behind, zeros_left}
use Rattle.vb_ram.proofs.frame.read_last.Goals as goal

pub returns-clause-read : goal.returns-clause-read
returns-clause-read c k = let held = c.args.held.now in
    let rest : List ℕ = drop (length held) c.fill.new.self in
    let zeros : List ℕ = replicate (length c.args.out.now) 0 in
    ap (λ (front : List ℕ). slice_index (front ++ rest) k) c.copy_from_slice.ensures.after
    ∙ ap (λ (all : List ℕ). slice_index (held ++ drop (length held) all) k)
    (c.fill.ensures.after (λ y e. e)) ∙ zeros_behind held (drop (length held) zeros)
    (zeros_left (length held) (length c.args.out.now)) k
