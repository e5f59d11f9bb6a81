use Rattle.std.proofs.Common.{◌-◌, ℕ, List, ◌++◌, replicate, ◌∙◌, ap, arith, vec_len}
use Rattle.std.proofs.lemmas.List.{take_all}
use Rattle.vb_ram.{specs.Blank.shown, proofs.Blanks.shown-more}
use Rattle.vb_ram.proofs.frame.hold_zeros.Goals as goal

pub returns-clause-shown : goal.returns-clause-shown
returns-clause-shown c = let held = c.args.held.now.items in
    let more = c.min.result - vec_len c.args.held.now in
    ap shown c.in-Ok.ensures.items
    ∙ ap (λ (front : List ℕ). shown (front ++ replicate more 0)) (take_all c.min.result held
    (omega (arith, c.requires.more, c.requires.holds.few, c.min.ensures)))
    ∙ shown-more held more (omega (arith, c.requires.more, c.requires.holds.few, c.min.ensures))
