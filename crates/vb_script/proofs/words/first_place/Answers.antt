use Rattle.std.proofs.Common.{◌==◌, rules, tests, sym, ◌∙◌, arith, take}
use Rattle.std.proofs.lemmas.Iterator.{YieldsList-from_slice, Search.position_from_yields_List}
use Rattle.vb_script.proofs.Cuts.{found_near}
use Rattle.vb_script.proofs.words.first_place.Goals as goal

pub returns-in-Some : goal.returns-in-Some
returns-in-Some c =
    let found = position_from_yields_List (λ x. x == c.args.byte) _ _ c.position.result
    c.position.ensures.ran (YieldsList-from_slice (take c.min-near.result c.args.text.now) cc)
    (λ x b q k. search (rules, tests)) in
    found_near c.args.byte c.min-near.result c.args.text.now c.in-Some.place
    (omega (arith, c.min-near.ensures)) (sym c.in-Some.is ∙ found)
