use Rattle.vb_conformance.proofs.leased.Table.call.Goals as goal

pub returns-in-Some : goal.returns-in-Some
returns-in-Some g c = let there = rw c.in-Some.is at c.requires in
    let s = c.call.ensures.step there.0 there.1 in (s.new, s.stands)
