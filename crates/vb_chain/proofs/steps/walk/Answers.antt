use Rattle.vb_chain.proofs.steps.walk.Goals as goal

pub returns-in-Ok-clause-each_chain : goal.returns-in-Ok-clause-each_chain
returns-in-Ok-clause-each_chain g c pieces gives = (c.in-Ok.ensures.each_chain pieces gives).1

pub returns-in-Ok-clause-each_fault : goal.returns-in-Ok-clause-each_fault
returns-in-Ok-clause-each_fault g c fault gives =
    (let wrong = c.in-Ok.ensures.each_fault fault gives in cc)

pub returns-in-Err-clause-each_chain : goal.returns-in-Err-clause-each_chain
returns-in-Err-clause-each_chain g c pieces gives =
    (let wrong = (c.in-Err.ensures.each_chain pieces gives).0 in cc)

pub returns-in-Err-clause-each_fault : goal.returns-in-Err-clause-each_fault
returns-in-Err-clause-each_fault g c fault gives =
    (let same = c.in-Err.ensures.each_fault fault gives in cc)
