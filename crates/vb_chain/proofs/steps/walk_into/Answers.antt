use Rattle.std.proofs.Common.{ap, refl, Err}
use Rattle.vb_chain.proofs.ChainLaws.{chain_size}
use Rattle.vb_chain.proofs.Unique.{chain_is_one, chain_or_fault, fault_is_one}
use Rattle.vb_chain.proofs.steps.walk_into.Goals as goal

pub returns-in-Ok-clause-short : goal.returns-in-Ok-clause-short
returns-in-Ok-clause-short g c = chain_size _ _ _ _ _ c.in-Ok.ensures.chain

pub returns-in-Ok-clause-each_chain : goal.returns-in-Ok-clause-each_chain
returns-in-Ok-clause-each_chain g c pieces gives =
    (refl, chain_is_one _ _ _ _ _ _ c.in-Ok.ensures.chain gives)

pub returns-in-Ok-clause-each_fault : goal.returns-in-Ok-clause-each_fault
returns-in-Ok-clause-each_fault g c fault gives =
    absurd (chain_or_fault _ _ _ _ _ _ c.in-Ok.ensures.chain gives)

pub returns-in-Err-clause-each_chain : goal.returns-in-Err-clause-each_chain
returns-in-Err-clause-each_chain g c pieces gives =
    absurd (chain_or_fault _ _ _ _ _ _ gives c.in-Err.ensures.fault)

pub returns-in-Err-clause-each_fault : goal.returns-in-Err-clause-each_fault
returns-in-Err-clause-each_fault g c fault gives =
    ap Err (fault_is_one _ _ _ _ _ _ c.in-Err.ensures.fault gives)
