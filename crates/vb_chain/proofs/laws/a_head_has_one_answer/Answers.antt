use Rattle.vb_chain.proofs.Unique.{chain_is_one, fault_is_one, chain_or_fault}
use Rattle.vb_chain.proofs.laws.a_head_has_one_answer.Goals as goal

pub returns-clause-chain : goal.returns-clause-chain
returns-clause-chain c = chain_is_one

pub returns-clause-fault : goal.returns-clause-fault
returns-clause-fault c = fault_is_one

pub returns-clause-not_both : goal.returns-clause-not_both
returns-clause-not_both c = chain_or_fault
