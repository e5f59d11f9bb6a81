use Rattle.vb_core.proofs.NamedLaws.{named_fault, named_members, named_once}
use Rattle.vb_core.proofs.laws.runs_are_the_pages_of_the_request.Goals as goal

pub returns-clause-fault : goal.returns-clause-fault
returns-clause-fault c = named_fault

pub returns-clause-members : goal.returns-clause-members
returns-clause-members c = named_members

pub returns-clause-once : goal.returns-clause-once
returns-clause-once c = named_once
