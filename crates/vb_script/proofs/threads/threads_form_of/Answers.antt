use Rattle.vb_script.specs.Names.{threads_form_of}
use Rattle.vb_script.proofs.threads.threads_form_of.Goals as goal

pub returns : goal.returns
unfolding threads_form_of
returns c = c.find.ensures
