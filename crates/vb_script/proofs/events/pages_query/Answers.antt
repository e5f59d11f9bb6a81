use Rattle.vb_script.specs.Names.{pages_query_of}
use Rattle.vb_script.proofs.events.pages_query.Goals as goal

pub returns : goal.returns
unfolding pages_query_of
returns c = c.find.ensures
