use Rattle.vb_guest.proofs.Counted.{places_answered}
use Rattle.vb_guest.proofs.queries.places.Goals as goal

pub returns-clause-answer : goal.returns-clause-answer
returns-clause-answer c = λ mem part keeps guest stands.
    places_answered c.places.ensures.counts stands
