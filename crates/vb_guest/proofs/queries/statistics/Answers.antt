use Rattle.{std.proofs.Common.refl, vb_guest.proofs.Standing.by_guest}
use Rattle.vb_guest.proofs.queries.statistics.Goals as goal

pub returns-clause-answer : goal.returns-clause-answer
returns-clause-answer g c = λ d keeps guest stands.
    let last = by_guest stands (λ honest. honest.ties.parts.device.last)
    (λ rogue. rogue.last) in rw (c.stats.ensures.free, c.stats.ensures.total, last) refl
