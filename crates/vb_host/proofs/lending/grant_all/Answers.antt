use Rattle.std.proofs.Common.{◌+◌, ◌≤◌, List, subst, sym, arith}
use Rattle.vb_host.specs.declared.seat.Seat.{Seat}
use Rattle.vb_host.specs.Lending.{Lending, owed, waited}
use Rattle.vb_host.specs.Line.{ByGrants, GrantsNone}
use Rattle.vb_host.proofs.AllGranted.{all_by_grants, all_granted}
use Rattle.vb_host.proofs.Grants.{how_many, more_grants}
use Rattle.vb_host.proofs.Proceeding.{grants_keep}
use Rattle.vb_host.proofs.lending.grant_all.Goals as goal

pub returns-then-claimed-from-clause-grants : goal.returns-then-claimed-from-clause-grants
returns-then-claimed-from-clause-grants c = λ overdraft.
    let before : Lending = record { frames = c.args.frames; overdraft = overdraft; seats = c.args.seats.now } in
    let covered : Lending = record { frames = c.args.frames; overdraft = overdraft; seats = c.grant_covered.new.seats } in
    let grants : ByGrants before covered = c.grant_covered.ensures.grants overdraft in
    let room : owed covered.seats + waited covered.seats ≤ c.args.frames = omega (arith, (grants_keep before covered grants).0, c.requires, c.if-claimed-from.true, c.from.ensures) in
    subst (λ (xs : List Seat). ByGrants before (record { frames = c.args.frames; overdraft = overdraft; seats = xs })) (sym c.grant_each.ensures)
    (more_grants _ _ _ grants (all_by_grants (how_many covered.seats) covered (omega arith) c.grant_covered.ensures.none room))

pub returns-then-claimed-from-clause-none : goal.returns-then-claimed-from-clause-none
returns-then-claimed-from-clause-none c = λ overdraft.
    subst (λ (xs : List Seat). GrantsNone (record { frames = c.args.frames; overdraft = overdraft; seats = xs })) (sym c.grant_each.ensures)
    (all_granted (record { frames = c.args.frames; overdraft = overdraft; seats = c.grant_covered.new.seats }))

pub returns-else-claimed-from-clause-grants : goal.returns-else-claimed-from-clause-grants
returns-else-claimed-from-clause-grants c = λ overdraft. more_grants _ _ _ (c.grant_covered.ensures.grants overdraft) (c.grant_in_turn.ensures.grants overdraft)
