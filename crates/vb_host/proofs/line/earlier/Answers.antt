use Rattle.std.proofs.Common.{ℕ, Option, map, subst, arith}
use Rattle.vb_host.specs.Seats.{newcomer, rank}
use Rattle.vb_host.specs.Line.{FirstBelow, lined}
use Rattle.vb_host.proofs.Lined.{lined_held, lined_rank}
use Rattle.vb_host.proofs.Lines.{first_same, first_new, first_earlier, first_stays}
use Rattle.vb_host.proofs.Places.{value_is}
use Rattle.vb_host.proofs.line.earlier.Goals as goal

pub returns-then-held_from-eq0 : goal.returns-then-held_from-eq0
returns-then-held_from-eq0 c = first_same (map (lined c.args.line) c.args.seats.now) c.args.place c.args.first
    (omega (arith, lined_held c.args.line c.args.place c.args.seats.now (newcomer 0) c.requires.place, c.held_from.ensures, c.if-held_from-eq0.true)) c.requires.first

pub returns-in-None : goal.returns-in-None
returns-in-None c = let none = subst (λ (o : Option ℕ). FirstBelow (map (lined c.args.line) c.args.seats.now) c.args.place o) c.in-None.is c.requires.first in
    first_new (map (lined c.args.line) c.args.seats.now) c.args.place
    (omega (arith, lined_held c.args.line c.args.place c.args.seats.now (newcomer 0) c.requires.place, c.held_from.ensures, c.if-held_from-eq0.false)) none

pub returns-then-own-before : goal.returns-then-own-before
returns-then-own-before c = let some = subst (λ (o : Option ℕ). FirstBelow (map (lined c.args.line) c.args.seats.now) c.args.place o) c.in-Some.is c.requires.first in
    let t = value_is rank c.args.place c.args.seats.now (newcomer 0) c.requires.place in
    let u = value_is rank c.in-Some.other c.args.seats.now (newcomer 0) (omega (arith, some.0, c.requires.place)) in
    first_earlier (map (lined c.args.line) c.args.seats.now) c.args.place c.in-Some.other
    (omega (arith, lined_held c.args.line c.args.place c.args.seats.now (newcomer 0) c.requires.place, c.held_from.ensures, c.if-held_from-eq0.false))
    (omega (arith, t, u, lined_rank c.args.line c.args.place c.args.seats.now, lined_rank c.args.line c.in-Some.other c.args.seats.now, c.rank-own.ensures, c.rank-before.ensures, c.if-own-before.true)) some

pub returns-else-own-before : goal.returns-else-own-before
returns-else-own-before c = let some = subst (λ (o : Option ℕ). FirstBelow (map (lined c.args.line) c.args.seats.now) c.args.place o) c.in-Some.is c.requires.first in
    let t = value_is rank c.args.place c.args.seats.now (newcomer 0) c.requires.place in
    let u = value_is rank c.in-Some.other c.args.seats.now (newcomer 0) (omega (arith, some.0, c.requires.place)) in
    first_stays (map (lined c.args.line) c.args.seats.now) c.args.place c.in-Some.other
    (omega (arith, t, u, lined_rank c.args.line c.args.place c.args.seats.now, lined_rank c.args.line c.in-Some.other c.args.seats.now, c.rank-own.ensures, c.rank-before.ensures, c.if-own-before.false)) some
