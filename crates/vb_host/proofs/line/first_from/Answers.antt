use Rattle.std.proofs.Common.{◌≡◌, ℕ, length, map, subst, arith}
use Rattle.vb_host.specs.Line.{FirstBelow, lined}
use Rattle.vb_host.proofs.Lined.{lined_length}
use Rattle.vb_host.proofs.Lines.{first_of_all}
use Rattle.vb_host.proofs.line.first_from.Goals as goal

pub returns : goal.returns
returns c = let all : c.loop-place.place ≡ length c.args.seats.now = omega arith in
    first_of_all (map (lined c.args.line) c.args.seats.now) (length c.args.seats.now) c.loop-place.first (omega (arith, lined_length c.args.line c.args.seats.now))
    (subst (λ (n : ℕ). FirstBelow (map (lined c.args.line) c.args.seats.now) n c.loop-place.first) all c.loop-place.invariant)
