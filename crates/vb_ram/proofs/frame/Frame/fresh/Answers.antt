use Rattle.std.proofs.Common.{ℕ, List, ap, arith, length}
use Rattle.vb_ram.specs.Blank.{shown}
use Rattle.vb_ram.proofs.frame.Frame.fresh.Goals as goal

pub returns-clause-ok : goal.returns-clause-ok
returns-clause-ok c = ap (λ (bs : List ℕ). record { number = c.args.number; bytes = shown bs })
    c.in_ok-bytes.ensures.items

pub invariant_of-result : goal.invariant_of-result
invariant_of-result c = record {
  few = omega (arith, ap (λ (bs : List ℕ). length bs) c.in_ok-bytes.ensures.items);
  room = omega (arith, c.in_ok-bytes.ensures.capacity);
}
