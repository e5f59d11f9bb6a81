use Rattle.std.proofs.Common.{◌^◌, ◌<◌, sym, arith, subst, vec_len}
use Rattle.vb_ram.{specs.Pages.Pages, specs.Memory.IsMemory, proofs.PageLemmas.whole-bare}
use Rattle.vb_ram.proofs.memory.Ram.new.Goals as goal

pub invariant_of-result : goal.invariant_of-result
invariant_of-result c = let few : vec_len c.loop-made.all < 2 ^ 32 = omega arith in
    subst (λ (mem : Pages). IsMemory (vec_len c.loop-made.all) mem) (sym c.loop-made.invariant.bare)
    (record { few = few; whole = whole-bare c.loop-made._made })
