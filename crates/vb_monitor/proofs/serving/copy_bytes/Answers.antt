use Rattle.std.proofs.Common.{refl, rules, arith, ◌∷◌, []}
use Rattle.std.proofs.lemmas.Grind.{common_steps}
use Rattle.vb_monitor.specs.Accesses.{CopyBytes}
use Rattle.vb_monitor.proofs.serving.copy_bytes.Goals as goal

pub returns : goal.returns
returns g c = record {
  log = CopyBytes c.args.at c.copy.new.out ∷ [];
  steps = (c.copy.new.self, c.copy.ensures, refl);
  is = record { bytes = c.copy.new.out; asks = refl; long = search rules; joined = grind (arith, common_steps) };
}
