use Rattle.std.proofs.Common.{◌∙◌, ap, true, false, length, List, Bool}
use Rattle.vb_core.specs.Runs.{pages_of_runs}
use Rattle.vb_device.proofs.Marks.{flagged-length}
use Rattle.vb_served.proofs.loose_ram.LooseRamLiveMemory.tell_pages.Goals as goal

pub invariant_of-self : goal.invariant_of-self
invariant_of-self c = (
  c.self.invariant.0,
  c.self.invariant.1,
  ap (λ (flags : List Bool). length flags) c.mark_runs.ensures
      ∙ (flagged-length (pages_of_runs c.args.runs.now) true c.self.inside.ballooned
      ∙ c.self.invariant.2),
)

pub invariant_of-self-in-Deflate : goal.invariant_of-self-in-Deflate
invariant_of-self-in-Deflate c = (
  c.self.invariant.0,
  c.self.invariant.1,
  ap (λ (flags : List Bool). length flags) c.mark_runs-in-Deflate.ensures
      ∙ (flagged-length (pages_of_runs c.args.runs.now) false c.self.inside.ballooned
      ∙ c.self.invariant.2),
)
