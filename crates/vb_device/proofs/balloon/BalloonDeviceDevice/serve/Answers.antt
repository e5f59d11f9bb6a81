use Rattle.std.proofs.Common.{◌≡◌, ◌∙◌, None, Ok, Option, Result, Some, ap, rules, subst, sym, ℕ}
use Rattle.vb_virtio.specs.declared.refusals.Refusal.{Refusal}
use Rattle.vb_device.proofs.Serves.{ready_to_use, served, still_backed, take_keeps}
use Rattle.vb_device.specs.{Calls.TakesBy, Conditions.serve_refusal}
use Rattle.vb_device.proofs.balloon.BalloonDeviceDevice.serve.Goals as goal

pub use_first-requires-clause-taken : goal.use_first-requires-clause-taken
use_first-requires-clause-taken g c = λ other.
    let free : serve_refusal c.args.queue c.args.self.now.part ≡ None = search rules in
    let takes = rw (c.in-Ok-Some.is ∙ ap Ok c.in-Ok-Some.field-0-is) at c.take.ensures in
    ready_to_use c.args.queue _ _ _ _ _ free takes other

pub use_first-requires-clause-backed : goal.use_first-requires-clause-backed
use_first-requires-clause-backed g c =
    let takes = rw (c.in-Ok-Some.is ∙ ap Ok c.in-Ok-Some.field-0-is) at c.take.ensures in
    still_backed c.args.queue _ _ _ _ _ takes c.requires.backed

pub use_first-requires-clause-none : goal.use_first-requires-clause-none
use_first-requires-clause-none g c =
    let takes = rw (c.in-Ok-Some.is ∙ ap Ok c.in-Ok-Some.field-0-is) at c.take.ensures in
    (take_keeps c.args.queue _ _ _ _ _ takes).loose ∙ c.requires.none

pub returns-in-Ok-Some : goal.returns-in-Ok-Some
returns-in-Ok-Some g c =
    let free : serve_refusal c.args.queue c.args.self.now.part ≡ None = search rules in
    let takes = rw (c.in-Ok-Some.is ∙ ap Ok c.in-Ok-Some.field-0-is) at c.take.ensures in
    served c.args.queue _ _ _ _ _ _ _ free takes c.use_first.ensures
