use Rattle.{std.proofs.Common.{◌≡◌, []}, vb_shared.specs.{Rule.pass, Steps.held_of, Passes.Within}}
use Rattle.vb_shared.proofs.steps.return_all.Given as goal

abbrev pub invariant-loop-frame : goal.invariant-loop-frame
invariant-loop-frame l = (l.place.table_id ≡ l.initial.place.table_id)
    × (l.place.me ≡ (pass l.tag (held_of l.place.me.0), []))
    × Within l.frame l.frames (held_of l.place.me.0)
