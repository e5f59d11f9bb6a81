use Rattle.{std.{proofs.Common.{◌≡◌, take}, specs.Prelude.filter_map}, vb_model.specs.Guest.Guest}
use Rattle.vb_run.proofs.kept.frames_of.Given as goal

abbrev pub invariant-loop-page : goal.invariant-loop-page
invariant-loop-page g l = (h : Guest) → g.S.GuestSlot.stands l.slot h
    → l.frames.items ≡ filter_map (λ frame. frame) (take l.page h.frames)
