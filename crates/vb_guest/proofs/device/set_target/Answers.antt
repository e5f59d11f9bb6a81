use Rattle.{std.proofs.Common.refl, vb_guest.proofs.{Kept.owns_as, TargetStep.target_stands}}
use Rattle.vb_guest.proofs.{TargetStep.target_step, Rogues.rogue_changed, RogueDevice.target_rogue}
use Rattle.vb_guest.proofs.Standing.{alone_stands, by_guest, honest_is, rogue_is, stands_with}
use Rattle.vb_guest.proofs.device.set_target.Goals as goal

pub returns : goal.returns
returns g c = let part = c.set_target.ensures.part in let memory = c.set_target.ensures.mem in
    let same = owns_as part refl refl in
    record {
      aims = λ keeps d guest stands. stands_with stands same.flag same.numbers refl
          (by_guest stands (λ honest. honest_is _ (target_stands _ memory part honest))
          (λ rogue. rogue_is _ (rogue_changed _ _ memory part rogue)));
      step = λ d keeps guest stands.
          alone_stands stands same (target_step memory part) (target_rogue memory part);
      part = part;
      mem = memory;
    }
