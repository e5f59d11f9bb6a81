use Rattle.{std.proofs.Common.{[], ◌∷◌}, vb_slot.proofs.AloneSteps.{are_out, alone_steps}}
use Rattle.vb_slot.proofs.lone.LoneSlotGuestSlot.call.Goals as goal

pub call-requires : goal.call-requires
call-requires g c =
    let guest = c.requires.stands.0 in
    let alone = c.requires.stands.1 in
    record {
      stands = (
        alone.0,
        guest,
        alone.1,
        are_out alone.0 _ _ _ guest (c.new.result.out ∷ []) alone.1 alone.2,
      );
    }

pub returns-clause-step : goal.returns-clause-step
returns-clause-step g c = λ guest alone. alone_steps alone.0 _ _ _ _
    _ _ _ _ _ _ guest _ _ c.new.ensures alone.1 alone.2 (c.call.ensures.step alone.0 guest alone.1)
