use Rattle.std.{proofs.Common.{◌≡◌, vec_len, MatchOption}, specs.Bool.⊤}
use Rattle.vb_model.specs.Guest.{Guest}
use Rattle.vb_slot.specs.contracts.lone.LoneSlotGuestSlot.TheImpl.{ghosts}
use Rattle.vb_conformance.proofs.leased.Table.answer_each.Given as goal

abbrev pub invariant-loop-event : goal.invariant-loop-event
invariant-loop-event g l = record {
  guest : MatchOption l.self.guest ⊤ (λ slot. (guest : Guest) × (ghosts g.dyn-1).stands slot guest);
  count : vec_len l.replies ≡ l.event-index;
}
