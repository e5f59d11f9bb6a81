use Rattle.std.proofs.Common.{All}
use Rattle.vb_slot.specs.Spare.{IsSpare}
use Rattle.vb_conformance.proofs.noticed.answer_all.OwnLists.{own-1}
use Rattle.vb_conformance.proofs.noticed.answer_all.Given as goal

abbrev pub invariant-loop : goal.invariant-loop
invariant-loop l = All (λ d. IsSpare ((own-1.entry d.vtable).1.GuestBytes.mem d.value)
    ((own-1.entry d.vtable).1.GuestBytes.part d.value)) l.spares.items
