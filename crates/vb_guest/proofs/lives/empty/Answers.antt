use Rattle.{std.proofs.Common.ap, vb_ram.specs.Part.Part}
use Rattle.vb_guest.proofs.RestartStep.{all_loose, all_returned, is_bare}
use Rattle.vb_guest.proofs.lives.empty.Goals as goal

pub take_all_back-requires-clause-out : goal.take_all_back-requires-clause-out
take_all_back-requires-clause-out g c =
    let (d, (keeps, guest, stands, held)) = c.requires in all_loose _ stands held

pub returns-clause-bare : goal.returns-clause-bare
returns-clause-bare g c = is_bare _ c.take_all_back.ensures.mem
    (ap (λ (p : Part). p.loose) c.take_all_back.ensures.part)

pub returns-clause-returned : goal.returns-clause-returned
returns-clause-returned g c = λ d keeps guest stands.
    all_returned stands c.take_all_back.ensures.moves
