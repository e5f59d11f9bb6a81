use Rattle.std.proofs.Common.{List, length, arith, ap, refl}
use Rattle.vb_model.specs.declared.calls.Claim.{Claim}
use Rattle.vb_guest.{proofs.Claimed.{claim_answered, noted_alone}, proofs.Exactly.fills_given}
use Rattle.vb_guest.proofs.memory.put_fresh.Goals as goal

pub claim_frame-requires : goal.claim_frame-requires
claim_frame-requires g c = let none = ap (λ (l : List Claim). length l) c.requires.none in
    record { room = omega (arith, none) }

pub returns-in-Err-NoFrame : goal.returns-in-Err-NoFrame
returns-in-Err-NoFrame g c = let did = c.claim_frame.ensures in
    record { exact = search (arith, noted_alone, claim_answered); unasked = did.unasked }

pub returns-in-Err-Memory : goal.returns-in-Err-Memory
returns-in-Err-Memory g c = let did = c.claim_frame.ensures in
    record { exact = search (arith, noted_alone, claim_answered); unasked = did.unasked }

pub returns : goal.returns
returns g c = let did = c.claim_frame.ensures in record {
  exact = fills_given _ refl (claim_answered c.in-Ok.is did.claimed)
      (noted_alone c.in-Ok.is c.requires.none did.noted) did.mem c.supply.ensures.supplied
      c.overwrite.ensures.wrote did.part c.supply.ensures.part c.overwrite.ensures.part;
  unasked = did.unasked;
}
