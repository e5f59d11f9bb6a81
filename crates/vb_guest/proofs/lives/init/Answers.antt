use Rattle.std.proofs.Common.{◌≡◌, ◌∙◌, List, length, arith, sym, ap, refl}
use Rattle.{std.proofs.Common.Err, vb_model.specs.declared.calls.Claim.Claim}
use Rattle.vb_frames.specs.declared.keeper.Refused.TheVariants.{NoFrame, Memory}
use Rattle.vb_guest.proofs.{Asked.is_large, RogueLives.{init_up_rogue, init_unsupplied_rogue}}
use Rattle.vb_guest.proofs.{RogueLives.{init_supplied_rogue, still_large_rogue}, Exactly.begins}
use Rattle.vb_guest.proofs.{Kept.as_it_was, Standing.{by_guest, alone_stands, over_stands}}
use Rattle.vb_guest.proofs.{Standing.steps_quiet, InitStep.{init_up, known_answer, init_unsupplied}}
use Rattle.vb_guest.proofs.InitStep.{still_large, init_supplied, first_noted, by_size, few_bare}
use Rattle.vb_guest.proofs.lives.init.Goals as goal

pub returns-then-bits-ne0 : goal.returns-then-bits-ne0
returns-then-bits-ne0 g c = record {
  exact = record {
    up = λ _. (refl, record { mem = refl; part = refl; driver = refl }, refl, c.clear.ensures);
    new = λ e. absurd (c.if-bits-ne0.true (c.bits.ensures tt ∙ c.status.ensures ∙ e));
  };
  step = λ keeps guest stands. rw c.clear.ensures (steps_quiet stands (alone_stands stands
      (as_it_was refl) (init_up (λ e. c.if-bits-ne0.true (c.bits.ensures tt ∙ c.status.ensures ∙ e)))
      (init_up_rogue (λ e. c.if-bits-ne0.true (c.bits.ensures tt ∙ c.status.ensures ∙ e)))));
  quiet = λ none. refl;
  unasked = λ e. refl;
}

pub supply_from-requires : goal.supply_from-requires
supply_from-requires g c = let (keeps, guest, stands) = c.requires in record {
  none = λ e. stands.own.none (sym stands.own.flag ∙ e);
  memory = is_large stands;
  room = omega (
    arith,
    ap (λ (l : List Claim). length l) c.clear.ensures,
    few_bare c.shape.result.queue_size (g.D.GuestBytes.mem c.args.device.now),
  );
}

pub init-requires : goal.init-requires
init-requires g c = let (keeps, guest, stands) = c.requires in
    let did = by_size _ c.shape.ensures c.in-Ok.ensures.supplies in
    record {
      memory = by_guest stands
          (λ honest. still_large honest did) (λ rogue. still_large_rogue rogue did);
    }

pub returns-in-Ok : goal.returns-in-Ok
returns-in-Ok g c = let new : (g.D.GuestBytes.part c.args.device.now).status ≡ 0 = search arith in
    let did = by_size _ c.shape.ensures c.in-Ok.ensures.supplies in
    record {
      exact = begins new c.in-Ok.ensures.part
          (first_noted c.clear.ensures did) (rw (← c.from_bits_retain.ensures tt) c.init.ensures);
      step = λ keeps guest stands. over_stands _ _ stands (init_supplied _ _
          (c.from_bits_retain.ensures tt) new (first_noted c.clear.ensures did) c.in-Ok.ensures.part
          c.init.ensures) (init_supplied_rogue _ _ (c.from_bits_retain.ensures tt)
          new (first_noted c.clear.ensures did) c.in-Ok.ensures.part c.init.ensures);
      quiet = λ none. c.in-Ok.ensures.quiet (none ∙ sym c.clear.ensures);
      unasked = c.in-Ok.ensures.unasked;
    }

pub returns-in-Err-NoFrame : goal.returns-in-Err-NoFrame
returns-in-Err-NoFrame g c =
    let new : (g.D.GuestBytes.part c.args.device.now).status ≡ 0 = search arith in
    let did = known_answer (c.in-Err-NoFrame.is ∙ ap Err c.in-Err-NoFrame.field-0-is)
    (by_size _ c.shape.ensures c.supply_from.ensures.supplies) in
    record {
      exact = begins new c.supply_from.ensures.part (first_noted c.clear.ensures did)
          (refl, record { mem = refl; part = refl; driver = refl });
      step = λ keeps guest stands. over_stands _ _ stands (init_unsupplied _ _ NoFrame refl new
          (first_noted c.clear.ensures did) c.supply_from.ensures.part) (init_unsupplied_rogue
          _ _ NoFrame refl new (first_noted c.clear.ensures did) c.supply_from.ensures.part);
      quiet = λ none. c.supply_from.ensures.quiet (none ∙ sym c.clear.ensures);
      unasked = c.supply_from.ensures.unasked;
    }

pub returns-in-Err-Memory : goal.returns-in-Err-Memory
returns-in-Err-Memory g c =
    let new : (g.D.GuestBytes.part c.args.device.now).status ≡ 0 = search arith in
    let did = known_answer (c.in-Err-Memory.is ∙ ap Err c.in-Err-Memory.field-0-is)
    (by_size _ c.shape.ensures c.supply_from.ensures.supplies) in
    record {
      exact = begins new c.supply_from.ensures.part (first_noted c.clear.ensures did)
          (refl, record { mem = refl; part = refl; driver = refl });
      step = λ keeps guest stands. over_stands _ _ stands (init_unsupplied _ _ Memory refl new
          (first_noted c.clear.ensures did) c.supply_from.ensures.part) (init_unsupplied_rogue
          _ _ Memory refl new (first_noted c.clear.ensures did) c.supply_from.ensures.part);
      quiet = λ none. c.supply_from.ensures.quiet (none ∙ sym c.clear.ensures);
      unasked = c.supply_from.ensures.unasked;
    }
