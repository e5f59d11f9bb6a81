use Rattle.std.proofs.Common.{refl, sym, ◌∙◌}
use Rattle.vb_model.specs.declared.calls.Actor.TheVariants.{Worker}
use Rattle.vb_run.proofs.{Keeping.{call_aside, copied_noted, served_quiet}, Lists.contains_at}
use Rattle.vb_run.proofs.{Noted.noted_service, Tended.service_plain}
use Rattle.vb_run.specs.{Past.scripts_in, Services.services}
use Rattle.vb_run.proofs.kept.Kept.serve.Goals as goal

pub invariant_of-self-then-found_nothing : goal.invariant_of-self-then-found_nothing
invariant_of-self-then-found_nothing g c =
    rw (c.in_ok-reserve.ensures.items)
    (served_quiet _ _ _ _ _ c.args.number c.service-call.result _ c.call-reply.result
    c.self.invariant c.service-call.ensures (sym c.found_nothing.ensures ∙ c.if-found_nothing.true)
    (c.call-reply.ensures.step c.self.invariant.now c.self.invariant.stands)
    c.call-reply.ensures.frames)

pub invariant_of-self-2 : goal.invariant_of-self-2
invariant_of-self-2 g c =
    rw (
      c.push_reserved.ensures.items,
      c.in_ok-reserve.ensures.items,
      noted_service c.self.inside.guest c.args.number (scripts_in c.self.inside.scripts.items)
          c.service-call.result c.claims_in-claims.result c.call-reply.result
          c.self.inside.history.items c.service-call.ensures,
      c.claims_in-claims.ensures,
    )
    (call_aside _ _ _ _ _ (Worker c.self.inside.guest) c.service-call.result _ c.call-reply.result
    c.self.invariant tt (
      refl,
      contains_at services c.args.number c.service-call.result c.service-call.ensures,
      sym c.found_nothing.ensures ∙ c.if-found_nothing.false,
    )
    (service_plain c.args.number c.service-call.result c.service-call.ensures)
    (c.call-reply.ensures.step c.self.invariant.now c.self.invariant.stands)
    c.call-reply.ensures.frames)

pub returns-clause-noted : goal.returns-clause-noted
returns-clause-noted g c =
    copied_noted _ _ _ _ c.copy-answer.ensures (sym c.found_nothing.ensures ∙ c.if-found_nothing.false)
    (rw (← c.self.view_is) (
      c.service-call.result,
      c.claims_in-claims.result.items,
      c.service-call.ensures,
      rw (
        c.push_reserved.ensures.items,
        c.in_ok-reserve.ensures.items,
        noted_service c.self.inside.guest c.args.number (scripts_in c.self.inside.scripts.items)
            c.service-call.result c.claims_in-claims.result c.call-reply.result
            c.self.inside.history.items c.service-call.ensures,
      )
          refl,
    ))
