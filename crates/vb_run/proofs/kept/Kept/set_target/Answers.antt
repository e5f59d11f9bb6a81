use Rattle.{std.proofs.Common.refl, vb_run.proofs.{Keeping.call_aside, Noted.note_push}}
use Rattle.vb_model.specs.declared.calls.{Actor.TheVariants.Balancer, Call.TheVariants.SetTarget}
use Rattle.vb_run.proofs.kept.Kept.set_target.Goals as goal

pub invariant_of-self-2 : goal.invariant_of-self-2
invariant_of-self-2 g c =
    rw (
      c.push_reserved.ensures.items,
      c.in_ok-reserve.ensures.items,
      note_push _ _ c.self.inside.history.items _,
      c.claims_in-claims.ensures,
    )
    (call_aside _ _ _ _ _ Balancer (SetTarget c.args.pages) _ c.call-reply.result c.self.invariant
    tt tt refl
    (c.call-reply.ensures.step c.self.invariant.now c.self.invariant.stands)
    c.call-reply.ensures.frames)
