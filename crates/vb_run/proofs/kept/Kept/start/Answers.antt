use Rattle.vb_run.specs.Paces.{is_deferred}
use Rattle.vb_run.proofs.Keeping.{kept_start}
use Rattle.vb_run.proofs.kept.Kept.start.Goals as goal

pub invariant_of-result : goal.invariant_of-result
invariant_of-result g c =
    rw (
      c.push_reserved.ensures.items,
      c.in_ok-reserve.ensures.items,
      c.new-history.ensures.items,
      c.claims_in-claims.ensures,
    )
    (kept_start _ _ c.args.guest c.args.sizes (is_deferred c.args.pace) c.args.scripts.items _ c.call-reply.result
    c.requires.config c.requires.begun
    (c.call-reply.ensures.step _ c.requires.fresh) c.call-reply.ensures.frames)
