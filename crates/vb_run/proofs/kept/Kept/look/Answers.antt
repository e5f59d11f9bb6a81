use Rattle.vb_run.{proofs.Keeping.look_aside, proofs.Noted.note_push}
use Rattle.vb_run.proofs.kept.Kept.look.Goals as goal

pub invariant_of-self-2 : goal.invariant_of-self-2
invariant_of-self-2 g c =
    rw (
      c.push_reserved.ensures.items,
      c.in_ok-reserve.ensures.items,
      note_push _ _ c.self.inside.history.items _,
    )
    (look_aside _ _ _ c.args.floor c.spare-spare.result c.self.invariant
    (c.spare-spare.ensures c.self.invariant.now c.self.invariant.stands))
