use Rattle.{std.proofs.Common.{ℕ, List, sym, ap, rules}, vb_shared.specs.Steps.held_of}
use Rattle.vb_shared.proofs.Lists.{within_absent, within_whole, within_without}
use Rattle.vb_shared.proofs.pass.FramePass.put_back.Goals as goal

pub returns-then-frame-self-clause-held : goal.returns-then-frame-self-clause-held
returns-then-frame-self-clause-held c = rw (← c.self.view_is)
    (sym (within_absent 0 c.self.inside.frames (held_of c.self.inside.place.me.0) c.args.frame
    c.self.invariant.1.1 (search rules)))

pub returns-then-frame-self-clause-rest : goal.returns-then-frame-self-clause-rest
returns-then-frame-self-clause-rest c = rw (← c.self.view_is) (ap (λ (held : List ℕ). record {
  table = c.self.inside.place.table_id;
  tag = c.self.inside.tag;
  held = held;
  found = c.self.inside.found;
}) (sym (within_whole 0 c.self.inside.frames (held_of c.self.inside.place.me.0) c.args.frame
    c.self.invariant.1.1 (search rules))))

pub invariant_of-self : goal.invariant_of-self
invariant_of-self c =
    let i = c.self.invariant in
    let e = c.return_word.ensures in
    rw e.pass (
      (search rules, i.0.1, i.0.2, i.0.3),
      (
        search rules,
        within_without 0 c.self.inside.frames (held_of c.self.inside.place.me.0) c.args.frame i.1.1,
      ),
    )
