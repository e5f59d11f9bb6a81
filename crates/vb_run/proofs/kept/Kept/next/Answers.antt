use Rattle.std.proofs.Common.{Some, ap, refl, rules, slice_get, sym, ◌+◌, ◌∙◌, ◌≡◌}
use Rattle.std.proofs.lemmas.Option.{get_or_from_slice_get, slice_get-get_or}
use Rattle.vb_run.proofs.{Keeping.{call_next, copied_next}, Noted.noted_next}
use Rattle.vb_run.proofs.kept.Kept.next.{Given.Over, Goals.After-advance}
use Rattle.vb_run.proofs.kept.Kept.next.Goals as goal

-- the script, its next call, and how the script goes on
goes_on : (g : Over) (c : After-advance g)
    → (slice_get c.self.inside.scripts.items c.args.cpu ≡ Some c.in-Some.script.now)
    × (slice_get c.in-Some.script.now.calls c.in-Some.script.now.place ≡ Some c.in-Some-next.call.now)
    × (c.advance.new.self ≡ record (c.in-Some.script.now) { place = c.in-Some.script.now.place + 1 })
goes_on g c = let found = c.in-Some.ensures.lookup in
    let there : slice_get c.deref.result.now c.args.cpu ≡ Some c.in-Some.script.now =
    slice_get-get_or c.deref.result.now c.args.cpu c.in-Some.script.now found.3.0
    ∙ ap Some (sym (found.3.1 c.in-Some.script.now)) in
    let here : slice_get c.self.inside.scripts.items c.args.cpu ≡ Some c.in-Some.script.now =
    search (there, rules) in
    let same : c.index_mut.result.now ≡ c.in-Some.script.now =
    c.index_mut.ensures.value
    ∙ get_or_from_slice_get c.self.inside.scripts.items c.args.cpu c.in-Some.script.now
    c.index_mut.result.now here in
    (here, c.in-Some-next.ensures.some.1, rw (sym same) c.advance.ensures)

pub invariant_of-self-2 : goal.invariant_of-self-2
invariant_of-self-2 g c =
    let (here, call, after) = goes_on g (goal.at.invariant_of-self-2 g c).After-advance in
    rw (
      after,
      c.push_reserved.ensures.items,
      c.in_ok-reserve.ensures.items,
      c.place.ensures,
      noted_next c.self.inside.guest c.args.cpu c.self.inside.scripts.items c.in-Some.script.now
          c.in-Some-next.call.now c.claims_in-claims.result c.call-reply.result
          c.self.inside.history.items here call,
      c.claims_in-claims.ensures,
    )
    (call_next _ _ _ _ _ c.args.cpu c.in-Some.script.now c.in-Some-next.call.now _ c.call-reply.result
    c.self.invariant here call
    (c.call-reply.ensures.step c.self.invariant.now c.self.invariant.stands)
    c.call-reply.ensures.frames)

pub returns : goal.returns
returns g c = let (here, call, after) = goes_on g (goal.at.returns g c).After-advance in record {
  noted = copied_next _ _ _ _ _ c.copy-answer.ensures c.map.ensures.cases
      (rw (← c.self.view_is) (
        c.in-Some.script.now,
        c.in-Some-next.call.now,
        c.claims_in-claims.result.items,
        here,
        call,
        rw (
          after,
          c.push_reserved.ensures.items,
          c.in_ok-reserve.ensures.items,
          c.place.ensures,
          noted_next c.self.inside.guest c.args.cpu c.self.inside.scripts.items
              c.in-Some.script.now c.in-Some-next.call.now c.claims_in-claims.result
              c.call-reply.result c.self.inside.history.items here call,
        )
            refl,
      ));
}
