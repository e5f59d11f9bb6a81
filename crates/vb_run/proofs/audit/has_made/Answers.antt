use Rattle.std.proofs.Common.{Some, [], ap, arith, false, rules, sym, true, ◌+◌, ◌∙◌, ◌≡◌}
use Rattle.std.proofs.lemmas.{List.take-map, Option.{slice_get-get_or, slice_get_within}}
use Rattle.vb_model.specs.declared.calls.Actor.TheVariants.{Balancer}
use Rattle.vb_run.{proofs.Gathered.{made_next, not_made, noted_at}, specs.Entries.actor_of}
use Rattle.vb_run.specs.{Entries.{entries_by, is_same}, Notes.{history_of, noted_entry}}
use Rattle.vb_run.proofs.audit.has_made.Goals as goal

pub returns-then-not-is_at : goal.returns-then-not-is_at
returns-then-not-is_at c = (
  λ e. cc,
  λ both.
      let at = noted_at c.args.guest c.args.history.now c.loop-note.note-index c.note-item.result
      (slice_get-get_or c.args.history.now c.loop-note.note-index c.note-item.result (search rules)
      ∙ ap Some (search rules)) in
      let own : is_same Balancer (actor_of (noted_entry c.args.guest [] c.note-item.result)) ≡ true =
      search rules in
      absurd (not_made (history_of c.args.guest [] c.args.history.now) c.args.expected.now
      c.loop-note.note-index c.loop-note.place (noted_entry c.args.guest [] c.note-item.result) at own
      (ap (entries_by Balancer) (take-map (noted_entry c.args.guest []) c.loop-note.note-index
      c.args.history.now) ∙ c.loop-note.invariant.made)
      c.loop-note.invariant.within (λ here.
      let is : c.is_at.result ≡ true = c.is_at.ensures.1 here in
      let other : c.is_at.result ≡ false = search rules in
      cc) both),
)

pub loop-note-preserved : goal.loop-note-preserved
loop-note-preserved c =
    let at = noted_at c.args.guest c.args.history.now c.loop-note.note-index c.note-item.result
    (slice_get-get_or c.args.history.now c.loop-note.note-index c.note-item.result (search rules)
    ∙ ap Some (search rules)) in
    let own : is_same Balancer (actor_of (noted_entry c.args.guest [] c.note-item.result)) ≡ true =
    search rules in
    let is : c.is_at.result ≡ true = search rules in
    let here = c.is_at.ensures.0 is in
    let taken = take-map (noted_entry c.args.guest []) c.loop-note.note-index c.args.history.now in
    let after = take-map (noted_entry c.args.guest []) (c.loop-note.note-index + 1) c.args.history.now in
    let next = made_next (history_of c.args.guest [] c.args.history.now) c.args.expected.now
    c.loop-note.note-index c.loop-note.place (noted_entry c.args.guest [] c.note-item.result) at own
    (ap (entries_by Balancer) taken ∙ c.loop-note.invariant.made)
    c.loop-note.invariant.of_rounds here in
    let within = slice_get_within c.args.expected.now c.loop-note.place
    (noted_entry c.args.guest [] c.note-item.result) here.0 in
    record {
      made = sym (ap (entries_by Balancer) after) ∙ next.0;
      within = omega (arith, within);
      of_rounds = next.1;
    }
