use Rattle.std.proofs.Common.{rules, ◌≡◌, [], ◌∷◌, ◌++◌, sym, ◌∙◌, drop}
use Rattle.std.proofs.lemmas.Option.{get_or_from_slice_get}
use Rattle.vb_run.specs.Paces.{is_deferred}
use Rattle.vb_run.{proofs.Lists.some_same, proofs.Starting.{drop_head, swapped}}
use Rattle.vb_run.proofs.run.reports_of.Goals as goal

pub loop-guest-preserved : goal.loop-guest-preserved
loop-guest-preserved g c =
    let made : c.push.new.self.items ≡ c.loop-guest.reports.items ++ c.in_ok-report.report ∷ [] =
    search rules in
    let head : drop c.loop-guest.guest c.args.seats.items ≡ c.in-Some.seat
    ∷ c.next.new.self.rest.items = sym c.loop-guest.invariant.rest ∙ (search rules) in
    let left = drop_head c.args.seats.items c.loop-guest.guest c.in-Some.seat
    c.next.new.self.rest.items head in
    let number : c.in-Ok.number ≡ c.loop-guest.guest = search rules in
    record {
      made = search rules;
      rest = sym left.1;
      each = rw made
          (swapped (λ s. is_deferred s.pace) c.args.floor c.args.plan.now c.args.seats.items c.args.rounds.now
          c.loop-guest.reports.items c.in_ok-report.report c.loop-guest.invariant.each
          (rw c.loop-guest.invariant.made (λ p s h its.
          let same : c.index-plan-guest.result ≡ p =
          c.index-plan-guest.is
          ∙ get_or_from_slice_get c.args.plan.now c.loop-guest.guest p c.index-plan-guest.result h in
          let own : c.in-Some.seat ≡ s = some_same c.in-Some.seat s (sym left.0 ∙ its) in
          rw (sym same, sym own, sym number) c.in_ok-report.ensures)));
    }
