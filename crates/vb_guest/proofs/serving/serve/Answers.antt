use Rattle.std.proofs.Common.{◌≡◌, ◌∙◌, true, false, Ok, None, refl}
use Rattle.std.proofs.Common.{ap, rules}
use Rattle.std.specs.Prelude.{◌==◌}
use Rattle.vb_virtio.specs.declared.layout.TheConstants.{STATISTICS_QUEUE}
use Rattle.vb_guest.proofs.Reaching.{first_keeps, out_after, second_keeps}
use Rattle.vb_guest.proofs.ServeWhole.{as_first, reaches_as, reaches_then, serve_over, serves_buffer}
use Rattle.vb_guest.proofs.ServeWhole.{first_alone, serves_more, serves_none, serves_refused}
use Rattle.vb_guest.proofs.serving.serve.Goals as goal

-- ---- the buffer of statistics

pub returns-then-queue-eq-STATISTICS_QUEUE-clause-step
    : goal.returns-then-queue-eq-STATISTICS_QUEUE-clause-step
returns-then-queue-eq-STATISTICS_QUEUE-clause-step g c =
    let told = c.in-Ok-Some.is ∙ ap Ok c.in-Ok-Some.field-0-is in
    let here : (c.args.queue == STATISTICS_QUEUE) ≡ true = search rules in λ d keeps guest stands.
    serve_over c.args.queue (Ok (record { chains = 1; broken = None }))
    (reaches_as (c.serve_next.ensures.step d keeps guest stands)
    (λ new a. serves_buffer c.args.queue _ guest new here (rw told at a)))

pub returns-then-queue-eq-STATISTICS_QUEUE-clause-exact
    : goal.returns-then-queue-eq-STATISTICS_QUEUE-clause-exact
returns-then-queue-eq-STATISTICS_QUEUE-clause-exact g c =
    let told = c.in-Ok-Some.is ∙ ap Ok c.in-Ok-Some.field-0-is in
    let here : (c.args.queue == STATISTICS_QUEUE) ≡ true = search rules in
    first_alone c.args.queue _ here (rw told at c.serve_next.ensures.exact)

-- ---- chains of requests

pub serve_rest-requires-clause-stands : goal.serve_rest-requires-clause-stands
serve_rest-requires-clause-stands g c =
    let (d, (keeps, guest, stands, held)) = c.requires in
    let first = c.serve_next.ensures.step d keeps guest stands in (
      d,
      (
        keeps,
        first.new,
        first.stands,
        λ e. out_after (g.D.GuestBytes.part c.args.device.now)
            (g.D.GuestBytes.part c.serve_next.new.device) guest first.new first.moves (stands.own.flag ∙ e)
            (held e),
      ),
    )

pub returns-else-queue-eq-STATISTICS_QUEUE-clause-step
    : goal.returns-else-queue-eq-STATISTICS_QUEUE-clause-step
returns-else-queue-eq-STATISTICS_QUEUE-clause-step g c =
    let told = c.in-Ok-Some.is ∙ ap Ok c.in-Ok-Some.field-0-is in
    let other : (c.args.queue == STATISTICS_QUEUE) ≡ false = search rules in λ d keeps guest stands.
    let first = c.serve_next.ensures.step d keeps guest stands in
    let rest = c.serve_rest.ensures.step d keeps first.new first.stands in
    serve_over c.args.queue (Ok c.serve_rest.result) (reaches_then first rest (λ new a b.
    serves_more c.args.queue _ c.serve_rest.result guest first.new new other first.stands
    (rw told at a) b))

pub returns-else-queue-eq-STATISTICS_QUEUE-clause-exact
    : goal.returns-else-queue-eq-STATISTICS_QUEUE-clause-exact
returns-else-queue-eq-STATISTICS_QUEUE-clause-exact g c =
    let told = c.in-Ok-Some.is ∙ ap Ok c.in-Ok-Some.field-0-is in
    let other : (c.args.queue == STATISTICS_QUEUE) ≡ false = search rules in
    as_first c.args.queue _ c.serve_rest.result other (rw told at c.serve_next.ensures.exact)
    c.serve_rest.ensures.exact

pub returns-else-queue-eq-STATISTICS_QUEUE-clause-quiet
    : goal.returns-else-queue-eq-STATISTICS_QUEUE-clause-quiet
returns-else-queue-eq-STATISTICS_QUEUE-clause-quiet g c = λ same.
    let first = c.serve_next.ensures.loses in let second = c.serve_rest.ensures.loses in
    let m1 = g.D.GuestBytes.mem c.args.device.now in
    let m2 = g.D.GuestBytes.mem c.serve_next.new.device in
    let m3 = g.D.GuestBytes.mem c.serve_rest.new.device in
    c.serve_rest.ensures.quiet (second_keeps m1 m2 m3 first second same)
    ∙ c.serve_next.ensures.quiet (first_keeps m1 m2 m3 first second same)

-- ---- none

pub returns-in-Ok-None-clause-step : goal.returns-in-Ok-None-clause-step
returns-in-Ok-None-clause-step g c = λ d keeps guest stands.
    let told = c.in-Ok-None.is ∙ ap Ok c.in-Ok-None.field-0-is in
    serve_over c.args.queue (Ok (record { chains = 0; broken = None }))
    (reaches_as (c.serve_next.ensures.step d keeps guest stands)
    (λ new a. serves_none c.args.queue guest new (rw told at a)))

pub returns-in-Ok-None-clause-exact : goal.returns-in-Ok-None-clause-exact
returns-in-Ok-None-clause-exact g c =
    let told = c.in-Ok-None.is ∙ ap Ok c.in-Ok-None.field-0-is in (
      g.D.GuestBytes.mem c.serve_next.new.device,
      g.D.GuestBytes.part c.serve_next.new.device,
      _,
      rw told at c.serve_next.ensures.exact,
      (refl, refl, refl),
    )

pub returns-in-Err-clause-step : goal.returns-in-Err-clause-step
returns-in-Err-clause-step g c = λ d keeps guest stands. rw c.refused_first.ensures
    (serve_over c.args.queue _ (reaches_as (c.serve_next.ensures.step d keeps guest stands)
    (λ new a. serves_refused c.args.queue _ guest new (rw c.in-Err.is at a))))
