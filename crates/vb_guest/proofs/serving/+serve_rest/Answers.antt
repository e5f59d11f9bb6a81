use Rattle.std.proofs.Common.{◌≡◌, ◌∙◌, suc, ◌-◌, Ok, None, refl}
use Rattle.std.proofs.Common.{ap, arith, rules, subst, sym}
use Rattle.vb_guest.proofs.Reaching.{first_keeps, loses_both, out_after, rest_ends, rest_over}
use Rattle.vb_guest.proofs.Reaching.{rest_stops, second_keeps, still_moves, then_rest}
use Rattle.vb_guest.proofs.ServeWhole.{reaches_as, reaches_then}
use Rattle.vb_guest.specs.Serving.{RestBy, RestStep}
use Rattle.vb_guest.proofs.serving.+serve_rest.Goals as goal

-- ---- no more may be served

pub returns-then-left-eq0-clause-step : goal.returns-then-left-eq0-clause-step
returns-then-left-eq0-clause-step g t c = λ d keeps guest stands.
    let none : c.args.left ≡ 0 = search rules in record {
      new = guest;
      stands = stands;
      step = subst (λ n. RestStep c.args.queue c.args.chains n
          (record { chains = c.args.chains; broken = None }) guest guest) (sym none)
          (rest_over c.args.queue c.args.chains guest stands);
      moves = still_moves _ _;
    }

-- ---- a chain was served

pub serve_rest-requires : goal.serve_rest-requires
serve_rest-requires g t c κs within =
    let (d, (keeps, guest, stands, held)) = c.requires.stands in
    let first = c.serve_next.ensures.step d keeps guest stands in (
      search rules,
      (
        search rules,
        (
          search rules,
          (
            (
              d,
              (
                keeps,
                first.new,
                first.stands,
                λ e. out_after
                    (g.D.GuestBytes.part c.args.device.now)
                    (g.D.GuestBytes.part c.serve_next.new.device) guest first.new first.moves
                    (stands.own.flag ∙ e) (held e),
              ),
            ),
            omega (arith, c.requires.few),
          ),
        ),
      ),
    )

pub returns-in-Ok-Some-clause-step : goal.returns-in-Ok-Some-clause-step
returns-in-Ok-Some-clause-step g t c = λ d keeps guest stands.
    let told = c.in-Ok-Some.is ∙ ap Ok c.in-Ok-Some.field-0-is in
    let first = c.serve_next.ensures.step d keeps guest stands in
    let rest = c.serve_rest.ensures.step d keeps first.new first.stands in
    let more : c.args.left ≡ suc (c.args.left - 1) = omega arith in
    reaches_then first rest (λ new a b. subst (λ n. RestStep c.args.queue c.args.chains n
    c.serve_rest.result guest new) (sym more) (then_rest c.args.queue c.args.chains
    (c.args.left - 1) _ c.serve_rest.result guest first.new new (rw told at a) b))

pub returns-in-Ok-Some-clause-exact : goal.returns-in-Ok-Some-clause-exact
returns-in-Ok-Some-clause-exact g t c =
    let told = c.in-Ok-Some.is ∙ ap Ok c.in-Ok-Some.field-0-is in
    let more : c.args.left ≡ suc (c.args.left - 1) = omega arith in
    let did = rw told at c.serve_next.ensures.exact in
    subst (λ n. RestBy c.args.queue n c.args.chains (g.D.GuestBytes.mem c.args.device.now)
    (g.D.GuestBytes.mem c.serve_rest.new.device) (g.D.GuestBytes.part c.args.device.now)
    (g.D.GuestBytes.part c.serve_rest.new.device) c.serve_rest.result) (sym more) (
      g.D.GuestBytes.mem c.serve_next.new.device,
      g.D.GuestBytes.part c.serve_next.new.device,
      _,
      did,
      c.serve_rest.ensures.exact,
    )

pub returns-in-Ok-Some-clause-loses : goal.returns-in-Ok-Some-clause-loses
returns-in-Ok-Some-clause-loses g t c =
    loses_both (g.D.GuestBytes.mem c.args.device.now)
    (g.D.GuestBytes.mem c.serve_next.new.device) (g.D.GuestBytes.mem c.serve_rest.new.device)
    c.serve_next.ensures.loses c.serve_rest.ensures.loses

pub returns-in-Ok-Some-clause-quiet : goal.returns-in-Ok-Some-clause-quiet
returns-in-Ok-Some-clause-quiet g t c = λ same.
    let first = c.serve_next.ensures.loses in let second = c.serve_rest.ensures.loses in
    let m1 = g.D.GuestBytes.mem c.args.device.now in
    let m2 = g.D.GuestBytes.mem c.serve_next.new.device in
    let m3 = g.D.GuestBytes.mem c.serve_rest.new.device in
    c.serve_rest.ensures.quiet (second_keeps m1 m2 m3 first second same)
    ∙ c.serve_next.ensures.quiet (first_keeps m1 m2 m3 first second same)

-- ---- none was

pub returns-in-Ok-None-clause-step : goal.returns-in-Ok-None-clause-step
returns-in-Ok-None-clause-step g t c = λ d keeps guest stands.
    let told = c.in-Ok-None.is ∙ ap Ok c.in-Ok-None.field-0-is in
    reaches_as (c.serve_next.ensures.step d keeps guest stands)
    (λ new a. rest_ends c.args.queue c.args.chains c.args.left guest new (rw told at a))

pub returns-in-Ok-None-clause-exact : goal.returns-in-Ok-None-clause-exact
returns-in-Ok-None-clause-exact g t c =
    let told = c.in-Ok-None.is ∙ ap Ok c.in-Ok-None.field-0-is in
    let more : c.args.left ≡ suc (c.args.left - 1) = omega arith in
    let did = rw told at c.serve_next.ensures.exact in
    subst (λ n. RestBy c.args.queue n c.args.chains (g.D.GuestBytes.mem c.args.device.now)
    (g.D.GuestBytes.mem c.serve_next.new.device) (g.D.GuestBytes.part c.args.device.now)
    (g.D.GuestBytes.part c.serve_next.new.device)
    (record { chains = c.args.chains; broken = None })) (sym more) (
      g.D.GuestBytes.mem c.serve_next.new.device,
      g.D.GuestBytes.part c.serve_next.new.device,
      _,
      did,
      (refl, refl, refl),
    )

pub returns-in-Err-clause-step : goal.returns-in-Err-clause-step
returns-in-Err-clause-step g t c = λ d keeps guest stands.
    reaches_as (c.serve_next.ensures.step d keeps guest stands) (λ new a. rw c.stopped.ensures
    (rest_stops c.args.queue c.args.chains c.args.left _ guest new (rw c.in-Err.is at a)))

pub returns-in-Err-clause-exact : goal.returns-in-Err-clause-exact
returns-in-Err-clause-exact g t c =
    let more : c.args.left ≡ suc (c.args.left - 1) = omega arith in
    let did = rw c.in-Err.is at c.serve_next.ensures.exact in
    subst (λ n. RestBy c.args.queue n c.args.chains (g.D.GuestBytes.mem c.args.device.now)
    (g.D.GuestBytes.mem c.serve_next.new.device) (g.D.GuestBytes.part c.args.device.now)
    (g.D.GuestBytes.part c.serve_next.new.device) c.stopped.result) (sym more) (
      g.D.GuestBytes.mem c.serve_next.new.device,
      g.D.GuestBytes.part c.serve_next.new.device,
      _,
      did,
      (c.stopped.ensures, refl, refl),
    )
