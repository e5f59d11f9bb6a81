use Rattle.std.proofs.Common.{◌≡◌, ◌∙◌, sym, ap, ℕ, bit_or, false, None, Some, is_err}
use Rattle.vb_virtio.specs.declared.refusals.Refusal.{Refusal}
use Rattle.vb_virtio.specs.Status.{negotiate_refusal, status_refusal}
use Rattle.vb_model.specs.Life.{accepted_before}
use Rattle.vb_ram.specs.Part.{Part}
use Rattle.vb_status.specs.{After.part_after_reset, Answers.refusal_of_fault}
use Rattle.vb_driver.specs.{State.DriverState, Calls.GivesUp, contracts.driver.Driver.the_view}
use Rattle.vb_driver.proofs.Starting.{offered_then, accepted_then, none_ok, at_ok}
use Rattle.vb_driver.proofs.driver.Driver.negotiate.Goals as goal

pub returns-in-Err : goal.returns-in-Err
returns-in-Err g c = let d = the_view c.self.inside in
    let m1 = g.P.GuestBytes.mem c.args.port.now in
    let m2 = g.P.GuestBytes.mem c.give_up-in-Err.new.port in
    let p1 = g.P.GuestBytes.part c.args.port.now in
    let began = g.P.GuestBytes.part c.begin.new.port in
    let agreed = g.P.GuestBytes.part c.negotiate.new.self in
    let p2 = g.P.GuestBytes.part c.give_up-in-Err.new.port in let w : ℕ = c.args.wanted.0 in
    let refusal : Refusal = refusal_of_fault c.in-Err.fault in
    let fine : is_err c.negotiate.result ≡ false = sym c.is_err.ensures.value ∙ c.if-is_err.false in
    let three : began.status ≡ 3 = ap (λ (p : Part). p.status) c.begin.ensures.part in
    let offered : negotiate_refusal 3 w ≡ None = ap (λ (n : ℕ). negotiate_refusal n w) (sym three)
    ∙ (sym c.negotiate.ensures.answer ∙ none_ok c.negotiate.result fine) in
    let took : agreed ≡ record began { features = w } =
    at_ok c.negotiate.result _ fine c.negotiate.ensures.ok in
    let here : agreed ≡ record (part_after_reset p1) { status = 3; features = w } =
    took ∙ ap (λ (p : Part). record p { features = w }) c.begin.ensures.part in
    let bits : c.union-agreed.result.0 ≡ 11 = c.union-agreed.ensures tt
    ∙ ap (λ (n : ℕ). bit_or n 8) (c.status.ensures ∙ ap (λ (p : Part). p.status) here) in
    let answer : Some refusal ≡ status_refusal 3 w 11 = c.in-Err.ensures.answer
    ∙ (ap (λ (p : Part). status_refusal p.status p.features c.union-agreed.result.0) here
    ∙ ap (status_refusal 3 w) bits) in
    let same : accepted_before refusal w ≡ w = accepted_then refusal answer in
    let part : p2 ≡ record (part_after_reset p1) { status = 131; features = w } =
    c.give_up-in-Err.ensures.part ∙ ap (λ (p : Part). record p { status = bit_or p.status 128 })
    (c.in-Err.ensures.err ∙ here) in
    let gives : GivesUp m1 m2 p1 p2 c.args.self.now
    (record d { features = w; actual = 0 }) w = record {
      mem = c.give_up-in-Err.ensures.mem
          ∙ (c.write_status.ensures.mem ∙ (c.negotiate.ensures.mem ∙ c.begin.ensures.mem));
      part = part;
      driver = ap (λ (v : DriverState). record v { features = w; actual = 0 })
          (c.self.view_is ∙ c.renew.ensures.state);
    } in
    let told : GivesUp m1 m2 p1 p2 c.args.self.now (record d { features = w; actual = 0 })
    (accepted_before c.refusal_of.result w) = rw c.refusal_of.ensures (rw same gives) in record {
      refusal = ap Some c.refusal_of.ensures ∙ (answer ∙ sym (offered_then w offered));
      refused = told;
      agrees = tt;
    }
