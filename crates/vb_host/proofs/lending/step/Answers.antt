use Rattle.std.proofs.Common.{◌≡◌, ℕ, List, ap, subst, ◌∙◌, arith}
use Rattle.vb_host.specs.declared.seat.Seat.{Seat}
use Rattle.vb_host.specs.Lending.{Lending, all_targeted, room}
use Rattle.vb_host.specs.Line.{ByGrants}
use Rattle.vb_host.proofs.Proceeding.{grants_keep}
use Rattle.vb_host.proofs.lending.step.Goals as goal

pub returns : goal.returns
returns c =
    let before : Lending = record { frames = c.happen.new.frames; overdraft = c.args.overdraft; seats = c.happen.new.seats } in
    let granted : Lending = record { frames = c.happen.new.frames; overdraft = c.args.overdraft; seats = c.grant_all.new.seats } in
    let grants : ByGrants before granted = c.grant_all.ensures.grants c.args.overdraft in
    let left : c.left_beside.result ≡ room granted = omega (arith, c.left_beside.ensures, c.claimed-claimed.ensures.value, (grants_keep before granted grants).0) in
    record {
      granted = granted;
      by_grants = subst (λ (m : Lending). ByGrants m granted) c.happen.ensures grants;
      grants_none = c.grant_all.ensures.none c.args.overdraft;
      targets = ap (λ (ss : List Seat). record granted { seats = ss }) (c.target_all.ensures ∙ ap (λ (k : ℕ). all_targeted k granted.seats) left);
    }
