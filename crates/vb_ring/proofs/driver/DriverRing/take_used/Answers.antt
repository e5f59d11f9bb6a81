use Rattle.std.proofs.Common.{◌≡◌, ◌∙◌, ℕ, true, false, Option, Some, None, Result, Ok, Err, length}
use Rattle.std.proofs.Common.{◌+◌, ◌%◌, sym, ap, subst, arith, rules}
use Rattle.vb_ram.specs.Pages.{Pages}
use Rattle.vb_ring.proofs.driver.DriverRing.take_used.Goals.{then-id-from-via-then-id-from}
use Rattle.vb_ring.proofs.driver.DriverRing.take_used.Goals.{then-id-from-via-else-id-from+then-not-is_head}
use Rattle.vb_ring.specs.contracts.driver.DriverRing.{the_view}
use Rattle.vb_ring.specs.declared.driver.RingBroken.{RingBroken, TheVariants.NotOutstanding}
use Rattle.vb_ring.proofs.Assemble.{takes_by, takes_after, only_unknown, past_unknown}
use Rattle.vb_ring.{proofs.Numbers.length-numbers, specs.Ends.{DriverEnd, IsDriverEnd, outstanding}}
use Rattle.vb_ring.specs.{Calls.TakesUsedBy, Entries.{is_head, next_id, only_head}, Numbers.numbers}
use Rattle.vb_ring.proofs.driver.DriverRing.take_used.Goals as goal

-- what the used ring says next, below the requests that are counted
next_is : (mem : Pages) (old : DriverEnd) (n : ℕ) (r : Result (Option ℕ) RingBroken)
    → IsDriverEnd old → n ≡ length (numbers (is_head old.owner) (length old.owner))
    → next_id mem old.layout old.size old.seen n ≡ r
    → next_id mem old.layout old.size old.seen (outstanding old) ≡ r
next_is mem old n r kept count is = ap (next_id mem old.layout old.size old.seen)
    (sym (count ∙ ap (λ k. length (numbers (is_head old.owner) k)) kept.table)) ∙ is

-- what was answered, by what it is
answer_is : (r : Result (Option ℕ) RingBroken) (o : Option ℕ) (id : ℕ) → Ok o ≡ r → o ≡ Some id
    → r ≡ Ok (Some id)
answer_is r o id a b = cc

answer_none : (r : Result (Option ℕ) RingBroken) (o : Option ℕ) → Ok o ≡ r → o ≡ None → r ≡ Ok None
answer_none r o a b = cc

pub returns-in-Err : goal.returns-in-Err
returns-in-Err g c = let old : DriverEnd = the_view c.self.inside in
    let mem = g.G.GuestBytes.mem c.args.ram.now in
    let next = next_is mem old c.outstanding-most.result (Err c.in-Err.broken) c.self.invariant
    c.outstanding-most.ensures (sym c.in-Err.ensures) in
    subst (λ (v : DriverEnd). TakesUsedBy mem v v (Err c.in-Err.broken)) c.self.view_is
    (takes_by mem old (Err c.in-Err.broken) c.self.invariant
    (length-numbers (is_head old.owner) old.size) (sym (ap (only_head old.owner) next)))

pub returns-in-Ok-None : goal.returns-in-Ok-None
returns-in-Ok-None g c = let old : DriverEnd = the_view c.self.inside in
    let mem = g.G.GuestBytes.mem c.args.ram.now in
    let next = next_is mem old c.outstanding-most.result (Ok None) c.self.invariant
    c.outstanding-most.ensures
    (answer_none _ c.in-Ok-None.field-0 c.in-Ok-None.ensures c.in-Ok-None.field-0-is) in
    subst (λ (v : DriverEnd). TakesUsedBy mem v v (Ok None)) c.self.view_is
    (takes_by mem old (Ok None) c.self.invariant (length-numbers (is_head old.owner) old.size)
    (sym (ap (only_head old.owner) next)))

pub returns-then-id-from : goal.returns-then-id-from
returns-then-id-from g c = let old : DriverEnd = the_view c.self.inside in
    let mem = g.G.GuestBytes.mem c.args.ram.now in
    let next = next_is mem old c.outstanding-most.result (Ok (Some c.in-Ok-Some.id))
    c.self.invariant c.outstanding-most.ensures (answer_is _ c.in-Ok-Some.field-0 c.in-Ok-Some.id
    c.in-Ok-Some.ensures c.in-Ok-Some.field-0-is) in
    let unknown : is_head old.owner c.in-Ok-Some.id ≡ false = elim c.then-id-from.branch [
      | then-id-from-via-then-id-from w ↦
          past_unknown old.owner c.in-Ok-Some.id (omega (arith, c.self.invariant.table))
      | then-id-from-via-else-id-from+then-not-is_head w ↦ sym w.is_head.ensures ∙ search rules
    ] in subst (λ (v : DriverEnd). TakesUsedBy mem v v (Err NotOutstanding)) c.self.view_is
    (takes_by mem old (Err NotOutstanding) c.self.invariant
    (length-numbers (is_head old.owner) old.size) (sym (ap (only_head old.owner) next ∙ only_unknown old.owner c.in-Ok-Some.id unknown)))

pub returns : goal.returns
returns g c = let old : DriverEnd = the_view c.self.inside in
    let mem = g.G.GuestBytes.mem c.args.ram.now in
    let next = next_is mem old c.outstanding-most.result (Ok (Some c.in-Ok-Some.id))
    c.self.invariant c.outstanding-most.ensures (answer_is _ c.in-Ok-Some.field-0 c.in-Ok-Some.id
    c.in-Ok-Some.ensures c.in-Ok-Some.field-0-is) in
    let out : is_head old.owner c.in-Ok-Some.id ≡ true = sym c.is_head.ensures ∙ search rules in
    subst (λ (v : DriverEnd). TakesUsedBy mem v
    (record old { seen = (old.seen + 1) % 65536; owner = c.release.new.self })
    (Ok (Some c.in-Ok-Some.id))) c.self.view_is
    (takes_after mem old c.release.new.self c.in-Ok-Some.id c.self.invariant next out c.release.ensures)

pub release-requires : goal.release-requires
release-requires g c = sym c.is_head.ensures ∙ search rules
