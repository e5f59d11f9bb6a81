use Rattle.std.proofs.Common.{arith, ◌≡◌, ℕ, true, Option, Some, None, Result, Ok, rules}
use Rattle.vb_chain.specs.declared.fault.ChainFault.{ChainFault}
use Rattle.vb_ring.specs.contracts.device.Queue.{the_view}
use Rattle.vb_ring.{specs.declared.device.Taken.Taken, specs.Ends.{DeviceEnd, IsDeviceEnd}}
use Rattle.vb_ring.proofs.Pops.{pops_idle, pops_none, pops_chain, pops_fault}
use Rattle.vb_ring.proofs.device.Queue.pop_descriptor_chain_into.Goals as goal

-- what was answered, by what it is
answer_is : (r : Result (Option ℕ) ChainFault) (o : Option ℕ) (h : ℕ) → Ok o ≡ r → o ≡ Some h
    → r ≡ Ok (Some h)
answer_is r o h a b = cc

answer_none : (r : Result (Option ℕ) ChainFault) (o : Option ℕ) → Ok o ≡ r → o ≡ None → r ≡ Ok None
answer_none r o a b = cc

pub returns-then-not-self-clause-pops : goal.returns-then-not-self-clause-pops
returns-then-not-self-clause-pops g c = grind (arith, pops_idle)

pub returns-in_default-clause-pops : goal.returns-in_default-clause-pops
returns-in_default-clause-pops g c = grind (arith, pops_none, answer_none)

pub returns-in-Ok-clause-pops : goal.returns-in-Ok-clause-pops
returns-in-Ok-clause-pops g c = let old : DeviceEnd = the_view c.self.inside in
    let is_end : IsDeviceEnd old = c.self.invariant in
    let ready : c.self.inside.ready ≡ true = search rules in
    let taken : Taken = record { head = c.in-Some.head; chain = c.walk_into.new.chain } in
    rw (← c.self.view_is) (pops_chain (g.G.GuestBytes.mem c.args.ram.now) old taken is_end ready
    (answer_is _ c.in_ok-head.field-0 c.in-Some.head c.in_ok-head.ensures c.in-Some.is)
    c.in-Ok.ensures.chain (λ pieces gives. (c.in-Ok.ensures.each_chain pieces gives).1)
    (λ f gives. (let wrong = c.in-Ok.ensures.each_fault f gives in cc)))

pub returns-in-Err-clause-pops : goal.returns-in-Err-clause-pops
returns-in-Err-clause-pops g c = let old : DeviceEnd = the_view c.self.inside in
    let is_end : IsDeviceEnd old = c.self.invariant in
    let ready : c.self.inside.ready ≡ true = search rules in rw (← c.self.view_is)
    (pops_fault (g.G.GuestBytes.mem c.args.ram.now) old c.in-Some.head c.in-Err.fault is_end ready
    (answer_is _ c.in_ok-head.field-0 c.in-Some.head c.in_ok-head.ensures c.in-Some.is)
    (λ pieces gives. (let wrong = (c.in-Err.ensures.each_chain pieces gives).0 in cc))
    (λ f gives. (let same = c.in-Err.ensures.each_fault f gives in cc)))
