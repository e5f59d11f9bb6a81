-- What is still to come, where a number counts down or a list gets shorter.
use Rattle.std.proofs.Common.{◌≡◌, sym, subst, arith, ℕ, suc, ◌-◌, ◌<◌, Bool, true, false, List}
use Rattle.std.{proofs.Common.{None}, specs.Prelude.◌==◌}
use Rattle.vb_core.specs.declared.device.Device.{Device}
use Rattle.vb_monitor.specs.Notices.{TakesChain, TakesNext, TakesUnlessSpent, AfterGiven}
use Rattle.vb_monitor.specs.{Notices.{with_chains, ServesPublished}, declared.outcome.Tally.Tally}
use Rattle.vb_monitor.specs.{Accesses.Access, Machine.next_chain}
use Rattle.vb_monitor.specs.Ends.{Whole, Ends}

-- the budget, one chain less
takes_by : (m : ℕ) (w : Whole) (d : Device) (t : Tally) (log : List Access) (spent : Bool) →
    (t.pages == 0) ≡ spent →
    TakesUnlessSpent spent w (AfterGiven w (ServesPublished m w)) d (with_chains m t) log →
    TakesNext (suc m) w d t log
takes_by m w d t log spent e h =
    subst (λ (b : Bool). TakesUnlessSpent b w (AfterGiven w (ServesPublished m w)) d
    (with_chains m t) log) (sym e) h

pub takes_next : (n : ℕ) (w : Whole) (d : Device) (t : Tally) (log : List Access) → 0 < n →
    (t.pages == 0) ≡ false →
    TakesChain w (next_chain w (with_chains (n - 1) t)) d (with_chains (n - 1) t) log →
    TakesNext n w d t log
takes_next n w d t log some e h =
    let is : suc (n - 1) ≡ n = omega (arith, some) in
    subst (λ (k : ℕ). TakesNext k w d t log) is (takes_by (n - 1) w d t log false e h)

pub takes_spent : (n : ℕ) (w : Whole) (d : Device) (t : Tally) (log : List Access) → 0 < n
    → (t.pages == 0) ≡ true → Ends w d (with_chains (n - 1) t) None true log → TakesNext n w d t log
takes_spent n w d t log some e h =
    let is : suc (n - 1) ≡ n = omega (arith, some) in
    subst (λ (k : ℕ). TakesNext k w d t log) is (takes_by (n - 1) w d t log true e h)

-- ---- for the functions that go on by them

pub ruleset take_steps = (takes_next, takes_spent)
