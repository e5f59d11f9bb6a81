use Rattle.std.proofs.Common.{◌≡◌, ◌∙◌, sym, subst, refl, ℕ, false, List, Option, Some, None, Result, Ok, Err}
use Rattle.vb_core.specs.declared.{device.Device.Device, device.Denial.Denial, ring.UsedEntry.UsedEntry}
use Rattle.vb_core.specs.{Rings.used_entry, Devices.ring_of, Using.use_denial}
use Rattle.vb_monitor.specs.declared.{giving.UsedSpots.UsedSpots, outcome.Tally.Tally}
use Rattle.vb_monitor.specs.{Accesses.Access, Ends.{Whole, Ends}, Machine.{whole, next_chain}, Steps.tally_of}
use Rattle.vb_monitor.specs.Giving.{Then, GivesBackBy, UsedAt, after_use, with_given, used_spots}
use Rattle.vb_monitor.proofs.giving.give_back.Goals as goal

-- what `use_chain` says of the device
abbrev Uses : Whole → ℕ → Device → Device → Result UsedEntry Denial → Type 0
Uses w head d d2 answer =
    ((why : Denial) → use_denial w.kind head d ≡ Some why → (answer ≡ Err why) × (d2 ≡ d)) ×
    (use_denial w.kind head d ≡ None → (answer ≡ Ok (used_entry (ring_of w.kind d) head)) ×
    (d2 ≡ after_use w.kind d))

refused : (o : Option Denial) (w : Whole) (next : Then) (d d2 : Device) (t : Tally) (head : ℕ)
    (why : Denial) (answer : Result UsedEntry Denial) (log : List Access) →
    use_denial w.kind head d ≡ o → answer ≡ Err why → Uses w head d d2 answer →
    Ends w d2 t (Some why) false log → GivesBackBy o w next d t head log
refused None w next d d2 t head why answer log e is uses h = let x = (uses.1 e).0 in absurd cc
refused (Some other) w next d d2 t head why answer log e is uses h =
    let x = uses.0 other e in
    let same : why ≡ other = cc in
    subst (λ (y : Denial). Ends w d t (Some y) false log) same
    (subst (λ (y : Device). Ends w y t (Some why) false log) x.1 h)

used : (o : Option Denial) (w : Whole) (next : Then) (d d2 : Device) (t : Tally) (head : ℕ)
    (entry : UsedEntry) (answer : Result UsedEntry Denial) (spots : Option UsedSpots)
    (log : List Access) → use_denial w.kind head d ≡ o → answer ≡ Ok entry → Uses w head d d2 answer →
    spots ≡ used_spots w.regions entry → UsedAt w (next d2 (with_given t)) d2 t entry spots log →
    GivesBackBy o w next d t head log
used (Some why) w next d d2 t head entry answer spots log e is uses place h =
    let x = (uses.0 why e).0 in absurd cc
used None w next d d2 t head entry answer spots log e is uses place h =
    let x = uses.1 e in
    let same : entry ≡ used_entry (ring_of w.kind d) head = cc in
    subst (λ (y : UsedEntry). UsedAt w (next (after_use w.kind d) (with_given t)) (after_use w.kind d) t y
    (used_spots w.regions y) log) same
    (subst (λ (y : Device). UsedAt w (next y (with_given t)) y t entry (used_spots w.regions entry) log)
    x.1 (subst (λ (o2 : Option UsedSpots). UsedAt w (next d2 (with_given t)) d2 t entry o2 log) place h))

pub returns-in-Err-clause-step : goal.returns-in-Err-clause-step
returns-in-Err-clause-step c after outcome room log h =
    let w = whole c.args.regions.now c.args.kind after outcome in
    refused (use_denial c.args.kind c.args.head c.args.device.now) w
    (next_chain w (tally_of c.args.step.now)) c.args.device.now c.use_chain.new.self
    (tally_of c.args.step.now) c.args.head c.in-Err.why c.use_chain.result log refl c.in-Err.is
    (subst (λ (n : ℕ). Uses w n c.args.device.now c.use_chain.new.self c.use_chain.result)
    c.from.ensures (c.use_chain.ensures.denied, c.use_chain.ensures.used))
    (c.end.ensures.step after outcome room log h)

pub returns-in-None-clause-step : goal.returns-in-None-clause-step
returns-in-None-clause-step c after outcome room log h =
    let w = whole c.args.regions.now c.args.kind after outcome in
    used (use_denial c.args.kind c.args.head c.args.device.now) w
    (next_chain w (tally_of c.args.step.now)) c.args.device.now c.use_chain.new.self
    (tally_of c.args.step.now) c.args.head c.in-Ok.entry c.use_chain.result None log refl c.in-Ok.is
    (subst (λ (n : ℕ). Uses w n c.args.device.now c.use_chain.new.self c.use_chain.result)
    c.from.ensures (c.use_chain.ensures.denied, c.use_chain.ensures.used))
    (sym c.in-None.is ∙ c.used_spots.ensures) (c.fail.ensures.step after outcome room log h)

pub returns-in-Some-clause-step : goal.returns-in-Some-clause-step
returns-in-Some-clause-step c after outcome room log h =
    let w = whole c.args.regions.now c.args.kind after outcome in
    used (use_denial c.args.kind c.args.head c.args.device.now) w
    (next_chain w (tally_of c.args.step.now)) c.args.device.now c.use_chain.new.self
    (tally_of c.args.step.now) c.args.head c.in-Ok.entry c.use_chain.result (Some c.in-Some.spots) log
    refl c.in-Ok.is
    (subst (λ (n : ℕ). Uses w n c.args.device.now c.use_chain.new.self c.use_chain.result)
    c.from.ensures (c.use_chain.ensures.denied, c.use_chain.ensures.used))
    (sym c.in-Some.is ∙ c.used_spots.ensures)
    (c.await_used.ensures.step w c.use_chain.new.self room log h)
