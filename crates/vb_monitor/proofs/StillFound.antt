-- What a notice does by what is found, where memory stays as it is.
use Rattle.std.proofs.Common.{◌≡◌, ◌∙◌, ap, subst, [], refl, arith, ℕ, ◌+◌, ◌*◌, ◌%◌, ◌<◌, Bool, true}
use Rattle.std.proofs.Common.{false, List, ◌∷◌, Option, Some, None, Result, Ok, Err}
use Rattle.std.specs.Prelude.{if◌then◌else◌}
use Rattle.std.proofs.lemmas.Bool.Decides.{nat_tests}
use Rattle.vb_chain.{specs.declared.fault.ChainFault.ChainFault}
use Rattle.vb_chain.specs.declared.fault.ChainFault.TheVariants.{IndexJump}
use Rattle.vb_ring.specs.declared.device.Taken.{Taken}
use Rattle.vb_core.{specs.declared.ring.Virtqueue.Virtqueue, specs.declared.device.Denial.Denial}
use Rattle.vb_core.specs.declared.device.Device.{Device}
use Rattle.vb_core.{specs.declared.device.Denial.TheVariants.Broken, specs.Devices.needing_reset}
use Rattle.vb_monitor.{specs.declared.outcome.Tally.Tally, specs.declared.outcome.Outcome.Outcome}
use Rattle.vb_monitor.{specs.Accesses.Access, specs.Machine.serves}
use Rattle.vb_monitor.specs.Still.{AfterReads}
use Rattle.vb_monitor.{specs.Ends.{Whole, EndsWhere}, specs.Notices.entry_offset}

pub one_after : (still : List Access → Type 0) (does : List Access →
    Type 0) (x : Access) (rest log : List Access) → log ≡ x ∷ rest →
    AfterReads still does rest → AfterReads still does log
one_after still does x rest log e h = record {
  read = x ∷ h.read;
  rest = h.rest;
  all = e ∙ ap (λ (l : List Access). x ∷ l) h.all;
  is = h.is;
  still_so = h.still_so;
}

abbrev pub ByFound : (List Access → Type 0) → Result (Option Taken) ChainFault → Whole → Device →
    Tally → List Access → Type 0
ByFound still (Err f) w d t log = (w.outcome.why ≡ Some (Broken f)) ×
    (w.device ≡ needing_reset d) × still []
ByFound still (Ok None) w d t log = (w.outcome.why ≡ None) × (w.device ≡ d) × still []
ByFound still (Ok (Some taken)) w d t log = AfterReads still
    (serves w t d taken.head taken.chain) log

pub one_more : (still : List Access → Type 0) (found : Result (Option Taken) ChainFault)
    (w : Whole) (d : Device) (t : Tally)
    (x : Access) (rest log : List Access) → log ≡ x ∷ rest → ByFound still found w d t rest →
    ByFound still found w d t log
one_more still (Err f) w d t x rest log e h = h
one_more still (Ok None) w d t x rest log e h = h
one_more still (Ok (Some taken)) w d t x rest log e h =
    one_after still (serves w t d taken.head taken.chain) x rest log e h

-- nothing was given back before
pub ends_so : (still : List Access → Type 0) (given : Bool) (w : Whole) (d : Device) (t : Tally)
    (why : Option Denial) (more : Bool)
    (log : List Access) → given ≡ false → still log → EndsWhere given w d t why more log →
    (w.outcome.why ≡ why) × (w.device ≡ d) × still []
ends_so still true w d t why more log e stays h = absurd cc
ends_so still false w d t why more log e stays h =
    (ap (λ (o : Outcome). o.why) h.outcome, h.device, subst still h.nothing stays)

-- ---- the entry

abbrev pub found_by : Result Bool ChainFault → ℕ → Result (Option ℕ) ChainFault
found_by (Err f) head = Err f
found_by (Ok false) head = Ok None
found_by (Ok true) head = Ok (Some head)

pub tests_alike : (z fits : Bool) (head : ℕ) →
    (if z then Ok None else (if fits then Ok (Some head) else Err IndexJump)) ≡
    found_by (if z then Ok false else (if fits then Ok true else Err IndexJump)) head
tests_alike true fits head = refl
tests_alike false true head = refl
tests_alike false false head = refl

pub offset_so : (r : Virtqueue) → 0 < r.size → entry_offset r ≡ 4 + 2 * (r.next_avail % r.size)
offset_so r least = grind (arith, nat_tests)
