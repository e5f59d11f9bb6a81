-- How a notice ends: by accesses that are still to come, whatever memory answers.
use Rattle.std.specs.Prelude.{◌≡◌, ℕ, Bool, true, false, ◌==◌, bit_and, List, [], ◌∷◌, Option, Some}
use Rattle.std.specs.Prelude.{None}
use Rattle.vb_chain.specs.declared.fault.ChainFault.{ChainFault}
use Rattle.vb_core.specs.declared.kinds.Kind.{Kind}
use Rattle.vb_core.specs.declared.device.Denial.{Denial}
use Rattle.vb_core.specs.declared.device.Denial.TheVariants.{Broken}
use Rattle.vb_core.specs.declared.device.Device.{Device}
use Rattle.vb_core.specs.Devices.{ring_of, needing_reset}
use Rattle.vb_monitor.specs.declared.regions.Region.{Region}
use Rattle.vb_monitor.specs.declared.regions.Spot.{Spot}
use Rattle.vb_monitor.specs.declared.outcome.Tally.{Tally}
use Rattle.vb_monitor.specs.declared.outcome.Outcome.{Outcome}
use Rattle.vb_monitor.specs.Accesses.{Access, ReadWord, Full}
use Rattle.vb_monitor.specs.Regions.{spot}

-- What a notice is of, and what it comes to.
pub record Whole : Type 0 where
  pub regions : List Region
  pub kind : Kind
  pub device : Device
  pub outcome : Outcome

-- Nothing more is asked: the device is as it is now, and this is the outcome.
pub record Stops (w : Whole) (d : Device) (tally : Tally) (why : Option Denial)
    (interrupt more : Bool) (log : List Access) : Type 0 where
  pub nothing : log ≡ []
  pub device : w.device ≡ d
  pub outcome : w.outcome ≡
      record { tally = tally; why = why; interrupt = interrupt; more = more }

-- The driver wants an interrupt where bit 0 of its flags is 0 (VIRTIO 1.1, 2.6.7).
abbrev pub wants_interrupt : ℕ → Bool
wants_interrupt flags = bit_and flags 1 == 0

-- After a full fence the driver's flags are read, once.
pub record AsksFlags (w : Whole) (d : Device) (tally : Tally) (why : Option Denial) (more : Bool)
    (at : Spot) (log : List Access) : Type 0 where
  pub flags : ℕ
  pub rest : List Access
  pub asks : log ≡ Full ∷ ReadWord at flags ∷ rest
  pub then_stops : Stops w d tally why (wants_interrupt flags) more rest

abbrev pub FlagsAt : Whole → Device → Tally → Option Denial → Bool → Option Spot → List Access →
    Type 0
FlagsAt w d tally why more None log = Stops w d tally why false more log
FlagsAt w d tally why more (Some at) log = AsksFlags w d tally why more at log

abbrev pub EndsWhere : Bool → Whole → Device → Tally → Option Denial → Bool → List Access → Type 0
EndsWhere true w d tally why more log =
    FlagsAt w d tally why more (spot w.regions (ring_of w.kind d).avail 2) log
EndsWhere false w d tally why more log = Stops w d tally why false more log

-- The notice ends: where a chain was given back, the driver is asked whether it wants an interrupt.
abbrev pub Ends : Whole → Device → Tally → Option Denial → Bool → List Access → Type 0
Ends w d tally why more log = EndsWhere tally.given w d tally why more log

-- It ends since the guest broke a rule: the device needs a reset.
abbrev pub Breaks : Whole → Device → Tally → ChainFault → List Access → Type 0
Breaks w d tally fault log = Ends w (needing_reset d) tally (Some (Broken fault)) false log
