-- A device's status and the features that are agreed on: VIRTIO 1.1, 2.1, 2.2 and 3.1.1; which
-- writes are refused and in what order they are tested is the profile's.
-- The headline needs `contains`, `needed_causes` and three of the bits.
use Rattle.std.specs.Prelude.{ℕ, Bool, not, ◌==◌, ◌&&◌, ◌||◌, nat_lt, List, [], ◌∷◌, if◌then◌else◌}
use Rattle.std.specs.Prelude.{Option, None, count_by, bit_and}
use Rattle.std.specs.List.{list_any}
use Rattle.vb_virtio.specs.declared.negotiation.TheConstants.{OFFERED_FEATURES}
use Rattle.vb_virtio.specs.declared.refusals.Refusal.{Refusal}
use Rattle.vb_virtio.specs.declared.refusals.Refusal.TheVariants.{ClearsBit, OutOfOrder}
use Rattle.vb_virtio.specs.declared.refusals.Refusal.TheVariants.{FeatureNotOffered, VersionMissing}
use Rattle.vb_virtio.specs.declared.refusals.Refusal.TheVariants.{NotReady, NeedsReset}
use Rattle.vb_virtio.specs.FirstRefusal.{Cause, ◌⇒◌, first_refusal}
use Rattle.vb_virtio.specs.Features.{version_1}

-- ---- the bits of the status, which has eight

abbrev pub acknowledge : ℕ
acknowledge = 1

abbrev pub driver : ℕ
driver = 2

abbrev pub driver_ok : ℕ
driver_ok = 4

abbrev pub features_ok : ℕ
features_ok = 8

abbrev pub needs_reset : ℕ
needs_reset = 64

abbrev pub failed : ℕ
failed = 128

-- the steps of an initialisation, in their order: VIRTIO 1.1, 3.1.1
abbrev pub steps : List ℕ
steps = acknowledge ∷ driver ∷ features_ok ∷ driver_ok ∷ []

-- two bits that the standard leaves unused, and the one that the device alone sets
abbrev pub not_for_drivers : List ℕ
not_for_drivers = 16 ∷ 32 ∷ needs_reset ∷ []

-- ---- what a write does

abbrev pub contains : ℕ → ℕ → Bool
contains set bits = bit_and set bits == bits

-- the bit is in the write and isn't set yet
abbrev pub adds : ℕ → ℕ → ℕ → Bool
adds status write bit = contains write bit && not (contains status bit)

-- one of these is added
abbrev pub adds_any : ℕ → ℕ → List ℕ → Bool
adds_any status write bits = list_any (adds status write) bits

-- more than one of these is added
abbrev pub adds_more : ℕ → ℕ → List ℕ → Bool
adds_more status write bits = nat_lt 1 (count_by (adds status write) bits)

-- a step is added whose forerunner isn't set
abbrev pub skips : ℕ → ℕ → Bool
skips status write =
    adds status write driver && not (contains status acknowledge)
    || adds status write features_ok && not (contains status driver)
    || adds status write driver_ok && not (contains status features_ok)

-- the device needs a reset, or the driver gave up
abbrev pub is_broken : ℕ → Bool
is_broken status = contains status needs_reset || contains status failed

abbrev pub is_out_of_order : ℕ → ℕ → Bool
is_out_of_order status write =
    adds_more status write steps
    || skips status write
    || adds_any status write not_for_drivers
    || adds status write failed && adds_any status write steps
    || adds_any status write steps && is_broken status

-- ---- the rules

-- the feature that FEATURES_OK asks for: VERSION_1 (VIRTIO 1.1, 2.2 and 6.1)
abbrev pub needed_causes : ℕ → List Cause
needed_causes negotiated = (not (version_1 negotiated) ⇒ VersionMissing) ∷ []

abbrev pub status_causes : ℕ → ℕ → ℕ → List Cause
status_causes status negotiated write =
    (not (contains write status) ⇒ ClearsBit)
    ∷ (is_out_of_order status write ⇒ OutOfOrder)
    ∷ (if adds status write features_ok then needed_causes negotiated else [])

-- why a write of the status is refused, where it is, at these negotiated features; a write of 0
-- resets
abbrev pub status_refusal : ℕ → ℕ → ℕ → Option Refusal
status_refusal status negotiated write =
    if write == 0 then None else first_refusal (status_causes status negotiated write)

abbrev pub negotiate_causes : ℕ → ℕ → List Cause
negotiate_causes status wanted =
    (not (status == 3) ⇒ OutOfOrder)
    ∷ (not (contains OFFERED_FEATURES wanted) ⇒ FeatureNotOffered)
    ∷ []

-- why these features are refused, where they are: they are negotiated between DRIVER and
-- FEATURES_OK
abbrev pub negotiate_refusal : ℕ → ℕ → Option Refusal
negotiate_refusal status wanted = first_refusal (negotiate_causes status wanted)

-- ---- what an initialisation is refused for

-- once the pages have their frames: what the writes of these features and of FEATURES_OK are
-- refused for at ACKNOWLEDGE and DRIVER
abbrev pub feature_causes : ℕ → List Cause
feature_causes wanted =
    (not (contains OFFERED_FEATURES wanted) ⇒ FeatureNotOffered) ∷ needed_causes wanted

-- why a device isn't initialised with these features, where it isn't
abbrev pub feature_refusal : ℕ → Option Refusal
feature_refusal wanted = first_refusal (feature_causes wanted)

-- ---- whether a device or its driver is at work

-- the device is initialised, and neither it nor its driver has failed
abbrev pub is_up : ℕ → Bool
is_up status =
    contains status driver_ok && not (contains status needs_reset || contains status failed)

-- the driver isn't done with the initialisation, or has given up
abbrev pub is_not_ready : ℕ → Bool
is_not_ready status = not (contains status driver_ok) || contains status failed

-- a broken rule was met
abbrev pub has_fault : ℕ → Bool
has_fault status = contains status needs_reset

-- why each of the device's calls is refused that needs a device at work
abbrev pub work_causes : ℕ → List Cause
work_causes status =
    (is_not_ready status ⇒ NotReady) ∷ (contains status needs_reset ⇒ NeedsReset) ∷ []
