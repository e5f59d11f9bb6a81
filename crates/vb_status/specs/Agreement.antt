-- What a driver and its device agree on, request by request, until the device is ready:
-- VIRTIO 1.1, 3.1.1.
use Rattle.std.specs.Prelude.{◌≡◌, ℕ, ◌^◌, ◌<◌, ◌==◌, List, [], ◌∷◌, Option, Some}
use Rattle.std.specs.Prelude.{None, if◌then◌else◌, ◌≢◌}
use Rattle.vb_virtio.specs.declared.negotiation.TheConstants.{OFFERED_FEATURES, READY_STATUS}
use Rattle.vb_virtio.specs.declared.refusals.Refusal.{Refusal}
use Rattle.vb_virtio.specs.Status.{feature_refusal, contains, status_refusal, negotiate_refusal}

pub data StatusRequest : Type 0 where
  Write : ℕ → StatusRequest
  Negotiate : ℕ → StatusRequest

pub record Agreement : Type 0 where
  pub status : ℕ
  pub features : ℕ

-- why the request is refused, where it is
abbrev pub refusal_of_request : Agreement → StatusRequest → Option Refusal
refusal_of_request a (Write status) = status_refusal a.status a.features status
refusal_of_request a (Negotiate wanted) = negotiate_refusal a.status wanted

-- what a request that is accepted leaves; a write of 0 resets
abbrev pub after_request : Agreement → StatusRequest → Agreement
after_request a (Write status) =
    if status == 0 then record { status = 0; features = 0 } else record a { status = status }
after_request a (Negotiate wanted) = record a { features = wanted }

-- one accepted request after the other leads from the first agreement to the last
abbrev pub Leads : Agreement → List StatusRequest → Agreement → Type 0
Leads a [] last = a ≡ last
Leads a (request ∷ requests) last = (refusal_of_request a request ≡ None) ×
    Leads (after_request a request) requests last

-- the device as plugged in or reset
abbrev pub unplugged : Agreement
unplugged = record { status = 0; features = 0 }

-- none of these resets, and each write has the register's eight bits
abbrev pub AreSteps : List StatusRequest → Type 0
AreSteps [] = Unit {0}
AreSteps (Write status ∷ requests) = (status ≢ 0) × (status < 2 ^ 8) × AreSteps requests
AreSteps (Negotiate wanted ∷ requests) = AreSteps requests

-- the writes that change the status
abbrev pub changes : ℕ → List StatusRequest → List ℕ
changes status [] = []
changes status (Write next ∷ requests) =
    if next == status then changes status requests else next ∷ changes next requests
changes status (Negotiate wanted ∷ requests) = changes status requests

-- what the requests leave, up to the first that is refused
abbrev pub outcome : Agreement → List StatusRequest → Agreement × Option Refusal
outcome a [] = (a, None)
outcome a (request ∷ requests) =
    elim (refusal_of_request a request) [
      | None ↦ outcome (after_request a request) requests
      | Some refusal ↦ (a, Some refusal)
    ]

-- how a driver initialises a device with these features
abbrev pub initialisation : ℕ → List StatusRequest
initialisation wanted =
    Write 0 ∷ Write 1 ∷ Write 3 ∷ Negotiate wanted ∷ Write 11 ∷ Write READY_STATUS ∷ []

-- where it comes after an initialisation: ready, or at ACKNOWLEDGE and DRIVER with what was
-- negotiated
abbrev pub initialised : ℕ → Agreement × Option Refusal
initialised wanted =
    elim (feature_refusal wanted) [
      | None ↦ (record { status = READY_STATUS; features = wanted }, None)
      | Some refusal ↦ (
        record { status = 3; features = if contains OFFERED_FEATURES wanted then wanted else 0 },
        Some refusal,
      )
    ]
