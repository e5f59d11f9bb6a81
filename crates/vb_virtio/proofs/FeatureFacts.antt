-- Worked facts of features and of the status.
use Rattle.std.proofs.Common.{List, [], false, map, refl, replicate, true, ℕ, ◌∷◌, ◌≡◌}
use Rattle.std.specs.Prelude.{Bool, None, Option, Some, not, ◌++◌, ◌+◌}
use Rattle.vb_virtio.specs.FirstRefusal.{first_refusal, ◌⇒◌}
use Rattle.vb_virtio.specs.Status.{driver, feature_refusal, acknowledge, contains, driver_ok}
use Rattle.vb_virtio.specs.Status.{failed, features_ok, needed_causes, negotiate_causes}
use Rattle.vb_virtio.specs.Status.{negotiate_refusal, status_causes, status_refusal, is_up}
use Rattle.vb_virtio.specs.Status.{is_not_ready, has_fault}
use Rattle.vb_virtio.specs.Features.{deflate_on_oom, must_tell_host, reporting, stats_vq, version_1}
use Rattle.vb_virtio.specs.Tests.{has_bit}
use Rattle.vb_virtio.specs.declared.negotiation.TheConstants.{FAILED_STATUS, OFFERED_FEATURES}
use Rattle.vb_virtio.specs.declared.negotiation.TheConstants.{READY_STATUS}
use Rattle.vb_virtio.specs.declared.refusals.Refusal.{Refusal}
use Rattle.vb_virtio.specs.declared.refusals.Refusal.TheVariants.{ClearsBit, FeatureNotOffered}
use Rattle.vb_virtio.specs.declared.refusals.Refusal.TheVariants.{OutOfOrder, VersionMissing}

-- ---- MUST_TELL_HOST, STATS_VQ, DEFLATE_ON_OOM, REPORTING and VERSION_1 are bits 0, 1, 2, 5 and 32

abbrev read : ℕ → List Bool
read features = must_tell_host features ∷ stats_vq features ∷ deflate_on_oom features
    ∷ reporting features ∷ version_1 features ∷ []

offered : OFFERED_FEATURES ≡ 4294967335
offered = refl

-- an initialisation ends with its four steps, or with ACKNOWLEDGE, DRIVER and FAILED
ends : READY_STATUS ∷ FAILED_STATUS ∷ [] ≡ (acknowledge + driver + driver_ok + features_ok)
    ∷ (acknowledge + driver + failed) ∷ []
ends = refl

-- all offered, each alone, and all other bits of 64 together: none of the five
features_are_read : map read (4294967335 ∷ 1 ∷ 2 ∷ 4 ∷ 32 ∷ 4294967296 ∷ 18446744069414584280 ∷ [])
    ≡ replicate 5 true ∷ (true ∷ false ∷ false ∷ false ∷ false ∷ [])
    ∷ (false ∷ true ∷ false ∷ false ∷ false ∷ []) ∷ (false ∷ false ∷ true ∷ false ∷ false ∷ [])
    ∷ (false ∷ false ∷ false ∷ true ∷ false ∷ []) ∷ (false ∷ false ∷ false ∷ false ∷ true ∷ [])
    ∷ replicate 5 false ∷ []
features_are_read = refl

bits_of_six : map (has_bit 6) (0 ∷ 1 ∷ 2 ∷ 3 ∷ []) ≡ false ∷ true ∷ true ∷ false ∷ []
bits_of_six = refl

-- ---- a negotiation: at status 3 alone, of offered features alone, and of any of these

just_at_status_3 : map (λ status. negotiate_refusal status 1) (3 ∷ 0 ∷ 1 ∷ 2 ∷ 11 ∷ 15 ∷ 131 ∷ [])
    ≡ None ∷ replicate 6 (Some OutOfOrder)
just_at_status_3 = refl

just_what_is_offered : map (negotiate_refusal 3)
    (0 ∷ 0x100000027 ∷ 8 ∷ 16 ∷ 64 ∷ 0x80000000 ∷ 0x200000000 ∷ 0x10000002f ∷ []) ≡ None ∷ None
    ∷ replicate 6 (Some FeatureNotOffered)
just_what_is_offered = refl

order_before_offer : negotiate_refusal 1 8 ≡ Some OutOfOrder
order_before_offer = refl

-- ---- an initialisation: what isn't offered, then VERSION_1; the other four are free

-- VERSION_1 makes up for nothing that isn't offered
offer_before_version : map feature_refusal (0x40 ∷ 0x41 ∷ 0x100000008 ∷ 0x300000000 ∷ [])
    ≡ replicate 4 (Some FeatureNotOffered)
offer_before_version = refl

-- MUST_TELL_HOST doesn't make up for it
version_missing : map feature_refusal (0 ∷ 1 ∷ 0x26 ∷ 0x27 ∷ []) ≡ replicate 4 (Some VersionMissing)
version_missing = refl

version_is_enough : map feature_refusal (0x100000000 ∷ 0x100000001 ∷ 0x100000002 ∷ 0x100000004
    ∷ 0x100000020 ∷ 0x100000026 ∷ 0x100000027 ∷ []) ≡ replicate 7 None
version_is_enough = refl

-- just what its two writes are refused for: of the features, at ACKNOWLEDGE and DRIVER, and of
-- FEATURES_OK then
as_written : (wanted : ℕ)
    → feature_refusal wanted ≡ first_refusal (negotiate_causes 3 wanted ++ status_causes 3 wanted 11)
as_written wanted = cases (contains OFFERED_FEATURES wanted) where
  cases : (offered : Bool)
      → first_refusal ((not offered ⇒ FeatureNotOffered) ∷ needed_causes wanted)
      ≡ first_refusal ((not offered ⇒ FeatureNotOffered) ∷ status_causes 3 wanted 11)
  cases true = refl
  cases false = refl

-- ---- writes of the status

-- an old status, features and a new status
abbrev refusals : List (ℕ × (ℕ × ℕ)) → List (Option Refusal)
refusals writes = map (λ (old, (features, new)). status_refusal old features new) writes

-- bits 16, 32 and 64 are never a driver's; FAILED comes with no step, and no step after 64 or 128;
-- one step at a time, each after its forerunner
out_of_order : refusals ((3, (0, 19)) ∷ (3, (0, 35)) ∷ (3, (0, 67)) ∷ (0, (0, 129)) ∷ (1, (0, 131))
    ∷ (3, (0, 139)) ∷ (11, (0, 143)) ∷ (65, (0, 67)) ∷ (67, (0x100000027, 75))
    ∷ (75, (0x100000027, 79)) ∷ (129, (0, 131)) ∷ (139, (0, 143)) ∷ (2, (0x100000027, 11))
    ∷ (0, (0, 2)) ∷ (0, (0, 3)) ∷ (0, (0, 4)) ∷ (0, (0, 8)) ∷ (1, (0, 5)) ∷ (1, (0, 9))
    ∷ (3, (0, 7)) ∷ []) ≡ replicate 20 (Some OutOfOrder)
out_of_order = refl

-- FAILED may come alone at any time; steps in turn; a write of 0 resets, at any status
in_order : refusals ((0, (0, 128)) ∷ (3, (0, 131)) ∷ (11, (0, 139)) ∷ (15, (0, 143))
    ∷ (79, (0, 207)) ∷ (0, (0, 1)) ∷ (1, (0, 3)) ∷ (11, (0, 15)) ∷ []) ≡ replicate 8 None
in_order = refl

reset_at_any_status : map (λ status. status_refusal status 0 0) (0 ∷ 1 ∷ 15 ∷ 79 ∷ 131 ∷ 255 ∷ [])
    ≡ replicate 6 None
reset_at_any_status = refl

-- a bit taken back before a bit out of order, and that before the features
clears_before_order : refusals ((3, (0, 17)) ∷ (1, (0, 9)) ∷ []) ≡ Some ClearsBit
    ∷ Some OutOfOrder ∷ []
clears_before_order = refl

-- features are looked at where FEATURES_OK is added, and VERSION_1 alone
features_looked_at : refusals ((3, (0, 11)) ∷ (3, (1, 11)) ∷ (3, (0x100000000, 11))
    ∷ (3, (0x100000001, 11)) ∷ (3, (0, 3)) ∷ (11, (0, 11)) ∷ (15, (0, 15)) ∷ [])
    ≡ Some VersionMissing ∷ Some VersionMissing ∷ replicate 5 None
features_looked_at = refl

-- ---- who is at work at a status: 79 is a ready device that needs a reset, 143 one whose driver gave
-- up, 207 both

driver_is_up : map is_up (0 ∷ 1 ∷ 3 ∷ 11 ∷ 15 ∷ 79 ∷ 131 ∷ 143 ∷ 207 ∷ []) ≡ false ∷ false ∷ false
    ∷ false ∷ true ∷ false ∷ false ∷ false ∷ false ∷ []
driver_is_up = refl

device_is_not_ready : map is_not_ready (0 ∷ 11 ∷ 15 ∷ 79 ∷ 131 ∷ 143 ∷ 207 ∷ []) ≡ true ∷ true
    ∷ false ∷ false ∷ true ∷ true ∷ true ∷ []
device_is_not_ready = refl

device_has_fault : map has_fault (0 ∷ 15 ∷ 64 ∷ 79 ∷ 143 ∷ 207 ∷ []) ≡ false ∷ false ∷ true ∷ true
    ∷ false ∷ true ∷ []
device_has_fault = refl
