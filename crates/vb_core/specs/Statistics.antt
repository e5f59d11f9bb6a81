-- What a guest says of its memory, by the bytes of a buffer of statistics (VIRTIO 1.1, 5.5.6.3).
use Rattle.std.specs.Prelude.{◌≡◌, ℕ, ◌/◌, ◌<◌, true, ◌&&◌, nat_le, List, length, slice_index_or}
use Rattle.std.specs.Prelude.{Option}
use Rattle.vb_virtio.specs.declared.layout.TheConstants.{STATISTIC_SIZE}
use Rattle.vb_request.specs.Statistics.{statistic_at, is_statistics_length}
use Rattle.vb_core.specs.declared.statistics.Statistic.{Statistic}
use Rattle.vb_core.specs.declared.kinds.Kind.TheVariants.{Statistics}
use Rattle.vb_core.specs.declared.device.Denial.{Denial}
use Rattle.vb_core.specs.declared.device.Device.{Device}
use Rattle.vb_core.specs.Devices.{call_denial}

-- Figure k of these bytes.
abbrev pub figure_at : List ℕ → ℕ → Statistic
figure_at bytes k =
    record { tag = (statistic_at bytes k).tag; value = (statistic_at bytes k).value }

-- The figures of these bytes, in order, are in the front of a list.
abbrev pub AreFigures : List ℕ → List Statistic → Type 0
AreFigures bytes figures =
    (k : ℕ) (d : Statistic) → k < length bytes / STATISTIC_SIZE →
    slice_index_or figures k d ≡ figure_at bytes k

-- What a buffer of statistics is refused for, with this much room and n bytes.
abbrev pub statistics_denial : ℕ → ℕ → Device → Option Denial
statistics_denial len room d =
    call_denial Statistics true
    (is_statistics_length len && nat_le (len / STATISTIC_SIZE) room) d
