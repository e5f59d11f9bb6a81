-- A device that is saved and restored: the states that its calls lead to, and what is refused.
use Rattle.std.specs.Prelude.{ℕ, ◌-◌, Bool, not, ◌&&◌, ◌||◌, ◌==◌, nat_le, nat_lt, List, length}
use Rattle.std.specs.Prelude.{if◌then◌else◌, Option, Some, None, Result, Ok, Err, take}
use Rattle.vb_virtio.specs.Features.{version_1, must_tell_host}
use Rattle.vb_virtio.specs.Status.{contains, acknowledge, driver, driver_ok, features_ok}
use Rattle.vb_virtio.specs.Status.{needs_reset}
use Rattle.vb_core.specs.declared.ring.Virtqueue.{Virtqueue}
use Rattle.vb_core.specs.declared.kinds.Kind.{Kind}
use Rattle.vb_core.specs.declared.kinds.Kind.TheVariants.{Inflate, Deflate, Statistics, Hint}
use Rattle.vb_core.specs.declared.kinds.Kind.TheVariants.{Report}
use Rattle.vb_core.specs.declared.device.Device.{Device}
use Rattle.vb_core.specs.declared.saved.Saved.{Saved}
use Rattle.vb_core.specs.declared.saved.StateDenial.{StateDenial}
use Rattle.vb_core.specs.declared.saved.StateDenial.TheVariants.{BadLength, NotAState}
use Rattle.vb_core.specs.declared.saved.StateDenial.TheVariants.{OtherVersion, BadSum, Impossible}
use Rattle.vb_core.specs.declared.format.TheConstants.{MAGIC, FORMAT_VERSION, HEADER_LENGTH}
use Rattle.vb_core.specs.declared.format.TheConstants.{VERSION_AT, LENGTH_AT, CHECKSUM_LENGTH}
use Rattle.vb_core.specs.declared.format.TheConstants.{SAVED_LENGTH, OLDER_VERSION, OLDER_LENGTH}
use Rattle.vb_core.specs.declared.format.TheConstants.{OLDEST_VERSION, OLDEST_LENGTH}
use Rattle.vb_core.specs.Settings.{longest_request, are_settings, needs_must_tell, page_poison}
use Rattle.vb_core.specs.Settings.{holds_chains, free_page_hint}
use Rattle.vb_core.specs.Held.{held_of, held_pages}
use Rattle.vb_core.specs.Rings.{has_place}
use Rattle.vb_core.specs.Kinds.{lacks}
use Rattle.vb_core.specs.Hints.{is_id}
use Rattle.vb_core.specs.Devices.{ring_of}
use Rattle.vb_core.specs.Format.{u32_at, u64_at, checksum, state_in}

-- ---- the states that calls lead to

-- the bit is only with the one before it
abbrev pub comes_after : ℕ → ℕ → ℕ → Bool
comes_after status bit before = not (contains status bit) || contains status before

-- The steps are done in their order (VIRTIO 1.1, 3.1.1), a rule is broken only once the driver is
-- done (2.1.2), and two bits are never set.
abbrev pub is_status : ℕ → Bool
is_status status =
    (comes_after status driver acknowledge && comes_after status features_ok driver
    && comes_after status driver_ok features_ok)
    && comes_after status needs_reset driver_ok
    && not (contains status 16 || contains status 32)

-- The driver negotiates once DRIVER is set, of what is offered, and with FEATURES_OK has what that
-- asks for (VIRTIO 1.1, 2.2 and 6.1).
abbrev pub are_agreed : Device → Bool
are_agreed d =
    contains d.settings.offered d.features
    && (contains d.status driver || (d.features == 0))
    && (not (contains d.status features_ok)
    || version_1 d.features && (not (needs_must_tell d.settings) || must_tell_host d.features))

abbrev pub is_blank : Virtqueue → Bool
is_blank r =
    (r.table == 0) && (r.avail == 0) && (r.used == 0) && (r.size == 0) && (r.next_avail == 0)
    && (r.next_used == 0)

-- a chain was taken, or given back, or the queue started at another index than 0
abbrev pub has_moved : Virtqueue → Bool
has_moved r = not (r.next_avail == 0) || not (r.next_used == 0)

-- the features that a driver may have had until now
abbrev pub offered_so_far : Device → ℕ
offered_so_far d = if contains d.status driver then d.settings.offered else 0

-- The queue has no place; or it has one, which its features allowed once, and it has moved only
-- once features were agreed on (VIRTIO 1.1, 3.1.1), and with those.
abbrev pub is_ring : Kind → Device → Bool
is_ring kind d =
    is_blank (ring_of kind d)
    || has_place d.settings.memory_end (ring_of kind d)
    && not (lacks (offered_so_far d) kind)
    && (not (has_moved (ring_of kind d))
    || contains d.status features_ok && not (lacks d.features kind))

-- Nothing is held of the kind's queue; or it is one of the queue's chains, which the device holds
-- since the driver was done, and which names no more pages than a request has numbers.
abbrev pub is_held : Kind → Saved → Bool
is_held kind s =
    if held_of kind s.held == 0 then held_pages kind s.held == 0
    else
    contains s.device.status driver_ok && not (lacks s.device.features kind)
    && holds_chains kind s.device.settings
    && nat_le (held_of kind s.held) (ring_of kind s.device).size
    && nat_le (held_pages kind s.held) (longest_request s.device.settings)

-- poison_val is written only where PAGE_POISON is offered.
abbrev pub is_poison : Device → Bool
is_poison d = (d.poison == 0) || page_poison d.settings.offered

-- A round that is shown is the last one that began, and began once the driver was done, with hints
-- negotiated; ids are given only where hints are offered; and only a round that is shown is open.
abbrev pub is_round : Device → Bool
is_round d =
    ((d.round.last == 0) || is_id d.round.last && free_page_hint d.settings.offered)
    && (not (is_id d.round.shown)
    || (d.round.shown == d.round.last) && contains d.status driver_ok
    && not (lacks d.features Hint))
    && ((d.round.opened == 0) || (d.round.opened == 1) && is_id d.round.shown)

abbrev pub can_be : Saved → Bool
can_be s =
    are_settings s.device.settings && is_status s.device.status && are_agreed s.device
    && is_ring Inflate s.device && is_ring Deflate s.device && is_ring Statistics s.device
    && is_ring Hint s.device && is_ring Report s.device && is_held Statistics s && is_held Deflate s
    && is_poison s.device && is_round s.device

-- ---- refusals

abbrev pub save_denial : Saved → ℕ → Option StateDenial
save_denial s room =
    if nat_lt room SAVED_LENGTH then Some BadLength
    else if not (can_be s) then Some Impossible
    else None

-- bytes that begin as a saved device does
abbrev pub is_state : List ℕ → Bool
is_state bytes = u64_at bytes 0 == MAGIC

-- a version that is read: the newest, or one of the two before it
abbrev pub is_version : ℕ → Bool
is_version version =
    (version == FORMAT_VERSION) || (version == OLDER_VERSION) || (version == OLDEST_VERSION)

abbrev pub has_version : List ℕ → Bool
has_version bytes = is_version (u32_at bytes VERSION_AT)

-- how many bytes a version has
abbrev pub length_of : ℕ → ℕ
length_of version =
    if version == OLDEST_VERSION then OLDEST_LENGTH
    else if version == OLDER_VERSION then OLDER_LENGTH
    else SAVED_LENGTH

abbrev pub is_length : ℕ → Bool
is_length len = (len == SAVED_LENGTH) || (len == OLDER_LENGTH) || (len == OLDEST_LENGTH)

abbrev pub are_so_long : ℕ → List ℕ → Bool
are_so_long len bytes = (u32_at bytes LENGTH_AT == len) && (length bytes == len)

-- as many as a saved device of their version has, and their header says so
abbrev pub has_length : List ℕ → Bool
has_length bytes = are_so_long (length_of (u32_at bytes VERSION_AT)) bytes

-- the checksum of all bytes before it is last
abbrev pub has_sum : List ℕ → Bool
has_sum bytes =
    u64_at bytes (length bytes - CHECKSUM_LENGTH)
    == checksum (take (length bytes - CHECKSUM_LENGTH) bytes)

-- in this order
abbrev pub header_denial : List ℕ → Option StateDenial
header_denial bytes =
    if nat_lt (length bytes) HEADER_LENGTH then Some BadLength
    else if not (is_state bytes) then Some NotAState
    else if not (has_version bytes) then Some OtherVersion
    else if not (has_length bytes) then Some BadLength
    else None

-- what bytes with a good header are
abbrev pub read_saved : List ℕ → Result Saved StateDenial
read_saved bytes =
    if not (has_sum bytes) then Err BadSum
    else if not (can_be (state_in bytes)) then Err Impossible
    else Ok (state_in bytes)

abbrev pub unless_denied : Option StateDenial → Result Saved StateDenial → Result Saved StateDenial
unless_denied (Some why) other = Err why
unless_denied None other = other

-- what bytes are restored to
abbrev pub restored : List ℕ → Result Saved StateDenial
restored bytes = unless_denied (header_denial bytes) (read_saved bytes)
