-- What a device and its driver agree on: VIRTIO 1.1, 5.5.3 and 6; REPORTING is the profile's.
-- The headline needs all of it.
use Rattle.std.specs.Prelude.{ℕ, Bool}
use Rattle.vb_virtio.specs.Tests.{has_bit}

-- MUST_TELL_HOST: a guest that agreed to it tells the host before it uses a page again
abbrev pub must_tell_host : ℕ → Bool
must_tell_host features = has_bit features 0

abbrev pub stats_vq : ℕ → Bool
stats_vq features = has_bit features 1

abbrev pub deflate_on_oom : ℕ → Bool
deflate_on_oom features = has_bit features 2

abbrev pub reporting : ℕ → Bool
reporting features = has_bit features 5

abbrev pub version_1 : ℕ → Bool
version_1 features = has_bit features 32
