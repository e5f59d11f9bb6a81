-- The statistics of a device that has read none.
-- The headline needs all of it.
use Rattle.std.specs.Prelude.{None}
use Rattle.vb_virtio.specs.declared.statistics.LastStatistics.{LastStatistics}

abbrev pub no_statistics : LastStatistics
no_statistics = record { free = None; total = None }
