-- What a driver's calls do, by old and new of guest memory, of the device's part and of the driver
-- (VIRTIO 1.1, 3.1.1 and 5.5.6): by topic, each in a file of its own.
pub use Rattle.vb_driver.specs.Unchanged.{Unchanged, AreCountsOf}
pub use Rattle.vb_driver.specs.OwnPages.{after_alloc, AllocatesBy, after_free, FreesBy}
pub use Rattle.vb_driver.specs.Requests.{Announces, written_of, numbers_extent, figures_extent}
pub use Rattle.vb_driver.specs.Requests.{Posts, stranded_first, Offers, InflatesBy, lowest_lent}
pub use Rattle.vb_driver.specs.Requests.{areas_asked, AsksBack, DeflatesBy, DeflatesOnOomBy}
pub use Rattle.vb_driver.specs.Requests.{PostsReport, Reports, unreported, ReportsBy}
pub use Rattle.vb_driver.specs.Reaps.{ring_of, pages_sent, after_reap, without_request}
pub use Rattle.vb_driver.specs.Reaps.{places_after, areas_reaped, moved_on, with_actual, Reaps}
pub use Rattle.vb_driver.specs.Reaps.{next_of, after_refusal, ReapsBy}
pub use Rattle.vb_driver.specs.Statistics.{PostsBuffer, emptied, Refills, WasntUsed, FillsBy}
pub use Rattle.vb_driver.specs.Lives.{IsNewRing, FirstBuffer, Starts, with_nothing_out, Agrees}
pub use Rattle.vb_driver.specs.Lives.{GivesUp, InitRefused, NegotiatesBy, InitsBy, ResetsBy}
