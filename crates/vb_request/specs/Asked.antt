-- What a chain of each queue asks (VIRTIO 1.1, 5.5.6).
use Rattle.std.specs.Prelude.{ℕ, ◌==◌, List, if◌then◌else◌, Result}
use Rattle.vb_virtio.specs.declared.layout.TheConstants.{STATISTICS_QUEUE, REPORT_QUEUE}
use Rattle.vb_virtio.specs.Layout.{reserved_pages}
use Rattle.vb_virtio.specs.declared.statistics.LastStatistics.{LastStatistics}
use Rattle.vb_ram.specs.Pages.{Pages}
use Rattle.vb_chain.specs.declared.fault.ChainFault.{ChainFault}
use Rattle.vb_chain.specs.declared.pieces.Piece.{Piece}
use Rattle.vb_request.specs.Request.{page_request}
use Rattle.vb_request.specs.Statistics.{statistics_request, statistics_in}
use Rattle.vb_request.specs.Report.{report_request}

-- The pages that a chain of these pieces names on a queue of n descriptors, or what is wrong with
-- it there: a buffer of statistics names none.
abbrev pub request_of : ℕ → ℕ → Pages → List Piece → Result (List ℕ) ChainFault
request_of q size mem pieces =
    if q == STATISTICS_QUEUE then statistics_request pieces
    else (if q == REPORT_QUEUE then report_request pieces (reserved_pages size)
    else page_request mem pieces (reserved_pages size))

-- A buffer of statistics replaces what the device knew of its guest's memory.
abbrev pub noted : ℕ → Pages → List Piece → LastStatistics → LastStatistics
noted q mem pieces last = if q == STATISTICS_QUEUE then statistics_in mem pieces else last
