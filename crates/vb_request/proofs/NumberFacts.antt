-- The numbers of requests, reports and statistics, as plain numbers.
use Rattle.std.proofs.Common.{◌≡◌, [], ◌∷◌, refl}
use Rattle.vb_virtio.specs.declared.limits.TheConstants.{MAX_REQUEST_PAGES, MAX_REPORT_PIECES}
use Rattle.vb_virtio.specs.declared.layout.TheConstants.{REQUEST_BUFFER_SIZE, STATISTIC_SIZE}
use Rattle.vb_virtio.specs.declared.layout.TheConstants.{MAX_STATISTICS_LENGTH, FREE_MEMORY_TAG}
use Rattle.vb_virtio.specs.declared.layout.TheConstants.{TOTAL_MEMORY_TAG}

-- pages that a request names, and the bytes of its buffer; pieces of a report
requests_are : MAX_REQUEST_PAGES ∷ REQUEST_BUFFER_SIZE ∷ MAX_REPORT_PIECES ∷ [] ≡ 256 ∷ 1024 ∷ 32
    ∷ []
requests_are = refl

-- bytes of a statistic and of the longest buffer of them, and the tags of free and of all memory
statistics_are : STATISTIC_SIZE ∷ MAX_STATISTICS_LENGTH ∷ FREE_MEMORY_TAG ∷ TOTAL_MEMORY_TAG ∷ []
    ≡ 10 ∷ 1020 ∷ 4 ∷ 5 ∷ []
statistics_are = refl
