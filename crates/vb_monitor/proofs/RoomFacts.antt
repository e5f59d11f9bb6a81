-- How much room a notice has for what it copies, names and discards, and how far a region's file may
-- reach.
use Rattle.std.proofs.Common.{◌≡◌, [], ◌∷◌, refl}
use Rattle.vb_monitor.specs.declared.{orders.TheConstants.MAX_CUTS, regions.TheConstants.FILE_LIMIT}
use Rattle.vb_monitor.specs.declared.room.TheConstants.{MAX_PIECES, MAX_BYTES, ROW_DESCRIPTORS}
use Rattle.vb_monitor.specs.declared.room.TheConstants.{MAX_RUNS, MAX_FIGURES}

-- a piece for each descriptor of the longest queue, the bytes of the longest request, a run for each
-- of its pages, and the figures of the longest buffer of statistics
room : MAX_PIECES ∷ MAX_BYTES ∷ ROW_DESCRIPTORS ∷ MAX_RUNS ∷ MAX_FIGURES ∷ MAX_CUTS ∷ []
    ≡ 256 ∷ 1024 ∷ 32 ∷ 256 ∷ 102 ∷ 256 ∷ []
room = refl

-- 2^62 bytes, so that an offset of a file fits its signed 64 bits
file : FILE_LIMIT ≡ 0x4000000000000000
file = refl
