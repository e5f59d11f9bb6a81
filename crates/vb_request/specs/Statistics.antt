-- What a chain of queue 2 says: statistics in a row, each a tag of 16 bits and a value of 64 bits,
-- packed and little-endian (VIRTIO 1.1, 5.5.6.3); which chains are refused is the profile's.
use Rattle.std.specs.Prelude.{ℕ, ◌+◌, ◌*◌, ◌/◌, ◌%◌, ◌==◌, ◌&&◌, Bool, not, nat_le, List, [], ◌∷◌}
use Rattle.std.specs.Prelude.{length, map, take, drop, if◌then◌else◌, Option, Some, None, Result}
use Rattle.std.specs.Prelude.{Ok, Err}
use Rattle.std.specs.List.{list_any, range_with_len}
use Rattle.std.specs.Int.{w16, w64, from_le_bytes}
use Rattle.vb_virtio.specs.declared.layout.TheConstants.{FREE_MEMORY_TAG, TOTAL_MEMORY_TAG}
use Rattle.vb_virtio.specs.declared.layout.TheConstants.{STATISTIC_SIZE, MAX_STATISTICS_LENGTH}
use Rattle.vb_virtio.specs.declared.statistics.LastStatistics.{LastStatistics}
use Rattle.vb_ram.specs.Pages.{Pages}
use Rattle.vb_chain.specs.declared.pieces.Piece.{Piece}
use Rattle.vb_chain.specs.declared.fault.ChainFault.{ChainFault}
use Rattle.vb_chain.specs.declared.fault.ChainFault.TheVariants.{WrongDirection, BadLength}
use Rattle.vb_request.specs.Request.{bytes_of, total_length}

pub record Statistic : Type 0 where
  pub tag : ℕ
  pub value : ℕ

-- Statistic k of these bytes.
abbrev pub statistic_at : List ℕ → ℕ → Statistic
statistic_at bytes k = record {
  tag = from_le_bytes w16 (take 2 (drop (STATISTIC_SIZE * k) bytes));
  value = from_le_bytes w64 (take 8 (drop (STATISTIC_SIZE * k + 2) bytes));
}

unfoldable pub statistics_of : List ℕ → List Statistic
statistics_of bytes = map (statistic_at bytes) (range_with_len 0 (length bytes / STATISTIC_SIZE))

abbrev pub later_or : Option ℕ → Option ℕ → Option ℕ
later_or None earlier = earlier
later_or (Some value) earlier = Some value

-- The value of the last statistic of the tag, if there is one.
abbrev pub last_of : ℕ → List Statistic → Option ℕ
last_of tag [] = None
last_of tag (s ∷ ss) = later_or (last_of tag ss) (if s.tag == tag then Some s.value else None)

-- What the chain says of the guest's memory; statistics of other tags are skipped.
abbrev pub statistics_in : Pages → List Piece → LastStatistics
statistics_in mem pieces = record {
  free = last_of FREE_MEMORY_TAG (statistics_of (bytes_of mem pieces));
  total = last_of TOTAL_MEMORY_TAG (statistics_of (bytes_of mem pieces));
}

-- A length that a buffer of statistics may have; it may be empty.
abbrev pub is_statistics_length : ℕ → Bool
is_statistics_length len = nat_le len MAX_STATISTICS_LENGTH && (len % STATISTIC_SIZE == 0)

-- How many bytes a buffer of statistics of these pieces has, or what is wrong with them.
abbrev pub statistics_length : List Piece → Result ℕ ChainFault
statistics_length pieces =
    if list_any (λ piece. piece.writable) pieces then Err WrongDirection
    else (if not (is_statistics_length (total_length pieces)) then Err BadLength
    else Ok (total_length pieces))

-- A buffer of statistics names no pages; or what is wrong with it.
abbrev pub statistics_request : List Piece → Result (List ℕ) ChainFault
statistics_request pieces =
    if list_any (λ piece. piece.writable) pieces then Err WrongDirection
    else (if not (is_statistics_length (total_length pieces)) then Err BadLength else Ok [])
