-- The pages that a chain of queue 0 or 1 names: little-endian numbers of 32 bits (VIRTIO 1.1,
-- 5.5.6); which chains are refused, and in what order, is the profile's.
use Rattle.std.specs.Prelude.{◌≡◌, ℕ, ◌+◌, ◌<◌, ◌≤◌, false, All, slice_index, ◌*◌, ◌/◌, ◌%◌, Bool}
use Rattle.std.specs.Prelude.{not, ◌==◌, ◌&&◌, nat_lt, nat_le, List, [], ◌∷◌, length, map, filter}
use Rattle.std.specs.Prelude.{take, drop, if◌then◌else◌, Option, Some, None, Result, Ok, Err}
use Rattle.std.specs.List.{list_any, flat_map, range_with_len, sum_by}
use Rattle.std.specs.Int.{w32, from_le_bytes}
use Rattle.vb_virtio.specs.declared.layout.TheConstants.{REQUEST_BUFFER_SIZE}
use Rattle.vb_virtio.specs.Tests.{AllDistinct}
use Rattle.vb_virtio.specs.Limits.{page_size, max_request_pages}
use Rattle.vb_ram.specs.Pages.{Pages, byte_at, field}
use Rattle.vb_chain.specs.declared.pieces.Piece.{Piece}
use Rattle.vb_chain.specs.declared.fault.ChainFault.{ChainFault}
use Rattle.vb_chain.specs.declared.fault.ChainFault.TheVariants.{WrongDirection, BadLength, BadPage}
use Rattle.vb_chain.specs.declared.fault.ChainFault.TheVariants.{ReservedPage}

-- ---- bytes

-- The byte at an address of guest memory.
abbrev pub byte_of_address : Pages → ℕ → ℕ
byte_of_address mem addr = byte_at mem (addr / page_size) (addr % page_size)

-- n bytes from an address on.
abbrev pub bytes_from : Pages → ℕ → ℕ → List ℕ
bytes_from mem addr len = map (byte_of_address mem) (range_with_len addr len)

-- The bytes of all pieces in a row.
unfoldable pub bytes_of : Pages → List Piece → List ℕ
bytes_of mem pieces = flat_map (λ piece. bytes_from mem piece.addr piece.len) pieces

abbrev pub total_length : List Piece → ℕ
total_length pieces = sum_by (λ piece. piece.len) pieces

-- ---- numbers

-- Number k of these bytes, four bytes each.
abbrev pub number_at : List ℕ → ℕ → ℕ
number_at bytes k = from_le_bytes w32 (take 4 (drop (4 * k) bytes))

unfoldable pub numbers_of : List ℕ → List ℕ
numbers_of bytes = map (number_at bytes) (range_with_len 0 (length bytes / 4))

-- Each number once, where it first is.
abbrev pub each_once : List ℕ → List ℕ
each_once [] = []
each_once (n ∷ ns) = n ∷ filter (λ m. not (m == n)) (each_once ns)

-- ---- faults

-- A length that a request may have.
abbrev pub is_request_length : ℕ → Bool
is_request_length len = nat_lt 0 len && (nat_le len REQUEST_BUFFER_SIZE && (len % 4 == 0))

-- How many bytes a request of these pieces has, or what is wrong with them.
abbrev pub request_length : List Piece → Result ℕ ChainFault
request_length pieces =
    if list_any (λ piece. piece.writable) pieces then Err WrongDirection
    else (if not (is_request_length (total_length pieces)) then Err BadLength
    else Ok (total_length pieces))

-- What is wrong with a page number, where memory has n pages, of which the first ones are reserved.
abbrev pub number_fault : ℕ → ℕ → ℕ → Option ChainFault
number_fault reserved count number =
    if nat_le count number then Some BadPage
    else (if nat_lt number reserved then Some ReservedPage else None)

-- One fault before another.
abbrev pub first_of_both : Option ChainFault → Option ChainFault → Option ChainFault
first_of_both None second = second
first_of_both (Some fault) second = Some fault

-- What is wrong with the first wrong number.
abbrev pub first_number_fault : ℕ → ℕ → List ℕ → Option ChainFault
first_number_fault reserved count [] = None
first_number_fault reserved count (n ∷ ns) =
    first_of_both (number_fault reserved count n) (first_number_fault reserved count ns)

-- ---- the request

-- The pages, unless there is a fault.
abbrev pub unless_fault : Option ChainFault → List ℕ → Result (List ℕ) ChainFault
unless_fault None pages = Ok pages
unless_fault (Some fault) pages = Err fault

abbrev pub pages_of_numbers : ℕ → ℕ → List ℕ → Result (List ℕ) ChainFault
pages_of_numbers reserved count numbers =
    unless_fault (first_number_fault reserved count numbers) (each_once numbers)

-- The pages that a chain of these pieces names, or what is wrong with it, where n pages are
-- reserved.
unfoldable pub page_request : Pages → List Piece → ℕ → Result (List ℕ) ChainFault
page_request mem pieces reserved =
    if list_any (λ piece. piece.writable) pieces then Err WrongDirection
    else (if not (is_request_length (total_length pieces)) then Err BadLength
    else pages_of_numbers reserved (length mem) (numbers_of (bytes_of mem pieces)))

-- ---- what a request names, and as a driver writes one

-- Pages that a request of a guest of n pages may name, of which the first ones are reserved.
pub record ArePages (reserved count : ℕ) (pages : List ℕ) : Type 0 where
  pub above : All (λ page. reserved ≤ page) pages
  pub below : All (λ page. page < count) pages
  pub distinct : AllDistinct pages

-- The piece is readable, and is these page numbers at an offset of a page.
pub record IsRequestPiece (mem : Pages) (piece : Piece) (p o : ℕ) (pages : List ℕ) : Type 0 where
  pub addr : piece.addr ≡ page_size * p + o
  pub len : piece.len ≡ 4 * length pages
  pub readable : piece.writable ≡ false
  pub inside : o + 4 * length pages ≤ page_size
  pub numbers : (k : ℕ) → k < length pages → field 4 mem p (o + 4 * k) ≡ slice_index pages k
  pub some : 0 < length pages
  pub few : length pages ≤ max_request_pages
