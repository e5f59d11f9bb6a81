-- Statistics, what they say of a guest's memory, and what is wrong with a buffer, worked out.
use Rattle.std.proofs.Common.{◌≡◌, ℕ, true, false, List, [], ◌∷◌, map, refl}
use Rattle.std.specs.Prelude.{Option, Some, None, Ok, Err}
use Rattle.vb_virtio.specs.declared.statistics.LastStatistics.{LastStatistics}
use Rattle.vb_ram.specs.Pages.{Pages, byte_at}
use Rattle.vb_chain.specs.declared.pieces.Piece.{Piece}
use Rattle.vb_chain.specs.declared.fault.ChainFault.TheVariants.{WrongDirection, BadLength}
use Rattle.vb_request.specs.Request.{bytes_of}
use Rattle.vb_request.specs.Statistics.{Statistic, statistics_of, last_of, statistics_in}
use Rattle.vb_request.specs.Statistics.{is_statistics_length, statistics_length, statistics_request}

abbrev statistic : ℕ → ℕ → Statistic
statistic tag value = record { tag = tag; value = value }

-- tag 4 with value 4096, tag 260 with the largest value, tag 4 with 8192, and tag 5 with 1
abbrev said : List ℕ
said =
    4 ∷ 0 ∷ 0 ∷ 16 ∷ 0 ∷ 0 ∷ 0 ∷ 0 ∷ 0 ∷ 0
    ∷ 4 ∷ 1 ∷ 255 ∷ 255 ∷ 255 ∷ 255 ∷ 255 ∷ 255 ∷ 255 ∷ 255
    ∷ 4 ∷ 0 ∷ 0 ∷ 32 ∷ 0 ∷ 0 ∷ 0 ∷ 0 ∷ 0 ∷ 0
    ∷ 5 ∷ 0 ∷ 1 ∷ 0 ∷ 0 ∷ 0 ∷ 0 ∷ 0 ∷ 0 ∷ 0 ∷ []

-- lowest byte first
statistics : statistics_of said ≡ statistic 4 4096 ∷ statistic 260 0xffffffffffffffff
    ∷ statistic 4 8192 ∷ statistic 5 1 ∷ []
unfolding statistics_of
statistics = refl

-- the last one of a tag counts
last : map (λ tag. last_of tag (statistic 4 1 ∷ statistic 5 2 ∷ statistic 4 3 ∷ []))
    (4 ∷ 5 ∷ 6 ∷ [])
    ≡ Some 3 ∷ Some 2 ∷ None ∷ []
last = refl

-- ---- what a chain says: of all statistics, and of none of tag 5

abbrev memory : Pages
memory = None ∷ Some (record { number = 3; bytes = said }) ∷ []

abbrev read : ℕ → ℕ → Piece
read addr len = record { addr = addr; len = len; writable = false }

abbrev known : Option ℕ → Option ℕ → LastStatistics
known free total = record { free = free; total = total }

in_memory : map (statistics_in memory)
    ((read 4096 40 ∷ []) ∷ (read 4096 7 ∷ read 4103 3 ∷ []) ∷ [] ∷ [])
    ≡ known (Some 8192) (Some 1) ∷ known (Some 4096) None ∷ known None None ∷ []
unfolding byte_at bytes_of statistics_of
in_memory = refl

-- ---- lengths

-- no statistic, some of ten bytes each, and 1020 bytes at most
lengths : map is_statistics_length (0 ∷ 10 ∷ 15 ∷ 1020 ∷ 1030 ∷ [])
    ≡ true ∷ true ∷ false ∷ true ∷ false ∷ []
lengths = refl

-- all pieces count together; one to be written is told first, wherever it is
of_pieces : map statistics_length ([] ∷ (read 0 13 ∷ read 0 7 ∷ []) ∷ (read 0 10 ∷ read 0 5 ∷ [])
    ∷ (read 0 5 ∷ record { addr = 0; len = 10; writable = true } ∷ []) ∷ [])
    ≡ Ok 0 ∷ Ok 20 ∷ Err BadLength ∷ Err WrongDirection ∷ []
of_pieces = refl

-- and no pages are named
requests : map statistics_request ((read 0 13 ∷ read 0 7 ∷ []) ∷ (read 0 10 ∷ read 0 5 ∷ [])
    ∷ (read 0 5 ∷ record { addr = 0; len = 10; writable = true } ∷ []) ∷ [])
    ≡ Ok [] ∷ Err BadLength ∷ Err WrongDirection ∷ []
requests = refl
