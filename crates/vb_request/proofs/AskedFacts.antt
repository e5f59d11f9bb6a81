-- What a chain asks by its queue, and what a device refuses by its status, worked out.
use Rattle.std.proofs.Common.{◌≡◌, true, false, List, [], ◌∷◌, map, replicate, refl}
use Rattle.std.specs.Prelude.{Some, None, Ok, Err}
use Rattle.vb_virtio.specs.declared.statistics.LastStatistics.{LastStatistics}
use Rattle.vb_virtio.specs.declared.refusals.Refusal.TheVariants.{NoQueue, NotReady, NeedsReset}
use Rattle.vb_ram.specs.Pages.{Pages, byte_at}
use Rattle.vb_chain.specs.declared.pieces.Piece.{Piece}
use Rattle.vb_chain.specs.declared.fault.ChainFault.TheVariants.{BadHead, BadNext, TooLong}
use Rattle.vb_chain.specs.declared.fault.ChainFault.TheVariants.{Indirect, WrongDirection, OutOfRam}
use Rattle.vb_chain.specs.declared.fault.ChainFault.TheVariants.{IndexJump, BadLength, BadPage}
use Rattle.vb_chain.specs.declared.fault.ChainFault.TheVariants.{ReservedPage}
use Rattle.vb_request.specs.Asked.{request_of, noted}
use Rattle.vb_request.specs.Request.{bytes_of, numbers_of, page_request}
use Rattle.vb_request.specs.Refusals.{rule_of, readiness_refusal, take_refusal_by}
use Rattle.vb_request.specs.Statistics.{statistics_of}

-- ---- queues

-- of 40 pages, page 1 has number 20, which is tag 20 to statistics, and tag 4 with value 9
abbrev memory : Pages
memory = None ∷ Some (record {
  number = 5;
  bytes = 20 ∷ 0 ∷ 0 ∷ 0 ∷ 0 ∷ 0 ∷ 0 ∷ 0 ∷ 0 ∷ 0 ∷ 4 ∷ 0 ∷ 9 ∷ 0 ∷ 0 ∷ 0 ∷ 0 ∷ 0 ∷ 0 ∷ 0 ∷ [];
}) ∷ replicate 38 None

abbrev number : List Piece
number = record { addr = 4096; len = 4; writable = false } ∷ []

abbrev figures : List Piece
figures = record { addr = 4096; len = 20; writable = false } ∷ []

abbrev page_20 : List Piece
page_20 = record { addr = 81920; len = 4096; writable = true } ∷ []

-- queues 0 and 1 have numbers, queue 2 statistics, and queue 4 pages
by_queue : map (λ q. request_of q 128 memory number) (0 ∷ 1 ∷ 2 ∷ 4 ∷ [])
    ≡ Ok (20 ∷ []) ∷ Ok (20 ∷ []) ∷ Err BadLength ∷ Err WrongDirection ∷ []
unfolding byte_at bytes_of numbers_of page_request
by_queue = refl

of_figures : map (λ q. request_of q 128 memory figures) (0 ∷ 1 ∷ 2 ∷ 4 ∷ [])
    ≡ Err ReservedPage ∷ Err ReservedPage ∷ Ok [] ∷ Err WrongDirection ∷ []
unfolding byte_at bytes_of numbers_of page_request
of_figures = refl

of_pages : map (λ q. request_of q 128 memory page_20) (0 ∷ 1 ∷ 2 ∷ 4 ∷ [])
    ≡ Err WrongDirection ∷ Err WrongDirection ∷ Err WrongDirection ∷ Ok (20 ∷ []) ∷ []
unfolding page_request
of_pages = refl

-- with queues of more than 128 descriptors page 20 is reserved
of_large_queues : request_of 0 256 memory number ∷ request_of 4 256 memory page_20 ∷ []
    ≡ Err ReservedPage ∷ Err ReservedPage ∷ []
unfolding byte_at bytes_of numbers_of page_request
of_large_queues = refl

-- a buffer of queue 2 replaces what was known, also where it says nothing of it
abbrev known : LastStatistics
known = record { free = Some 1; total = Some 2 }

notes : map (λ q. noted q memory figures known) (0 ∷ 1 ∷ 2 ∷ 4 ∷ [])
    ≡ known ∷ known ∷ record { free = Some 9; total = None } ∷ known ∷ []
unfolding byte_at bytes_of statistics_of
notes = refl

-- ---- refusals

rules : map rule_of (BadHead ∷ BadNext ∷ TooLong ∷ Indirect ∷ WrongDirection ∷ OutOfRam ∷ IndexJump
    ∷ BadLength ∷ BadPage ∷ ReservedPage ∷ []) ≡ 1 ∷ 2 ∷ 3 ∷ 4 ∷ 5 ∷ 6 ∷ 7 ∷ 8 ∷ 9 ∷ 10 ∷ []
rules = refl

-- a new device, one with FEATURES_OK, a ready one, one that needs a reset, one whose driver gave
-- up, and one that is both
ready : map readiness_refusal (0 ∷ 11 ∷ 15 ∷ 79 ∷ 143 ∷ 207 ∷ [])
    ≡ Some NotReady ∷ Some NotReady ∷ None ∷ Some NeedsReset ∷ Some NotReady ∷ Some NotReady ∷ []
ready = refl

-- queues 2 and 4 want a feature: STATS_VQ, and REPORTING
takes : map (λ q. take_refusal_by q 15 0x100000000) (0 ∷ 1 ∷ 2 ∷ 3 ∷ 4 ∷ 5 ∷ [])
    ≡ None ∷ None ∷ Some NoQueue ∷ Some NoQueue ∷ Some NoQueue ∷ Some NoQueue ∷ []
takes = refl

with_features : take_refusal_by 2 15 0x100000002 ∷ take_refusal_by 4 15 0x100000002
    ∷ take_refusal_by 2 15 0x100000020 ∷ take_refusal_by 4 15 0x100000020 ∷ []
    ≡ None ∷ Some NoQueue ∷ Some NoQueue ∷ None ∷ []
with_features = refl

-- a queue that there is none of is told first, then the status, and last a feature
in_this_order : take_refusal_by 3 11 0 ∷ take_refusal_by 4 11 0 ∷ take_refusal_by 4 79 0
    ∷ take_refusal_by 4 207 0 ∷ []
    ≡ Some NoQueue ∷ Some NotReady ∷ Some NeedsReset ∷ Some NotReady ∷ []
in_this_order = refl
