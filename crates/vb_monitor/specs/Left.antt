-- An upper bound on the steps that a notice still makes: each step makes it smaller.
use Rattle.std.specs.Prelude.{ℕ, ◌+◌, ◌-◌, ◌*◌, ◌^◌, Bool, true, false, List, length}
use Rattle.vb_virtio.specs.declared.limits.TheConstants.{MAX_QUEUE_SIZE}
use Rattle.vb_monitor.specs.declared.room.TheConstants.{MAX_RUNS}
use Rattle.vb_monitor.specs.declared.regions.Region.{Region}
use Rattle.vb_monitor.specs.Steps.{Step}
use Rattle.vb_monitor.specs.declared.step.Phase.{Phase}
use Rattle.vb_monitor.specs.declared.step.Phase.TheVariants.{AwaitsIndex, AwaitsEntry}
use Rattle.vb_monitor.specs.declared.step.Phase.TheVariants.{AwaitsDescriptor, AwaitsPart}
use Rattle.vb_monitor.specs.declared.step.Phase.TheVariants.{TellsPages, TellsFigures, TellsId}
use Rattle.vb_monitor.specs.declared.step.Phase.TheVariants.{Discards, Paused}
use Rattle.vb_monitor.specs.declared.step.Phase.TheVariants.{GivesBack, AwaitsFlags, Ended}

-- Parts that a chain's runs have at most, in n regions: one for each run and region. After a run's
-- part in the region before the one of this number, those of the regions from that one on are left,
-- and all parts of the runs after it.
unfoldable pub parts_left : ℕ → ℕ → ℕ → ℕ
parts_left regions run from = (regions - from) + (MAX_RUNS - (run + 1)) * regions

-- Once the pages of a chain are named, they are told, and their parts are discarded; then the chain
-- is given back, and the flags are read.
abbrev pub once_named : List Region → ℕ
once_named regions = 3 + MAX_RUNS * length regions

-- Bytes of a chain's pieces that are copied yet at most, from one after `done` of this piece's
-- bytes on: a piece has no more than its length of 32 bits says.
abbrev pub bytes_left : ℕ → ℕ → ℕ
bytes_left piece done = (MAX_QUEUE_SIZE - piece) * 2 ^ 32 - done

-- Before that its pieces are copied from a place on, and each portion is told and discarded, and
-- the notice pauses after it: a byte at least at once.
unfoldable pub copies_left : List Region → ℕ → ℕ → ℕ
copies_left regions piece done = (once_named regions + 2) * (bytes_left piece done + 1)

abbrev pub onward_left : Bool → List Region → ℕ → ℕ → ℕ
onward_left true regions piece done = 1 + copies_left regions piece done
onward_left false regions piece done = 0

abbrev pub once_whole : List Region → ℕ
once_whole regions = once_named regions + 1 + copies_left regions 0 0

-- The bound while n descriptors of a chain have been copied.
abbrev pub once_copied : List Region → ℕ → ℕ
once_copied regions count = once_whole regions + (MAX_QUEUE_SIZE - count)

-- What a chain comes to, whose entry is read first.
abbrev pub of_chain : List Region → ℕ
of_chain regions = once_copied regions 0 + 2

-- What n chains come to.
unfoldable pub of_chains : List Region → ℕ → ℕ
of_chains regions chains = chains * of_chain regions

-- What is done at most from a phase on, of the chain that is being served.
abbrev pub left_of : List Region → Phase → ℕ
left_of regions (Ended why interrupt more) = 0
left_of regions (AwaitsFlags at why more) = 1
left_of regions (AwaitsIndex at) = 2
left_of regions (TellsFigures head count) = 2
left_of regions (TellsId head id) = 3
left_of regions (GivesBack spots entry) = 2
left_of regions (Discards cut x) =
    3 + parts_left (length regions) x.run x.from
    + onward_left x.further regions x.place.piece x.place.done
left_of regions (TellsPages place named further) =
    once_named regions + onward_left further regions place.piece place.done
left_of regions (Paused place) = 3 + copies_left regions place.piece place.done
left_of regions (AwaitsPart at place into len) =
    once_named regions + 2 + copies_left regions place.piece place.done
left_of regions (AwaitsDescriptor at walk) = once_copied regions walk.count + 1
left_of regions (AwaitsEntry at) = of_chain regions

-- What is done at most from a step on: what is left of its chain, and all that may be served.
abbrev pub left : List Region → Step → ℕ
left regions step = of_chains regions step.tally.chains + left_of regions step.phase
