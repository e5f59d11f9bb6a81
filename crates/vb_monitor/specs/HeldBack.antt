-- What is done to give a chain back that is held: a buffer of statistics to ask for new ones
-- (VIRTIO 1.1, 5.5.6.3), or a deflate that is granted.
use Rattle.std.specs.Prelude.{◌≡◌, ◌⊎◌, ℕ, List, [], ◌∷◌, ◌++◌, Some}
use Rattle.vb_core.specs.declared.ring.Virtqueue.{Virtqueue}
use Rattle.vb_core.specs.Rings.{used_entry}
use Rattle.vb_monitor.specs.declared.regions.Region.{Region}
use Rattle.vb_monitor.specs.declared.regions.Spot.{Spot}
use Rattle.vb_monitor.specs.declared.giving.UsedSpots.{UsedSpots}
use Rattle.vb_monitor.specs.Accesses.{Access, ReadWord, Full}
use Rattle.vb_monitor.specs.Regions.{spot}
use Rattle.vb_monitor.specs.Giving.{used_spots, used_accesses}

-- After a full fence the driver's flags are read.
pub record AsksForFlags (regions : List Region) (r : Virtqueue) (log : List Access) : Type 0 where
  pub at : Spot
  pub flags : ℕ
  pub place : spot regions r.avail 2 ≡ Some at
  pub asks : log ≡ Full ∷ ReadWord at flags ∷ []

-- The next used element of the queue is written, with this head as its id, and the index after it;
-- then the flags are read, if there is a place for them.
pub record GivesHeld (regions : List Region) (head : ℕ) (r : Virtqueue) (log : List Access) :
    Type 0 where
  pub spots : UsedSpots
  pub rest : List Access
  pub place : used_spots regions (used_entry r head) ≡ Some spots
  pub asks : log ≡ used_accesses spots (used_entry r head) ++ rest
  pub then_flags : (rest ≡ []) ⊎ AsksForFlags regions r rest

-- Nothing is done, or the chain of this head is given back: six accesses at most, and none of them
-- reads the chain.
abbrev pub GivesHeldAlone : List Region → ℕ → Virtqueue → List Access → Type 0
GivesHeldAlone regions head r log = (log ≡ []) ⊎ GivesHeld regions head r log
