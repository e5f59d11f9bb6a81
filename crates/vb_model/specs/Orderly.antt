-- What else holds of an honest guest: its requests are in order, its pages and blocks lie where
-- they may, its status is one of three, and it is ready with features that it has agreed on.
use Rattle.std.specs.Prelude.{◌≡◌, ℕ, ◌+◌, ◌<◌, ◌≤◌, List, [], ◌∷◌, length}
use Rattle.std.specs.Prelude.{nat_lt, min, ⊤, ◌⊎◌, IsTrue}
use Rattle.vb_virtio.specs.declared.negotiation.TheConstants.{FAILED_STATUS, OFFERED_FEATURES}
use Rattle.vb_virtio.specs.declared.negotiation.TheConstants.{READY_STATUS}
use Rattle.vb_virtio.specs.declared.limits.TheConstants.{MAX_OUTSTANDING, MAX_ORDER}
use Rattle.vb_virtio.specs.Layout.{reserved_pages}
use Rattle.vb_virtio.specs.Queues.{Request}
use Rattle.vb_virtio.specs.Features.{version_1}
use Rattle.vb_virtio.specs.Status.{contains}
use Rattle.vb_virtio.specs.Tests.{times}
use Rattle.vb_model.specs.declared.places.Place.{Place}
use Rattle.vb_model.specs.Pages.{Block, size, is_aligned, place_of, is_reserved}
use Rattle.vb_model.specs.Requests.{Requests, all_requests, headed, outstanding}
use Rattle.vb_model.specs.Guest.{Guest}

-- its pages are distinct, and no more were visited than there are
pub record IsRequestSound (r : Request) : Type 0 where
  pub distinct : (page : ℕ) → times page r.pages ≤ 1
  pub visits : r.visited ≤ length r.pages

abbrev pub AllRequestsSound : List Request → Type 0
AllRequestsSound [] = ⊤
AllRequestsSound (r ∷ rs) = IsRequestSound r × AllRequestsSound rs

-- the requests of one kind have different heads, and there are at most n
pub record AreOrderly (most : ℕ) (rs : Requests) : Type 0 where
  pub heads : (head : ℕ) → headed head (all_requests rs) ≤ 1
  pub few : outstanding rs ≤ most
  pub posted : AllRequestsSound rs.posted
  pub taken : AllRequestsSound rs.taken
  pub done : AllRequestsSound rs.done

-- a block of an order that there is, at a multiple of its size, within n pages
pub record IsBlock (pages : ℕ) (b : Block) : Type 0 where
  pub order : b.order ≤ MAX_ORDER
  pub aligned : IsTrue (is_aligned b)
  pub inside : b.start + size b ≤ pages

abbrev pub AreBlocks : ℕ → List Block → Type 0
AreBlocks pages [] = ⊤
AreBlocks pages (b ∷ held) = IsBlock pages b × AreBlocks pages held

-- features that a device accepts: it offers all of them, and VERSION_1 is among them
pub record AreAgreed (features : ℕ) : Type 0 where
  pub offered : IsTrue (contains OFFERED_FEATURES features)
  pub version : IsTrue (version_1 features)

pub record IsInOrder (pages queue_size : ℕ) (places : List Place) (held : List Block)
    (inflate deflate report : Requests) (status features : ℕ) : Type 0 where
  pub inflating : AreOrderly (min queue_size MAX_OUTSTANDING) inflate
  pub deflating : AreOrderly (min queue_size MAX_OUTSTANDING) deflate
  pub reporting : AreOrderly 1 report
  -- not begun, ready, or given up while features were negotiated
  pub state : (status ≡ 0) ⊎ (status ≡ READY_STATUS) ⊎ (status ≡ FAILED_STATUS)
  -- each page has a place of its own, and just the first ones are reserved
  pub tabled : length places ≡ pages
  pub unreserved : (page : ℕ) → page < pages
      → is_reserved (place_of places page) ≡ nat_lt page (reserved_pages queue_size)
  pub blocks : AreBlocks pages held
  pub agreed : status ≡ READY_STATUS → AreAgreed features

abbrev pub IsOrderly : Guest → Type 0
IsOrderly g = IsInOrder g.config.pages g.config.queue_size g.places g.held g.inflate g.deflate
    g.report g.status g.features
