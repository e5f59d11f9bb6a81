-- What leaves a ring alone, and a ring of which nothing was published.
use Rattle.std.specs.Prelude.{◌≡◌, ℕ, List, [], ◌++◌, length, refl}
use Rattle.vb_virtio.specs.Layout.{ring_page}
use Rattle.vb_virtio.proofs.Shapes.{InRing}
use Rattle.std.proofs.Common.{sym, subst}
use Rattle.{vb_ram.specs.Pages.{Pages, page_at}, vb_ring.specs.Layout.{IsSize, layout_of}}
use Rattle.vb_ring.{specs.Ends.DriverEnd, proofs.Shapes.{AreInRing, parts_in_ring}}
use Rattle.vb_ring.proofs.MeaningLaws.{tracks_apart, ring_apart as shows_apart}
use Rattle.{vb_driver.specs.Calls.IsNewRing, vb_guest.specs.Ring.{RingStands, used_of}}

-- the pages of a queue's ring are as before
abbrev pub SameRing : Pages → Pages → ℕ → ℕ → Type 0
SameRing old new size q = (page : ℕ) → InRing size q page → page_at new page ≡ page_at old page

-- the parts of a ring lie in its queue's pages
pub ring_parts : (q : ℕ) (ring : DriverEnd) → IsSize ring.size
    → ring.layout ≡ layout_of (ring_page ring.size q) ring.size → AreInRing ring.size q ring.layout
ring_parts q ring sized layout =
    subst (AreInRing ring.size q) (sym layout) (parts_in_ring ring.size q sized)

pub ring_apart : {old new : Pages}
    {q : ℕ} {ring : DriverEnd} {next_avail next_used : ℕ} {posted taken done : List ℕ}
    → SameRing old new ring.size q → RingStands old q ring next_avail next_used posted taken done
    → RingStands new q ring next_avail next_used posted taken done
ring_apart {old} {new} {q} {ring} {posted} {done} same stands = let l = ring.layout in
    let parts = ring_parts q ring stands.sized stands.layout in
    let table = same l.table parts.table in let avail = same l.avail.page parts.avail in
    let used = same l.used.page parts.used in
    record {
      sized = stands.sized;
      layout = stands.layout;
      before = stands.before;
      gone = stands.gone;
      shows = shows_apart old new l ring.size (stands.before ++ posted)
          (stands.gone ++ used_of done) stands.sized table avail used stands.shows;
      tracks = tracks_apart old new ring (stands.before ++ posted) (stands.gone ++ used_of done)
          (length stands.gone) table stands.tracks;
      avail = stands.avail;
      used = stands.used;
      counted = stands.counted;
      balance = stands.balance;
    }

-- ---- nothing was published yet

pub ring_new : {mem : Pages} {q : ℕ} {ring : DriverEnd} → IsSize ring.size → ring.layout ≡ layout_of
    (ring_page ring.size q) ring.size → IsNewRing mem ring → RingStands mem q ring 0 0 [] [] []
ring_new sized layout new = record {
  sized = sized;
  layout = layout;
  before = [];
  gone = [];
  shows = new.shows;
  tracks = new.tracks;
  avail = refl;
  used = refl;
  counted = refl;
  balance = λ h. refl;
}
