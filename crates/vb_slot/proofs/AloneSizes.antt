-- How many pages a guest that is there has.
use Rattle.std.{proofs.Common.{◌≡◌, Bool, true, false}, specs.Prelude.length}
use Rattle.{vb_model.specs.Guest.Guest, vb_ram.specs.{Pages.Pages, Part.Part}}
use Rattle.{vb_driver.specs.State.DriverState, vb_guest.specs.Stands.{Stands, StandsBy}}

-- each of its pages has a frame or none
pub each_page_framed : (keeps : Bool) (mem : Pages) (part : Part) (d : DriverState) (g : Guest)
    → Stands keeps mem part d g → length g.frames ≡ g.config.pages
each_page_framed keeps mem part d g s = by g.rogue s.guest where
  by : (rogue : Bool) → StandsBy rogue mem part d g → length g.frames ≡ g.config.pages
  by false honest = honest.ties.pages.framed
  by true r = r.framed
