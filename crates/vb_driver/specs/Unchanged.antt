-- A call that changes nothing, and how many pages each place has.
use Rattle.std.specs.Prelude.{◌≡◌, List, count_by}
use Rattle.vb_model.specs.declared.places.Place.{Place}
use Rattle.vb_model.specs.declared.places.PlaceCounts.{PlaceCounts}
use Rattle.vb_model.specs.Pages.{is_free, is_used, is_giving, is_lent, is_taking, is_stranded}
use Rattle.vb_model.specs.Pages.{is_reporting}
use Rattle.vb_ram.specs.Pages.{Pages}
use Rattle.vb_ram.specs.Part.{Part}
use Rattle.vb_driver.specs.State.{DriverState}

-- Nothing is changed.
pub record Unchanged (m1 m2 : Pages) (p1 p2 : Part) (d1 d2 : DriverState) : Type 0 where
  pub mem : m2 ≡ m1
  pub part : p2 ≡ p1
  pub driver : d2 ≡ d1

-- How many pages each place has.
pub record AreCountsOf (counts : PlaceCounts) (places : List Place) : Type 0 where
  pub free : counts.free ≡ count_by is_free places
  pub used : counts.used ≡ count_by is_used places
  pub giving : counts.giving ≡ count_by is_giving places
  pub lent : counts.lent ≡ count_by is_lent places
  pub taking : counts.taking ≡ count_by is_taking places
  pub stranded : counts.stranded ≡ count_by is_stranded places
  pub reporting : counts.reporting ≡ count_by is_reporting places
