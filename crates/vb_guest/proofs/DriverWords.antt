-- The driver in the words of its guest.
use Rattle.{std.{specs.Prelude.◌≡◌, proofs.Common.{subst, arith}}, vb_model.specs.Guest.Guest}
use Rattle.{vb_ram.specs.{Pages.Pages, Part.Part}, vb_ring.specs.Ends.DriverEnd}
use Rattle.vb_driver.specs.State.{FreePages, RequestSide, ReportSide, DriverState}
use Rattle.vb_guest.specs.Stands.{Honest, HasParts, beside_queues, beside_sides, beside_requests}

-- what a driver keeps of its four queues
pub record Sides : Type 0 where
  pub inflate : RequestSide
  pub deflate : RequestSide
  pub statistics : DriverEnd
  pub report : ReportSide

abbrev sides_of : DriverState → Sides
sides_of d = record {
  inflate = d.inflate;
  deflate = d.deflate;
  statistics = d.statistics;
  report = d.report;
}

-- the guest's driver, with these page areas and queues
abbrev pub driver_of : Guest → FreePages → Sides → DriverState
driver_of g areas sides = record {
  pages = g.config.pages;
  queue_size = g.config.queue_size;
  processors = g.config.processors;
  places = g.places;
  held = g.held;
  areas = areas;
  inflate = sides.inflate;
  deflate = sides.deflate;
  statistics = sides.statistics;
  report = sides.report;
  features = g.features;
  actual = g.actual;
}

driver_is : (p : Part) {d : DriverState} (g : Guest) → HasParts
    (beside_queues p) (beside_sides d) (beside_requests g) → d ≡ driver_of g d.areas (sides_of d)
driver_is p g has = grind arith

-- what a call did to a driver, said of the guest's driver
pub in_words : {R : Type 0} (P : DriverState → Type 0) {m : Pages} {p : Part}
    {d : DriverState} {g : Guest} → Honest m p d g → P d → ((areas : FreePages) (sides : Sides)
    → Honest m p (driver_of g areas sides) g → P (driver_of g areas sides) → R) → R
in_words P {m} {p} {d} {g} stands did goes = let is = driver_is p g stands.ties.parts in
    goes d.areas (sides_of d) (subst (λ x. Honest m p x g) is stands) (subst P is did)
