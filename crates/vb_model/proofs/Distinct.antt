-- The pages that a new request names are distinct.
use Rattle.std.proofs.Common.{◌≡◌, ℕ, ◌≤◌, Bool, true, false, List, ◌++◌, refl, arith}
use Rattle.std.proofs.lemmas.Bool.{false_from_ne_true}
use Rattle.vb_virtio.proofs.Tables.{is_in-take, list_all-at, pages_where-passes}
use Rattle.vb_virtio.specs.Tests.{times, is_in, pages_where, AllDistinct}
use Rattle.vb_virtio.proofs.Distinct.{times-append, times-none, distinct_where, distinct_list}
use Rattle.vb_model.specs.declared.places.Place.{Place}
use Rattle.vb_model.specs.Guest.{Guest}
use Rattle.vb_model.specs.declared.places.Place.TheVariants.{Reserved}
use Rattle.vb_model.specs.Refusals.{inflate_count}
use Rattle.vb_model.specs.Pages.{is_free, is_stranded, place_of}
use Rattle.vb_model.specs.Driver.{AllFreePages, stranded_first}

-- stranded pages and then free ones
pub inflated_distinct : (g : Guest) (n : ℕ) (others : List ℕ) (page : ℕ) → AllFreePages g others
    → AllDistinct others → times page (stranded_first g n ++ others) ≤ 1
inflated_distinct g n others page free distinct = step (is_in page others) refl where
  apart : (place : Place) → is_free place ≡ true → is_stranded place ≡ true → ⊥
  apart Rattle.vb_model.specs.declared.places.Place.TheVariants.Free a b = cc
  apart _ a b = cc

  step : (v : Bool) → is_in page others ≡ v → times page (stranded_first g n ++ others) ≤ 1
  step false e = omega (
    arith,
    times-append page (stranded_first g n) others,
    times-none page others e,
    distinct_where is_stranded g.places (inflate_count g n) page,
  )
  step true e =
      let f : is_free (place_of g.places page) ≡ true =
      list_all-at (λ p. is_free (place_of g.places p)) others page free e in
      let out : is_in page (stranded_first g n) ≡ false = false_from_ne_true _
      (λ k. apart (place_of g.places page) f (pages_where-passes is_stranded g.places page Reserved
      (is_in-take page (inflate_count g n) (pages_where is_stranded g.places) k))) in
      omega (
        arith,
        times-append page (stranded_first g n) others,
        times-none page (stranded_first g n) out,
        distinct_list others page distinct,
      )
