-- What changes of memory leave of the guest's frames and contents.
use Rattle.std.specs.Prelude.{◌≡◌, ℕ, ◌≤◌, Bool, false, if◌then◌else◌, List, length, Option, None}
use Rattle.{std.proofs.Common.{◌∙◌, ap, arith}, vb_device.specs.Discards.discarded}
use Rattle.vb_virtio.specs.Tests.{is_in}
use Rattle.vb_virtio.specs.Memory.{zero_page}
use Rattle.vb_virtio.specs.Layout.{reserved_pages}
use Rattle.vb_guest.specs.Stands.{HasPages}
use Rattle.vb_ram.proofs.Contents.{length-zero_page}
use Rattle.vb_ram.specs.Pages.{Page, Pages, number_of, page_at, frame_at, contents_at}
use Rattle.vb_guest.proofs.Discarding.{with_entry, length-with_entry, with_entry-get, with_none-get}

-- frames, and the contents of pages from this one on, are as before
pub record SamePages (least : ℕ) (old new : Pages) : Type 0 where
  pub count : length new ≡ length old
  pub behind : (p : ℕ) → frame_at new p ≡ frame_at old p
  pub holds : (p : ℕ) → least ≤ p → contents_at new p ≡ contents_at old p

pub pages_same : {old new : Pages} {size n : ℕ}
    {frames : List (Option ℕ)} {contents : List (List ℕ)} → SamePages (reserved_pages size) old new
    → HasPages old size n frames contents → HasPages new size n frames contents
pages_same same has = grind arith

pub number_if : (b : Bool) (x : Option Page)
    → number_of (if b then None else x) ≡ (if b then None else number_of x)
number_if x0 x = grind arith

pub page_discarded : (pages : List ℕ) (mem : Pages) (p : ℕ)
    → page_at (discarded pages mem) p ≡ (if is_in p pages then None else page_at mem p)
page_discarded pages mem p = with_none-get pages None mem p

pub length-discarded : (pages : List ℕ) (mem : Pages) → length (discarded pages mem) ≡ length mem
length-discarded pages mem = length-with_entry pages None mem

-- a page that isn't among them is as before
pub page_undiscarded : (pages : List ℕ) (mem : Pages) (p : ℕ) → is_in p pages ≡ false
    → page_at (discarded pages mem) p ≡ page_at mem p
page_undiscarded pages mem p out =
    page_discarded pages mem p ∙ ap (λ (b : Bool). if b then None else page_at mem p) out

whole_if : (b : Bool) (xs : List ℕ) → length xs ≡ 4096 → length (if b then zero_page else xs) ≡ 4096
whole_if x xs len = grind (arith, length-zero_page)

pub pages_discarded : {old : Pages}
    {size n : ℕ} {frames : List (Option ℕ)} {contents : List (List ℕ)} (pages : List ℕ)
    → HasPages old size n frames contents → HasPages (discarded pages old) size n
    (with_entry pages None frames) (with_entry pages zero_page contents)
pages_discarded pages has =
    grind (arith, length-with_entry, with_none-get, with_entry-get, whole_if)
