-- What a write that is done puts into a page, and what a read gives.
use Rattle.std.proofs.lemmas.List.{get_or-take, get_or-drop, get_or_append_left, length-take-le}
use Rattle.std.proofs.Common.{◌≡◌, ℕ, ◌+◌, ◌<◌, ◌≤◌, List, length, get_or, take, drop, arith}
use Rattle.std.{proofs.lemmas.List.get_or-append_right, proofs.lemmas.Bool.eq-eqb}
use Rattle.vb_virtio.proofs.Tables.{each_page-get}
use Rattle.vb_virtio.specs.Memory.{overwritten}
use Rattle.vb_virtio.specs.Limits.{page_size}
use Rattle.vb_model.specs.Blank.{IsBlank}
use Rattle.vb_model.specs.Courses.{byte_written}
use Rattle.vb_model.specs.Driver.{contents_of}
use Rattle.vb_model.specs.Guest.{Guest}
use Rattle.vb_model.specs.{Step.HonestStep, declared.calls.Call.TheVariants.{Read, Write}}
use Rattle.vb_model.specs.declared.{calls.Claim.Claim, replies.Reply.TheVariants.{Done, ReadBytes}}

-- ---- a write that was done

pub record Wrote (g : Guest) (page offset : ℕ) (bytes : List ℕ) (new : Guest) : Type 0 where
  pub there : page < g.config.pages
  pub inside : offset + length bytes ≤ page_size
  pub contents : contents_of new page ≡ overwritten offset bytes (contents_of g page)

pub write_step : (g : Guest) (page offset : ℕ) (bytes : List ℕ) (claims : List Claim) (new : Guest)
    → IsBlank g → HonestStep g (Write page offset bytes) claims Done new
    → Wrote g page offset bytes new
write_step g page offset bytes claims new blank s = grind (arith, each_page-get, eq-eqb)

-- a byte of what was overwritten
pub overwritten_byte : (at offset : ℕ) (bytes old : List ℕ) → offset + length bytes ≤ length old
    → get_or (overwritten offset bytes old) at 0 ≡ byte_written at offset bytes (get_or old at 0)
overwritten_byte at offset bytes old fits =
    grind (arith, length-take-le, get_or-append_right, get_or_append_left, get_or-take, get_or-drop)

-- ---- a read

pub record WasRead (g : Guest) (page offset len : ℕ) (bytes : List ℕ) : Type 0 where
  pub there : page < g.config.pages
  pub inside : offset + len ≤ page_size
  pub bytes_are : bytes ≡ take len (drop offset (contents_of g page))

pub read_step : (g : Guest) (page offset len : ℕ) (bytes : List ℕ) (claims : List Claim) (new : Guest)
    → HonestStep g (Read page offset len) claims (ReadBytes bytes) new
    → WasRead g page offset len bytes
read_step g page offset len bytes claims new s = grind arith
