-- How pages get frames before an initialisation (VIRTIO 1.1, 3.1.1).
use Rattle.std.specs.Prelude.{◌≡◌, ℕ, ◌-◌, Bool, ◌&&◌, List, [], ◌∷◌, ◌++◌, Option, Some, None}
use Rattle.std.specs.Prelude.{is_none, Result, Ok, Err, OnOk, OnErr, filter}
use Rattle.std.specs.List.{range_with_len}
use Rattle.vb_model.specs.declared.calls.Claim.{Claim}
use Rattle.vb_virtio.specs.declared.refusals.Refusal.{Refusal}
use Rattle.vb_virtio.specs.declared.refusals.Refusal.TheVariants.{NoFrame as NoFrameLeft, NoMemory}
use Rattle.vb_virtio.specs.Layout.{reserved_pages, is_start_page}
use Rattle.vb_virtio.specs.Tests.{times}
use Rattle.vb_model.specs.Driver.{given, claim_refusal, AreClaimsFor}
use Rattle.vb_ram.specs.Pages.{Pages, frame_at, Supplied}
use Rattle.vb_frames.specs.declared.keeper.Refused.{Refused}
use Rattle.vb_frames.specs.declared.keeper.Refused.TheVariants.{NoFrame, Memory}
use Rattle.vb_guest.specs.Supply.{Supply, AreClaimed, Moves, nothing}

-- Whether a page is one of rings and buffers and has no frame.
abbrev pub is_bare : ℕ → Pages → ℕ → Bool
is_bare size mem page = is_start_page size page && is_none (frame_at mem page)

-- Those of them from this one on, in rising order.
abbrev pub bare_from : ℕ → Pages → ℕ → List ℕ
bare_from size mem first =
    filter (is_bare size mem) (range_with_len first (reserved_pages size - first))

-- Each page, which had no frame, has the frame of the number beside it now. The last one got its
-- frame first.
abbrev pub AllSupplied : List ℕ → List ℕ → Pages → Pages → Type 0
AllSupplied [] numbers old new = new ≡ old
AllSupplied (page ∷ pages) [] old new = ⊥
AllSupplied (page ∷ pages) (number ∷ numbers) old new =
    (between : Pages) × AllSupplied pages numbers old between × (frame_at between page ≡ None)
    × Supplied between new page number

-- Why the pages got no frames, where they didn't.
abbrev pub why_unsupplied : {T : Type 0} → Result T Refused → Option Refusal
why_unsupplied (Ok x) = None
why_unsupplied (Err NoFrame) = Some NoFrameLeft
why_unsupplied (Err Memory) = Some NoMemory

-- One claim is made for each of these pages, up to the first that is refused, and is noted after
-- those before: all get the frames that were given, or none does, and the frames that were given go
-- back.
pub record SuppliesBy {T : Type 0} (Answers : List Bool → Claim → Type 0) (s1 s2 : Supply)
    (noted1 noted2 : List Claim) (pages : List ℕ) (old new : Pages) (result : Result T Refused) :
    Type 0 where
  pub claims : List Claim
  pub noted : noted2 ≡ noted1 ++ claims
  pub made : AreClaimsFor pages claims
  pub answered : AreClaimed Answers s1 claims
  pub answer : claim_refusal claims ≡ why_unsupplied result
  pub supplied : OnOk result
      (AllSupplied pages (given claims) old new
      × Moves s1 s2 (λ n. times n (given claims)) nothing)
  pub refused : OnErr result ((new ≡ old) × Moves s1 s2 nothing nothing)
