-- Calls after which each page has the frame that it had leave none loose.
use Rattle.std.specs.Prelude.{◌≡◌, ◌++◌, ℕ, suc, Bool, List, [], ◌∷◌, Option, None, slice_index_or}
use Rattle.std.{specs.Prelude.{count_by, length, refl}, proofs.Common.{◌∙◌, sym, ap, arith}}
use Rattle.{std.proofs.Common.length-append, vb_model.specs.declared.calls.{Claim.Claim}}
use Rattle.vb_virtio.specs.Tests.{one_if, times}
use Rattle.vb_virtio.proofs.Tables.{count_by-cons}
use Rattle.vb_model.specs.Guest.{Guest}
use Rattle.vb_model.specs.Guest.{frame_of}
use Rattle.vb_ram.specs.Pages.{Pages}
use Rattle.{vb_ram.specs.{Pages.frame_at, Part.Part}, vb_device.specs.Discards.frames_behind}
use Rattle.{vb_driver.specs.State.DriverState, vb_guest.specs.Exact.KeepsFrames}
use Rattle.vb_guest.specs.{Stands.{Honest, Rogue, Stands}, Steps.{is_frame, Frees}}
use Rattle.vb_guest.proofs.{Handing.handed_back, Moving.times_first, Standing.by_guest}

-- ---- frames

pub no_frames : (frames : List ℕ) → ((n : ℕ) → times n frames ≡ 0) → frames ≡ []
no_frames [] none = refl
no_frames (n ∷ rest) none = grind (arith, times_first n n rest)

-- no frame backs a page that has none
pub none_behind : (m : Pages) (pages : List ℕ) → ((page : ℕ) → frame_at m page ≡ None)
    → frames_behind m pages ≡ []
none_behind m [] none = refl
none_behind m (p ∷ ps) none = grind (arith, none_behind m ps none)

-- two tables with the same frames have each frame as often
as_often : (n : ℕ) (xs ys : List (Option ℕ)) → ((i : ℕ) → slice_index_or xs i None
    ≡ slice_index_or ys i None) → count_by (is_frame n) xs ≡ count_by (is_frame n) ys
as_often n [] [] same = refl
as_often n [] (y ∷ ys) same = omega (
  arith,
  count_by-cons (is_frame n) y ys,
  ap (λ (o : Option ℕ). one_if (is_frame n o)) (same 0),
  as_often n [] ys (λ i. same (suc i)),
)
as_often n (x ∷ xs) [] same = omega (
  arith,
  count_by-cons (is_frame n) x xs,
  ap (λ (o : Option ℕ). one_if (is_frame n o)) (same 0),
  as_often n xs [] (λ i. same (suc i)),
)
as_often n (x ∷ xs) (y ∷ ys) same = omega (
  arith,
  count_by-cons (is_frame n) x xs,
  count_by-cons (is_frame n) y ys,
  ap (λ (o : Option ℕ). one_if (is_frame n o)) (same 0),
  as_often n xs ys (λ i. same (suc i)),
)

-- the guest has the frames that back the pages of memory
abbrev IsBehind : Pages → Guest → Type 0
IsBehind m g = (page : ℕ) → frame_at m page ≡ frame_of g.frames page

none_freed : {New Step : Guest → Type 0} (m1 m2 : Pages) {loose : List ℕ} {g : Guest}
    → IsBehind m1 g → ((x : Guest) → New x → IsBehind m2 x)
    → KeepsFrames m1 m2 → Frees New Step loose g → loose ≡ []
none_freed m1 m2 {loose} {g} before after same step = no_frames loose (λ n. omega (
  arith,
  step.freed n,
  as_often n step.new.frames g.frames
      (λ page. sym (after step.new step.stands page) ∙ same page ∙ before page),
))

pub freeing_quiet : {keeps : Bool} {m1 m2 m3 : Pages} {p1 : Part} (p2 : Part) {d : DriverState}
    {g : Guest} {Step Jump : Guest → Type 0} → Stands keeps m1 p1 d g → m3 ≡ m2 → KeepsFrames m1 m3
    → (Honest m1 p1 d g → Frees (Honest m2 (handed_back p2) d) Step p2.loose g)
    → (Rogue m1 p1 d g → Frees (Rogue m2 (handed_back p2) d) Jump p2.loose g) → p2.loose ≡ []
freeing_quiet {m1} {m2} p2 stands memory same honest rogue = by_guest stands
    (λ h. none_freed m1 m2 h.ties.pages.behind (λ x n. n.ties.pages.behind) kept (honest h))
    (λ r. none_freed m1 m2 r.behind (λ x n. n.behind) kept (rogue r)) where
      kept : KeepsFrames m1 m2
      kept page = ap (λ (m : Pages). frame_at m page) (sym memory) ∙ same page

-- ---- claims that are noted

-- one was made
pub noted_one : {P : Type 0} {old new : List Claim} (claim : Claim)
    → new ≡ old ++ (claim ∷ []) → new ≡ old → P
noted_one {old} claim noted same =
    absurd (omega (arith, ap length noted, ap length same, length-append old (claim ∷ [])))

-- and then others
pub noted_more : {P : Type 0} {old mid new : List Claim} (more : List Claim) (claim : Claim)
    → mid ≡ old ++ (claim ∷ []) → new ≡ mid ++ more → new ≡ old → P
noted_more {old} {mid} more claim noted others same =
    grind (arith, length-append old (claim ∷ []), length-append mid more)
