use Rattle.std.proofs.Common.{◌≡◌, ◌≢◌, ◌∙◌, sym, ap, ℕ, ◌<◌, List, Option, length, Some, None}
use Rattle.std.{proofs.Common.{Bool, true, false, arith, refl}, proofs.lemmas.Bool.cases_eq}
use Rattle.std.specs.Prelude.{slice_index, slice_index_or, if◌then◌else◌}
use Rattle.std.proofs.lemmas.List.{length-set, get_or-set_same, get_or-set_other, ext_get_or}
use Rattle.vb_virtio.specs.Tests.{is_in}
use Rattle.vb_virtio.proofs.Tables.{length-each_from}
use Rattle.vb_ring.{specs.Ends.claimed, proofs.OwnerLaws.{is_in-some, not_in, claimed-at}}
use Rattle.vb_ring.proofs.owners.claim.Goals as goal

-- a table whose path belongs to the head, and whose rest is as before, is the claimed one
claimed_is : (path : List ℕ) (h : ℕ) (old new : List (Option ℕ)) → length new ≡ length old
    → ((k : ℕ) → k < length path → slice_index path k < length old)
    → ((k : ℕ) → k < length path → slice_index_or new (slice_index path k) None ≡ Some h)
    → ((i : ℕ) → ((k : ℕ) → k < length path → slice_index path k ≢ i)
    → slice_index_or new i None ≡ slice_index_or old i None) → new ≡ claimed path h old
claimed_is path h old new len inside now others = ext_get_or None new (claimed path h old)
    (len ∙ sym (length-each_from 0 (λ i entry. if is_in i path then Some h else entry) old)) (λ i l.
    at i (is_in i path) refl ∙ sym (claimed-at path h old i inside))
  where
    at : (i : ℕ) (b : Bool) → is_in i path ≡ b
        → slice_index_or new i None ≡ (if is_in i path then Some h else slice_index_or old i None)
    at i true e = let found = is_in-some path i e in
        ap (λ n. slice_index_or new n None) (sym found.2) ∙ now found.0 found.1
        ∙ ap (λ (b : Bool). if b then Some h else slice_index_or old i None) (sym e)
    at i false e = others i (λ k l. not_in path i k e l)
        ∙ ap (λ (b : Bool). if b then Some h else slice_index_or old i None) (sym e)

pub loop-i-preserved : goal.loop-i-preserved
loop-i-preserved c = grind (arith, cases_eq, length-set, get_or-set_same, get_or-set_other)

pub returns : goal.returns
returns c = grind (arith, claimed_is)
