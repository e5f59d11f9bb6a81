use Rattle.std.proofs.Common.{◌≡◌, ◌∙◌, sym, ℕ, ◌<◌, true, List, Option, length, None, arith}
use Rattle.std.{specs.Prelude.{slice_index_or, if◌then◌else◌}, proofs.lemmas.Bool.cases_lt}
use Rattle.std.proofs.lemmas.List.{length-map, ext_get_or}
use Rattle.vb_ring.{specs.Entries.is_own, specs.Ends.released, proofs.OwnerLaws.released-at}
use Rattle.vb_ring.proofs.owners.release.Goals as goal

-- a table whose entries are each freed or kept is the released one
released_is : (h : ℕ) (old new : List (Option ℕ)) → length new ≡ length old
    → ((k : ℕ) → k < length old → slice_index_or new k None
    ≡ (if is_own h (slice_index_or old k None) then None else slice_index_or old k None))
    → new ≡ released h old
released_is h old new len each = ext_get_or None new (released h old)
    (len ∙ sym (length-map old (λ entry. if is_own h entry then None else entry))) (λ i l.
    each i (omega (arith, len)) ∙ sym (released-at h old i))

-- an entry that isn't the head's stays
stays : (h : ℕ) (old : List (Option ℕ)) (k : ℕ) → (is_own h (slice_index_or old k None) ≡ true → ⊥)
    → slice_index_or old k None
    ≡ (if is_own h (slice_index_or old k None) then None else slice_index_or old k None)
stays h old k other = search (arith)

pub loop-i-init : goal.loop-i-init
loop-i-init c = grind (arith, stays)

pub returns : goal.returns
returns c = grind (arith, released_is, cases_lt, stays)
