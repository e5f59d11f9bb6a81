-- Flags by page.
use Rattle.std.specs.Prelude.{◌≡◌, ℕ, ◌+◌, ◌<◌, Bool, false, ◌==◌, List, [], length, refl, cond}
use Rattle.std.proofs.{Math.ListN.{set, length-set}, Common.{sym, ◌∙◌, ap, arith, get_or, take}}
use Rattle.std.proofs.{Common.{eq-eqb, inl, inr}, lemmas.Bool.cases_eq, lemmas.List.ext_get_or}
use Rattle.std.proofs.lemmas.List.{get_or-set_same, get_or-set_other}
use Rattle.vb_virtio.specs.Tests.{is_in}
use Rattle.vb_virtio.proofs.Tables.{length-each_from, each_page-get}
use Rattle.vb_device.{specs.Discards.flagged, specs.BaseCalls.flags_after}
use Rattle.vb_device.proofs.Discards.{in_more, or_true, or_false, not_equal}

pub flagged-length : (pages : List ℕ) (flag : Bool) (flags : List Bool) →
    length (flagged pages flag flags) ≡ length flags
flagged-length pages flag flags =
    length-each_from 0 (λ page old. cond (is_in page pages) flag old) flags

pub flagged-at : (pages : List ℕ) (flag : Bool) (flags : List Bool) (k : ℕ) → k < length flags →
    get_or (flagged pages flag flags) k false ≡ cond (is_in k pages) flag (get_or flags k false)
flagged-at pages flag flags k lt = grind (arith, each_page-get)

pub flagged_none : (flag : Bool) (flags : List Bool) → flags ≡ flagged [] flag flags
flagged_none flag flags = ext_get_or false flags (flagged [] flag flags)
    (sym (flagged-length [] flag flags)) (λ k lt. sym (flagged-at [] flag flags k lt))

-- one more page's flag
pub flag_more : (first flags : List Bool) (pages : List ℕ) (i page : ℕ) (flag : Bool) →
    i < length pages → get_or pages i 0 ≡ page → flags ≡ flagged (take i pages) flag first →
    set flags page flag ≡ flagged (take (i + 1) pages) flag first
flag_more first flags pages i page flag lt at e =
    let len : length flags ≡ length first =
    ap (λ (xs : List Bool). length xs) e ∙ flagged-length (take i pages) flag first in
    ext_get_or false (set flags page flag) (flagged (take (i + 1) pages) flag first)
    (length-set flags page flag ∙ (len ∙ sym (flagged-length (take (i + 1) pages) flag first)))
    (λ k l.
    let here : k < length flags = omega (arith, l, length-set flags page flag) in
    let there : k < length first = omega (arith, here, len) in elim (cases_eq k page) [
      | inl same ↦ (let inside : page < length flags = omega (arith, here, same) in
          ap (λ (j : ℕ). get_or (set flags page flag) j false) same ∙
          (get_or-set_same flags page flag false inside
          ∙ sym (flagged-at (take (i + 1) pages) flag first k there
          ∙ ap (λ b. cond b flag (get_or first k false)) (in_more pages i k lt ∙
          or_true (is_in k (take i pages)) (get_or pages i 0 == k)
          (eq-eqb (get_or pages i 0) k (at ∙ sym same))))))
      | inr ne ↦ get_or-set_other flags page k flag false ne ∙
          (ap (λ (xs : List Bool). get_or xs k false) e ∙
          (flagged-at (take i pages) flag first k there
          ∙ sym (flagged-at (take (i + 1) pages) flag first k there ∙
          ap (λ b. cond b flag (get_or first k false)) (in_more pages i k lt ∙
          or_false (is_in k (take i pages)) (get_or pages i 0 == k)
          (not_equal (get_or pages i 0) k (get_or pages i 0 == k) refl (λ x. ne (x ∙ at)))))))
    ])

pub after-length : (q : ℕ) (pages : List ℕ) (flags : List Bool) →
    length (flags_after q pages flags) ≡ length flags
after-length q pages flags = grind (arith, flagged-length)
