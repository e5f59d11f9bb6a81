-- Writes of the driver to guest memory.
use Rattle.std.proofs.Common.{◌≡◌, ◌≢◌, ◌∙◌, sym, ap, subst, arith, ℕ, ◌+◌, ◌*◌, ◌/◌, ◌%◌}
use Rattle.{std.proofs.Common.{◌≤◌, List, length, inl, inr, ◌∷◌}, vb_driver.specs.Coding.Names}
use Rattle.std.proofs.{lemmas.Bool.{cases_lt, cases_eq}, Math.Nat.div-add-mod}
use Rattle.vb_virtio.specs.Layout.{buffer_page, buffer_offset}
use Rattle.vb_ram.specs.Pages.{Pages, byte_at, SameBut, SameIn}
use Rattle.vb_ring.specs.Frame.{Extent, IsIn, SameOutside}
use Rattle.vb_ram.proofs.FieldLaws.{field_in, same_page, same_below, same_above, same_other}

-- what is written to one buffer leaves the others alone
pub buffer_apart : {old new : Pages} (base h k n : ℕ)
    → n ≤ 1024 → SameBut old new (buffer_page base h) (buffer_offset h) (buffer_offset h + n)
    → k ≢ h → SameIn old new (buffer_page base k) (buffer_offset k) (buffer_offset k + 1024)
buffer_apart {old} {new} base h k n small but ne = let hd = div-add-mod h 4 in
    let kd = div-add-mod k 4 in elim (cases_eq (k / 4) (h / 4)) [
      | inl same ↦
          let here : buffer_page base h ≡ buffer_page base k = ap (λ x. base + x) (sym same) in
          let P : ℕ → Type 0 = λ p. SameIn old new p (buffer_offset k) (buffer_offset k + 1024) in
          subst P here (elim (cases_lt (k % 4) (h % 4)) [
            | inl less ↦ same_below old new _ _ _ _ _ but (omega arith)
            | inr more ↦ same_above old new _ _ _ _ _ but (omega (arith, ne))
          ])
      | inr apart ↦ same_other old new _ _ _ _ _ _ but (omega (arith, apart))
    ]

pub names_at : {mem : Pages} {p o p' o' : ℕ} {xs ys : List ℕ}
    → p ≡ p' → o ≡ o' → xs ≡ ys → Names mem p o xs → Names mem p' o' ys
names_at e f s n = search (arith)

-- page numbers in a page that a write to another leaves
pub names_kept : (old new : Pages) (p o : ℕ) (xs : List ℕ) (hi : ℕ) → SameIn old new p o hi
    → o + 4 * length xs ≤ hi → Names old p o xs → Names new p o xs
names_kept old new p o xs hi same fits n = grind (arith, field_in)

-- bytes of one page are written, and then others
pub outside_both : {m1 m2 m3 : Pages} {p lo hi : ℕ} {es : List Extent} → SameBut m1 m2 p lo hi
    → SameOutside m2 m3 es → SameOutside m1 m3 (record { page = p; from = lo; to = hi } ∷ es)
outside_both {m1} {m2} {p} {lo} {hi} first then = record {
  bytes = λ q o out. then.bytes q o out.1 ∙ before q o out.0;
  others = λ q out. then.others q out.1 ∙ first.others q out.0;
  backing = λ q. then.backing q ∙ first.backing q;
  sizes = λ q. then.sizes q ∙ first.sizes q;
  count = then.count ∙ first.count;
} where
  before : (q o : ℕ) → (IsIn (record { page = p; from = lo; to = hi }) q o → ⊥)
      → byte_at m2 q o ≡ byte_at m1 q o
  before q o out = elim (cases_eq q p) [
    | inr ne ↦ (same_page m1 m2 q o (o + 1) (first.others q ne)).bytes o (omega arith) (omega arith)
    | inl is ↦ subst (λ (k : ℕ). byte_at m2 k o ≡ byte_at m1 k o) (sym is) (elim (cases_lt o lo) [
      | inl low ↦ first.below o low
      | inr from ↦ elim (cases_lt o hi) [
        | inr past ↦ first.above o past
        | inl to ↦ absurd (out (record { page = is; from = from; to = to }))
      ]
    ])
  ]
