-- Laws of fields, for the crates above.
use Rattle.std.proofs.{Common.{subst, sym, ◌∙◌, ap, arith}, lemmas.Nat.from_le_bytes-to_le_bytes_2}
use Rattle.std.proofs.lemmas.Nat.{from_le_bytes-to_le_bytes_4, from_le_bytes-to_le_bytes_8}
use Rattle.std.specs.{Int.{w16, w32, w64, from_le_bytes, to_le_bytes}, Prelude.{◌≡◌, ◌≢◌, ℕ, zero}}
use Rattle.std.specs.Prelude.{suc, ◌+◌, ◌^◌, ◌<◌, ◌≤◌, List, slice_index, refl}
use Rattle.vb_ram.specs.Pages.{Pages, byte_of, byte_at, page_at, field, SameBut, SameIn, Wrote}
use Rattle.vb_ram.specs.Pages.{PutField}

-- equal bytes make equal fields
pub field_in : (n : ℕ) (old new : Pages) (p lo hi o : ℕ) → SameIn old new p lo hi → lo ≤ o
    → o + n ≤ hi → field n new p o ≡ field n old p o
unfolding field
field_in zero old new p lo hi o same l h = refl
field_in (suc n) old new p lo hi o same l h =
    grind (arith, field_in n old new p lo hi (o + 1) same (omega arith) (omega arith))

-- what was written elsewhere left these bytes alone
pub same_below : (old new : Pages) (p a b lo hi : ℕ) → SameBut old new p a b → hi ≤ a
    → SameIn old new p lo hi
same_below old new p a b lo hi w h = record { bytes = λ o l u. w.below o (omega arith) }

pub same_above : (old new : Pages) (p a b lo hi : ℕ) → SameBut old new p a b → b ≤ lo
    → SameIn old new p lo hi
same_above old new p a b lo hi w h = record { bytes = λ o l u. w.above o (omega arith) }

pub same_page : (old new : Pages) (q lo hi : ℕ) → page_at new q ≡ page_at old q
    → SameIn old new q lo hi
unfolding byte_at
same_page old new q lo hi e = record { bytes = λ o l u. ap (λ w. byte_of w o) e }

pub same_other : (old new : Pages) (p q a b lo hi : ℕ) → SameBut old new p a b → q ≢ p
    → SameIn old new q lo hi
same_other old new p q a b lo hi w ne = same_page old new q lo hi (w.others q ne)

pub same_trans : (m1 m2 m3 : Pages) (p lo hi : ℕ) → SameIn m1 m2 p lo hi → SameIn m2 m3 p lo hi
    → SameIn m1 m3 p lo hi
same_trans m1 m2 m3 p lo hi a b = record { bytes = λ o l u. b.bytes o l u ∙ a.bytes o l u }

-- writes within one range, one after the other
pub but_trans : (m1 m2 m3 : Pages) (p lo hi : ℕ) → SameBut m1 m2 p lo hi → SameBut m2 m3 p lo hi
    → SameBut m1 m3 p lo hi
but_trans m1 m2 m3 p lo hi a b = grind arith

pub but_wider : (old new : Pages) (p a b lo hi : ℕ) → SameBut old new p a b → lo ≤ a → b ≤ hi
    → SameBut old new p lo hi
but_wider old new p a b lo hi w l h = grind arith

-- the fields that bytes read one by one make
pub field_2 : (mem : Pages) (p o : ℕ) (bs : List ℕ) → ((k : ℕ)
    → k < 2 → slice_index bs k ≡ byte_at mem p (o + k)) → field 2 mem p o ≡ from_le_bytes w16 bs
unfolding field
field_2 mem p o bs h = grind arith

pub field_4 : (mem : Pages) (p o : ℕ) (bs : List ℕ) → ((k : ℕ)
    → k < 4 → slice_index bs k ≡ byte_at mem p (o + k)) → field 4 mem p o ≡ from_le_bytes w32 bs
unfolding field
field_4 mem p o bs h = grind arith

pub field_8 : (mem : Pages) (p o : ℕ) (bs : List ℕ) → ((k : ℕ)
    → k < 8 → slice_index bs k ≡ byte_at mem p (o + k)) → field 8 mem p o ≡ from_le_bytes w64 bs
unfolding field
field_8 mem p o bs h = grind arith

-- what a number's bytes put
pub put_2 : (old new : Pages) (p o x : ℕ) → x < 2 ^ 16 → Wrote old new p o (to_le_bytes w16 x)
    → PutField 2 old new p o x
put_2 old new p o x lt w = record {
  value = field_2 new p o (to_le_bytes w16 x) (λ k h. sym (w.written k h))
      ∙ from_le_bytes-to_le_bytes_2 x lt;
  rest = w.rest;
}

-- what a number's bytes put
pub put_4 : (old new : Pages) (p o x : ℕ) → x < 2 ^ 32 → Wrote old new p o (to_le_bytes w32 x)
    → PutField 4 old new p o x
put_4 old new p o x lt w = record {
  value = field_4 new p o (to_le_bytes w32 x) (λ k h. sym (w.written k h))
      ∙ from_le_bytes-to_le_bytes_4 x lt;
  rest = w.rest;
}

-- what a number's bytes put
pub put_8 : (old new : Pages) (p o x : ℕ) → x < 2 ^ 64 → Wrote old new p o (to_le_bytes w64 x)
    → PutField 8 old new p o x
put_8 old new p o x lt w = record {
  value = field_8 new p o (to_le_bytes w64 x) (λ k h. sym (w.written k h))
      ∙ from_le_bytes-to_le_bytes_8 x lt;
  rest = w.rest;
}

-- the same at equal numbers
pub put_at : (n : ℕ) (old new : Pages) (p o x at y : ℕ) → PutField n old new p o x → o ≡ at → x ≡ y
    → PutField n old new p at y
put_at n old new p o x at y w e f =
    subst (λ (z : ℕ). PutField n old new p z y) e (subst (λ (z : ℕ). PutField n old new p o z) f w)

-- zeros are the number 0
pub field_zero : (n : ℕ) (mem : Pages) (p o : ℕ) → ((k : ℕ) → byte_at mem p k ≡ 0)
    → field n mem p o ≡ 0
unfolding field
field_zero zero mem p o h = refl
field_zero (suc n) mem p o h = omega (arith, h o, field_zero n mem p (o + 1) h)
