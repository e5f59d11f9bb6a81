-- Each step keeps the rule.
use Rattle.std.proofs.Common.{◌≡◌, ◌≢◌, ℕ, zero, suc, ◌+◌, ◌<◌, ◌≤◌, Bool, true, false, cond}
use Rattle.std.proofs.Common.{eqb, List, [], ◌∷◌, length, set, refl, sym, ap, ◌∙◌, subst, ⊎_elim}
use Rattle.std.proofs.Common.{arith, eq-eqb, ne_eqb, eqb-true, get_or-set_same, get_or-set_other}
use Rattle.std.{proofs.{Common.length-set, lemmas.List.set-get_or}, specs.Prelude.slice_index}
use Rattle.atomic_table.{specs.Table.{Me, Allows, step}, proofs.Lists.{at_set, set_again}}
use Rattle.vb_virtio.specs.Tests.{one_if}
use Rattle.vb_device.specs.Own.{has, without}
use Rattle.vb_shared.proofs.Lists.{has_without, has_not_without, without_none}
use Rattle.vb_shared.specs.Rule.{pass, count, count_all, AllTied, IsKept, Kept, StepKind, TryClaim}
use Rattle.vb_shared.specs.{Rule.{PutBack, word_after, held_after}, Steps.{claimed, returned}}
use Rattle.vb_shared.specs.declared.rule.{Holding.Holding, Size.Size, View.View}
use mathlib.Core.Option.{some, none, some-ne-none, some-injective}
use mathlib.Core.Logic.{dite}
use native.Mathlib.Decide.{ℕ_discrete}
use prog.Atomic.{either}
use lib.ListN.{get_elem?}

-- ---- tags

pub count_at : (tag : ℕ) (views : List View) (i : ℕ) (v : View) → get_elem? views i ≡ some v
    → count tag v.holdings ≤ count_all tag views
count_at tag [] i v e = absurd (some-ne-none v (sym e))
count_at tag (x ∷ xs) zero v e =
    subst (λ (y : View). count tag y.holdings ≤ count tag x.holdings + count_all tag xs)
    (some-injective x v e) (omega arith)
count_at tag (x ∷ xs) (suc i) v e = let h = count_at tag xs i v e in omega arith

-- two places of the views
pub count_two : (tag : ℕ) (views : List View) (i j : ℕ) (v w : View) → i ≢ j
    → get_elem? views i ≡ some v → get_elem? views j ≡ some w
    → count tag v.holdings + count tag w.holdings ≤ count_all tag views
count_two tag [] i j v w ne e f = absurd (some-ne-none v (sym e))
count_two tag (x ∷ xs) zero zero v w ne e f = absurd (ne refl)
count_two tag (x ∷ xs) zero (suc j) v w ne e f = grind (arith, count_at tag xs j w f)
count_two tag (x ∷ xs) (suc i) zero v w ne e f = grind (arith, count_at tag xs i v e)
count_two tag (x ∷ xs) (suc i) (suc j) v w ne e f =
    grind (arith, count_two tag xs i j v w (λ k. ne (ap suc k)) e f)

pub count_set : (tag : ℕ) (views : List View) (i : ℕ) (v w : View) → get_elem? views i ≡ some v
    → count_all tag (set views i w) + count tag v.holdings
    ≡ count_all tag views + count tag w.holdings
count_set tag [] i v w e = absurd (some-ne-none v (sym e))
count_set tag (x ∷ xs) zero v w e = search arith
count_set tag (x ∷ xs) (suc i) v w e = let h = count_set tag xs i v w e in omega arith

pub one_tag : (tag : ℕ) → one_if (eqb tag tag) ≡ 1
one_tag tag = ap one_if (eq-eqb tag tag refl)

pub not_tag : (t tag n : ℕ) → one_if (eqb t tag) + n ≡ 0 → t ≢ tag
not_tag t tag n zero_sum e = grind (arith, eqb, eq-eqb)

-- ---- a step by the pass with a tag: the word f becomes x, and both are no other tag's

record Moves (words : List ℕ) (f x tag : ℕ) : Type 0 where
  pub inside : f < length words
  pub before : (t : ℕ) → t ≢ tag → slice_index words f ≢ t + 1
  pub after : (t : ℕ) → t ≢ tag → x ≢ t + 1

word_same : (words : List ℕ) (f x tag t j : ℕ) → Moves words f x tag → t ≢ tag
    → eqb (slice_index (set words f x) j) (t + 1) ≡ eqb (slice_index words j) (t + 1)
word_same words f x tag t j m ne = dite (ℕ_discrete j f)
    (λ e. ap (λ k. eqb (slice_index (set words f x) k) (t + 1)) e
    ∙ ap (λ n. eqb n (t + 1)) (get_or-set_same words f x 0 m.inside)
    ∙ ne_eqb x (t + 1) (m.after t ne) ∙ sym (ap (λ k. eqb (slice_index words k) (t + 1)) e
    ∙ ne_eqb (slice_index words f) (t + 1) (m.before t ne)))
    (λ n. ap (λ k. eqb k (t + 1)) (get_or-set_other words f j x 0 n))

tied_after : (guests : ℕ) (words : List ℕ) (f x tag : ℕ) (ps : List Holding) → Moves words f x tag
    → count tag ps ≡ 0 → AllTied guests words ps → AllTied guests (set words f x) ps
tied_after guests words f x tag [] m absent tied = tt
tied_after guests words f x tag (p ∷ ps) m absent tied = (
  (
    tied.0.0,
    λ j. word_same words f x tag p.tag j m (not_tag p.tag tag (count tag ps) absent) ∙ tied.0.1 j,
  ),
  tied_after guests words f x tag ps m (omega arith) tied.1,
)

kept_after : (size : Size) (words : List ℕ) (views : List View) (id tag f x : ℕ)
    (held held' : List ℕ) → IsKept size words views → get_elem? views id ≡ some (pass tag held)
    → Moves words f x tag → x ≤ size.guests
    → ((j : ℕ) → eqb (slice_index (set words f x) j) (tag + 1) ≡ has held' j)
    → IsKept size (set words f x) (set views id (pass tag held'))
kept_after size words views id tag f x held held' r at m low new = record {
  wide = length-set words f x ∙ r.wide;
  small = search (arith, get_or-set_same, get_or-set_other);
  tied = λ i v e. ⊎_elim (search arith) (λ (t : (i ≢ id) × (get_elem? views i ≡ some v)).
      let two = count_two tag views i id v (pass tag held) t.0 t.1 at in
      let most = r.apart tag in
      let one = one_tag tag in
      tied_after size.guests words f x tag v.holdings m (omega arith) (r.tied i v t.1))
      (at_set views id i (pass tag held') v e);
  apart = λ t.
      let c = count_set t views id (pass tag held) (pass tag held') at in
      let most = r.apart t in omega arith;
}

-- nothing changes
pub still : (size : Size) (words : List ℕ) (views : List View) (id f : ℕ) (v : View)
    → IsKept size words views → get_elem? views id ≡ some v
    → IsKept size (set words f (slice_index words f)) (set views id v)
still size words views id f v r at = grind (arith, set-get_or, set_again)

-- ---- a try

try_kept : (size : Size) (words : List ℕ) (views : List View) (id tag f : ℕ) (held : List ℕ)
    → f < size.frames → IsKept size words views → get_elem? views id ≡ some (pass tag held)
    → (b : Bool) → eqb (slice_index words f) 0 ≡ b
    → IsKept size (set words f (cond b (tag + 1) (slice_index words f)))
    (set views id (pass tag (cond b (f ∷ held) held)))
try_kept size words views id tag f held low r at true is =
    let free : slice_index words f ≡ 0 = eqb-true _ _ is in
    let mine = (r.tied id (pass tag held) at).0 in
    let wide = r.wide in
    let tag_low = mine.0 in
    let m : Moves words f (tag + 1) tag = search arith in
    kept_after size words views id tag f (tag + 1) held (f ∷ held) r at m (omega arith)
    (search (arith, get_or-set_same, eq-eqb, get_or-set_other, ne_eqb))
try_kept size words views id tag f held low r at false is =
    still size words views id f (pass tag held) r at

-- a frame whose word is 0 is no pass'
not_held : (size : Size) (words : List ℕ) (views : List View) (id tag f : ℕ) (held : List ℕ)
    → IsKept size words views → get_elem? views id ≡ some (pass tag held)
    → eqb (slice_index words f) 0 ≡ true → has held f ≡ false
not_held size words views id tag f held r at is = grind (arith, eqb-true, ne_eqb)

-- ---- a put-back

return_kept : (size : Size) (words : List ℕ) (views : List View) (id tag f : ℕ) (held : List ℕ)
    → f < size.frames → IsKept size words views → get_elem? views id ≡ some (pass tag held)
    → (b : Bool) → eqb (slice_index words f) (tag + 1) ≡ b
    → IsKept size (set words f (cond b 0 (slice_index words f)))
    (set views id (pass tag (cond b (without held f) held)))
return_kept size words views id tag f held low r at true is =
    let own : slice_index words f ≡ tag + 1 = eqb-true _ _ is in
    let mine = (r.tied id (pass tag held) at).0 in
    let wide = r.wide in
    let m : Moves words f 0 tag = search arith in
    kept_after size words views id tag f 0 held (without held f) r at m (omega arith)
    (search (arith, get_or-set_same, ne_eqb, has_not_without, get_or-set_other, has_without))
return_kept size words views id tag f held low r at false is =
    still size words views id f (pass tag held) r at

-- where the word isn't its own, the pass doesn't hold the frame
without_is : (size : Size) (words : List ℕ) (views : List View) (id tag f : ℕ) (held : List ℕ)
    → IsKept size words views → get_elem? views id ≡ some (pass tag held) → (b : Bool)
    → eqb (slice_index words f) (tag + 1) ≡ b → cond b (without held f) held ≡ without held f
without_is size words views id tag f held r at b is = grind (arith, without_none)

-- ---- all three

pub stepped : (kind : StepKind) (size : Size) (words : List ℕ) (views : List View) (i tag f : ℕ)
    (held : List ℕ) → f < size.frames → IsKept size words views → get_elem? views i
    ≡ some (pass tag held) → IsKept size (set words f (word_after kind tag (slice_index words f)))
    (set views i (pass tag (held_after kind tag (slice_index words f) f held)))
stepped kind size words views i tag f held low r at = grind (
  arith,
  try_kept size words views i tag f held low r,
  eqb (slice_index words f) 0,
  return_kept size words views i tag f held low r,
  eqb (slice_index words f) (tag + 1),
  still size words views i f (pass tag held) r,
)

-- ---- what a seat owes for a step

claims_at : (size : Size) (slots id f tag : ℕ) (held : List ℕ) (c : List (ℕ × Unit {0}))
    → f < size.frames
    → Allows (Kept size) slots id (pass tag held, c) f (λ n. either (eqb n 0) (tag + 1) n)
    (claimed (step slots f 0 (tag + 1) none) (pass tag held, c))
claims_at size slots id f tag held c low s r h10 at h12 = grind (
  arith,
  stepped TryClaim size s.words s.views id tag f held low r at,
  not_held size s.words s.views id tag f held r at,
)

pub claims : (size : Size) (slots id f tag : ℕ) (held : List ℕ) (me : Me (Unit {0}) View)
    → f < size.frames → me.0 ≡ pass tag held
    → Allows (Kept size) slots id me f (λ n. either (eqb n 0) (tag + 1) n)
    (claimed (step slots f 0 (tag + 1) none) me)
claims size slots id f tag held me low is =
    grind (arith, claims_at size slots id f tag held me.1 low)

gives_at : (size : Size) (slots id f tag : ℕ) (held : List ℕ) (c : List (ℕ × Unit {0}))
    → f < size.frames
    → Allows (Kept size) slots id (pass tag held, c) f (λ n. either (eqb n (tag + 1)) 0 n)
    (returned (step slots f (tag + 1) 0 none) (pass tag held, c))
gives_at size slots id f tag held c low s r h10 at h12 = grind (
  arith,
  stepped PutBack size s.words s.views id tag f held low r at,
  without_is size s.words s.views id tag f held r,
)

pub gives : (size : Size) (slots id f tag : ℕ) (held : List ℕ) (me : Me (Unit {0}) View)
    → f < size.frames → me.0 ≡ pass tag held
    → Allows (Kept size) slots id me f (λ n. either (eqb n (tag + 1)) 0 n)
    (returned (step slots f (tag + 1) 0 none) me)
gives size slots id f tag held me low is = grind (arith, gives_at size slots id f tag held me.1 low)
