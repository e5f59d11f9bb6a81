-- Laws of the driver's table.
use Rattle.std.specs.Prelude.{◌≡◌, ◌≢◌, ℕ, zero, suc, ◌<◌, ◌==◌, ◌||◌, Bool, true, false, List, []}
use Rattle.std.specs.Prelude.{◌∷◌, ◌+◌, Option, Some, None, is_none, if◌then◌else◌, length, take}
use Rattle.std.proofs.lemmas.List.{length-map, get_or-map, get_or_past, get_or-take, length-take}
use Rattle.std.specs.{Prelude.{replicate, slice_index, slice_index_or, refl}, List.list_any}
use Rattle.vb_virtio.proofs.Tables.{each_page-get}
use Rattle.vb_virtio.specs.Tests.{is_in}
use Rattle.std.proofs.Common.{sym, ◌∙◌, ap, arith, eq-eqb}
use Rattle.std.proofs.lemmas.{Bool.eqb-true, List.{get_or-replicate, length-replicate}}
use Rattle.vb_ring.proofs.Numbers.{length_gain}
use Rattle.vb_ring.specs.{Entries.{is_own, is_head}, Numbers.numbers, Ends.{claimed, released}}

-- A number that equals itself.
same_number : (n : ℕ) → (n == n) ≡ true
same_number n = eq-eqb n n refl

-- ---- members

-- What is in a list is in it.
pub is_in-at : (xs : List ℕ) (k : ℕ) → k < length xs → is_in (slice_index xs k) xs ≡ true
is_in-at [] k h = absurd (omega arith)
is_in-at (x ∷ xs) zero h = ap (λ (b : Bool). b || list_any (λ m. m == x) xs) (same_number x)
is_in-at (x ∷ xs) (suc k) h = grind (arith, is_in-at xs k (omega arith))

-- What is in a list is somewhere in it.
pub is_in-some : (xs : List ℕ) (n : ℕ) → is_in n xs ≡ true
    → (k : ℕ) × (k < length xs) × (slice_index xs k ≡ n)
is_in-some [] n h = cc
is_in-some (x ∷ xs) n h = at (x == n) refl (is_in-some xs n) where
  at : (b : Bool) → (x == n) ≡ b → (is_in n xs ≡ true → (k : ℕ) × (k < length xs)
      × (slice_index xs k ≡ n)) → (k : ℕ) × (k < length (x ∷ xs)) × (slice_index (x ∷ xs) k ≡ n)
  at true e more = (0, omega arith, eqb-true x n e)
  at false e more = let rest : is_in n xs ≡ true = ap (λ (b : Bool). b || is_in n xs) (sym e) ∙ h in
      let found = more rest in (suc found.0, omega (arith, found.1), found.2)

-- Not in a list, a number is nowhere in it.
pub not_in : (xs : List ℕ) (n k : ℕ) → is_in n xs ≡ false → k < length xs → slice_index xs k ≢ n
not_in xs n k h l e = grind (arith, is_in-at)

-- A number that is nowhere in a list isn't in it.
pub nowhere_in : (xs : List ℕ) (n : ℕ) → ((k : ℕ) → k < length xs → slice_index xs k ≢ n)
    → is_in n xs ≡ false
nowhere_in xs n h = grind (arith, is_in-some)

-- ---- the lowest of some numbers

-- What a prefix has is what the list has.
pub take_inside : (xs : List ℕ) (n k : ℕ) → k < length (take n xs)
    → (k < length xs) × (k < n) × (slice_index (take n xs) k ≡ slice_index xs k)
take_inside xs n k h = grind (arith, length-take, get_or-take)

-- ---- fresh, claimed and released tables

-- An owner in a table of which nothing is out.
pub fresh_free : (q i : ℕ) → slice_index_or (replicate {A = Option ℕ} q None) i None ≡ None
fresh_free q i = grind (arith, get_or-replicate, get_or_past, length-replicate)

-- An owner in a table of which a path was claimed.
pub claimed-at : (path : List ℕ) (h : ℕ) (owner : List (Option ℕ)) (i : ℕ)
    → ((k : ℕ) → k < length path → slice_index path k < length owner)
    → slice_index_or (claimed path h owner) i None
    ≡ (if is_in i path then Some h else slice_index_or owner i None)
claimed-at path h owner i inside = grind (arith, each_page-get, nowhere_in)

-- An owner in a table of which a chain was released.
pub released-at : (h : ℕ) (owner : List (Option ℕ)) (i : ℕ)
    → slice_index_or (released h owner) i None
    ≡ (if is_own h (slice_index_or owner i None) then None else slice_index_or owner i None)
released-at h owner i = grind (arith, get_or-map, length-map, get_or_past)

-- ---- one owner

pub own_some : (h : ℕ) (o : Option ℕ) → is_own h o ≡ true → o ≡ Some h
own_some h None e = cc
own_some h (Some k) e = ap Some (eqb-true k h e)

pub own_self : (h : ℕ) (o : Option ℕ) → o ≡ Some h → is_own h o ≡ true
own_self h o e = ap (is_own h) e ∙ eq-eqb h h refl

pub own_other : (h j : ℕ) (o : Option ℕ) → o ≡ Some h → h ≢ j → is_own j o ≡ false
own_other h j o e ne = grind arith

pub free_none : (o : Option ℕ) → is_none o ≡ true → o ≡ None
free_none None e = refl
free_none (Some k) e = cc

pub some_same : (h j : ℕ) → Some h ≡ Some j → h ≡ j
some_same h j e = cc

pub none_some : (h : ℕ) (o : Option ℕ) → o ≡ None → o ≡ Some h → ⊥
none_some h o a b = cc

-- A head whose chain is out is one of the table's.
pub head_inside : (owner : List (Option ℕ)) (h : ℕ) → is_head owner h ≡ true → h < length owner
head_inside owner h e = grind (arith, get_or_past)

-- ---- what a claim and a release leave

-- A path of free descriptors belongs to a head that was none.
pub record Claims (owner new : List (Option ℕ)) (path : List ℕ) (h : ℕ) : Type 0 where
  pub mine : (k : ℕ) → k < length path → slice_index_or new (slice_index path k) None ≡ Some h
  pub rest : (i : ℕ) → is_in i path ≡ false
      → slice_index_or new i None ≡ slice_index_or owner i None
  pub before : is_head owner h ≡ false
  pub after : is_head new h ≡ true
  pub same : (i : ℕ) → i ≢ h → is_head owner i ≡ is_head new i
  pub count : (n : ℕ) → h < n
      → length (numbers (is_head new) n) ≡ length (numbers (is_head owner) n) + 1

pub claims : (owner : List (Option ℕ)) (path : List ℕ) (h : ℕ) → 0 < length path
    → slice_index path 0 ≡ h → ((k : ℕ) → k < length path → (slice_index path k < length owner)
    × (slice_index_or owner (slice_index path k) None ≡ None))
    → Claims owner (claimed path h owner) path h
claims owner path h begin first free = let new : List (Option ℕ) = claimed path h owner in
    let inside : (k : ℕ) → k < length path → slice_index path k < length owner =
    λ k l. (free k l).0 in
    let mine : (k : ℕ) → k < length path → slice_index_or new (slice_index path k) None ≡ Some h =
    λ k l. claimed-at path h owner (slice_index path k) inside
    ∙ ap (λ (b : Bool). if b then Some h else slice_index_or owner (slice_index path k) None)
    (is_in-at path k l) in
    let rest : (i : ℕ) → is_in i path ≡ false → slice_index_or new i None
    ≡ slice_index_or owner i None = λ i e. claimed-at path h owner i inside
    ∙ ap (λ (b : Bool). if b then Some h else slice_index_or owner i None) e in
    let before : is_head owner h ≡ false =
    ap (is_own h) (ap (λ i. slice_index_or owner i None) (sym first) ∙ (free 0 begin).1) in
    let after : is_head new h ≡ true =
    own_self h _ (ap (λ i. slice_index_or new i None) (sym first) ∙ mine 0 begin) in
    let same : (i : ℕ) → i ≢ h → is_head owner i ≡ is_head new i =
    λ i ne. same_by new i ne mine rest (is_in i path) refl in record {
      mine = mine;
      rest = rest;
      before = before;
      after = after;
      same = same;
      count = λ n l. length_gain (is_head owner) (is_head new) n h l before after same;
    }
  where
    same_by : (new : List (Option ℕ)) (i : ℕ) → i ≢ h
        → ((k : ℕ) → k < length path → slice_index_or new (slice_index path k) None ≡ Some h)
        → ((n : ℕ) → is_in n path ≡ false → slice_index_or new n None ≡ slice_index_or owner n None)
        → (b : Bool) → is_in i path ≡ b → is_head owner i ≡ is_head new i
    same_by new i ne mine rest true e = grind (arith, is_in-some)
    same_by new i ne mine rest false e = ap (is_own i) (sym (rest i e))

-- The descriptors of a head that was out are free.
pub record Releases (owner new : List (Option ℕ)) (h : ℕ) : Type 0 where
  pub gone : is_head new h ≡ false
  pub kept : (i j : ℕ) → slice_index_or owner i None ≡ Some j → j ≢ h
      → slice_index_or new i None ≡ Some j
  pub was : (i j : ℕ) → slice_index_or new i None ≡ Some j
      → (slice_index_or owner i None ≡ Some j) × (j ≢ h)
  pub same : (i : ℕ) → i ≢ h → is_head new i ≡ is_head owner i
  pub count : (n : ℕ) → h < n
      → length (numbers (is_head owner) n) ≡ length (numbers (is_head new) n) + 1

pub releases : (owner : List (Option ℕ)) (h : ℕ) → is_head owner h ≡ true
    → Releases owner (released h owner) h
releases owner h out = let new : List (Option ℕ) = released h owner in
    let gone : is_head new h ≡ false = ap (is_own h) (released-at h owner h
    ∙ ap (λ (b : Bool). if b then None else slice_index_or owner h None) out) in
    let same : (i : ℕ) → i ≢ h → is_head new i ≡ is_head owner i =
    λ i ne. same_by i ne (is_own h (slice_index_or owner i None)) refl in record {
      gone = gone;
      kept = λ i j own ne. released-at h owner i
          ∙ ap (λ (b : Bool). if b then None else slice_index_or owner i None)
          (own_other j h _ own ne) ∙ own;
      was = λ i j own. was_by i j own (is_own h (slice_index_or owner i None)) refl;
      same = same;
      count = λ n l. length_gain (is_head new) (is_head owner) n h l gone out same;
    }
  where
    freed_by : (i : ℕ) (b : Bool) → is_own h (slice_index_or owner i None) ≡ b
        → slice_index_or (released h owner) i None
        ≡ (if b then None else slice_index_or owner i None)
    freed_by i b e = released-at h owner i
        ∙ ap (λ (b : Bool). if b then None else slice_index_or owner i None) e

    was_by : (i j : ℕ) → slice_index_or (released h owner) i None ≡ Some j
        → (b : Bool) → is_own h (slice_index_or owner i None) ≡ b
        → (slice_index_or owner i None ≡ Some j) × (j ≢ h)
    was_by i j own true e = absurd (none_some j _ (freed_by i true e) own)
    was_by i j own false e =
        let here : slice_index_or owner i None ≡ Some j = sym (freed_by i false e) ∙ own in
        (here, λ is. (let wrong : true ≡ false = sym (own_self h _ (here ∙ ap Some is)) ∙ e in cc))

    same_by : (i : ℕ) → i ≢ h → (b : Bool) → is_own h (slice_index_or owner i None) ≡ b
        → is_head (released h owner) i ≡ is_head owner i
    same_by i ne true e = ap (is_own i) (freed_by i true e)
        ∙ sym (own_other h i _ (own_some h _ e) (λ x. ne (sym x)))
    same_by i ne false e = ap (is_own i) (freed_by i false e)
