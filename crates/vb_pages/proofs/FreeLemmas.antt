-- Free pages: how often each is free, before and after a call that drains, gives back or renews.
use Rattle.std.proofs.Common.{◌≡◌, ℕ, zero, suc, ◌+◌, ◌<◌, ◌≤◌, inl, inr, Bool, false, List, []}
use Rattle.std.proofs.Common.{◌∷◌, ◌++◌, length, get_or, set, take, drop, map, replicate, Option}
use Rattle.std.proofs.lemmas.Bool.{cases_eq, cases_Bool, eq-eqb, ne_eqb, cond-true, cond-false}
use Rattle.std.proofs.lemmas.List.{get_or-set_same, get_or-set_other, set-set, length-set}
use Rattle.std.proofs.lemmas.List.{length-map, take_more, flat_map_more, take_all, same_lists}
use Rattle.std.proofs.lemmas.{List.{get_or_default, drop_all, append-nil}, Bool.lt-ltb}
use Rattle.std.specs.{List.flat_map, Prelude.{◌==◌, count_by, nat_lt, MatchOption}}
use Rattle.std.proofs.Common.{refl, sym, ◌∙◌, ap, subst, arith, length-append}
use Rattle.vb_virtio.specs.Tests.{is_in, one_if}
use Rattle.vb_model.proofs.PageSteps.{covers_is}
use Rattle.{vb_model.specs.Pages.{pages_of, covers}, vb_pages.proofs.AreasLemmas.length-unreserved}
use Rattle.vb_pages.proofs.ListsLemmas.{times, times-append, times-one, times_out, one_if_le, Once}
use Rattle.vb_pages.proofs.ListsLemmas.{with_times, with_none, with_append_turned, covers_one}
use Rattle.vb_pages.proofs.Sets.{is_inside, without_parts, with_cases, with_old, with_new}
use Rattle.vb_pages.specs.Areas.{has, with_pages, without_pages, unreserved, block_at, IsMaximal}
use Rattle.vb_pages.specs.FreePages.{FreePages, in_lists, is_free_in, times_free, list_of, drained}
use Rattle.vb_pages.specs.declared.{block.FreeBlock.FreeBlock, table.TheConstants.MAX_PAGES}
use Rattle.vb_pages.proofs.Sets.{length-with_pages, length-without_pages, block_bounds}
use Rattle.vb_pages.specs.{FreePages.{given_back, IsSoundFree, HasRoomFor}, Areas.IsLowestFrom}

abbrev pub flat : List (List ℕ) → List ℕ
flat lists = flat_map (λ list. list) lists

-- ---- one list among the others

pub times-set : (p : ℕ) (lists : List (List ℕ)) (i : ℕ) (l : List ℕ) → i < length lists
    → times p (flat (set lists i l)) + times p (get_or lists i [])
    ≡ times p (flat lists) + times p l
times-set p [] i l h = absurd (omega arith)
times-set p (x ∷ xs) zero l h =
    omega (arith, times-append p l (flat xs), times-append p x (flat xs))
times-set p (x ∷ xs) (suc i) l h = omega (arith, times-append, times-set p xs i l (omega arith))

pub times_part : (p : ℕ) (lists : List (List ℕ)) (i : ℕ)
    → times p (get_or lists i []) ≤ times p (flat lists)
times_part p [] i = omega arith
times_part p (x ∷ xs) zero = omega (arith, times-append p x (flat xs))
times_part p (x ∷ xs) (suc i) = omega (arith, times-append p x (flat xs), times_part p xs i)

pub flat-empty : (lists : List (List ℕ)) → flat (map (λ (l : List ℕ). []) lists) ≡ []
flat-empty [] = refl
flat-empty (x ∷ xs) = flat-empty xs

abbrev pub nothing : List ℕ
nothing = []

pub list-empty : (lists : List (List ℕ)) (i : ℕ)
    → get_or (map (λ (l : List ℕ). nothing) lists) i nothing ≡ nothing
list-empty [] i = refl
list-empty (x ∷ xs) zero = refl
list-empty (x ∷ xs) (suc i) = list-empty xs i

-- ---- sound

-- where no page is free more often than before
pub sound_from : (f g : FreePages) → IsSoundFree f → length g.areas ≡ length f.areas
    → length g.lists ≡ length f.lists → ((p : ℕ) → times_free g p ≤ times_free f p)
    → ((cpu : ℕ) → length (list_of g cpu) < 16) → IsSoundFree g
sound_from f g sound a l less short = search (arith)

-- draining moves each page to the areas
pub drained_times : (f : FreePages) → IsSoundFree f → (p : ℕ)
    → times_free (drained f) p ≡ times_free f p
drained_times f sound p = grind (arith, flat-empty, with_times)

pub drained_sound : (f : FreePages) → IsSoundFree f → IsSoundFree (drained f)
drained_sound f sound = sound_from f (drained f) sound (length-with_pages (in_lists f) f.areas)
    (length-map f.lists (λ (l : List ℕ). [])) (λ p. omega (arith, drained_times f sound p))
    (λ cpu. omega (arith, ap length (list-empty f.lists cpu)))

-- ---- a block comes back

not_free : (f : FreePages) (p : ℕ) → is_free_in f p ≡ false → times_free f p ≡ 0
not_free f p h = grind (arith, times_out)

pub block_times : (f : FreePages) (s k : ℕ) → IsSoundFree f → HasRoomFor f s k → (p : ℕ)
    → one_if (has (with_pages (pages_of (block_at s k)) f.areas) p)
    ≡ one_if (has f.areas p) + one_if (covers p (block_at s k))
block_times f s k sound room p = let block = pages_of (block_at s k) in
    elim (cases_Bool (is_in p block)) [
      | inl i ↦ grind (arith, block_bounds, with_new)
      | inr o ↦ grind (arith, covers_is p (block_at s k) false o, with_old, with_cases)
    ]

-- a page of the block wasn't free, and is there
pub room_once : (f : FreePages) (s k : ℕ) → IsSoundFree f → HasRoomFor f s k → (p : ℕ)
    → times_free f p + one_if (covers p (block_at s k)) ≤ one_if (nat_lt p (length f.areas))
room_once f s k sound room p = search (arith, cases_Bool, covers_is, lt-ltb, not_free)

pub block_sound : (f : FreePages) (s k : ℕ) → IsSoundFree f → HasRoomFor f s k
    → IsSoundFree (record f { areas = with_pages (pages_of (block_at s k)) f.areas })
block_sound f s k sound room = grind (arith, length-with_pages, block_times, room_once)

abbrev pub free_of : List Bool → List (List ℕ) → ℕ → FreePages
free_of areas lists reserved = record { areas = areas; lists = lists; reserved = reserved }

pub same_free : (a b : FreePages) → a.areas ≡ b.areas → a.lists ≡ b.lists
    → a.reserved ≡ b.reserved → a ≡ b
same_free a b e l r = search (arith)

-- ---- draining, list by list

-- the first lists are in the areas
pub record IsDrainedSoFar (areas : List Bool) (lists : List (List ℕ)) (i : ℕ) (new : List Bool)
    (left : List (List ℕ)) : Type 0 where
  pub set : new ≡ with_pages (flat (take i lists)) areas
  pub count : count_by (λ f. f) new ≡ count_by (λ f. f) areas + length (flat (take i lists))
  pub empty : (k : ℕ) → k < i → get_or left k nothing ≡ nothing
  pub rest : (k : ℕ) → i ≤ k → get_or left k nothing ≡ get_or lists k nothing
  pub long : length left ≡ length lists

pub drained_none : (areas : List Bool) (lists : List (List ℕ))
    → IsDrainedSoFar areas lists 0 areas lists
drained_none areas lists = grind (arith, with_none)

times_take : (p n : ℕ) (lists : List (List ℕ))
    → times p (flat (take n lists)) ≤ times p (flat lists)
times_take p zero lists = omega arith
times_take p (suc n) [] = omega arith
times_take p (suc n) (x ∷ xs) = omega (arith, times-append, times_take p n xs)

flat_more : (lists : List (List ℕ)) (i : ℕ) → i < length lists
    → flat (take (i + 1) lists) ≡ flat (take i lists) ++ get_or lists i nothing
flat_more lists i h = grind (
  arith,
  take_more lists i nothing h,
  flat_map_more (λ (l : List ℕ). l) nothing (take i lists) (get_or lists i nothing),
)

module _ (areas : List Bool) (lists : List (List ℕ)) (once : Once areas (flat lists)) (i : ℕ)
    (new : List Bool) (left : List (List ℕ)) (so_far : IsDrainedSoFar areas lists i new left)
    (inside : i < length lists) where
  part_once : Once areas (flat (take i lists))
  part_once p = omega (arith, once p, times_take p i lists)

  next_is : get_or left i nothing ≡ get_or lists i nothing
  next_is = so_far.rest i (omega arith)

  pub next_once : Once new (get_or left i nothing)
  next_once p =
      let more : times p (flat (take (i + 1) lists)) ≡ times p (flat (take i lists))
      + times p (get_or lists i nothing) = ap (times p) (flat_more lists i inside)
      ∙ times-append p (flat (take i lists)) (get_or lists i nothing) in
      let h : one_if (has new p) ≡ one_if (has areas p) + times p (flat (take i lists)) =
      ap (λ (x : List Bool). one_if (has x p)) so_far.set
      ∙ with_times areas (flat (take i lists)) part_once p in
      let l : one_if (nat_lt p (length new)) ≡ one_if (nat_lt p (length areas)) =
      ap (λ (n : ℕ). one_if (nat_lt p n))
      (ap length so_far.set ∙ length-with_pages (flat (take i lists)) areas) in
      omega (arith, more, h, l, once p, times_take p (i + 1) lists, ap (times p) next_is)

  pub next_drained : (after : List Bool) → after ≡ with_pages (get_or left i nothing) new
      → count_by (λ f. f) after ≡ count_by (λ f. f) new + length (get_or left i nothing)
      → IsDrainedSoFar areas lists (i + 1) after (set left i nothing)
  next_drained after e n = grind (
    arith,
    with_append_turned,
    flat_more,
    length-append,
    get_or-set_same,
    get_or-set_other,
    length-set,
  )

-- all lists are in the areas
pub all_drained : (areas : List Bool) (lists : List (List ℕ)) (i : ℕ) (new : List Bool)
    (left : List (List ℕ)) → length lists ≤ i → IsDrainedSoFar areas lists i new left
    → (new ≡ with_pages (flat lists) areas)
    × (count_by (λ f. f) new ≡ count_by (λ f. f) areas + length (flat lists))
    × (left ≡ map (λ (l : List ℕ). nothing) lists)
all_drained areas lists i new left h d =
    let all : flat (take i lists) ≡ flat lists = ap flat (take_all i lists h) in (
      d.set ∙ ap (λ (xs : List ℕ). with_pages xs areas) all,
      omega (arith, d.count, ap length all),
      same_lists left (map (λ (l : List ℕ). nothing) lists) (d.long ∙ sym
          (length-map lists (λ (l : List ℕ). nothing))) (λ k e l. get_or_default left k e nothing l
          ∙ (d.empty k (omega (arith, d.long)) ∙ (sym (list-empty lists k)
          ∙ get_or_default (map (λ (x : List ℕ). nothing) lists) k nothing e
          (omega (arith, d.long, length-map lists (λ (x : List ℕ). nothing)))))),
    )

-- ---- the areas that another call leaves

pub without_sound : (f : FreePages) (pages : List ℕ) → IsSoundFree f
    → IsSoundFree (free_of (without_pages pages f.areas) f.lists f.reserved)
without_sound f pages sound =
    grind (arith, length-without_pages, cases_Bool, without_parts, one_if_le)

-- all pages are free
pub fresh_sound : (n r : ℕ) (lists : List (List ℕ)) → n ≤ MAX_PAGES → length lists ≤ 4
    → flat lists ≡ [] → ((i : ℕ) → get_or lists i nothing ≡ nothing)
    → IsSoundFree (free_of (unreserved n r) lists r)
fresh_sound n r lists small few none empty =
    grind (arith, times, lt-ltb, is_inside, one_if_le, length-unreserved)

pub flat-replicate : (n : ℕ) → flat (replicate n nothing) ≡ []
flat-replicate zero = refl
flat-replicate (suc n) = flat-replicate n

pub list-replicate : (n i : ℕ) → get_or (replicate n nothing) i nothing ≡ nothing
list-replicate zero i = refl
list-replicate (suc n) zero = refl
list-replicate (suc n) (suc i) = list-replicate n i

-- ---- a page comes back

module _ (f : FreePages) (cpu s : ℕ) (sound : IsSoundFree f) (l : cpu < length f.lists)
    (room : HasRoomFor f s 0) where
  abbrev pub longer : List ℕ
  longer = list_of f cpu ++ s ∷ []

  longer_length : length longer ≡ length (list_of f cpu) + 1
  longer_length = length-append (list_of f cpu) (s ∷ [])

  longer_times : (p : ℕ) → one_if (has f.areas p) + times p (flat (set f.lists cpu longer)) ≤ one_if
      (nat_lt p (length f.areas))
  longer_times p = omega (
    arith,
    room_once f s 0 sound room p,
    times-set p f.lists cpu longer l,
    times-append p (list_of f cpu) (s ∷ []),
    times-one p s,
    covers_one s p,
  )

  -- where the list has room
  pub pushed_sound : length longer < 16 → IsSoundFree (free_of f.areas (set f.lists cpu longer) f.reserved)
  pushed_sound short =
      grind (arith, longer_times, cases_eq, get_or-set_same, get_or-set_other, length-set)

  front_times : (p : ℕ) → times p (take 8 longer) + times p (drop 8 longer) ≡ times p longer
  front_times p = grind (arith, times-append p (take 8 longer) (drop 8 longer))

  -- the first eight may go to the areas
  pub front_once : Once f.areas (take 8 longer)
  front_once p =
      let part : times p (get_or (set f.lists cpu longer) cpu nothing) ≡ times p longer =
      ap (times p) (get_or-set_same f.lists cpu longer nothing l) in
      omega (arith, longer_times p, front_times p, times_part p (set f.lists cpu longer) cpu, part)

  pub spilled_sound : IsSoundFree
      (free_of (with_pages (take 8 longer) f.areas) (set f.lists cpu (drop 8 longer)) f.reserved)
  spilled_sound = record {
    once = λ p.
        let e : one_if (nat_lt p (length (with_pages (take 8 longer) f.areas)))
        ≡ one_if (nat_lt p (length f.areas)) =
        ap (λ (n : ℕ). one_if (nat_lt p n)) (length-with_pages (take 8 longer) f.areas) in omega (
          arith,
          with_times f.areas (take 8 longer) front_once p,
          longer_times p,
          front_times p,
          times-set p f.lists cpu longer l,
          times-set p f.lists cpu (drop 8 longer) l,
        );
    short = grind (arith, get_or-set_same, longer_length, get_or-set_other);
    few = omega (arith, sound.few, length-set f.lists cpu (drop 8 longer));
    small = omega (arith, sound.small, length-with_pages (take 8 longer) f.areas);
  }

  -- what comes back, by how long the list is
  pub given_full : length longer ≡ 16
      → free_of (with_pages (take 8 longer) f.areas) (set f.lists cpu (drop 8 longer)) f.reserved
      ≡ given_back cpu s 0 f
  given_full full = grind (arith, get_or-set_same, eq-eqb, cond-true, set-set)

  pub given_short : (length longer ≡ 16 → ⊥)
      → free_of f.areas (set f.lists cpu longer) f.reserved ≡ given_back cpu s 0 f
  given_short short = grind (arith, get_or-set_same, ne_eqb, cond-false)

pub room_zero : (f : FreePages) (s k : ℕ) → k ≤ 0 → HasRoomFor f s k → HasRoomFor f s 0
room_zero f s k h room = let e : k ≡ 0 = omega arith in subst (λ (n : ℕ). HasRoomFor f s n) e room

-- ---- a whole row of lists

pub rows_back : (n : ℕ) (ys xs : List (List ℕ)) → n ≡ length xs → length ys ≡ length xs
    → take n (ys ++ drop (length ys) xs) ≡ ys
rows_back n ys xs e l = grind (arith, drop_all, append-nil, take_all)

pub all_nothing : (ys xs : List (List ℕ)) → length ys ≡ length xs → ((k : ℕ)
    → k < length xs → get_or ys k nothing ≡ nothing) → ys ≡ map (λ (l : List ℕ). nothing) xs
all_nothing ys xs l h = same_lists ys (map (λ (x : List ℕ). nothing) xs)
    (l ∙ sym (length-map xs (λ (x : List ℕ). nothing))) (λ k e b. get_or_default ys k e nothing b
    ∙ (h k (omega (arith, l)) ∙ (sym (list-empty xs k)
    ∙ get_or_default (map (λ (x : List ℕ). nothing) xs) k nothing e
    (omega (arith, l, length-map xs (λ (x : List ℕ). nothing))))))

pub isolated_sound : (f : FreePages) (new : List Bool) (order from : ℕ) (got : Option FreeBlock)
    → IsSoundFree f → MatchOption got
    (((start larger : ℕ) → order ≤ larger → from ≤ start → IsMaximal f.areas (block_at start larger)
    → ⊥) × (new ≡ f.areas)) (λ b. IsLowestFrom f.areas order from (block_at b.start b.order)
    × (new ≡ without_pages (pages_of (block_at b.start b.order)) f.areas))
    → IsSoundFree (free_of new f.lists f.reserved)
isolated_sound f new order from got sound h = grind (arith, without_sound)

pub sound_at : (x y : List Bool) (xs ys : List (List ℕ)) (r : ℕ) → x ≡ y → xs ≡ ys
    → IsSoundFree (free_of y ys r) → IsSoundFree (free_of x xs r)
sound_at x y xs ys r e l s =
    subst IsSoundFree (sym (same_free (free_of x xs r) (free_of y ys r) e l refl)) s

-- what comes back is free once more
pub given_times : (f : FreePages) (cpu s k : ℕ) → IsSoundFree f → cpu < length f.lists
    → HasRoomFor f s k → (p : ℕ)
    → times_free (given_back cpu s k f) p ≡ times_free f p + one_if (covers p (block_at s k))
given_times f cpu s (suc k) sound l room p = omega (arith, block_times f s (suc k) sound room p)
given_times f cpu s zero sound l room p = let long = longer f cpu s sound l room in
    let more : times p long ≡ times p (list_of f cpu) + one_if (s == p) = times-append p
    (list_of f cpu) (s ∷ []) ∙ ap (λ (n : ℕ). times p (list_of f cpu) + n) (times-one p s) in
    elim (cases_eq (length long) 16) [
      | inl full ↦
          let e : times_free (given_back cpu s 0 f) p
          ≡ times_free (free_of (with_pages (take 8 long) f.areas)
          (set f.lists cpu (drop 8 long)) f.reserved) p = ap (λ (x : FreePages). times_free x p)
          (sym (given_full f cpu s sound l room full)) in omega (
            arith,
            with_times f.areas (take 8 long) (front_once f cpu s sound l room) p,
            front_times f cpu s sound l room p,
            times-set p f.lists cpu (drop 8 long) l,
            covers_one s p,
          )
      | inr short ↦
          grind (arith, given_short f cpu s sound l room short, times-set p f.lists cpu long l)
    ]

pub given_length : (f : FreePages) (cpu s k : ℕ) → IsSoundFree f → cpu < length f.lists
    → HasRoomFor f s k → length (given_back cpu s k f).areas ≡ length f.areas
given_length f cpu s k sound l room = grind (arith, length-with_pages)

pub given_reserved : (f : FreePages) (cpu s k : ℕ) → (given_back cpu s k f).reserved ≡ f.reserved
given_reserved f cpu s k = search (arith)
