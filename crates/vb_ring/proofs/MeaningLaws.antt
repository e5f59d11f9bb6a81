-- What the bytes of a ring mean to a driver's end, after each call, and on fresh pages.
use Rattle.std.specs.Prelude.{◌≡◌, ℕ, zero, suc, ◌+◌, ◌-◌, ◌<◌, ◌≤◌, ◌==◌, nat_lt, Bool, true}
use Rattle.std.specs.Prelude.{false, List, [], ◌∷◌, ◌++◌, Option, Some, None, Ok, length, take}
use Rattle.std.specs.Prelude.{replicate, slice_index, slice_index_or, refl}
use Rattle.std.proofs.Common.{sym, ◌∙◌, ap, subst, arith, inl, inr, add-one}
use Rattle.{std.proofs.lemmas.Bool.{cases_eq, cases_lt, ltb-true}, vb_ring.specs.Numbers.numbers}
use Rattle.std.proofs.lemmas.List.{length_push, get_or-take, length-take-le, take-append-le}
use Rattle.vb_virtio.specs.Tests.{is_in, one_if}
use Rattle.vb_ram.specs.Pages.{Pages, byte_at, page_at}
use Rattle.vb_chain.specs.declared.{descriptor.Descriptor.Descriptor, pieces.Piece.Piece}
use Rattle.vb_chain.{specs.Written.{linked, empty}, proofs.TableLaws.descriptor_apart}
use Rattle.{vb_chain.proofs.ChainLaws.flags_next, vb_ring.proofs.HeadCounts.times-take}
use Rattle.{vb_chain.specs.{Table.descriptor_at, Rules.has_next}, vb_ring.specs.Calls.Links}
use Rattle.vb_ring.proofs.Numbers.{numbers_pass, numbers_rise, numbers_none, numbers_has}
use Rattle.vb_ring.specs.Ends.{DriverEnd, IsDriverEnd, is_unused, free_descriptors, outstanding}
use Rattle.vb_ring.proofs.OwnerLaws.{is_in-at, nowhere_in, take_inside, free_none, some_same}
use Rattle.vb_ring.proofs.OwnerLaws.{none_some, head_inside, Claims, claims, Releases, releases}
use Rattle.vb_ring.specs.Meaning.{UsedElem, no_elem, ids, times, IsOutstanding, IsTablePath}
use Rattle.vb_ring.specs.Ends.{next_path, claimed, released, after_add, after_take, fresh_end}
use Rattle.vb_ring.{proofs.EntryLaws.{entries_apart, index_zero}, specs.Entries.{is_own, is_head}}
use Rattle.vb_ring.specs.{Meaning.{ShowsEntries, Shows, Tracks}, declared.layout.Layout.Layout}
use Rattle.vb_ring.{specs.Layout.{IsSize, Fits}, proofs.{OwnerLaws.fresh_free, Numbers.length_two}}
use Rattle.vb_ring.proofs.HeadCounts.{one_is, one_other, times-push, ids-push, times-next}

-- ---- paths in a table that has changed elsewhere

-- The first numbers of a path in one table are a path in another, as long as these good numbers
-- have the same descriptor in both.
path_first : (d e : ℕ → Descriptor) (q j : ℕ) (Good : ℕ → Type 0) (path : List ℕ)
    → IsTablePath e q j path → ((i : ℕ) → i < q → Good i → e i ≡ d i)
    → ((xs : List ℕ) → IsTablePath d q j xs → (k : ℕ) → k < length xs → Good (slice_index xs k))
    → (n : ℕ) → n < length path → IsTablePath d q j (take (n + 1) path)
path_first d e q j Good path whole same good zero h =
    grind (arith, length-take-le 1 path (omega arith), get_or-take 1 path 0 0 (omega arith))
path_first d e q j Good path whole same good (suc n) h =
    let before : IsTablePath d q j (take (n + 1) path) =
    path_first d e q j Good path whole same good n (omega arith) in
    let len : length (take (n + 1) path) ≡ n + 1 = length-take-le (n + 1) path (omega arith) in
    let more : length (take (suc n + 1) path) ≡ n + 2 =
    length-take-le (suc n + 1) path (omega arith) ∙ omega arith in
    let at : (k : ℕ) → k < n + 2 → slice_index (take (suc n + 1) path) k ≡ slice_index path k =
    λ k l. get_or-take (suc n + 1) path k 0 (omega arith) in
    let kept : (k : ℕ) → k < n + 1 → e (slice_index path k) ≡ d (slice_index path k) = λ k l. same
    (slice_index path k) (whole.inside k (omega arith)) (subst Good (get_or-take (n + 1) path k 0 l)
    (good (take (n + 1) path) before k (omega (arith, len)))) in grind arith

-- Each number of a path in the other table is good.
pub path_good : (d e : ℕ → Descriptor) (q j : ℕ) (Good : ℕ → Type 0) (path : List ℕ)
    → IsTablePath e q j path → ((i : ℕ) → i < q → Good i → e i ≡ d i)
    → ((xs : List ℕ) → IsTablePath d q j xs → (k : ℕ) → k < length xs → Good (slice_index xs k))
    → (k : ℕ) → k < length path → Good (slice_index path k)
path_good d e q j Good path whole same good k h =
    let before = path_first d e q j Good path whole same good k h in
    let len : length (take (k + 1) path) ≡ k + 1 = length-take-le (k + 1) path (omega arith) in
    subst Good (get_or-take (k + 1) path k 0 (omega arith))
    (good (take (k + 1) path) before k (omega (arith, len)))

-- The same descriptors make the same paths.
pub table_path_kept : (d e : ℕ → Descriptor) (q j : ℕ) (path : List ℕ)
    → ((i : ℕ) → i < q → e i ≡ d i) → IsTablePath e q j path → IsTablePath d q j path
table_path_kept d e q j path same whole = search (arith)

-- A path from the head of a written chain goes along the chain.
written_path : (d : ℕ → Descriptor) (q h : ℕ) (path : List ℕ) (pieces : List Piece)
    → ((k : ℕ) → k < length path → d (slice_index path k) ≡ linked path pieces k)
    → slice_index path 0 ≡ h → 0 < length path → (xs : List ℕ) → IsTablePath d q h xs → (k : ℕ)
    → k < length xs → (k < length path) × (slice_index xs k ≡ slice_index path k)
written_path d q h path pieces put first some xs whole zero l =
    (some, whole.is_path.begins ∙ sym first)
written_path d q h path pieces put first some xs whole (suc k) l =
    let before = written_path d q h path pieces put first some xs whole k (omega arith) in
    let here : d (slice_index xs k) ≡ linked path pieces k = ap d before.1 ∙ put k before.0 in
    let next : k + 1 ≡ suc k = add-one k in
    let goes : has_next (linked path pieces k) ≡ nat_lt (k + 1) (length path) =
    flags_next (nat_lt (k + 1) (length path)) (slice_index_or pieces k empty).writable
    (slice_index_or pieces k empty) (slice_index path (k + 1)) in
    let on : k + 1 < length path = ltb-true (k + 1) (length path)
    (sym goes ∙ ap has_next (sym here) ∙ whole.is_path.onward k (omega arith)) in grind arith

-- ---- what a driver's end that tracks a ring knows

-- A head that was published more often than it was used is out.
out_head : (mem : Pages) (r : DriverEnd) (heads : List ℕ) (elems : List UsedElem) (s : ℕ) (h : ℕ)
    → Tracks mem r heads elems s → IsOutstanding heads elems h → is_head r.owner h ≡ true
out_head mem r heads elems s h tracks out = grind (arith, times-take h elems s)

one_most : (b : Bool) → one_if b ≤ 1
one_most true = omega arith
one_most false = omega arith

-- What a ring shows follows from the driver's table, but for the entries, the used heads and their
-- number.
pub tracks_shows : (mem : Pages) (r : DriverEnd) (heads : List ℕ) (elems : List UsedElem) (s : ℕ)
    → Tracks mem r heads elems s → ShowsEntries mem r.layout r.size heads elems
    → ((h : ℕ) → times h (ids elems) ≤ times h heads) → length heads ≤ length elems + r.size
    → Shows mem r.layout r.size heads elems
tracks_shows mem r heads elems s tracks entries among most = record {
  entries = entries;
  among = among;
  most = most;
  once = λ h. omega (arith, tracks.out h, times-take h elems s, one_most (is_head r.owner h));
  apart = λ h j ne out_h out_j a b path_a path_b k n lk ln same.
      let owner_a = tracks.owns h (out_head mem r heads elems s h tracks out_h) a path_a k lk in
      let owner_b = tracks.owns j (out_head mem r heads elems s j tracks out_j) b path_b n ln in
      ne (some_same h j (sym owner_a ∙ ap (λ i. slice_index_or r.owner i None) same ∙ owner_b));
}

-- ---- an add

-- The path of the next chain: as many descriptors as it has pieces, all free.
next_path-length : (r : DriverEnd) (n : ℕ) → n ≤ length (free_descriptors r)
    → length (next_path r n) ≡ n
next_path-length r n h = length-take-le n (free_descriptors r) h

pub next_path-free : (r : DriverEnd) (n k : ℕ) → k < length (next_path r n)
    → (slice_index (next_path r n) k < r.size)
    × (slice_index_or r.owner (slice_index (next_path r n) k) None ≡ None)
next_path-free r n k h = grind (arith, take_inside, numbers_pass)

-- No descriptor is twice on it.
pub next_path-rise : (r : DriverEnd) (n j k : ℕ) → j < k → k < length (next_path r n)
    → slice_index (next_path r n) j < slice_index (next_path r n) k
next_path-rise r n j k l h = grind (arith, take_inside, numbers_rise)

-- Each free descriptor below its last one is on it.
pub next_path-lowest : (r : DriverEnd) (n i : ℕ) → is_unused r.owner i ≡ true
    → 0 < length (next_path r n)
    → i < slice_index (next_path r n) (length (next_path r n) - 1) → is_in i (next_path r n) ≡ true
next_path-lowest r n i free some low = let path : List ℕ = next_path r n in
    let m : ℕ = length path - 1 in
    let last = take_inside (free_descriptors r) n m (omega (arith, some)) in
    let inside : i < r.size = omega (arith, low, (next_path-free r n m (omega (arith, some))).0) in
    let found = numbers_has (is_unused r.owner) r.size i inside free in
    elim (cases_lt found.0 (length path)) [
      | inl l ↦
          let here = take_inside (free_descriptors r) n found.0 l in
          ap (λ k. is_in k path) (sym (here.2 ∙ found.2)) ∙ is_in-at path found.0 l
      | inr past ↦ grind (arith, numbers_rise)
    ]

-- The driver's end after an add tracks the ring with the one head more.
pub added_tracks : (m1 m3 : Pages) (r : DriverEnd) (pieces : List Piece) (h : ℕ) (heads : List ℕ)
    (elems : List UsedElem) (s : ℕ) → IsDriverEnd r
    → Links m1 m3 r.layout r.size (next_path r (length pieces)) pieces → 0 < length pieces
    → length pieces ≤ length (free_descriptors r) → slice_index (next_path r (length pieces)) 0 ≡ h
    → Tracks m1 r heads elems s
    → (Tracks m3 (after_add r (length pieces) (Ok h)) (heads ++ h ∷ []) elems s)
    × (outstanding r + 1 ≤ r.size)
added_tracks m1 m3 r pieces h heads elems s is_end links some fits first tracks =
    let path : List ℕ = next_path r (length pieces) in
    let new : List (Option ℕ) = claimed path h r.owner in
    let len : length path ≡ length pieces = next_path-length r (length pieces) fits in
    let free : (k : ℕ) → k < length path → (slice_index path k < r.size) × (slice_index_or r.owner
    (slice_index path k) None ≡ None) = next_path-free r (length pieces) in
    let inside : (k : ℕ) → k < length path
    → slice_index path k < length r.owner = λ k l. omega (arith, (free k l).0, is_end.table) in
    let begin : 0 < length path = omega (arith, len) in
    let claim : Claims r.owner new path h =
    claims r.owner path h begin first (λ k l. (inside k l, (free k l).1)) in
    let gain : length (numbers (is_head new) r.size) ≡ outstanding r + 1 =
    claim.count r.size (omega (arith, (free 0 begin).0, first)) in
    let both : length (free_descriptors r) + outstanding r ≤ r.size = length_two
    (is_unused r.owner) (is_head r.owner) r.size (λ i e. ap (is_own i) (free_none _ e)) in (
      record {
        published = omega (arith, length_push heads h, tracks.published);
        seen = tracks.seen;
        few = tracks.few;
        count = omega (arith, length_push heads h, tracks.count, gain);
        out = λ j. elim (cases_eq j h) [
          | inl e ↦ omega (
            arith,
            times-push j heads h,
            one_is h j (sym e),
            ap one_if (ap (is_head r.owner) e ∙ claim.before),
            ap one_if (ap (is_head new) e ∙ claim.after),
          )
          | inr ne ↦ omega (
            arith,
            times-push j heads h,
            one_other h j (λ e. ne (sym e)),
            ap one_if (claim.same j ne),
          )
        ];
        owns = λ j out xs whole k l. elim (cases_eq j h) [
          | inl e ↦
              let along = written_path (descriptor_at m3 r.layout.table) r.size h path pieces
              (λ i lt. links.put i (omega (arith, len))) first begin xs (rw (← e) whole) k l in
              ap (λ i. slice_index_or new i None) along.1 ∙ claim.mine k along.0 ∙ ap Some (sym e)
          | inr ne ↦
              let apart : (i : ℕ) → slice_index_or r.owner i None ≡ Some j → is_in i path ≡ false =
              λ i own. nowhere_in path i (λ n lt e. none_some j _ (free n lt).1
              (ap (λ x. slice_index_or r.owner x None) e ∙ own)) in
              let old : slice_index_or r.owner (slice_index xs k) None ≡ Some j =
              path_good (descriptor_at m1 r.layout.table) (descriptor_at m3 r.layout.table) r.size j
              (λ i. slice_index_or r.owner i None ≡ Some j) xs whole (λ i lt own. links.others i lt
              (apart i own)) (tracks.owns j (claim.same j ne ∙ out)) k l in
              claim.rest (slice_index xs k) (apart (slice_index xs k) old) ∙ old
        ];
      },
      omega (arith, both),
    )

-- ---- a take

-- The used element after those seen is of a chain that is out.
pub next_used_out : (mem : Pages) (r : DriverEnd) (heads : List ℕ) (elems : List UsedElem) (s : ℕ)
    → Tracks mem r heads elems s → ((h : ℕ) → times h (ids elems) ≤ times h heads)
    → s < length elems → is_head r.owner (slice_index_or elems s no_elem).id ≡ true
next_used_out mem r heads elems s tracks among lt = at (is_head r.owner id) refl where
  id : ℕ
  id = (slice_index_or elems s no_elem).id

  at : (b : Bool) → is_head r.owner id ≡ b → is_head r.owner id ≡ true
  at true e = e
  at false e = absurd (omega (
    arith,
    ap one_if e,
    times-next id elems s lt,
    one_is id id refl,
    times-take id elems (s + 1),
  ))

-- The driver's end after a take tracks the ring with one used element more seen.
pub taken_tracks : (mem : Pages) (r : DriverEnd) (heads : List ℕ) (elems : List UsedElem) (s id : ℕ)
    → IsDriverEnd r → Tracks mem r heads elems s → s < length elems
    → (slice_index_or elems s no_elem).id ≡ id → is_head r.owner id ≡ true
    → Tracks mem (after_take r (Ok (Some id))) heads elems (s + 1)
taken_tracks mem r heads elems s id is_end tracks lt is out =
    let new : List (Option ℕ) = released id r.owner in
    let release : Releases r.owner new id = releases r.owner id out in
    let gain : outstanding r ≡ length (numbers (is_head new) r.size) + 1 =
    release.count r.size (omega (arith, head_inside r.owner id out, is_end.table)) in record {
      published = tracks.published;
      seen = omega (arith, tracks.seen);
      few = omega arith;
      count = omega (arith, tracks.count, gain);
      out = λ j. elim (cases_eq j id) [
        | inl e ↦ omega (
          arith,
          times-next j elems s lt,
          one_is (slice_index_or elems s no_elem).id j (is ∙ sym e),
          ap one_if (ap (is_head r.owner) e ∙ out),
          ap one_if (ap (is_head new) e ∙ release.gone),
        )
        | inr ne ↦ omega (
          arith,
          times-next j elems s lt,
          one_other (slice_index_or elems s no_elem).id j (λ e. ne (sym e ∙ is)),
          ap one_if (release.same j ne),
        )
      ];
      owns = grind arith;
    }

-- ---- a use

-- A ring whose descriptors are as before shows the one element more, where its head was published
-- more often than it was used.
pub used_shows : (m1 m2 : Pages) (l : Layout) (q : ℕ) (heads : List ℕ) (elems : List UsedElem)
    (e : UsedElem) → ((i : ℕ) → i < q → descriptor_at m2 l.table i ≡ descriptor_at m1 l.table i)
    → ShowsEntries m2 l q heads (elems ++ e ∷ []) → times e.id (ids elems) < times e.id heads
    → Shows m1 l q heads elems → Shows m2 l q heads (elems ++ e ∷ [])
used_shows m1 m2 l q heads elems e same entries out shows =
    let more : (j : ℕ) → times j (ids (elems ++ e ∷ [])) ≡ times j (ids elems)
    + one_if (e.id == j) = λ j. ap (times j) (ids-push elems e) ∙ times-push j (ids elems) e.id in
    let kept : (j : ℕ) (path : List ℕ) → IsTablePath (descriptor_at m2 l.table) q j path
    → IsTablePath (descriptor_at m1 l.table) q j path = λ j path whole. table_path_kept
    (descriptor_at m1 l.table) (descriptor_at m2 l.table) q j path same whole in record {
      entries = entries;
      among = λ j. elim (cases_eq e.id j) [
        | inl is ↦ (let here : times j (ids elems) < times j heads = rw (← is) out in
            omega (arith, more j, one_is e.id j is, here))
        | inr ne ↦ omega (arith, more j, one_other e.id j ne, shows.among j)
      ];
      most = omega (arith, length_push elems e, shows.most);
      once = λ j. omega (arith, more j, shows.once j);
      apart = λ h j ne out_h out_j a b path_a path_b k n lk ln.
          shows.apart h j ne (omega (arith, more h, out_h)) (omega (arith, more j, out_j)) a b
          (kept h a path_a) (kept j b path_b) k n lk ln;
    }

-- A driver's end goes on tracking a ring to which an element was added.
pub used_tracks : (m1 m2 : Pages) (r : DriverEnd) (heads : List ℕ) (elems : List UsedElem)
    (e : UsedElem) (s : ℕ)
    → ((i : ℕ) → i < r.size → descriptor_at m2 r.layout.table i ≡ descriptor_at m1 r.layout.table i)
    → Tracks m1 r heads elems s → Tracks m2 r heads (elems ++ e ∷ []) s
used_tracks m1 m2 r heads elems e s same tracks = grind (arith, length_push, take-append-le)

-- ---- fresh and untouched rings

-- Where the ring's pages are as before, it shows what it showed.
pub ring_apart : (old new : Pages) (l : Layout) (q : ℕ) (heads : List ℕ) (elems : List UsedElem)
    → IsSize q → page_at new l.table ≡ page_at old l.table
    → page_at new l.avail.page ≡ page_at old l.avail.page → page_at new l.used.page
    ≡ page_at old l.used.page → Shows old l q heads elems → Shows new l q heads elems
ring_apart old new l q heads elems size t a u shows =
    let kept : (j : ℕ) (path : List ℕ) → IsTablePath (descriptor_at new l.table) q j path
    → IsTablePath (descriptor_at old l.table) q j path =
    λ j path whole. table_path_kept (descriptor_at old l.table) (descriptor_at new l.table) q j path
    (λ i lt. descriptor_apart old new l.table i t) whole in record {
      entries = entries_apart old new l q heads elems size a u shows.entries;
      among = shows.among;
      most = shows.most;
      once = shows.once;
      apart = λ h j ne out_h out_j x y path_x path_y. shows.apart h j ne out_h out_j x y
          (kept h x path_x) (kept j y path_y);
    }

-- And a driver's end goes on tracking it.
pub tracks_apart : (old new : Pages) (r : DriverEnd) (heads : List ℕ) (elems : List UsedElem)
    (s : ℕ) → page_at new r.layout.table ≡ page_at old r.layout.table → Tracks old r heads elems s
    → Tracks new r heads elems s
tracks_apart old new r heads elems s same tracks = grind (arith, descriptor_apart)

-- Pages of zeros show two empty lists.
pub fresh_shows : (mem : Pages) (l : Layout) (q : ℕ) → Fits l q
    → ((k : ℕ) → k < 4096 → byte_at mem l.avail.page k ≡ 0)
    → ((k : ℕ) → k < 4096 → byte_at mem l.used.page k ≡ 0) → Shows mem l q [] []
fresh_shows mem l q fits a u = grind (arith, index_zero)

-- A fresh driver's end has no head out.
fresh_none : (q i : ℕ) → is_head (replicate q None) i ≡ false
fresh_none q i = ap (is_own i) (fresh_free q i)

-- It tracks a ring of which nothing was published.
pub fresh_tracks : (mem : Pages) (l : Layout) (q : ℕ) → Tracks mem (fresh_end l q) [] [] 0
fresh_tracks mem l q = grind (arith, numbers_none, fresh_none)
