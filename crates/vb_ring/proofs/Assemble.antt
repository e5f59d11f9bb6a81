-- The contracts of the ring's calls, put together from what their parts give.
use Rattle.std.specs.Prelude.{false, List, [], ◌∷◌, ◌++◌, Option, Some, None, Result, Ok, Err}
use Rattle.std.proofs.lemmas.{Bool.{cases_eq, le-ltb}, Option.{slice_get-get_or, slice_get_past}}
use Rattle.std.proofs.lemmas.List.{length_push, length-map, get_or-map, length-take, get_or_past}
use Rattle.std.specs.Prelude.{if◌then◌else◌, length, slice_get, slice_index, slice_index_or, refl}
use Rattle.{std.proofs.Common.{sym, ◌∙◌, ap, subst, arith, inl, inr}, vb_ring.proofs.Puts.publishes}
use Rattle.std.specs.Prelude.{◌≡◌, ◌≢◌, ℕ, ◌+◌, ◌*◌, ◌%◌, ◌<◌, ◌≤◌, nat_lt, Bool, true}
use Rattle.{vb_ram.specs.Pages.{Pages, SameBut}, vb_chain.specs.Written.{linked, IsRoute}}
use Rattle.vb_chain.{proofs.TableLaws.descriptor_kept, specs.declared.pieces.Piece.Piece}
use Rattle.{vb_chain.specs.Table.descriptor_at, vb_ring.proofs.FrameLaws.outside_in}
use Rattle.vb_ring.proofs.{HeadCounts.{times-push, fewer_used}, Numbers.length-numbers}
use Rattle.vb_ring.proofs.MeaningLaws.{added_tracks, tracks_shows, next_used_out, taken_tracks}
use Rattle.vb_ring.proofs.MeaningLaws.{used_shows, next_path-free, next_path-rise, next_path-lowest}
use Rattle.vb_ring.specs.Calls.{PutsAvail, Publishes, Links, AddsBy, TakesUsedBy, PutsUsed}
use Rattle.vb_ring.specs.Ends.{DriverEnd, IsDriverEnd, DeviceEnd, IsDeviceEnd, free_descriptors}
use Rattle.vb_ring.specs.Ends.{next_path, claimed, released, outstanding, after_add, used_answer}
use Rattle.vb_ring.specs.{Calls.AddsUsedBy, Layout.Fits, Ends.after_take, Kept.IsFreeChain}
use Rattle.vb_ring.specs.declared.driver.RingBroken.{TheVariants.NotOutstanding, RingBroken}
use Rattle.vb_ring.specs.declared.{driver.Full.TheVariants.TooFewFree, layout.Layout.Layout}
use Rattle.vb_ring.proofs.EntryLaws.{publishes_entries, puts_entries, puts_descriptors, id_shown}
use Rattle.vb_ring.{proofs.OwnerLaws.not_in, specs.Entries.{is_own, is_head, next_id, only_head}}
use Rattle.vb_ring.specs.Meaning.{UsedElem, no_elem, ids, Shows, ShowsEntries, Tracks}

-- ---- add

answer_enough : (a n h : ℕ) → n ≤ a → (if nat_lt a n then Err TooFewFree else Ok h) ≡ Ok h
answer_enough a n h le = ap (λ (b : Bool). if b then Err TooFewFree else Ok h) (le-ltb a n le)

pub adds_ok : (old new : Pages) (r : DriverEnd) (pieces : List Piece) (h : ℕ) → IsDriverEnd r
    → 0 < length pieces → length pieces ≤ length (free_descriptors r)
    → slice_index (next_path r (length pieces)) 0 ≡ h
    → Links old new r.layout r.size (next_path r (length pieces)) pieces
    → Publishes old new r.layout r.size r.published h
    → AddsBy old new r (after_add r (length pieces) (Ok h)) pieces (Ok h)
adds_ok old new r pieces h is_end some fits first links pubs = record {
  is_end = is_end;
  value = ap Ok (sym first) ∙ sym (answer_enough (length (free_descriptors r)) (length pieces)
      (slice_index (next_path r (length pieces)) 0) fits);
  state = refl;
  full = tt;
  links = links;
  publishes = pubs;
  entries = λ heads elems at shows. publishes_entries old new r.layout r.size r.published h heads
      elems is_end.fits pubs at shows;
  shown = λ heads elems s tracks shows.
      let after = added_tracks old new r pieces h heads elems s is_end links some fits first
      tracks in
      let entries : ShowsEntries new r.layout r.size (heads ++ h ∷ []) elems =
      publishes_entries old new r.layout r.size r.published h heads elems is_end.fits pubs
      tracks.published shows.entries in (
        tracks_shows new (after_add r (length pieces) (Ok h)) (heads ++ h ∷ []) elems s after.0
            entries (λ j. omega (arith, shows.among j, times-push j heads h))
            (omega (arith, length_push heads h, tracks.count, tracks.few, after.1)),
        after.0,
      );
}

-- the descriptors that were written stay through the publication
pub links_kept : (m1 m2 m3 : Pages) (l : Layout) (q next head : ℕ) (path : List ℕ)
    (pieces : List Piece) → Fits l q → length path ≡ length pieces
    → ((k : ℕ) → k < length path → slice_index path k < q) → ((k : ℕ) → k < length path
    → descriptor_at m2 l.table (slice_index path k) ≡ linked path pieces k)
    → ((i : ℕ) → ((k : ℕ) → k < length path → slice_index path k ≢ i)
    → descriptor_at m2 l.table i ≡ descriptor_at m1 l.table i)
    → PutsAvail m2 m3 l q next head → Links m1 m3 l q path pieces
links_kept m1 m2 m3 l q next head path pieces fits len inside put others w =
    grind (arith, descriptor_kept, outside_in, not_in)

-- the next chain's descriptors are a free chain of the table
pub next_chain : (r : DriverEnd) (n : ℕ) (path : List ℕ) → IsDriverEnd r → 0 < n
    → path ≡ next_path r n → length path ≡ n → IsFreeChain r.owner path
next_chain r n path is_end some along count =
    grind (arith, next_path-free, next_path-rise, next_path-lowest)

-- the next chain's descriptors are a route
pub next_route : (r : DriverEnd) (n : ℕ) → IsRoute r.size (next_path r n)
next_route r n = grind (arith, next_path-free, next_path-rise)

-- ---- take_used

pub only_out : (owner : List (Option ℕ)) (id : ℕ) → is_head owner id ≡ true
    → only_head owner (Ok (Some id)) ≡ Ok (Some id)
only_out owner id e = ap (λ (b : Bool). if b then Ok (Some id) else Err NotOutstanding) e

pub only_unknown : (owner : List (Option ℕ)) (id : ℕ) → is_head owner id ≡ false
    → only_head owner (Ok (Some id)) ≡ Err NotOutstanding
only_unknown owner id e = ap (λ (b : Bool). if b then Ok (Some id) else Err NotOutstanding) e

pub past_unknown : (owner : List (Option ℕ)) (id : ℕ) → length owner ≤ id → is_head owner id ≡ false
past_unknown owner id past = ap (is_own id) (get_or_past owner id None past)

pub takes_by : (mem : Pages) (r : DriverEnd) (result : Result (Option ℕ) RingBroken) → IsDriverEnd r
    → outstanding r ≤ r.size → result ≡ used_answer mem r
    → TakesUsedBy mem r (after_take r result) result
takes_by mem r result is_end most is = record {
  is_end = is_end;
  value = is;
  state = refl;
  shown = shown;
  tracks = λ heads elems s tracks shows lt.
      let id : ℕ = (slice_index_or elems s no_elem).id in
      let out : is_head r.owner id ≡ true =
      next_used_out mem r heads elems s tracks shows.among lt in
      subst (λ (a : Result (Option ℕ) RingBroken). Tracks mem (after_take r a) heads elems (s + 1))
      (sym (shown heads elems s tracks shows ∙ ap Ok (next_elem elems s lt)))
      (taken_tracks mem r heads elems s id is_end tracks lt refl out);
} where
  next_elem : (elems : List UsedElem) (s : ℕ) → s < length elems
      → slice_get (ids elems) s ≡ Some (slice_index_or elems s no_elem).id
  next_elem elems s lt =
      slice_get-get_or (ids elems) s 0 (omega (arith, length-map elems (λ e. e.id)))
      ∙ ap Some (get_or-map (λ e. e.id) elems s no_elem 0 lt)

  shown : (heads : List ℕ) (elems : List UsedElem) (s : ℕ) → Tracks mem r heads elems s
      → Shows mem r.layout r.size heads elems → result ≡ Ok (slice_get (ids elems) s)
  shown heads elems s tracks shows = let fewer = fewer_used mem r.layout r.size heads elems shows in
      let next : next_id mem r.layout r.size r.seen (outstanding r) ≡ Ok (slice_get (ids elems) s) =
      id_shown mem r.layout r.size (outstanding r) elems s r.seen is_end.fits.size most
      shows.entries.used tracks.seen tracks.few (omega (arith, tracks.count, fewer)) in
      is ∙ ap (only_head r.owner) next ∙ elim (cases_eq s (length elems)) [
        | inl all ↦
            let none : slice_get (ids elems) s ≡ None =
            slice_get_past (ids elems) s (omega (arith, length-map elems (λ e. e.id), all)) in
            ap (λ (o : Option ℕ). only_head r.owner (Ok o)) none ∙ ap Ok (sym none)
        | inr ne ↦
            let lt : s < length elems = omega (arith, ne, tracks.few) in
            let some = next_elem elems s lt in
            ap (λ (o : Option ℕ). only_head r.owner (Ok o)) some
            ∙ only_out r.owner (slice_index_or elems s no_elem).id
            (next_used_out mem r heads elems s tracks shows.among lt) ∙ ap Ok (sym some)
      ]

-- ---- add_used

pub adds_used_by : (old new : Pages) (q : DeviceEnd) (head count : ℕ) → IsDeviceEnd q
    → PutsUsed old new q.layout q.size q.next_used head count
    → AddsUsedBy old new q (record q { next_used = (q.next_used + 1) % 65536 }) head count
adds_used_by old new q head count is_end w = record {
  is_end = is_end;
  state = refl;
  puts = w;
  descriptors = λ i lt. puts_descriptors old new q.layout q.size q.next_used head count i
      is_end.fits w lt;
  entries = λ heads elems at shows. puts_entries old new q.layout q.size q.next_used head count
      heads elems is_end.fits w at shows;
  shown = λ heads elems at out shows.
      used_shows old new q.layout q.size heads elems (record { id = head; len = count })
      (λ i lt. puts_descriptors old new q.layout q.size q.next_used head count i is_end.fits w lt)
      (puts_entries old new q.layout q.size q.next_used head count heads elems is_end.fits w at
      shows.entries) out shows;
}

-- an add, by what was written along a path that is the next one
pub adds_along : (m1 m2 m3 : Pages) (r : DriverEnd) (pieces : List Piece) (path : List ℕ)
    (new : List (Option ℕ)) → path ≡ next_path r (length pieces) → IsDriverEnd r → 0 < length pieces
    → length path ≡ length pieces → ((k : ℕ) → k < length path
    → descriptor_at m2 r.layout.table (slice_index path k) ≡ linked path pieces k)
    → ((i : ℕ) → ((k : ℕ) → k < length path → slice_index path k ≢ i)
    → descriptor_at m2 r.layout.table i ≡ descriptor_at m1 r.layout.table i)
    → SameBut m1 m2 r.layout.table 0 (16 * r.size) → PutsAvail m2 m3 r.layout r.size r.published
    (slice_index path 0) → new ≡ claimed path (slice_index path 0) r.owner
    → AddsBy m1 m3 r (record r { published = (r.published + 1) % 65536; owner = new }) pieces
    (Ok (slice_index path 0))
adds_along m1 m2 m3 r pieces path new along is_end some len put others table w owner =
    let n : ℕ = length pieces in
    let inside : (k : ℕ) → k < length path → slice_index path k < r.size =
    subst (λ (xs : List ℕ). (k : ℕ) → k < length xs → slice_index xs k < r.size) (sym along)
    (λ k h. (next_path-free r n k h).0) in
    let links : Links m1 m3 r.layout r.size path pieces = links_kept m1 m2 m3 r.layout
    r.size r.published (slice_index path 0) path pieces is_end.fits len inside put others w in
    let pubs : Publishes m1 m3 r.layout r.size r.published (slice_index path 0) =
    publishes m1 m2 m3 r.layout r.size r.published (slice_index path 0) table w in
    let enough : n ≤ length (free_descriptors r) =
    omega (arith, len, ap length along, length-take n (free_descriptors r)) in
    let ok : AddsBy m1 m3 r (after_add r n (Ok (slice_index path 0))) pieces
    (Ok (slice_index path 0)) = adds_ok m1 m3 r pieces (slice_index path 0) is_end some enough
    (ap (λ (xs : List ℕ). slice_index xs 0) (sym along))
    (subst (λ (xs : List ℕ). Links m1 m3 r.layout r.size xs pieces) along links) pubs in grind arith

pub takes_after : (mem : Pages) (r : DriverEnd) (new : List (Option ℕ)) (id : ℕ)
    → IsDriverEnd r → next_id mem r.layout r.size r.seen (outstanding r) ≡ Ok (Some id)
    → is_head r.owner id ≡ true → new ≡ released id r.owner
    → TakesUsedBy mem r (record r { seen = (r.seen + 1) % 65536; owner = new }) (Ok (Some id))
takes_after mem r new id is_end next out owner = grind (
  arith,
  takes_by mem r (Ok (Some id)) is_end (length-numbers (is_head r.owner) r.size) (sym (ap (only_head r.owner) next ∙ only_out r.owner id out)),
)
