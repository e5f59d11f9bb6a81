-- What the driver's table keeps, after each change of the owners.
use Rattle.std.proofs.lemmas.List.{length-map, get_or-set_same, get_or-set_other, take_at}
use Rattle.std.specs.Prelude.{◌≡◌, ℕ, ◌+◌, ◌-◌, ◌<◌, ◌≤◌, Bool, true, false, List, Option, Some}
use Rattle.std.specs.Prelude.{None, ◌++◌, if◌then◌else◌, replicate, take, length, slice_index, refl}
use Rattle.std.proofs.{lemmas.List.length-replicate, Common.{sym, ◌∙◌, ap, subst, arith, set}}
use Rattle.{std.specs.Prelude.slice_index_or, vb_ring.specs.Ends.{is_unused, claimed, released}}
use Rattle.vb_virtio.proofs.Tables.{length-each_from}
use Rattle.vb_virtio.specs.Tests.{is_in}
use Rattle.std.specs.Prelude.{is_none}
use Rattle.vb_ring.proofs.OwnerLaws.{Claims, claims, Releases, releases, is_in-some, is_in-at}
use Rattle.vb_ring.specs.{Kept.{LiesBetween, AreKept, IsFreeChain}, Numbers.numbers}
use Rattle.vb_ring.{proofs.Numbers.{numbers_none, numbers_has}, specs.Entries.{is_own, is_head}}
use Rattle.vb_ring.proofs.OwnerLaws.{own_some, head_inside, fresh_free, claimed-at, released-at}

-- How many heads a table has, by its length.
heads_of : (owner : List (Option ℕ)) (n m : ℕ) → n ≡ m
    → length (numbers (is_head owner) n) ≡ length (numbers (is_head owner) m)
heads_of owner n m e = ap (λ k. length (numbers (is_head owner) k)) e

-- A table of which nothing is out.
pub fresh_kept : (owner : List (Option ℕ)) (count : ℕ) (last : List ℕ) → count ≤ 256
    → owner ≡ replicate count None → AreKept owner count 0 last 0
fresh_kept owner count last few fresh = grind (arith, fresh_free, length-replicate, numbers_none)

-- A chain is out: some are.
pub some_out : (owner : List (Option ℕ)) (count out h from : ℕ) (last : List ℕ)
    → AreKept owner count out last from → is_head owner h ≡ true → 0 < out
some_out owner count out h from last kept is =
    grind (arith, numbers_has (is_head owner) (length owner) h (head_inside owner h is) is)

-- A chain more is out.
pub claim_keeps : (owner : List (Option ℕ)) (count out from : ℕ) (last path : List ℕ) (h e : ℕ)
    → AreKept owner count out last from → length last ≡ 256
    → IsFreeChain owner path → slice_index path 0 ≡ h → slice_index path (length path - 1) ≡ e
    → AreKept (claimed path h owner) count (out + 1) (set last h e) (e + 1)
claim_keeps owner count out from last path h e kept room chain first end =
    let new : List (Option ℕ) = claimed path h owner in
    let some : 0 < length path = chain.some in
    let begin : h < length owner = omega (arith, chain.inside 0 some, first) in
    let claim : Claims owner new path h =
    claims owner path h some first (λ k l. (chain.inside k l, chain.free k l)) in
    let len : length new ≡ length owner =
    length-each_from 0 (λ i old. if is_in i path then Some h else old) owner in
    let here : slice_index (set last h e) h ≡ e =
    get_or-set_same last h e 0 (omega (arith, begin, kept.size, kept.few, room)) in record {
      size = len ∙ kept.size;
      few = kept.few;
      heads = omega (arith, heads_of new (length new) (length owner) len);
      within = λ i j own. within_by claim here i j own (is_in i path) refl;
      ends = grind (arith, get_or-set_other);
      begin = omega (arith, end, chain.inside (length path - 1) (omega arith), kept.size);
      taken = λ i l. taken_by i l (is_in i path) refl (is_unused owner i) refl;
    }
  where
    at_path : (i : ℕ) → slice_index_or (claimed path h owner) i None
        ≡ (if is_in i path then Some h else slice_index_or owner i None)
    at_path i = claimed-at path h owner i chain.inside

    -- what is free below the path's end is on the path
    taken_by : (i : ℕ) → i < e + 1 → (b : Bool) → is_in i path ≡ b
        → (f : Bool) → is_unused owner i ≡ f → is_unused (claimed path h owner) i ≡ false
    taken_by i l true on f free =
        ap is_none (at_path i ∙ ap (λ (b : Bool). if b then Some h else slice_index_or owner i None) on)
    taken_by i l false on false free = ap is_none
        (at_path i ∙ ap (λ (b : Bool). if b then Some h else slice_index_or owner i None) on) ∙ free
    taken_by i l false on true free = grind (arith, is_in-at)

    -- a place of the path lies between its ends
    from_first : (k : ℕ) → k < length path → h ≤ slice_index path k
    from_first k l = grind arith

    to_last : (k : ℕ) → k < length path → slice_index path k ≤ e
    to_last k l = grind arith

    within_by : Claims owner (claimed path h owner) path h → slice_index (set last h e) h ≡ e
        → (i j : ℕ) → slice_index_or (claimed path h owner) i None ≡ Some j
        → (b : Bool) → is_in i path ≡ b → LiesBetween (claimed path h owner) (set last h e) i j
    within_by claim here i j own true is = grind (arith, is_in-some, to_last)
    within_by claim here i j own false is =
        let old : LiesBetween owner last i j = kept.within i j (sym (claim.rest i is) ∙ own) in
        grind (arith, get_or-set_other)

-- A chain less is out.
pub release_keeps : (owner : List (Option ℕ)) (count out from to : ℕ) (last : List ℕ) (h : ℕ)
    → AreKept owner count out last from → is_head owner h ≡ true → to ≤ from → to ≤ h
    → AreKept (released h owner) count (out - 1) last to
release_keeps owner count out from to last h kept is below low =
    let new : List (Option ℕ) = released h owner in
    let release : Releases owner new h = releases owner h is in
    let len : length new ≡ length owner =
    length-map owner (λ old. if is_own h old then None else old) in record {
      size = len ∙ kept.size;
      few = kept.few;
      heads = omega (
        arith,
        release.count (length owner) (head_inside owner h is),
        heads_of new (length new) (length owner) len,
      );
      within = λ i j own.
          let was = release.was i j own in
          let old : LiesBetween owner last i j = kept.within i j was.0 in
          record { out = release.same j was.1 ∙ old.out; from = old.from; to = old.to };
      ends = grind arith;
      begin = omega (arith, kept.begin, below);
      taken = λ i l. taken_by i (omega (arith, l, low)) (kept.taken i (omega (arith, l, below)))
          (is_own h (slice_index_or owner i None)) refl;
    }
  where
    -- what is taken below the head belongs to another chain
    taken_by : (i : ℕ) → i < h → is_unused owner i ≡ false → (b : Bool)
        → is_own h (slice_index_or owner i None) ≡ b → is_unused (released h owner) i ≡ false
    taken_by i l held true own =
        absurd (omega (arith, l, (kept.within i h (own_some h _ own)).from))
    taken_by i l held false own = ap is_none (released-at h owner i
        ∙ ap (λ (b : Bool). if b then None else slice_index_or owner i None) own) ∙ held

-- ---- where the table is the first part of a longer one

pub claim_after : (owner new more : List (Option ℕ)) (count out from : ℕ) (last path : List ℕ)
    (at h e : ℕ) → AreKept owner count out last from → length last ≡ 256
    → IsFreeChain owner path → slice_index path 0 ≡ h → slice_index path (length path - 1) ≡ e
    → at ≡ h → new ≡ claimed path h owner
    → AreKept (take count (new ++ more)) count (out + 1) (set last at e) (e + 1)
claim_after owner new more count out from last path at h e kept room chain first end place is =
    let after : AreKept (claimed path h owner) count (out + 1) (set last h e) (e + 1) =
    claim_keeps owner count out from last path h e kept room chain first end in
    grind (arith, take_at)

pub release_after : (owner new more : List (Option ℕ)) (count out from to : ℕ) (last : List ℕ)
    (h : ℕ) → AreKept owner count out last from → is_head owner h ≡ true → to ≤ from → to ≤ h
    → new ≡ released h owner → AreKept (take count (new ++ more)) count (out - 1) last to
release_after owner new more count out from to last h kept head below low is =
    let after : AreKept (released h owner) count (out - 1) last to =
    release_keeps owner count out from to last h kept head below low in
    let whole : take count (new ++ more) ≡ released h owner =
    take_at new more count (ap length is ∙ after.size) ∙ is in
    subst (λ (xs : List (Option ℕ)). AreKept xs count (out - 1) last to) (sym whole) after
