-- The driver sees a used head.
use Rattle.std.specs.Prelude.{◌≡◌, ℕ, ◌+◌, ◌%◌, Bool, true, if◌then◌else◌, List}
use Rattle.std.specs.Prelude.{[], ◌∷◌, ◌++◌, length, Result, Ok, Err, Option, Some, slice_get, refl}
use Rattle.std.proofs.{lemmas.List.length_push, Common.{sym, ◌∙◌, ap, subst, arith, append_assoc}}
use Rattle.vb_virtio.proofs.Distinct.{times-cons}
use Rattle.vb_ram.specs.Pages.{Pages}
use Rattle.vb_ring.specs.declared.driver.RingBroken.{RingBroken, TheVariants.NotOutstanding}
use Rattle.vb_ring.specs.{Ends.{DriverEnd, after_take, used_answer, outstanding}, Calls.TakesUsedBy}
use Rattle.vb_ring.specs.{Entries.{is_head, only_head}, Meaning.{UsedElem, ids, times, Shows}}
use Rattle.vb_ring.{specs.Meaning.Tracks, proofs.{Numbers.length-numbers, EntryLaws.id_shown}}
use Rattle.{vb_ring.proofs.HeadCounts.{times-push, ids-push}, vb_guest.specs.Ring.RingStands}
use Rattle.vb_guest.{specs.Ring.used_of, proofs.RingHeads.{one_is, is_one, length-used, length-ids}}
use Rattle.vb_guest.proofs.RingHeads.{ids-split, get_after, none_after, ring_once, ring_count}

-- the driver's next used head is the first that it hasn't seen
pub ring_answer : {mem : Pages} {q : ℕ} {ring : DriverEnd} {next_avail next_used : ℕ}
    {posted taken done : List ℕ} → RingStands mem q ring next_avail next_used posted taken done
    → used_answer mem ring ≡ Ok (slice_get done 0)
ring_answer {mem} {ring} {done} stands = let out = ring_count stands in
    let next = id_shown mem ring.layout ring.size (outstanding ring)
    (stands.gone ++ used_of done) (length stands.gone) ring.seen stands.sized
    (length-numbers (is_head ring.owner) ring.size) stands.shows.entries.used stands.tracks.seen
    stands.tracks.few (omega (arith, length-used stands.gone done, out)) in
    ap (only_head ring.owner) (next ∙ ap (λ (l : List ℕ). Ok (slice_get l (length stands.gone)))
    (ids-split stands.gone done) ∙ ap (λ (k : ℕ). Ok (slice_get (ids stands.gone ++ done) k))
    (sym (length-ids stands.gone))) ∙ by_done done refl where
      by_done : (d : List ℕ) → done ≡ d → only_head ring.owner (Ok
          (slice_get (ids stands.gone ++ done) (length (ids stands.gone)))) ≡ Ok (slice_get done 0)
      by_done [] is = ap (λ (d : List ℕ). only_head ring.owner (Ok (slice_get (ids stands.gone ++ d)
          (length (ids stands.gone))))) is ∙ ap (λ (o : Option ℕ). only_head ring.owner (Ok o))
          (none_after (ids stands.gone)) ∙ ap (λ (d : List ℕ). Ok (slice_get d 0)) (sym is)
      by_done (h ∷ rest) is =
          let owns : is_head ring.owner h ≡ true = is_one (is_head ring.owner h) (omega (
            arith,
            ring_once h stands,
            ap (times h) is ∙ times-cons h h rest,
            one_is h,
          )) in
          let found : Result (Option ℕ) RingBroken = Ok (Some h) in
          let wrong : Result (Option ℕ) RingBroken = Err NotOutstanding in
          ap (λ (d : List ℕ). only_head ring.owner (Ok (slice_get (ids stands.gone ++ d)
          (length (ids stands.gone))))) is ∙ ap (λ (o : Option ℕ). only_head ring.owner (Ok o))
          (get_after (ids stands.gone) h rest) ∙ ap (λ (b : Bool). if b then found else wrong) owns
          ∙ ap (λ (d : List ℕ). Ok (slice_get d 0)) (sym is)

pub ring_reaped : {mem : Pages} {q : ℕ} {ring after : DriverEnd}
    {next_avail next_used : ℕ} {posted taken : List ℕ} (h : ℕ) {rest : List ℕ}
    → RingStands mem q ring next_avail next_used posted taken (h ∷ rest)
    → TakesUsedBy mem ring after (Ok (Some h))
    → RingStands mem q after next_avail next_used posted taken rest
ring_reaped {mem} {q} {ring} {after} {next_avail} {next_used} {posted} {taken} h {rest} stands did =
    let R : DriverEnd → Type 0 = λ r. RingStands mem q r next_avail next_used posted taken rest in
    subst R (sym did.state)
    (now (subst (λ (r : DriverEnd). TakesUsedBy mem ring r (Ok (Some h))) did.state did)) where
      now : TakesUsedBy mem ring (after_take ring (Ok (Some h))) (Ok (Some h))
          → RingStands mem q (after_take ring (Ok (Some h))) next_avail next_used posted taken rest
      now did = let e : UsedElem = record { id = h; len = 0 } in
          let after : DriverEnd = after_take ring (Ok (Some h)) in
          let heads = stands.before ++ posted in let elems = stands.gone ++ used_of (h ∷ rest) in
          let moved : (stands.gone ++ e ∷ []) ++ used_of rest ≡ elems =
          append_assoc stands.gone (e ∷ []) (used_of rest) in
          let len : length (stands.gone ++ e ∷ []) ≡ length stands.gone + 1 =
          length_push stands.gone e in
          let more : length elems ≡ length stands.gone + length (h ∷ rest) =
          length-used stands.gone (h ∷ rest) in
          let Q : List UsedElem → Type 0 = λ x. Shows mem ring.layout ring.size heads x in
          let T : List UsedElem → ℕ → Type 0 = λ x s. Tracks mem after heads x s in
          let seen = did.tracks heads elems (length stands.gone) stands.tracks stands.shows
          (omega (arith, more)) in
          record {
            sized = stands.sized;
            layout = stands.layout;
            before = stands.before;
            gone = stands.gone ++ e ∷ [];
            shows = subst Q (sym moved) stands.shows;
            tracks = subst (T ((stands.gone ++ e ∷ []) ++ used_of rest)) (sym len)
                (subst (λ (x : List UsedElem). T x (length stands.gone + 1)) (sym moved) seen);
            avail = stands.avail;
            used = ap (λ (x : List UsedElem). length x % 65536) moved ∙ stands.used;
            counted = omega (arith, stands.counted, len);
            balance = λ k. omega (
              arith,
              stands.balance k,
              times-cons k h rest,
              ap (times k) (ids-push stands.gone e),
              times-push k (ids stands.gone) h,
            );
          }
