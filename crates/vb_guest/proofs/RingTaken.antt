-- The device takes a posted head.
use Rattle.std.specs.Prelude.{◌≡◌, ℕ, ◌+◌, ◌%◌, List, [], ◌∷◌, ◌++◌, length, Ok, slice_get}
use Rattle.std.proofs.{Common.{sym, ◌∙◌, ap, subst, arith, append_assoc}, lemmas.List.length_push}
use Rattle.{vb_ram.specs.Pages.Pages, vb_ring.specs.{Entries.next_entry, Ends.DriverEnd}}
use Rattle.vb_ring.{specs.Meaning.{Shows, Tracks}, proofs.EntryLaws.entry_shown}
use Rattle.{vb_ring.proofs.HeadCounts.times-push, vb_guest.specs.Ring.RingStands}
use Rattle.vb_guest.{specs.Ring.used_of, proofs.RingHeads.{length-used, get_after, none_after}}

-- the device's next entry is the first posted head
pub ring_next : {mem : Pages} {q : ℕ} {ring : DriverEnd} {next_avail next_used : ℕ}
    {posted taken done : List ℕ} → RingStands mem q ring next_avail next_used posted taken done
    → next_entry mem ring.layout ring.size next_avail ≡ Ok (slice_get posted 0)
ring_next {mem} {ring} {next_avail} {posted} {done} stands =
    let used = length-used stands.gone done in
    entry_shown mem ring.layout ring.size (stands.before ++ posted)
    (length stands.before) next_avail stands.sized stands.shows.entries.avail stands.avail
    (omega (arith, Rattle.std.proofs.Common.length-append stands.before posted))
    (omega (arith, stands.shows.most, stands.counted, used)) ∙ ap Ok (first stands.before posted)
  where
    first : (before posted : List ℕ)
        → slice_get (before ++ posted) (length before) ≡ slice_get posted 0
    first before [] = none_after before
    first before (h ∷ rest) = get_after before h rest

pub ring_taken : {mem : Pages} {q : ℕ} {ring : DriverEnd} {next_avail next_used : ℕ} (h : ℕ)
    {rest taken done : List ℕ} → RingStands mem q ring next_avail next_used (h ∷ rest) taken done
    → RingStands mem q ring ((next_avail + 1) % 65536) next_used rest (taken ++ h ∷ []) done
ring_taken {mem} {ring} h {rest} {taken} {done} stands = let elems = stands.gone ++ used_of done in
    let moved : (stands.before ++ h ∷ []) ++ rest ≡ stands.before ++ (h ∷ rest) =
    append_assoc stands.before (h ∷ []) rest in
    let Q : List ℕ → Type 0 = λ l. Shows mem ring.layout ring.size l elems in
    let T : List ℕ → Type 0 = λ l. Tracks mem ring l elems (length stands.gone) in
    record {
      sized = stands.sized;
      layout = stands.layout;
      before = stands.before ++ h ∷ [];
      gone = stands.gone;
      shows = subst Q (sym moved) stands.shows;
      tracks = subst T (sym moved) stands.tracks;
      avail = omega (arith, length_push stands.before h, stands.avail);
      used = stands.used;
      counted = omega (arith, length_push stands.before h, length_push taken h, stands.counted);
      balance =
          λ k. omega (arith, times-push k stands.before h, times-push k taken h, stands.balance k);
    }
