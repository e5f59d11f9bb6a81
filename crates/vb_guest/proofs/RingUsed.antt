-- The device uses a taken head.
use Rattle.{std.proofs.Common.{sym, ◌∙◌, ap, subst, arith, append_assoc}, vb_ram.specs.Pages.Pages}
use Rattle.std.{proofs.lemmas.List.{length_push, map_push, Edits.length-remove}, specs.Prelude.◌∷◌}
use Rattle.{std.proofs.lemmas.Option.slice_get_within, vb_ring.proofs.MeaningLaws.used_tracks}
use Rattle.std.specs.Prelude.{◌≡◌, ◌+◌, ◌%◌, ◌<◌, true, List, ◌++◌, length, Some, slice_get, remove}
use Rattle.{std.specs.Prelude.{ℕ, []}, vb_guest.proofs.RingHeads.{one_is, times-remove, times-used}}
use Rattle.vb_virtio.proofs.Distinct.{times-append}
use Rattle.vb_guest.specs.Ring.{RingStands, used_of}
use Rattle.vb_ring.{proofs.HeadCounts.times-push, specs.Ends.{DriverEnd, DeviceEnd}}
use Rattle.vb_ring.specs.{Calls.AddsUsedBy, Meaning.{UsedElem, ids, times, Shows, Tracks}}

pub ring_used : {m1 m2 : Pages} {q : ℕ} {ring : DriverEnd}
    {next_avail next_used : ℕ} {posted taken done : List ℕ} (i : ℕ) {h : ℕ} {after : DeviceEnd}
    → RingStands m1 q ring next_avail next_used posted taken done → slice_get taken i ≡ Some h
    → AddsUsedBy m1 m2 (record {
      layout = ring.layout;
      size = ring.size;
      ready = true;
      next_avail = next_avail;
      next_used = next_used;
    }) after h 0 → RingStands m2 q ring next_avail ((next_used + 1) % 65536) posted (remove taken i)
    (done ++ h ∷ [])
ring_used {m1} {m2} {ring} {posted} {taken} {done} i {h} stands is adds =
    let heads = stands.before ++ posted in let elems = stands.gone ++ used_of done in
    let e : UsedElem = record { id = h; len = 0 } in
    let grown : elems ++ e ∷ [] ≡ stands.gone ++ used_of (done ++ h ∷ []) =
    search (arith, append_assoc, map_push) in
    let out : times h (ids elems) < times h heads = omega (
      arith,
      times-used h stands.gone done,
      times-append h stands.before posted,
      stands.balance h,
      times-remove h taken i h is,
      one_is h,
    ) in
    let Q : List UsedElem → Type 0 = λ x. Shows m2 ring.layout ring.size heads x in
    let T : List UsedElem → Type 0 = λ x. Tracks m2 ring heads x (length stands.gone) in
    record {
      sized = stands.sized;
      layout = stands.layout;
      before = stands.before;
      gone = stands.gone;
      shows = subst Q grown (adds.shown heads elems stands.used out stands.shows);
      tracks = subst T grown (used_tracks m1 m2 ring heads elems e
          (length stands.gone) adds.descriptors stands.tracks);
      avail = stands.avail;
      used = ap (λ (x : List UsedElem). length x % 65536) (sym grown)
          ∙ omega (arith, length_push elems e, stands.used);
      counted = omega (
        arith,
        stands.counted,
        length-remove taken i (slice_get_within taken i h is),
        length_push done h,
      );
      balance =
          λ k. omega (arith, stands.balance k, times-remove k taken i h is, times-push k done h);
    }
