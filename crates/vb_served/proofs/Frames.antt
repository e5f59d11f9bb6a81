-- As many pages have a frame as before, where each is backed as before.
use Rattle.std.proofs.Common.{◌≡◌, ◌<◌, ◌∙◌, ap, subst, refl, ℕ, List, Option, Some, None, length, get_or}
use Rattle.std.proofs.Common.{Result, Ok, Err}
use Rattle.std.specs.Prelude.{is_some, OnOk, OnErr}
use Rattle.std.proofs.lemmas.List.{get_or_default}
use Rattle.vb_virtio.proofs.Tables.{count_by-agree}
use Rattle.vb_ram.specs.Pages.{Page, Pages, frame_at, number_of, Wrote}
use Rattle.vb_device.proofs.Discards.{frame_count}

some_alike : (a b : Option Page) → number_of a ≡ number_of b → is_some a ≡ is_some b
some_alike None None e = refl
some_alike None (Some b) e = absurd cc
some_alike (Some a) None e = absurd cc
some_alike (Some a) (Some b) e = refl

pub same_backing : (old new : Pages) → length new ≡ length old →
    ((q : ℕ) → frame_at new q ≡ frame_at old q) → frame_count new ≡ frame_count old
same_backing old new len same = count_by-agree is_some new old len (λ i d l.
    some_alike (get_or new i d) (get_or old i d)
    (ap number_of (get_or_default new i d None l) ∙ (same i ∙
    ap number_of (get_or_default old i None d (subst (λ (n : ℕ). i < n) len l)))))

pub written_backing : {T E : Type 0} (r : Result T E) (old new : Pages) (p off : ℕ) (bs : List ℕ) →
    OnOk r (Wrote old new p off bs) → OnErr r (new ≡ old) → frame_count new ≡ frame_count old
written_backing (Ok x) old new p off bs w k = same_backing old new w.rest.count w.rest.backing
written_backing (Err x) old new p off bs w k = ap (λ (m : Pages). frame_count m) k

pub written_count : {T E : Type 0} (r : Result T E) (old new : Pages) (p off : ℕ) (bs : List ℕ) →
    OnOk r (Wrote old new p off bs) → OnErr r (new ≡ old) → length new ≡ length old
written_count (Ok x) old new p off bs w k = w.rest.count
written_count (Err x) old new p off bs w k = ap (λ (m : Pages). length m) k
