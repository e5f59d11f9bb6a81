-- The driver publishes a head on a ring.
use Rattle.std.specs.Prelude.{◌≡◌, ℕ, List, [], ◌∷◌, ◌++◌, length, Ok}
use Rattle.{std.proofs.Common.{sym, subst, append_assoc}, vb_ram.specs.Pages.Pages}
use Rattle.vb_ring.specs.{Ends.{DriverEnd, after_add}, Meaning.{Shows, Tracks}}
use Rattle.{vb_driver.specs.Calls.Announces, vb_guest.specs.Ring.{RingStands, used_of}}

pub ring_posted : {m1 m2 : Pages} {q : ℕ} {ring after : DriverEnd}
    {next_avail next_used : ℕ} {posted taken done : List ℕ} (n : ℕ) {head : ℕ}
    → RingStands m1 q ring next_avail next_used posted taken done
    → after ≡ after_add ring n (Ok head) → Announces m1 m2 ring after head
    → RingStands m2 q after next_avail next_used (posted ++ head ∷ []) taken done
ring_posted {m1} {m2}
    {q} {ring} {after} {next_avail} {next_used} {posted} {taken} {done} n {head} stands state did =
    let R : DriverEnd → Type 0 =
    λ r. RingStands m2 q r next_avail next_used (posted ++ head ∷ []) taken done in
    subst R (sym state) (now (subst (λ (r : DriverEnd). Announces m1 m2 ring r head) state did)) where
      now : Announces m1 m2 ring (after_add ring n (Ok head)) head
          → RingStands m2 q (after_add ring n (Ok head)) next_avail next_used (posted ++ head ∷ []) taken done
      now did = let heads = stands.before ++ posted in let elems = stands.gone ++ used_of done in
          let after : DriverEnd = after_add ring n (Ok head) in
          let grown : heads ++ head ∷ [] ≡ stands.before ++ (posted ++ head ∷ []) =
          append_assoc stands.before posted (head ∷ []) in
          let shown = did.shown heads elems (length stands.gone) stands.tracks stands.shows in
          let Q : List ℕ → Type 0 = λ x. Shows m2 ring.layout ring.size x elems in
          let T : List ℕ → Type 0 = λ x. Tracks m2 after x elems (length stands.gone) in
          record {
            sized = stands.sized;
            layout = stands.layout;
            before = stands.before;
            gone = stands.gone;
            shows = subst Q grown shown.0;
            tracks = subst T grown shown.1;
            avail = stands.avail;
            used = stands.used;
            counted = stands.counted;
            balance = stands.balance;
          }
