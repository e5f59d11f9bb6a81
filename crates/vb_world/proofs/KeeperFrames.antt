-- What represents a guest whose device keeps no frames: the keeper's frames alone count.
use Rattle.std.specs.Prelude.{◌≡◌, ℕ, ◌+◌, Bool, false, List, [], ◌∷◌, length, if◌then◌else◌}
use Rattle.{std.proofs.Common.{◌∙◌, ap, subst, arith}, vb_driver.specs.State.DriverState}
use Rattle.{vb_model.specs.{declared.calls.Call.Call, Guest.Guest}, vb_device.specs.Own.has}
use Rattle.vb_virtio.specs.Tests.{one_if}
use Rattle.vb_model.specs.declared.calls.Claim.{Claim}
use Rattle.vb_model.specs.declared.replies.Reply.{Reply}
use Rattle.vb_model.specs.declared.calls.Claim.TheVariants.{Gave, GaveNoFrame, GaveNoMemory}
use Rattle.{vb_ram.specs.{Pages.Pages, Part.Part}, vb_frames.specs.Out.{is_out, AllAnswered}}
use Rattle.vb_slot.specs.{Stands.Stands, Supply.{Supply, AreClaimed, is_used, Moves}}
use Rattle.vb_slot.specs.Steps.{backing_count, StepsWithKeeper, StepsOver}

claimed_asked : (Answers : List Bool → Claim → Type 0) (s : Supply) (claims : List Claim)
    → s.keeps ≡ false → AreClaimed Answers s claims → AllAnswered Answers s.out claims
claimed_asked Answers s [] e are = tt
claimed_asked Answers s (Gave n ∷ claims) e (mid, first, rest) =
    let (answer, free, now) = first.asked e in (
      answer,
      free,
      subst (λ (out : List Bool). AllAnswered Answers out claims) now
          (claimed_asked Answers mid claims (first.moves.keeps ∙ e) rest),
    )
claimed_asked Answers s (GaveNoFrame ∷ claims) e (mid, first, last) = ((first.asked e).0, last)
claimed_asked Answers s (GaveNoMemory ∷ claims) e (mid, first, last) = ((first.asked e).0, last)

used_out : (s : Supply) (n : ℕ) → s.keeps ≡ false → is_used s n ≡ is_out s.out n
used_out s n e = ap (λ (b : Bool). if b then has s.own n else is_out s.out n) e

-- Of the keeper's frames, n of each number went out, and m came back.
pub record KeeperMoves (old_out new_out : List Bool) (gained lost : ℕ → ℕ) : Type 0 where
  pub balance : (n : ℕ) → one_if (is_out new_out n) + lost n ≡ one_if (is_out old_out n) + gained n
  pub count : length new_out ≡ length old_out

pub moves_asked : (s1 s2 : Supply) (gained lost : ℕ → ℕ) → s1.keeps ≡ false
    → Moves s1 s2 gained lost → KeeperMoves s1.out s2.out gained lost
moves_asked s1 s2 gained lost e moves = record {
  balance = λ n. omega (
    arith,
    moves.balance n,
    ap one_if (used_out s1 n e),
    ap one_if (used_out s2 n (moves.keeps ∙ e)),
  );
  count = moves.count;
}

-- a step over the keeper's frames
pub steps_asked : (New : Guest → Type 0) (Answers : List Bool → Claim → Type 0) (s1 s2 : Supply)
    (claims : List Claim) (g : Guest) (call : Call) (reply : Reply) → s1.keeps ≡ false
    → StepsOver New Answers s1 s2 claims g call reply → StepsWithKeeper New Answers s1.out s2.out g call reply
steps_asked New Answers s1 s2 claims g call reply e step =
    let keeper = moves_asked s1 s2 (λ n. backing_count n step.new) (λ n. backing_count n g) e
    step.moves in
    record {
      claims = claims;
      new = step.new;
      stands = step.stands;
      step = step.step;
      answered = claimed_asked Answers s1 claims e step.answered;
      balance = keeper.balance;
      count = keeper.count;
    }

-- the device is said to keep what it keeps
pub stands_keeping : (keeps other : Bool) (m : Pages) (p : Part) (d : DriverState) (g : Guest)
    → keeps ≡ other → Stands keeps m p d g → Stands other m p d g
stands_keeping keeps other m p d g e stands = subst (λ b. Stands b m p d g) e stands
