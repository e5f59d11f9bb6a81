-- How little it takes until nothing is on its way between a guest and the lender.
use Rattle.std.specs.Prelude.{◌≡◌, ◌⊎◌, ℕ, ◌≤◌, true, List, [], ◌∷◌, Some, slice_get}
use Rattle.vb_host.specs.Promises.{IsQuiet, HasGiven}
use Rattle.vb_host.specs.Seats.{lent, due_grant}
use Rattle.vb_host.specs.System.{Guest, Step, Does, Reports, Obeys, Hears, Sends, Reads, Gives}
use Rattle.vb_host.specs.System.{opened, snapshot, through}

-- One round of a guest: it is sent its orders and receives them, its driver reads its target and
-- gives this many pages, its process reports, and the lender receives that.
abbrev pub round : ℕ → ℕ → List Step
round n pages =
    Sends n ∷ Obeys n 0 ∷ Obeys n 1 ∷ Does n Reads ∷ Does n (Gives pages) ∷ Reports n ∷ Hears n 0
    ∷ []

-- What a round leaves of a guest: nothing is on its way, and it has reached its target; or the
-- grant of the deflate that it holds back is on its way. It holds back no more than before.
pub record IsSettled (old new : Guest) : Type 0 where
  pub held : new.process.held ≤ old.process.held
  pub settled : (due_grant (snapshot new.process) new.seat ≡ true) ⊎ (IsQuiet new × HasGiven new)

-- A strict guest that the lender knows, whose limit surely allows what it is lent, and whose target
-- isn't more than its pages.
pub record IsRegular (g : Guest) : Type 0 where
  pub strict : g.strict ≡ true
  pub known : g.known ≡ true
  pub limit : lent g.seat ≤ g.limit.sure
  pub target : g.seat.target ≤ g.process.pages

-- In each state one round, with one read, one report and as many pages as the target says, settles
-- such a guest.
abbrev pub RoundsSettle : Type 0
RoundsSettle =
    (frames overdraft : ℕ) (sizes : List ℕ) (steps : List Step) (n : ℕ) (g x : Guest)
    → slice_get (through steps (opened frames overdraft sizes)).guests n ≡ Some g → IsRegular g
    → slice_get (through (round n g.seat.target)
    (through steps (opened frames overdraft sizes))).guests n ≡ Some x
    → IsSettled g x

-- And after one round, or after two, nothing is on its way, and it has reached its target.
abbrev pub TwoRoundsSuffice : Type 0
TwoRoundsSuffice =
    (frames overdraft : ℕ) (sizes : List ℕ) (steps : List Step) (n : ℕ) (g x y : Guest)
    → slice_get (through steps (opened frames overdraft sizes)).guests n ≡ Some g → IsRegular g
    → slice_get (through (round n g.seat.target)
    (through steps (opened frames overdraft sizes))).guests n ≡ Some x
    → slice_get (through (round n g.seat.target) (through (round n g.seat.target)
    (through steps (opened frames overdraft sizes)))).guests n ≡ Some y
    → (IsQuiet x × HasGiven x) ⊎ (IsQuiet y × HasGiven y)
