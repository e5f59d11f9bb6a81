-- What is true of each guest, its process, its messages and what the lender knows of it, in each state.
use Rattle.std.proofs.Common.{◌≡◌, ◌≢◌, ℕ, ◌+◌, ◌-◌, ◌<◌, ◌≤◌, Bool, true, false, ◌&&◌, ◌||◌, ◌==◌, nat_lt, nat_le, if◌then◌else◌, List, [], ◌∷◌, max, refl, arith}
use Rattle.std.proofs.lemmas.Bool.Decides.{nat_tests}
use Rattle.std.specs.List.{AllByRecursion}
use Rattle.vb_host.specs.declared.report.Report.{Report}
use Rattle.vb_host.specs.declared.seat.Seat.{Seat}
use Rattle.vb_host.specs.Seats.{believed, counting, covers, granting, heard, holding, is_news, is_stale, is_uncounted, keeps_turn, noting, queuing, raised, remembered}
use Rattle.vb_host.specs.Seats.{served, waits}
use Rattle.vb_host.specs.System.{Grant, Guest, Order, Process, Target}

-- Of a guest's pages P, its balloon b, the deflate that its process holds h, the number of that one d, the pages that were taken away x and those outside o,
-- the lender knows P', b', h', d', x' and o', and has granted g'. It may lag, but isn't wrong: no more pages count as ballooned than are in the balloon or
-- were taken away since, without those of a granted deflate; no fewer count as used than are; and what is outside since was taken away since.
pub record IsCounted (P b h d x o P' b' h' d' g' x' o' : ℕ) : Type 0 where
  pub balloon : b ≤ P
  pub held : h ≤ b
  pub numbered : 0 < h → 0 < d
  pub granted : g' ≤ d
  pub removed : x' ≤ x
  pub pages : P' + x' ≡ P + x
  pub counted : b' + x' ≤ b + x
  pub without : d ≡ g' → b' + h + x' ≤ b + x
  pub used : b' + x' + o ≤ b + x + o'
  pub used_without : d ≡ g' → b' + h + x' + o ≤ b + x + o'
  pub outside : o + x' ≤ o' + x
  pub waiting : 0 < h' → g' < d'
  pub waited : 0 < h' → d' ≤ d
  pub waits_for : 0 < h' → d' ≡ d → h ≤ h'

-- The target t that its process received last, by the number n, and the one that its driver has read; and the last target t' and number n' that the
-- lender gave: none that may be obeyed is below the least.
pub record IsTargeted (t read n t' n' least : ℕ) : Type 0 where
  pub number : n ≤ n'
  pub target : n ≡ n' → t ≡ t'
  pub least_given : least ≤ t'
  pub least_received : least ≤ t
  pub least_read : least ≤ read

pub record IsKnown (p : Process) (s : Seat) : Type 0 where
  pub memory : IsCounted p.pages p.balloon p.held p.deflates p.removed p.outside s.pages s.ballooned s.held s.deflates s.granted s.removed s.outside
  pub targets : IsTargeted p.target p.read_target p.target_number s.target s.target_number s.least_target
  pub empty : 0 < s.uncounted → s.ballooned ≡ 0

-- A report is of an earlier state of the process, or of this one; unless it was made before the
-- last grant was heard of, no page has left the balloon since but for those of that grant, and those that were taken away.
pub record IsPastMemory (granted b h d x o : ℕ) (r : Report) : Type 0 where
  pub deflates : r.deflates ≤ d
  pub held : r.deflates ≡ d → h ≤ r.held
  pub removed : r.removed ≤ x
  pub later : granted < r.deflates → r.ballooned + r.removed ≤ b + x
  pub same : r.deflates ≡ granted → r.ballooned - r.held + r.removed ≤ b + x
  pub without : r.deflates ≡ granted → d ≡ granted → r.ballooned - r.held + h + r.removed ≤ b + x
  pub later_used : granted < r.deflates → r.ballooned + r.removed + o ≤ b + x + r.outside
  pub same_used : r.deflates ≡ granted → r.ballooned - r.held + r.removed + o ≤ b + x + r.outside
  pub without_used : r.deflates ≡ granted → d ≡ granted → r.ballooned - r.held + h + r.removed + o ≤ b + x + r.outside
  pub outside : o + r.removed ≤ r.outside + x

pub record IsPastTarget (t read n : ℕ) (r : Report) : Type 0 where
  pub number : r.target_number ≤ n
  pub same : (k : ℕ) → r.target_number ≡ n → r.read_target ≡ k → t ≡ k → read ≡ k

pub record IsPast (granted : ℕ) (p : Process) (r : Report) : Type 0 where
  pub memory : IsPastMemory granted p.balloon p.held p.deflates p.removed p.outside r
  pub targets : IsPastTarget p.target p.read_target p.target_number r

-- An order may still be obeyed: a target that isn't below the least, or a deflate that was granted.
abbrev pub IsSent : Process → Seat → Order → Type 0
IsSent p s (Target number target) =
    (number ≤ s.target_number) × (number ≡ s.target_number → target ≡ s.target) × (p.target_number < number → s.least_target ≤ target)
IsSent p s (Grant n) = n ≤ s.granted

pub record IsSound (g : Guest) : Type 0 where
  pub known : IsKnown g.process g.seat
  pub orders : AllByRecursion (IsSent g.process g.seat) g.orders
  pub reports : AllByRecursion (IsPast g.seat.granted g.process) g.reports

-- of a guest that isn't strict nothing is
abbrev pub IsTrusty : Guest → Type 0
IsTrusty g = g.strict ≡ true → IsSound g

-- ---- tests

pub eq_true : (a b : ℕ) → (a == b) ≡ true → a ≡ b
eq_true a b e = grind (arith, nat_tests)

pub eq_false : (a b : ℕ) → (a == b) ≡ false → a ≢ b
eq_false a b e = grind (arith, nat_tests)

pub lt_true : (a b : ℕ) → nat_lt a b ≡ true → a < b
lt_true a b e = grind (arith, nat_tests)

pub lt_false : (a b : ℕ) → nat_lt a b ≡ false → b ≤ a
lt_false a b e = grind (arith, nat_tests)

pub le_true : (a b : ℕ) → nat_le a b ≡ true → a ≤ b
le_true a b e = grind (arith, nat_tests)

pub and_left : (a b : Bool) → (a && b) ≡ true → a ≡ true
and_left true b e = refl
and_left false b e = e

pub and_right : (a b : Bool) → (a && b) ≡ true → b ≡ true
and_right true b e = e
and_right false b e = absurd (cc)

pub or_either : {A : Type 0} (a b : Bool) → (a || b) ≡ true → (a ≡ true → A) → (b ≡ true → A) → A
or_either true b e f g = f refl
or_either false b e f g = g e

pub either : {A : Type 0} (P : A → Type 0) (b : Bool) (t s : A) → (b ≡ true → P t) → (b ≡ false → P s) → P (if b then t else s)
either P true t s h k = h refl
either P false t s h k = k refl

-- what a turn leaves as it is
pub queues : (P : Seat → Type 0) (turn : ℕ) (old s : Seat) → P s → ((t : ℕ) → P (record s { turn = t; deferred = 0 })) → P (queuing turn old s)
queues P turn old s h k = either P (keeps_turn old s) _ _ (λ _. h) (λ _. k (if waits s then turn else 0))

-- what a report makes of the memory and the deflate, whatever numbers it has
pub notes : (P : Seat → Type 0) (ballooned held : ℕ) (r : Report) (s : Seat) → (is_news ballooned r s ≡ true → P (holding held r (remembered ballooned r s)))
    → (is_news ballooned r s ≡ false → P (holding held r s)) → P (noting ballooned held r s)
notes P ballooned held r s h k = either (λ (x : Seat). P (holding held r x)) (is_news ballooned r s) (remembered ballooned r s) s h k

pub counts : (P : Seat → Type 0) (r : Report) (s : Seat) → ((ballooned held : ℕ) → P (holding held r (remembered ballooned r s))) → ((held : ℕ) → P (holding held r s)) → P (counting r s)
counts P r s h k = either P (r.deflates == s.granted) _ _ (λ _. notes P (r.ballooned - r.held) 0 r s (λ _. h (r.ballooned - r.held) 0) (λ _. k 0))
    (λ _. notes P r.ballooned r.held r s (λ _. h r.ballooned r.held) (λ _. k r.held))

-- What a report leaves true, whatever numbers it has: what its count, the grant of a covered deflate, a raised target and a turn do.
pub record Stays (P : Seat → Type 0) : Type 0 where
  pub granted : (s : Seat) → covers s ≡ true → P s → P (granting s)
  pub raised_to : (s : Seat) → P s → P (record s { least_target = max s.least_target s.target })
  pub turned : (s : Seat) (turn : ℕ) → P s → P (record s { turn = turn; deferred = 0 })

pub after_counting : (P : Seat → Type 0) (turn : ℕ) (r q : Report) (s : Seat) → Stays P → P (counting q s) → P (queuing turn s (raised r (served (counting q s))))
after_counting P turn r q s t h =
    let x = served (counting q s) in
    let a : P x = either P (covers (counting q s)) _ _ (λ e. t.granted (counting q s) e h) (λ _. h) in
    let b : P (raised r x) = either P ((r.target_number == x.target_number) && (r.read_target == x.target)) _ _ (λ _. t.raised_to x a) (λ _. a) in
    queues P turn s (raised r x) b (λ n. t.turned (raised r x) n b)

pub hears : (P : Seat → Type 0) (turn : ℕ) (r : Report) (s : Seat) → Stays P → P s → ((q : Report) → P (counting q s)) → P (heard turn r s)
hears P turn r s t h c = either P (is_stale r s) _ _ (λ _. h) (λ _. after_counting P turn r (believed s r) s t (c (believed s r)))

-- what a report shows
pub believes : (P : Report → Type 0) (r : Report) (s : Seat) → (0 < s.uncounted → P (record r { ballooned = 0 })) → (s.uncounted ≡ 0 → P r) → P (believed s r)
believes P r s h k = either P (is_uncounted s) _ _ (λ t. h (lt_true 0 s.uncounted t)) (λ f. k (omega (arith, lt_false 0 s.uncounted f)))

-- ---- lists

pub all_of : {A : Type 0} (P Q : A → Type 0) (xs : List A) → ((x : A) → P x → Q x) → AllByRecursion P xs → AllByRecursion Q xs
all_of P Q [] h a = tt
all_of P Q (x ∷ xs) h a = (h x a.0, all_of P Q xs h a.1)
