-- What is lent is enough for what the guests may hold.
use Rattle.std.proofs.Common.{◌≡◌, inl, inr, ℕ, zero, suc, ◌+◌, ◌-◌, ◌≤◌, Bool, true, false, cond, not, List, [], ◌∷◌, length, sum_by, refl, ap, sym, subst, arith}
use Rattle.std.proofs.lemmas.List.Sums.{sum_by-cons}
use Rattle.std.specs.Prelude.{None, Option, Some, slice_get, filter_map, ◌&&◌}
use Rattle.vb_model.proofs.Wanting.{no_frame_exact}
use Rattle.vb_model.specs.Guest.{Guest, backed_count, ballooned_count, tells_host}
use Rattle.vb_model.specs.HostEvents.{WorldStep}
use Rattle.vb_model.specs.Rogue.{pages_to_back}
use Rattle.vb_model.specs.World.{World, guest_at}
use Rattle.vb_model.specs.declared.calls.Call.{Call}
use Rattle.vb_model.specs.declared.calls.Event.TheVariants.{Guest as OnGuest}
use Rattle.vb_model.specs.declared.replies.Reply.TheVariants.{Refused}
use Rattle.vb_virtio.specs.declared.refusals.Refusal.TheVariants.{NoFrame}
use Rattle.vb_host.specs.declared.seat.Seat.{Seat}
use Rattle.vb_host.specs.Lending.{owed, value_at}
use Rattle.vb_host.specs.Seats.{lent, reclaimed}
use Rattle.vb_room.proofs.Counting.{wanted_more}
use Rattle.vb_room.proofs.Room.{Known, holds_all, holds_any_at, holds_call, known_at}
use Rattle.vb_room.proofs.Roomy.{AllRoomy, roomy_in_runs}
use Rattle.vb_room.specs.Room.{may_hold}
use Rattle.vb_room.specs.Tie.{HaveSeats, IsLent, IsSeatOf, SeatsSuffice, counted}

pub value_of : (f : Seat → ℕ) (seats : List Seat) (n : ℕ) (s : Seat) → slice_get seats n ≡ Some s → value_at f seats n ≡ f s
value_of f [] n s e = absurd cc
value_of f (x ∷ xs) zero s e = ap f (let same : x ≡ s = cc in same)
value_of f (x ∷ xs) (suc n) s e = value_of f xs n s e

-- ---- of one guest

by_kind : (b : Bool) (s : Seat) (g : Guest) → s.pages ≡ g.config.pages → reclaimed s ≤ cond b (ballooned_count g) 0
    → cond b (g.config.pages - ballooned_count g) g.config.pages ≤ lent s
by_kind true s g e l = omega (arith, e, l)
by_kind false s g e l = omega (arith, e, l)

lent_enough : (s : Seat) (g : Guest) → s.pages ≡ g.config.pages → reclaimed s ≤ counted g → may_hold g ≤ lent s
lent_enough s g e l = by_kind (not g.rogue && tells_host g) s g e l

-- what it holds is lent to it, whether it has a limit or not
holds_lent : (limited : Bool) (s : Seat) (g : Guest) → IsSeatOf limited s g → backed_count g ≤ may_hold g → backed_count g ≤ lent s
holds_lent true s g h l = h.held refl
holds_lent false s g h l = omega (arith, lent_enough s g h.pages (h.reclaimed refl), l)

-- ---- of all together

abbrev there : List (Option Guest) → List Guest
there guests = filter_map (λ guest. guest) guests

abbrev HaveAll : List (Option Guest) → List Seat → Type 0
HaveAll guests seats = (m : ℕ) (x : Guest) → guest_at guests m ≡ Some x
    → (s : Seat) × (slice_get seats m ≡ Some s) × (backed_count x ≤ lent s)

all_lent : (guests : List (Option Guest)) (seats : List Seat) → HaveAll guests seats → sum_by backed_count (there guests) ≤ owed seats
all_lent [] seats h = omega arith
all_lent (None ∷ guests) [] h = all_lent guests [] (λ m x e. let y = h (suc m) x e in let f = y.1 in absurd cc)
all_lent (None ∷ guests) (s ∷ seats) h = omega (arith, all_lent guests seats (λ m x e. h (suc m) x e), sum_by-cons lent s seats)
all_lent (Some g ∷ guests) [] h = let y = h zero g refl in let f = y.1 in absurd cc
all_lent (Some g ∷ guests) (s ∷ seats) h =
    let y = h zero g refl in
    let same : s ≡ y.0 = let f = y.1 in cc in
    let one = subst (λ (x : Seat). backed_count g ≤ lent x) (sym same) y.2 in
    omega (arith, one, all_lent guests seats (λ m x e. h (suc m) x e), sum_by-cons lent s seats, sum_by-cons backed_count g (there guests))

-- of one guest, and with it of all, with the pages that it wants
abbrev Fits : ℕ → List Seat → ℕ → ℕ → Type 0
Fits backed seats n more = (s : Seat) × (slice_get seats n ≡ Some s) × (backed + more ≤ lent s)

all_lent_more : (guests : List (Option Guest)) (seats : List Seat) (n : ℕ) (g : Guest) (more : ℕ) → guest_at guests n ≡ Some g
    → HaveAll guests seats → Fits (backed_count g) seats n more → sum_by backed_count (there guests) + more ≤ owed seats
all_lent_more [] seats n g more e h k = absurd cc
all_lent_more (None ∷ guests) seats zero g more e h k = absurd cc
all_lent_more (None ∷ guests) [] (suc n) g more e h k = absurd (let f = k.1 in cc)
all_lent_more (None ∷ guests) (s ∷ seats) (suc n) g more e h k =
    omega (arith, all_lent_more guests seats n g more e (λ m x f. h (suc m) x f) k, sum_by-cons lent s seats)
all_lent_more (Some x ∷ guests) [] n g more e h k = absurd (let f = k.1 in cc)
all_lent_more (Some x ∷ guests) (s ∷ seats) zero g more e h k =
    let same : s ≡ k.0 = let f = k.1 in cc in
    let own = subst (λ (y : Seat). backed_count g + more ≤ lent y) (sym same) k.2 in
    let is : g ≡ x = cc in
    let mine = subst (λ (y : Guest). backed_count y + more ≤ lent s) is own in
    omega (arith, mine, all_lent guests seats (λ m y f. h (suc m) y f), sum_by-cons lent s seats, sum_by-cons backed_count x (there guests))
all_lent_more (Some x ∷ guests) (s ∷ seats) (suc n) g more e h k =
    let y = h zero x refl in
    let same : s ≡ y.0 = let f = y.1 in cc in
    let one = subst (λ (z : Seat). backed_count x ≤ lent z) (sym same) y.2 in
    omega (arith, one, all_lent_more guests seats n g more e (λ m z f. h (suc m) z f) k, sum_by-cons lent s seats, sum_by-cons backed_count x (there guests))

-- ---- no call lacks a frame

no_guest_answers : (w : World) (n : ℕ) (call : Call) (v : World) → guest_at w.guests n ≡ None → WorldStep w (OnGuest n call) (Refused NoFrame) v → ⊥
no_guest_answers w n call v e step = grind arith

pub none_lacks_lent : (limited : ℕ → Bool) (w : World) (seats : List Seat) → Known w → AllRoomy w → HaveSeats limited seats w → owed seats ≤ w.frames
    → (n : ℕ) (call : Call) (v : World) → IsLent limited seats n call → ¬ WorldStep w (OnGuest n call) (Refused NoFrame) v
none_lacks_lent limited w seats known roomy have fits n call v which step = by (guest_at w.guests n) refl where
  all : HaveAll w.guests seats
  all m x at = let y = have m x at in (y.0, y.1, holds_lent (limited m) y.0 x y.2 (holds_all w known m x at))

  own : (g : Guest) → guest_at w.guests n ≡ Some g → IsLent limited seats n call → Fits (backed_count g) seats n (length (pages_to_back call g))
  own g at (inl asked) = let y = have n g at in
      (y.0, y.1, omega (arith, holds_call w n g call known (roomy n g at) at (inl asked.1), lent_enough y.0 g y.2.pages (y.2.reclaimed asked.0)))
  own g at (inr none) = let y = have n g at in
      (y.0, y.1, omega (arith, holds_any_at w n g call known (roomy n g at) at, y.2.pages, none, value_of reclaimed seats n y.0 y.1))

  by : (o : Option Guest) → guest_at w.guests n ≡ o → ⊥
  by None e = no_guest_answers w n call v e step
  by (Some g) e = omega (
    arith,
    all_lent_more w.guests seats n g (length (pages_to_back call g)) e all (own g e which),
    wanted_more w (pages_to_back call g) (no_frame_exact w v n call g e step),
    fits,
  )

pub seats_suffice : SeatsSuffice
seats_suffice frames spares h r limited seats n i w v call at have fits which =
    none_lacks_lent limited w seats (known_at frames spares h r i w at) (roomy_in_runs frames spares h r i w at) have fits n call v which
