-- While a guest waits on, others keep their order, but for those that come to an earlier line.
use Rattle.std.proofs.Common.{◌≡◌, ◌⊎◌, inl, inr, ℕ, zero, suc, ◌+◌, ◌*◌, ◌<◌, Bool, true, false, nat_lt, if◌then◌else◌, List, [], ◌∷◌, refl, sym, ap, ◌∙◌, arith}
use Rattle.vb_host.specs.declared.event.Event.{Event}
use Rattle.vb_host.specs.declared.event.Event.TheVariants.{Hears, Grants, Overdraws, Wants, Targets, Arrives, Joins, TakesOver, Uncounts, Budget, Prefers, Defers}
use Rattle.vb_host.specs.declared.report.Report.{Report}
use Rattle.vb_host.specs.declared.report.WaitingLine.TheVariants.{Arrivals}
use Rattle.vb_host.specs.declared.seat.Seat.{Seat}
use Rattle.vb_host.specs.Lending.{Lending, each_at, happens, held_at, line_at, may_grant, may_join_at, may_overdraw, next_turn, pages_at, preferred_at, rank_at, room, turn_at, value_at}
use Rattle.vb_host.specs.Patience.{IsNoDeferral, WaitsOn, deferred_at}
use Rattle.vb_host.specs.Promises.{IsStillThere}
use Rattle.vb_host.specs.Seats.{deferring, granting, grown, heard, is_stale, keeps_turn, line_number, line_of, line_rank, may_defer, newcomer, queued}
use Rattle.vb_host.specs.Seats.{queuing, rank, retargeted, starting, taken_over, uncounting, waits}
use Rattle.vb_host.specs.Turns.{IsAfter, IsNoPreference}
use Rattle.vb_host.proofs.Deferring.{IsSamePlace, after_report, keeps_is, keeps_its_turn, last_rank, report_place, waits_place}
use Rattle.vb_host.proofs.Grants.{queued_place, ranks_within, turns_rise}
use Rattle.vb_host.proofs.LentBy.{retargets}
use Rattle.vb_host.proofs.Places.{value_same}
use Rattle.vb_host.proofs.Preferring.{stays_preferred}
use Rattle.vb_host.proofs.Sound.{either, lt_false, lt_true}

-- ---- a rank, by what makes it

abbrev line_by : ℕ → ℕ → ℕ
line_by deferred line = line_number (if nat_lt 0 deferred then Arrivals else line_of line)

abbrev rank_by : ℕ → ℕ → ℕ → ℕ → ℕ
rank_by deferred line preferred turn = 18446744073709551617 * line_by deferred line + (if nat_lt 0 preferred then 0 else turn + 1)

line_same : (s t : Seat) → t.deferred ≡ s.deferred → t.line ≡ s.line → line_rank t ≡ line_rank s
line_same s t e f = ap (λ (k : ℕ). line_by k t.line) e ∙ ap (λ (k : ℕ). line_by s.deferred k) f

rank_same : (s t : Seat) → t.deferred ≡ s.deferred → t.line ≡ s.line → t.preferred ≡ s.preferred → t.turn ≡ s.turn → rank t ≡ rank s
rank_same s t e f g h = ap (λ (k : ℕ). rank_by k t.line t.preferred t.turn) e ∙ (ap (λ (k : ℕ). rank_by s.deferred k t.preferred t.turn) f
    ∙ (ap (λ (k : ℕ). rank_by s.deferred s.line k t.turn) g ∙ ap (λ (k : ℕ). rank_by s.deferred s.line s.preferred k) h))

-- ---- what an event makes of the place of a guest in the line: it stays, waits no longer, or is the last one of a line

abbrev IsMoved : ℕ → Seat → Seat → Type 0
IsMoved turn s t = ((rank t ≡ rank s) × (0 < t.held → 0 < s.held)) ⊎ (t.held ≡ 0) ⊎ (t.preferred ≡ 0 → rank t ≡ 18446744073709551617 * line_rank t + (turn + 1))

stays_there : (turn : ℕ) (s t : Seat) → rank t ≡ rank s → t.held ≡ s.held → IsMoved turn s t
stays_there turn s t e f = inl (e, λ w. omega (arith, w, f))

queues_last : (turn : ℕ) (s t : Seat) (b : Bool) → waits t ≡ b → IsMoved turn s (queued turn t)
queues_last turn s t true e = inr (inr (λ p. ap (λ (k : ℕ). 18446744073709551617 * line_rank (queued turn t) + k) (queued_place turn t p e)))
queues_last turn s t false e = inr (inl (omega (arith, lt_false 0 t.held e)))

hears_move : (turn : ℕ) (r : Report) (s : Seat) → IsMoved turn s (heard turn r s)
hears_move turn r s = either (λ (t : Seat). IsMoved turn s t) (is_stale r s) s (queuing turn s (after_report r s)) (λ _. stays_there turn s s refl refl)
    (λ _. either (λ (t : Seat). IsMoved turn s t) (keeps_turn s (after_report r s)) (after_report r s) (queued turn (after_report r s))
    (λ e. kept_there s (after_report r s) e (report_place r s)) (λ _. queues_last turn s (after_report r s) (waits (after_report r s)) refl)) where
      kept_there : (s x : Seat) → keeps_turn s x ≡ true → IsSamePlace s x → IsMoved turn s x
      kept_there s x e h = let k = keeps_is s x e in let p = waits_place s x k.waits h in inl (rank_same s x p.0 (sym k.line) h.0 p.1, λ _. k.waited)

defers_move : (turn : ℕ) (s : Seat) → IsMoved turn s (deferring turn s)
defers_move turn s = either (λ (t : Seat). IsMoved turn s t) (may_defer s) _ _ (λ _. inr (inr (λ p. last_rank turn s p))) (λ _. stays_there turn s s refl refl)

abbrev IsMovedAt : ℕ → List Seat → List Seat → ℕ → Type 0
IsMovedAt turn xs ys j = ((rank_at ys j ≡ rank_at xs j) × (0 < held_at ys j → 0 < held_at xs j)) ⊎ (held_at ys j ≡ 0)
    ⊎ (preferred_at ys j ≡ 0 → rank_at ys j ≡ 18446744073709551617 * line_at ys j + (turn + 1))

moves_at : (turn n j : ℕ) (f : Seat → Seat) (xs : List Seat) → ((s : Seat) → IsMoved turn s (f s)) → IsMovedAt turn xs (each_at n f xs) j
moves_at turn n j f [] h = inr (inl refl)
moves_at turn zero zero f (x ∷ xs) h = h x
moves_at turn zero (suc j) f (x ∷ xs) h = inl (refl, λ w. w)
moves_at turn (suc n) zero f (x ∷ xs) h = inl (refl, λ w. w)
moves_at turn (suc n) (suc j) f (x ∷ xs) h = moves_at turn n j f xs h

either_moves : (turn : ℕ) (b : Bool) (xs ys : List Seat) (j : ℕ) → IsMovedAt turn xs ys j → IsMovedAt turn xs (if b then ys else xs) j
either_moves turn true xs ys j h = h
either_moves turn false xs ys j h = inl (refl, λ w. w)

moves_then : (turn : ℕ) (xs ys zs : List Seat) (j : ℕ) → rank_at ys j ≡ rank_at xs j → held_at ys j ≡ held_at xs j → IsMovedAt turn ys zs j → IsMovedAt turn xs zs j
moves_then turn xs ys zs j e f h = elim h [
  | inl same ↦ inl (same.0 ∙ e, λ w. omega (arith, f, same.1 w))
  | inr (inl none) ↦ inr (inl none)
  | inr (inr last) ↦ inr (inr last)
]

moves : (l : Lending) (e : Event) (j : ℕ) → IsNoPreference e → IsMovedAt (next_turn l.seats) l.seats (happens l e).seats j
moves l (Hears n r) j p = moves_at (next_turn l.seats) n j (heard (next_turn l.seats) r) l.seats (hears_move (next_turn l.seats) r)
moves l (Grants n) j p = either_moves (next_turn l.seats) (may_grant l n) l.seats (each_at n granting l.seats) j (moves_at (next_turn l.seats) n j granting l.seats (λ _. inr (inl refl)))
moves l (Overdraws n) j p = either_moves (next_turn l.seats) (may_overdraw l n) l.seats (each_at n granting l.seats) j (moves_at (next_turn l.seats) n j granting l.seats (λ _. inr (inl refl)))
moves l (Wants n pages) j p = moves_at (next_turn l.seats) n j (λ s. record s { wanted = pages }) l.seats (λ s. stays_there (next_turn l.seats) s (record s { wanted = pages }) refl refl)
moves l (Targets n) j p = moves_at (next_turn l.seats) n j (retargeted (room l)) l.seats
    (λ s. retargets (λ (t : Seat). IsMoved (next_turn l.seats) s t) (room l) s (stays_there (next_turn l.seats) s s refl refl) (λ _. inl (refl, λ w. w)))
moves l (Arrives n pages ballooned) j p = moves_at (next_turn l.seats) n j (λ _. starting pages ballooned) l.seats (λ _. inr (inl refl))
moves l (Joins n m) j p = either_moves (next_turn l.seats) (may_join_at l.seats n m) l.seats (each_at m (λ _. newcomer 0) (each_at n (grown (pages_at l.seats m)) l.seats)) j
    (moves_then (next_turn l.seats) l.seats (each_at n (grown (pages_at l.seats m)) l.seats) _ j (value_same rank n (grown (pages_at l.seats m)) l.seats j (λ _. refl))
    (value_same (λ s. s.held) n (grown (pages_at l.seats m)) l.seats j (λ _. refl))
    (moves_at (next_turn l.seats) m j (λ _. newcomer 0) (each_at n (grown (pages_at l.seats m)) l.seats) (λ _. inr (inl refl))))
moves l (TakesOver n pages r) j p = moves_at (next_turn l.seats) n j (λ _. queued (next_turn l.seats) (taken_over pages r)) l.seats
    (λ s. queues_last (next_turn l.seats) s (taken_over pages r) (waits (taken_over pages r)) refl)
moves l (Uncounts n) j p = moves_at (next_turn l.seats) n j uncounting l.seats (λ s. stays_there (next_turn l.seats) s (uncounting s) refl refl)
moves l (Budget frames) j p = inl (refl, λ w. w)
moves l (Prefers n) j p = absurd p
moves l (Defers n) j p = moves_at (next_turn l.seats) n j (deferring (next_turn l.seats)) l.seats (defers_move (next_turn l.seats))

-- ---- a guest that waits on keeps its rank

abbrev SameRank : List Seat → List Seat → ℕ → Type 0
SameRank xs ys i = (rank_at ys i ≡ rank_at xs i) × (line_at ys i ≡ line_at xs i)

same_rank : (xs ys : List Seat) (i : ℕ) → 0 < held_at xs i → 0 < held_at ys i → deferred_at ys i ≡ deferred_at xs i → value_at (λ s. s.line) ys i ≡ value_at (λ s. s.line) xs i
    → preferred_at ys i ≡ preferred_at xs i → turn_at ys i ≡ turn_at xs i → SameRank xs ys i
same_rank [] ys i v w d l p t = absurd (omega (arith, v))
same_rank (x ∷ xs) [] i v w d l p t = absurd (omega (arith, w))
same_rank (x ∷ xs) (y ∷ ys) zero v w d l p t = (rank_same x y d l p t, line_same x y d l)
same_rank (x ∷ xs) (y ∷ ys) (suc i) v w d l p t = same_rank xs ys i v w d l p t

waits_on : (l : Lending) (e : Event) (i : ℕ) → IsNoDeferral i e → IsNoPreference e → IsStillThere i e → WaitsOn l.seats (happens l e).seats i → SameRank l.seats (happens l e).seats i
waits_on l e i d p h w = let t = keeps_its_turn l e i d h w in same_rank l.seats (happens l e).seats i w.waited w.waits t.0 w.line (stays_preferred l e i p h) t.1

-- ---- who comes after it still does

abbrev StillAfter : List Seat → List Seat → ℕ → ℕ → Type 0
StillAfter xs ys i j = IsAfter ys i j ⊎ (line_at ys j < line_at ys i) ⊎ (next_turn xs ≡ 18446744073709551615)

kept_after : (xs ys : List Seat) (i j : ℕ) → rank_at ys i ≡ rank_at xs i → rank_at ys j ≡ rank_at xs j → (0 < held_at ys j → 0 < held_at xs j) → IsAfter xs i j → IsAfter ys i j
kept_after xs ys i j e f h a = λ w. elim (a (h w)) [
  | inl less ↦ inl (omega (arith, e, f, less))
  | inr same ↦ inr (omega (arith, e, f, same.0), same.1)
]

last_after : (xs ys : List Seat) (i j : ℕ) (b : Bool) → nat_lt (line_at ys j) (line_at ys i) ≡ b → SameRank xs ys i
    → rank_at ys j ≡ 18446744073709551617 * line_at ys j + (next_turn xs + 1) → StillAfter xs ys i j
last_after xs ys i j true e s r = inr (inl (lt_true (line_at ys j) (line_at ys i) e))
last_after xs ys i j false e s r = elim (turns_rise xs i) [
  | inl less ↦ inl (λ _. inl (omega (arith, less, s.0, s.1, r, lt_false (line_at ys j) (line_at ys i) e, ranks_within xs i)))
  | inr end ↦ inr (inr end)
]

pub none_passes : (l : Lending) (e : Event) (i j : ℕ) → IsNoDeferral i e → IsNoPreference e → IsStillThere i e → WaitsOn l.seats (happens l e).seats i
    → preferred_at (happens l e).seats j ≡ 0 → IsAfter l.seats i j → StillAfter l.seats (happens l e).seats i j
none_passes l e i j d p h w q a = let s = waits_on l e i d p h w in elim (moves l e j p) [
  | inl same ↦ inl (kept_after l.seats (happens l e).seats i j s.0 same.0 same.1 a)
  | inr (inl none) ↦ inl (λ v. absurd (omega (arith, none, v)))
  | inr (inr last) ↦ last_after l.seats (happens l e).seats i j (nat_lt (line_at (happens l e).seats j) (line_at (happens l e).seats i)) refl s (last q)
]
