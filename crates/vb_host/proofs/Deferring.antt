-- A guest that lets others pass comes after all, and only as long as it waits.
use Rattle.std.proofs.Common.{◌≡◌, ◌≢◌, ◌⊎◌, inl, inr, ℕ, zero, suc, ◌+◌, ◌<◌, ◌≤◌, Bool, true, false, ◌==◌, ◌&&◌, nat_lt, if◌then◌else◌, List, [], ◌∷◌, map, refl, sym, ap, ◌∙◌, arith}
use Rattle.std.proofs.lemmas.Bool.Decides.{nat_tests}
use Rattle.vb_host.specs.declared.event.Event.{Event}
use Rattle.vb_host.specs.declared.event.Event.TheVariants.{Hears, Grants, Overdraws, Wants, Targets, Arrives, Joins, TakesOver, Uncounts, Budget, Prefers, Defers}
use Rattle.vb_host.specs.declared.report.Report.{Report}
use Rattle.vb_host.specs.declared.report.WaitingLine.{WaitingLine}
use Rattle.vb_host.specs.declared.report.WaitingLine.TheVariants.{Deflates, Resets, Arrivals}
use Rattle.vb_host.specs.declared.seat.Seat.{Seat}
use Rattle.vb_host.specs.Lending.{Lending, each_at, happens, held_at, line_at, may_grant, may_join_at, may_overdraw, next_turn, pages_at, preferred_at, rank_at, room, turn_at, value_at}
use Rattle.vb_host.specs.Patience.{IsInLastLine, IsNoDeferral, WaitsOn, deferred_at}
use Rattle.vb_host.specs.Promises.{IsStillThere}
use Rattle.vb_host.specs.Seats.{believed, counting, covers, deferring, granting, grown, heard, is_stale, keeps_turn, line_number, line_rank, may_defer, newcomer}
use Rattle.vb_host.specs.Seats.{preferring, queued, queuing, raised, rank, retargeted, served, starting, taken_over, uncounting, waiting_line, waits}
use Rattle.vb_host.proofs.Grants.{ranks_within, turns_rise}
use Rattle.vb_host.proofs.LentBy.{retargets}
use Rattle.vb_host.proofs.Lines.{turn_place}
use Rattle.vb_host.proofs.Places.{value_elsewhere, value_map, value_same}
use Rattle.vb_host.proofs.Sound.{and_left, and_right, counts, either, eq_true, lt_true}

abbrev its_deferred : Seat → ℕ
its_deferred s = s.deferred

abbrev its_turn : Seat → ℕ
its_turn s = s.turn

abbrev its_held : Seat → ℕ
its_held s = s.held

abbrev its_deflates : Seat → ℕ
its_deflates s = s.deflates

abbrev its_line : Seat → ℕ
its_line s = s.line

-- ---- its event

both_true : (a b : ℕ) → 0 < a → 0 < b → (nat_lt 0 a && nat_lt 0 b) ≡ true
both_true a b h k = grind (arith, nat_tests)

not_both : (a b : ℕ) → (a ≡ 0) ⊎ (b ≡ 0) → (nat_lt 0 a && nat_lt 0 b) ≡ true → ⊥
not_both a b h e = elim h [
  | inl none ↦ omega (arith, none, lt_true 0 a (and_left (nat_lt 0 a) _ e))
  | inr none ↦ omega (arith, none, lt_true 0 b (and_right (nat_lt 0 a) _ e))
]

defers_not : (turn : ℕ) (s : Seat) → (s.held ≡ 0) ⊎ (line_rank s ≡ 0) → deferring turn s ≡ s
defers_not turn s h = either (λ (t : Seat). t ≡ s) (may_defer s) (record s { turn = turn; deferred = 1 }) s (λ e. absurd (not_both s.held (line_rank s) h e)) (λ _. refl)

pub defers_none : (l : Lending) (n : ℕ) → (held_at l.seats n ≡ 0) ⊎ (line_at l.seats n ≡ 0) → happens l (Defers n) ≡ l
defers_none l n h = ap (λ (xs : List Seat). record l { seats = xs }) (by_place (next_turn l.seats) n l.seats h) where
  by_place : (turn n : ℕ) (xs : List Seat) → (held_at xs n ≡ 0) ⊎ (line_at xs n ≡ 0) → each_at n (deferring turn) xs ≡ xs
  by_place turn n [] h = refl
  by_place turn zero (x ∷ xs) h = ap (λ (s : Seat). s ∷ xs) (defers_not turn x h)
  by_place turn (suc n) (x ∷ xs) h = ap (λ (ss : List Seat). x ∷ ss) (by_place turn n xs h)

defers_so : (P : Seat → Type 0) (turn : ℕ) (s : Seat) → 0 < s.held → 0 < line_rank s → P (record s { turn = turn; deferred = 1 }) → P (deferring turn s)
defers_so P turn s h k p = either P (may_defer s) (record s { turn = turn; deferred = 1 }) s (λ _. p) (λ f. absurd (not_so (may_defer s) f (both_true s.held (line_rank s) h k))) where
  not_so : (b : Bool) → b ≡ false → b ≡ true → ⊥
  not_so b e f = absurd (cc)

pub defers_to_last : (l : Lending) (n : ℕ) → 0 < held_at l.seats n → 0 < line_at l.seats n → IsInLastLine (happens l (Defers n)).seats n
defers_to_last l n h k = by_place (next_turn l.seats) n l.seats h k where
  by_place : (turn n : ℕ) (xs : List Seat) → 0 < held_at xs n → 0 < line_at xs n → IsInLastLine (each_at n (deferring turn) xs) n
  by_place turn n [] h k = absurd (omega (arith, h))
  by_place turn zero (x ∷ xs) h k = record {
    waits = defers_so (λ (s : Seat). 0 < s.held) turn x h k h;
    line = defers_so (λ (s : Seat). line_rank s ≡ 2) turn x h k refl;
    deferred = defers_so (λ (s : Seat). 0 < s.deferred) turn x h k (omega arith);
  }
  by_place turn (suc n) (x ∷ xs) h k = let i = by_place turn n xs h k in record { waits = i.waits; line = i.line; deferred = i.deferred }

pub last_rank : (turn : ℕ) (s : Seat) → s.preferred ≡ 0 → rank (record s { turn = turn; deferred = 1 }) ≡ 36893488147419103234 + (turn + 1)
last_rank turn s e = ap (λ (k : ℕ). 36893488147419103234 + k) (turn_place (record s { turn = turn; deferred = 1 }) e)

deferred_rank : (turn n : ℕ) (xs : List Seat) → 0 < held_at xs n → 0 < line_at xs n → preferred_at xs n ≡ 0 → rank_at (each_at n (deferring turn) xs) n ≡ 36893488147419103234 + (turn + 1)
deferred_rank turn n [] h k p = absurd (omega (arith, h))
deferred_rank turn zero (x ∷ xs) h k p = defers_so (λ (s : Seat). rank s ≡ 36893488147419103234 + (turn + 1)) turn x h k (last_rank turn x p)
deferred_rank turn (suc n) (x ∷ xs) h k p = deferred_rank turn n xs h k p

line_within : (w : WaitingLine) → line_number w ≤ 2
line_within Deflates = omega arith
line_within Resets = omega arith
line_within Arrivals = omega arith

lines_within : (xs : List Seat) (n : ℕ) → line_at xs n ≤ 2
lines_within [] n = omega arith
lines_within (x ∷ xs) zero = line_within (waiting_line x)
lines_within (x ∷ xs) (suc n) = lines_within xs n

pub all_pass : (l : Lending) (n k : ℕ) → 0 < held_at l.seats n → 0 < line_at l.seats n → preferred_at l.seats n ≡ 0 → k ≢ n → 0 < held_at l.seats k
    → (rank_at (happens l (Defers n)).seats k < rank_at (happens l (Defers n)).seats n) ⊎ (next_turn l.seats ≡ 18446744073709551615)
all_pass l n k h i p d w = elim (turns_rise l.seats k) [
  | inl less ↦ inl (omega (
    arith,
    less,
    value_elsewhere rank n (deferring (next_turn l.seats)) l.seats k d,
    ranks_within l.seats k,
    lines_within l.seats k,
    deferred_rank (next_turn l.seats) n l.seats h i p,
  ))
  | inr end ↦ inr end
]

pub others_stay : (l : Lending) (n k : ℕ) (v : Seat → ℕ) → k ≢ n → value_at v (happens l (Defers n)).seats k ≡ value_at v l.seats k
others_stay l n k v d = value_elsewhere v n (deferring (next_turn l.seats)) l.seats k d

-- ---- a report: it keeps its turn, and what it lets pass, as long as it waits on

-- what it has of its place in the line, unless it was granted
abbrev pub IsSamePlace : Seat → Seat → Type 0
IsSamePlace s t = (t.preferred ≡ s.preferred) × ((t.held ≡ 0) ⊎ ((t.deferred ≡ s.deferred) × (t.turn ≡ s.turn)))

counts_place : (r : Report) (s : Seat) → IsSamePlace s (counting r s)
counts_place r s = counts (λ (t : Seat). IsSamePlace s t) r s (λ _ _. (refl, inr (refl, refl))) (λ _. (refl, inr (refl, refl)))

serves_place : (s t : Seat) → IsSamePlace s t → IsSamePlace s (served t)
serves_place s t h = either (λ (x : Seat). IsSamePlace s x) (covers t) _ _ (λ _. (h.0, inl refl)) (λ _. h)

raises_place : (r : Report) (s t : Seat) → IsSamePlace s t → IsSamePlace s (raised r t)
raises_place r s t h = either (λ (x : Seat). IsSamePlace s x) ((r.target_number == t.target_number) && (r.read_target == t.target)) _ _ (λ _. h) (λ _. h)

-- what a report makes of it before it takes a turn
abbrev pub after_report : Report → Seat → Seat
after_report r s = raised r (served (counting (believed s r) s))

pub report_place : (r : Report) (s : Seat) → IsSamePlace s (after_report r s)
report_place r s = raises_place r s (served (counting (believed s r) s)) (serves_place s (counting (believed s r) s) (counts_place (believed s r) s))

pub record Keeps (s t : Seat) : Type 0 where
  pub waited : 0 < s.held
  pub waits : 0 < t.held
  pub deflates : s.deflates ≡ t.deflates
  pub line : s.line ≡ t.line

pub keeps_is : (s t : Seat) → keeps_turn s t ≡ true → Keeps s t
keeps_is s t e =
    let a = and_left ((waits s && waits t) && (s.deflates == t.deflates)) _ e in
    let b = and_left (waits s && waits t) _ a in
    record {
      waited = lt_true 0 s.held (and_left (waits s) _ b);
      waits = lt_true 0 t.held (and_right (waits s) _ b);
      deflates = eq_true s.deflates t.deflates (and_right (waits s && waits t) _ a);
      line = eq_true s.line t.line (and_right ((waits s && waits t) && (s.deflates == t.deflates)) _ e);
    }

keeps_by : (a b c d x y : ℕ) → 0 < a → 0 < b → c ≡ d → x ≡ y → (((nat_lt 0 a && nat_lt 0 b) && (c == d)) && (x == y)) ≡ true
keeps_by a b c d x y h k e f = grind (arith, nat_tests)

pub waits_place : (s t : Seat) → 0 < t.held → IsSamePlace s t → (t.deferred ≡ s.deferred) × (t.turn ≡ s.turn)
waits_place s t w h = elim h.1 [
  | inl none ↦ absurd (omega (arith, w, none))
  | inr same ↦ same
]

-- while it waits on, it keeps its turn
abbrev Stays : Seat → Seat → Type 0
Stays s t = 0 < s.held → 0 < t.held → t.deflates ≡ s.deflates → t.line ≡ s.line → (t.deferred ≡ s.deferred) × (t.turn ≡ s.turn)

stays_same : (s t : Seat) → t.deferred ≡ s.deferred → t.turn ≡ s.turn → Stays s t
stays_same s t e f = λ _ _ _ _. (e, f)

hears_stay : (turn : ℕ) (r : Report) (s : Seat) → Stays s (heard turn r s)
hears_stay turn r s = either (λ (t : Seat). Stays s t) (is_stale r s) s (queuing turn s (after_report r s)) (λ _. stays_same s s refl refl)
    (λ _. either (λ (t : Seat). Stays s t) (keeps_turn s (after_report r s)) (after_report r s) (queued turn (after_report r s))
    (λ _ _ w _ _. waits_place s (after_report r s) w (report_place r s)) (λ f. not_kept s (after_report r s) f)) where
      not_kept : (s x : Seat) → keeps_turn s x ≡ false → Stays s (queued turn x)
      not_kept s x f = λ a b c d. absurd (not_so (keeps_turn s x) f (keeps_by s.held x.held s.deflates x.deflates s.line x.line a b (sym c) (sym d))) where
        not_so : (b : Bool) → b ≡ false → b ≡ true → ⊥
        not_so b e f = absurd (cc)

-- and lets others pass no longer than it waits on
abbrev Ends : Seat → Seat → Type 0
Ends s t = (0 < s.deferred → 0 < s.held) → 0 < t.deferred → Keeps s t

ends_same : (s t : Seat) → t.deferred ≡ s.deferred → t.held ≡ s.held → t.deflates ≡ s.deflates → t.line ≡ s.line → Ends s t
ends_same s t d h e f = λ w k. let v = w (omega (arith, d, k)) in record { waited = v; waits = omega (arith, v, h); deflates = sym e; line = sym f }

ends_none : (s t : Seat) → t.deferred ≡ 0 → Ends s t
ends_none s t e = λ _ k. absurd (omega (arith, e, k))

hears_end : (turn : ℕ) (r : Report) (s : Seat) → Ends s (heard turn r s)
hears_end turn r s = either (λ (t : Seat). Ends s t) (is_stale r s) s (queuing turn s (after_report r s)) (λ _. ends_same s s refl refl refl refl)
    (λ _. either (λ (t : Seat). Ends s t) (keeps_turn s (after_report r s)) (after_report r s) (queued turn (after_report r s))
    (λ e _ _. keeps_is s (after_report r s) e) (λ _. ends_none s (queued turn (after_report r s)) refl))

-- ---- one place

again : (x y : Seat) (xs ys : List Seat) (i : ℕ) → WaitsOn (x ∷ xs) (y ∷ ys) (suc i) → WaitsOn xs ys i
again x y xs ys i w = record { waited = w.waited; waits = w.waits; deflate = w.deflate; line = w.line }

more : (x y : Seat) (xs ys : List Seat) (i : ℕ) → WaitsOn xs ys i → WaitsOn (x ∷ xs) (y ∷ ys) (suc i)
more x y xs ys i w = record { waited = w.waited; waits = w.waits; deflate = w.deflate; line = w.line }

abbrev SameTurn : List Seat → List Seat → ℕ → Type 0
SameTurn xs ys i = (deferred_at ys i ≡ deferred_at xs i) × (turn_at ys i ≡ turn_at xs i)

stays_at : (n i : ℕ) (f : Seat → Seat) (xs : List Seat) → ((s : Seat) → Stays s (f s)) → WaitsOn xs (each_at n f xs) i → SameTurn xs (each_at n f xs) i
stays_at n i f [] h w = (refl, refl)
stays_at zero zero f (x ∷ xs) h w = h x w.waited w.waits w.deflate w.line
stays_at zero (suc i) f (x ∷ xs) h w = (refl, refl)
stays_at (suc n) zero f (x ∷ xs) h w = (refl, refl)
stays_at (suc n) (suc i) f (x ∷ xs) h w = stays_at n i f xs h (again x x xs (each_at n f xs) i w)

stays_elsewhere : (n i : ℕ) (f : Seat → Seat) (xs : List Seat) → i ≢ n → SameTurn xs (each_at n f xs) i
stays_elsewhere n i f xs d = (value_elsewhere its_deferred n f xs i d, value_elsewhere its_turn n f xs i d)

-- what isn't there doesn't wait
abbrev IsEnding : List Seat → List Seat → ℕ → Type 0
IsEnding xs ys i = (0 < deferred_at xs i → 0 < held_at xs i) → 0 < deferred_at ys i → WaitsOn xs ys i

ends_at : (n i : ℕ) (f : Seat → Seat) (xs : List Seat) → ((s : Seat) → Ends s (f s)) → IsEnding xs (each_at n f xs) i
ends_at n i f [] h w k = absurd (omega (arith, k))
ends_at zero zero f (x ∷ xs) h w k = let e = h x w k in record { waited = e.waited; waits = e.waits; deflate = sym e.deflates; line = sym e.line }
ends_at zero (suc i) f (x ∷ xs) h w k = let v = w k in record { waited = v; waits = v; deflate = refl; line = refl }
ends_at (suc n) zero f (x ∷ xs) h w k = let v = w k in record { waited = v; waits = v; deflate = refl; line = refl }
ends_at (suc n) (suc i) f (x ∷ xs) h w k = more x x xs (each_at n f xs) i (ends_at n i f xs h w k)

same_ends : (xs ys : List Seat) (i : ℕ) → ((v : Seat → ℕ) → value_at v ys i ≡ value_at v xs i) → IsEnding xs ys i
same_ends xs ys i h w k = let v = w (omega (arith, h its_deferred, k)) in record { waited = v; waits = omega (arith, v, h its_held); deflate = h its_deflates; line = h its_line }

-- ---- events

either_turn : (b : Bool) (xs ys : List Seat) (i : ℕ) → (WaitsOn xs ys i → SameTurn xs ys i) → WaitsOn xs (if b then ys else xs) i → SameTurn xs (if b then ys else xs) i
either_turn true xs ys i h w = h w
either_turn false xs ys i h w = (refl, refl)

pub keeps_its_turn : (l : Lending) (e : Event) (i : ℕ) → IsNoDeferral i e → IsStillThere i e → WaitsOn l.seats (happens l e).seats i → SameTurn l.seats (happens l e).seats i
keeps_its_turn l (Hears n r) i d h w = stays_at n i (heard (next_turn l.seats) r) l.seats (hears_stay (next_turn l.seats) r) w
keeps_its_turn l (Grants n) i d h w = either_turn (may_grant l n) l.seats (each_at n granting l.seats) i (stays_at n i granting l.seats grants_stay) w where
  grants_stay : (s : Seat) → Stays s (granting s)
  grants_stay s = λ _ v _ _. absurd (omega (arith, v))
keeps_its_turn l (Overdraws n) i d h w = either_turn (may_overdraw l n) l.seats (each_at n granting l.seats) i (stays_at n i granting l.seats grants_stay) w where
  grants_stay : (s : Seat) → Stays s (granting s)
  grants_stay s = λ _ v _ _. absurd (omega (arith, v))
keeps_its_turn l (Wants n pages) i d h w = stays_at n i (λ s. record s { wanted = pages }) l.seats (λ s. stays_same s (record s { wanted = pages }) refl refl) w
keeps_its_turn l (Targets n) i d h w = stays_at n i (retargeted (room l)) l.seats (λ s. retargets (λ (t : Seat). Stays s t) (room l) s (stays_same s s refl refl) (λ _. λ _ _ _ _. (refl, refl))) w
keeps_its_turn l (Arrives n pages ballooned) i d h w = stays_elsewhere n i (λ _. starting pages ballooned) l.seats h
keeps_its_turn l (Joins n m) i d h w = either_turn (may_join_at l.seats n m) l.seats (each_at m (λ _. newcomer 0) (each_at n (grown (pages_at l.seats m)) l.seats)) i
    (λ _. (
      value_elsewhere its_deferred m (λ _. newcomer 0) (each_at n (grown (pages_at l.seats m)) l.seats) i h ∙ value_same its_deferred n (grown (pages_at l.seats m)) l.seats i (λ _. refl),
      value_elsewhere its_turn m (λ _. newcomer 0) (each_at n (grown (pages_at l.seats m)) l.seats) i h ∙ value_same its_turn n (grown (pages_at l.seats m)) l.seats i (λ _. refl),
    )) w
keeps_its_turn l (TakesOver n pages r) i d h w = stays_elsewhere n i (λ _. queued (next_turn l.seats) (taken_over pages r)) l.seats h
keeps_its_turn l (Uncounts n) i d h w = stays_at n i uncounting l.seats (λ s. stays_same s (uncounting s) refl refl) w
keeps_its_turn l (Budget frames) i d h w = (refl, refl)
keeps_its_turn l (Prefers n) i d h w = (
  value_same its_deferred n (preferring 1) (map (preferring 0) l.seats) i (λ _. refl) ∙ value_map its_deferred (preferring 0) l.seats i (λ _. refl),
  value_same its_turn n (preferring 1) (map (preferring 0) l.seats) i (λ _. refl) ∙ value_map its_turn (preferring 0) l.seats i (λ _. refl),
)
keeps_its_turn l (Defers n) i d h w = stays_elsewhere n i (deferring (next_turn l.seats)) l.seats d

pub stays_deferred : (l : Lending) (e : Event) (i : ℕ) → IsNoDeferral i e → IsStillThere i e → WaitsOn l.seats (happens l e).seats i → deferred_at (happens l e).seats i ≡ deferred_at l.seats i
stays_deferred l e i d h w = (keeps_its_turn l e i d h w).0

either_ends : (b : Bool) (xs ys : List Seat) (i : ℕ) → IsEnding xs ys i → IsEnding xs (if b then ys else xs) i
either_ends true xs ys i h = h
either_ends false xs ys i h = same_ends xs xs i (λ _. refl)

pub ends_with_its_wait : (l : Lending) (e : Event) (i : ℕ) → (0 < deferred_at l.seats i → 0 < held_at l.seats i) → IsNoDeferral i e → 0 < deferred_at (happens l e).seats i
    → WaitsOn l.seats (happens l e).seats i
ends_with_its_wait l (Hears n r) i w d k = ends_at n i (heard (next_turn l.seats) r) l.seats (hears_end (next_turn l.seats) r) w k
ends_with_its_wait l (Grants n) i w d k = either_ends (may_grant l n) l.seats (each_at n granting l.seats) i (ends_at n i granting l.seats (λ s. ends_none s (granting s) refl)) w k
ends_with_its_wait l (Overdraws n) i w d k = either_ends (may_overdraw l n) l.seats (each_at n granting l.seats) i (ends_at n i granting l.seats (λ s. ends_none s (granting s) refl)) w k
ends_with_its_wait l (Wants n pages) i w d k = ends_at n i (λ s. record s { wanted = pages }) l.seats (λ s. ends_same s (record s { wanted = pages }) refl refl refl refl) w k
ends_with_its_wait l (Targets n) i w d k = ends_at n i (retargeted (room l)) l.seats (λ s. retargets (λ (t : Seat). Ends s t) (room l) s (ends_same s s refl refl refl refl)
    (λ number. ends_same s _ refl refl refl refl)) w k
ends_with_its_wait l (Arrives n pages ballooned) i w d k = ends_at n i (λ _. starting pages ballooned) l.seats (λ s. ends_none s (starting pages ballooned) refl) w k
ends_with_its_wait l (Joins n m) i w d k = either_ends (may_join_at l.seats n m) l.seats (each_at m (λ _. newcomer 0) (each_at n (grown (pages_at l.seats m)) l.seats)) i
    (joins_end n m (pages_at l.seats m) i l.seats) w k where
      same_grown : (n added i : ℕ) (xs : List Seat) → (deferred_at (each_at n (grown added) xs) i ≡ deferred_at xs i) × (held_at (each_at n (grown added) xs) i ≡ held_at xs i)
          × (value_at its_deflates (each_at n (grown added) xs) i ≡ value_at its_deflates xs i) × (value_at its_line (each_at n (grown added) xs) i ≡ value_at its_line xs i)
      same_grown n added i xs = (
        value_same its_deferred n (grown added) xs i (λ _. refl),
        value_same its_held n (grown added) xs i (λ _. refl),
        value_same its_deflates n (grown added) xs i (λ _. refl),
        value_same its_line n (grown added) xs i (λ _. refl),
      )

      joins_end : (n m added i : ℕ) (xs : List Seat) → IsEnding xs (each_at m (λ _. newcomer 0) (each_at n (grown added) xs)) i
      joins_end n m added i xs w k = let e = same_grown n added i xs in
          let v = ends_at m i (λ _. newcomer 0) (each_at n (grown added) xs) (λ s. ends_none s (newcomer 0) refl) (λ a. omega (arith, e.1, w (omega (arith, e.0, a)))) k in
          record { waited = omega (arith, v.waited, e.1); waits = v.waits; deflate = v.deflate ∙ e.2; line = v.line ∙ e.3 }
ends_with_its_wait l (TakesOver n pages r) i w d k = ends_at n i (λ _. queued (next_turn l.seats) (taken_over pages r)) l.seats (λ s. ends_none s (queued (next_turn l.seats) (taken_over pages r)) refl) w k
ends_with_its_wait l (Uncounts n) i w d k = ends_at n i uncounting l.seats (λ s. ends_same s (uncounting s) refl refl refl refl) w k
ends_with_its_wait l (Budget frames) i w d k = same_ends l.seats l.seats i (λ _. refl) w k
ends_with_its_wait l (Prefers n) i w d k =
    let e = preferred_same n i l.seats in let v = w (omega (arith, e.0, k)) in
    record { waited = v; waits = omega (arith, v, e.1); deflate = e.2; line = e.3 } where
      preferred_same : (n i : ℕ) (xs : List Seat) → (deferred_at (each_at n (preferring 1) (map (preferring 0) xs)) i ≡ deferred_at xs i)
          × (held_at (each_at n (preferring 1) (map (preferring 0) xs)) i ≡ held_at xs i)
          × (value_at its_deflates (each_at n (preferring 1) (map (preferring 0) xs)) i ≡ value_at its_deflates xs i)
          × (value_at its_line (each_at n (preferring 1) (map (preferring 0) xs)) i ≡ value_at its_line xs i)
      preferred_same n i xs = (
        value_same its_deferred n (preferring 1) (map (preferring 0) xs) i (λ _. refl) ∙ value_map its_deferred (preferring 0) xs i (λ _. refl),
        value_same its_held n (preferring 1) (map (preferring 0) xs) i (λ _. refl) ∙ value_map its_held (preferring 0) xs i (λ _. refl),
        value_same its_deflates n (preferring 1) (map (preferring 0) xs) i (λ _. refl) ∙ value_map its_deflates (preferring 0) xs i (λ _. refl),
        value_same its_line n (preferring 1) (map (preferring 0) xs) i (λ _. refl) ∙ value_map its_line (preferring 0) xs i (λ _. refl),
      )
ends_with_its_wait l (Defers n) i w d k =
    let v = w (omega (arith, value_elsewhere its_deferred n (deferring (next_turn l.seats)) l.seats i d, k)) in record {
      waited = v;
      waits = omega (arith, v, value_elsewhere its_held n (deferring (next_turn l.seats)) l.seats i d);
      deflate = value_elsewhere its_deflates n (deferring (next_turn l.seats)) l.seats i d;
      line = value_elsewhere its_line n (deferring (next_turn l.seats)) l.seats i d;
    }
