-- A report without a deflate that waits gives its guest no turn.
use Rattle.std.proofs.Common.{◌≡◌, ℕ, ◌<◌, ◌≤◌, ◌-◌, Bool, true, false, ◌&&◌, ◌==◌, nat_lt, if◌then◌else◌, refl, ap, sym, ◌∙◌, arith}
use Rattle.vb_host.specs.declared.report.Report.{Report}
use Rattle.vb_host.specs.declared.seat.Seat.{Seat}
use Rattle.vb_host.specs.Seats.{believed, counting, covers, granting, heard, is_stale, is_uncounted, keeps_turn, noting, queued, queuing, raised, served}
use Rattle.vb_host.proofs.Sound.{either, lt_false, lt_true}

believes : (s : Seat) (r : Report) → (believed s r).held ≡ r.held
believes s r = either (λ (q : Report). q.held ≡ r.held) (is_uncounted s) _ _ (λ _. refl) (λ _. refl)

counts_none : (r : Report) (s : Seat) → r.held ≡ 0 → (counting r s).held ≡ 0
counts_none r s e = either (λ (x : Seat). x.held ≡ 0) (r.deflates == s.granted) (noting (r.ballooned - r.held) 0 r s) (noting r.ballooned r.held r s) (λ _. refl) (λ _. e)

serves_none : (s : Seat) → s.held ≡ 0 → (served s).held ≡ 0
serves_none s e = either (λ (x : Seat). x.held ≡ 0) (covers s) (granting s) s (λ _. refl) (λ _. e)

raises_none : (r : Report) (s : Seat) → s.held ≡ 0 → (raised r s).held ≡ 0
raises_none r s e = either (λ (x : Seat). x.held ≡ 0) ((r.target_number == s.target_number) && (r.read_target == s.target)) _ _ (λ _. e) (λ _. e)

no_turn : (turn : ℕ) (s : Seat) → s.held ≡ 0 → queued turn s ≡ record s { turn = 0; deferred = 0 }
no_turn turn s e = ap (λ (k : ℕ). record s { turn = if nat_lt 0 k then turn else 0; deferred = 0 }) e

queues_alike : (turn other : ℕ) (old s : Seat) → s.held ≡ 0 → queuing turn old s ≡ queuing other old s
queues_alike turn other old s e = ap (λ (x : Seat). if keeps_turn old s then s else x) (no_turn turn s e ∙ sym (no_turn other s e))

hears_none : (turn other : ℕ) (r : Report) (s : Seat) → r.held ≡ 0 → heard turn r s ≡ heard other r s
hears_none turn other r s e =
    let none : (raised r (served (counting (believed s r) s))).held ≡ 0 = raises_none r (served (counting (believed s r) s)) (serves_none (counting (believed s r) s) (counts_none (believed s r) s (believes s r ∙ e))) in
    ap (λ (x : Seat). if is_stale r s then s else x) (queues_alike turn other s (raised r (served (counting (believed s r) s))) none)

hears_by : (turn next : ℕ) (r : Report) (s : Seat) (b : Bool) → nat_lt 0 r.held ≡ b → (0 < r.held → turn ≡ next) → heard turn r s ≡ heard next r s
hears_by turn next r s true e h = ap (λ (k : ℕ). heard k r s) (h (lt_true 0 r.held e))
hears_by turn next r s false e h = hears_none turn next r s (none r.held (lt_false 0 r.held e)) where
  none : (a : ℕ) → a ≤ 0 → a ≡ 0
  none a l = omega (arith, l)

-- as code gives it
pub hears_alike : (turn next : ℕ) (r : Report) (s : Seat) → (0 < r.held → turn ≡ next) → heard turn r s ≡ heard next r s
hears_alike turn next r s h = hears_by turn next r s (nat_lt 0 r.held) refl h
