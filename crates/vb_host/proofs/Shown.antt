-- What a strict guest's process is at a moment is news to the lender, or known.
use Rattle.std.proofs.Common.{◌≡◌, ℕ, ◌+◌, ◌-◌, ◌≤◌, true, ◌&&◌, nat_le, arith}
use Rattle.std.proofs.lemmas.Bool.Decides.{nat_tests}
use Rattle.vb_host.specs.declared.seat.Seat.{Seat}
use Rattle.vb_host.specs.Seats.{is_news}
use Rattle.vb_host.specs.System.{Process, snapshot}
use Rattle.vb_host.proofs.Sound.{IsKnown}

both_within : (a b c d : ℕ) → a ≤ b → c ≤ d → (nat_le a b && nat_le c d) ≡ true
both_within a b c d h k = grind (arith, nat_tests)

-- where this many pages of the balloon are shown
pub record IsSeen (p : Process) (b : ℕ) (s : Seat) : Type 0 where
  pub counted : s.ballooned + s.removed ≤ b + p.removed
  pub used : s.ballooned + s.removed + p.outside ≤ b + p.removed + s.outside
  pub without : p.deflates ≡ s.granted → s.ballooned + s.removed ≤ b - p.held + p.removed
  pub used_without : p.deflates ≡ s.granted → s.ballooned + s.removed + p.outside ≤ b - p.held + p.removed + s.outside

pub seen_all : (p : Process) (s : Seat) → IsKnown p s → IsSeen p p.balloon s
seen_all p s k = let m = k.memory in record {
  counted = m.counted;
  used = m.used;
  without = λ e. omega (arith, m.without e, m.held);
  used_without = λ e. omega (arith, m.used_without e, m.held);
}

-- a balloon that counts no longer is shown as empty, and was
pub seen_empty : (p : Process) (s : Seat) → IsKnown p s → s.ballooned ≡ 0 → IsSeen p 0 s
seen_empty p s k e = let m = k.memory in record {
  counted = omega (arith, e, m.removed);
  used = omega (arith, e, m.outside);
  without = λ _. omega (arith, e, m.removed);
  used_without = λ _. omega (arith, e, m.outside);
}

news_by : (p : Process) (b ballooned : ℕ) (s : Seat) → IsKnown p s → s.ballooned + s.removed ≤ ballooned + p.removed → s.ballooned + s.removed + p.outside ≤ ballooned + p.removed + s.outside
    → is_news ballooned (record (snapshot p) { ballooned = b }) s ≡ true
news_by p b ballooned s k c u = let m = k.memory in both_within (s.ballooned - ballooned) (p.removed - s.removed) (s.pages - (p.removed - s.removed) + p.outside + (s.ballooned - ballooned)) (s.pages + s.outside)
    (omega (arith, c)) (omega (arith, c, u, m.pages, m.removed, m.outside))

pub news : (p : Process) (b : ℕ) (s : Seat) → IsKnown p s → IsSeen p b s → is_news b (record (snapshot p) { ballooned = b }) s ≡ true
news p b s k n = news_by p b b s k n.counted n.used

pub news_held : (p : Process) (b : ℕ) (s : Seat) → IsKnown p s → IsSeen p b s → p.deflates ≡ s.granted → is_news (b - p.held) (record (snapshot p) { ballooned = b }) s ≡ true
news_held p b s k n e = news_by p b (b - p.held) s k (n.without e) (n.used_without e)
