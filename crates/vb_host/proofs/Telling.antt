-- Which reports tell of memory, and what is outside after them.
use Rattle.std.proofs.Common.{◌≡◌, ℕ, ◌+◌, ◌-◌, ◌≤◌, Bool, true, false, ◌==◌, ◌&&◌, nat_le, if◌then◌else◌, refl, ◌∙◌, subst, arith}
use Rattle.std.proofs.lemmas.Bool.Decides.{nat_tests}
use Rattle.vb_host.specs.declared.report.Report.{Report}
use Rattle.vb_host.specs.declared.seat.Seat.{Seat}
use Rattle.vb_host.specs.Outside.{TakesOutside, TellsMemory, believed_outside, gone, most_outside, taken_unasked, tells_memory, with_outside}
use Rattle.vb_host.specs.Seats.{counting, heard, is_news, is_stale, is_uncounted, queuing, raised, served}
use Rattle.vb_host.proofs.Sound.{after_counting, either, notes}

tells_by : (g t p o q : ℕ) → g ≤ p + o → (nat_le g t && nat_le (p - t + q + g) (p + o)) ≡ ((g - t == 0) && nat_le q (p + o - (p - t + g)))
tells_by g t p o q l = grind (arith, nat_tests)

pub tells : TellsMemory
tells r s l = tells_by (gone r s) (r.removed - s.removed) s.pages s.outside r.outside (omega (arith, l))

-- ---- with the pages that may be outside

holds_both : (n o m : ℕ) → n ≡ 0 → o ≤ m → ((n == 0) && nat_le o m) ≡ true
holds_both n o m e l = grind (arith, nat_tests)

not_both : {A : Type 0} (b : Bool) → b ≡ true → b ≡ false → A
not_both b e f = absurd (cc)

chosen : (c : Bool) (x y : ℕ) → c ≡ true → (if c then x else y) ≡ x
chosen true x y e = refl
chosen false x y e = absurd (cc)

other : (c : Bool) (x y : ℕ) → c ≡ false → (if c then x else y) ≡ y
other true x y e = absurd (cc)
other false x y e = refl

less_none : (b : ℕ) → b - 0 ≡ b
less_none b = omega arith

-- what is outside once a report was counted that tells of memory
counts_outside : (b : ℕ) (r : Report) (s : Seat) → is_news (b - (if r.deflates == s.granted then r.held else 0)) r s ≡ true → (counting (record r { ballooned = b }) s).outside ≡ r.outside
counts_outside b r s n = either (λ (x : Seat). x.outside ≡ r.outside) (r.deflates == s.granted) _ _
    (λ e. notes (λ (x : Seat). x.outside ≡ r.outside) (b - r.held) 0 (record r { ballooned = b }) s (λ _. refl)
    (λ f. not_both (is_news (b - r.held) r s) (subst (λ (k : ℕ). is_news (b - k) r s ≡ true) (chosen (r.deflates == s.granted) r.held 0 e) n) f))
    (λ e. notes (λ (x : Seat). x.outside ≡ r.outside) b r.held (record r { ballooned = b }) s (λ _. refl)
    (λ f. not_both (is_news b r s)
    (subst (λ (k : ℕ). is_news k r s ≡ true) (less_none b) (subst (λ (k : ℕ). is_news (b - k) r s ≡ true) (other (r.deflates == s.granted) r.held 0 e) n)) f))

keeps_outside : (turn b o : ℕ) (r : Report) (s : Seat) → (counting (record r { ballooned = b }) s).outside ≡ o
    → (queuing turn s (raised r (served (counting (record r { ballooned = b }) s)))).outside ≡ o
keeps_outside turn b o r s e = after_counting (λ (x : Seat). x.outside ≡ o) turn r (record r { ballooned = b }) s
    (record { granted = λ _ _ h. h; raised_to = λ _ h. h; turned = λ _ _ h. h }) e

hears_outside : (turn o : ℕ) (r : Report) (s : Seat) → is_stale r s ≡ false → tells_memory (with_outside o r) s ≡ true → (heard turn (with_outside o r) s).outside ≡ o
hears_outside turn o r s f n = let q = with_outside o r in
    either (λ (x : Seat). x.outside ≡ o) (is_stale q s) _ _ (λ e. not_both (is_stale q s) e f)
    (λ _. either (λ (x : Report). (queuing turn s (raised q (served (counting x s)))).outside ≡ o) (is_uncounted s) _ _
    (λ e. keeps_outside turn 0 o q s (counts_outside 0 q s
    (subst (λ (k : ℕ). is_news (k - (if q.deflates == s.granted then q.held else 0)) q s ≡ true) (chosen (is_uncounted s) 0 q.ballooned e) n)))
    (λ e. keeps_outside turn q.ballooned o q s (counts_outside q.ballooned q s
    (subst (λ (k : ℕ). is_news (k - (if q.deflates == s.granted then q.held else 0)) q s ≡ true) (other (is_uncounted s) 0 q.ballooned e) n))))

pub takes : TakesOutside
takes turn r s l f n =
    let o = believed_outside r s in
    let news : tells_memory (with_outside o r) s ≡ true = tells (with_outside o r) s l ∙ holds_both (taken_unasked r s) o (most_outside r s) n (omega arith) in
    (news, hears_outside turn o r s f news)
