-- What holds of each message that a process sends.
use Rattle.std.proofs.Common.{◌≡◌, ◌⊎◌, inl, inr, ℕ, ◌+◌, ◌-◌, ◌≤◌, ◌<◌, Bool, true, false, not, ◌==◌, ◌&&◌, nat_lt, max, min, if◌then◌else◌, refl, ◌∙◌, sym, subst, arith}
use Rattle.std.proofs.lemmas.Bool.Decides.{nat_tests}
use Rattle.vb_host.specs.declared.message.Ask.{Ask}
use Rattle.vb_host.specs.declared.message.Ask.TheVariants.{Nothing, Room, Reset, Deflate}
use Rattle.vb_host.specs.declared.message.Message.{Message}
use Rattle.vb_host.specs.declared.message.Exchange.{Exchange}
use Rattle.vb_host.specs.declared.seat.Seat.{Seat}
use Rattle.vb_host.specs.Messages.{another, ask_number, ask_of, asked_line, asked_pages, has_granted, is_new_ask, is_let_in, is_received, lingers, needs_reset, needs_room, own_number, plain_report, read_target, removed_by, reset_pages, said_outside, shown_ballooned, taken_away, waits_for_room}
use Rattle.vb_host.specs.Exchanges.{GrantsStay, MessagesAreSnapshots, NewAsksCount, ReadsRaise}
use Rattle.vb_host.specs.Outside.{believed_outside}
use Rattle.vb_host.specs.Seats.{is_uncounted, line_number}
use Rattle.vb_host.proofs.Sound.{and_left, and_right, either}

-- ---- a deflate that was granted

held_of : (x : Exchange) (m : Message) (s : Seat) → has_granted x m s ≡ true → nat_lt 0 m.held ≡ true
held_of x m s h = and_left (nat_lt 0 m.held) _ (and_left (nat_lt 0 m.held && (x.ask == 3)) _ (and_left (nat_lt 0 m.held && (x.ask == 3) && (x.asked == m.deflate)) _ h))

is_its_ask : (x : Exchange) (m : Message) (s : Seat) → has_granted x m s ≡ true → (x.ask == 3) ≡ true
is_its_ask x m s h = and_right (nat_lt 0 m.held) _ (and_left (nat_lt 0 m.held && (x.ask == 3)) _ (and_left (nat_lt 0 m.held && (x.ask == 3) && (x.asked == m.deflate)) _ h))

is_its_number : (x : Exchange) (m : Message) (s : Seat) → has_granted x m s ≡ true → (x.asked == m.deflate) ≡ true
is_its_number x m s h = and_right (nat_lt 0 m.held && (x.ask == 3)) _ (and_left (nat_lt 0 m.held && (x.ask == 3) && (x.asked == m.deflate)) _ h)

asks_deflate : (x : Exchange) (m : Message) (s : Seat) → has_granted x m s ≡ true → ask_of x m s ≡ Deflate
asks_deflate x m s h = either (λ (a : Ask). a ≡ Deflate) (has_granted x m s) _ _ (λ _. refl) (λ f. absurd (cc))

both : (a b : Bool) → a ≡ true → b ≡ true → (a && b) ≡ true
both true b e f = f
both false b e f = absurd (cc)

neither : (a b : Bool) → a ≡ true → b ≡ true → not (a && b) ≡ false
neither true true e f = refl
neither true false e f = absurd (cc)
neither false b e f = absurd (cc)

pub grants_stay : GrantsStay
grants_stay now x m s h =
    let e : Deflate ≡ ask_of x m s = sym (asks_deflate x m s h) in (
      subst (λ (a : Ask). (nat_lt 0 (asked_pages a m s) && (x.asks == s.granted)) ≡ true) e (both (nat_lt 0 m.held) (x.asks == s.granted) (held_of x m s h) (and_right (nat_lt 0 m.held && (x.ask == 3) && (x.asked == m.deflate)) _ h)),
      subst (λ (a : Ask). (not (ask_number a == ask_number Nothing) && not ((x.ask == ask_number a) && (x.asked == own_number a m))) ≡ false) e
          (neither (x.ask == 3) (x.asked == m.deflate) (is_its_ask x m s h) (is_its_number x m s h)),
    )

-- ---- the number of an ask

next_or : (n : ℕ) (b : Bool) → nat_lt n 18446744073709551615 ≡ b → (n < min (n + 1) 18446744073709551615) ⊎ (18446744073709551615 ≤ n)
next_or n true e = let f : n < 18446744073709551615 = grind (arith, nat_tests) in inl (omega (arith, f))
next_or n false e = inr (grind (arith, nat_tests))

pub new_asks_count : NewAsksCount
new_asks_count now x m s h = either (λ (y : Exchange). (x.asks < y.asks) ⊎ (18446744073709551615 ≤ x.asks)) (is_new_ask x m s) _ _
    (λ _. next_or x.asks (nat_lt x.asks 18446744073709551615) refl) (λ f. absurd (cc))

-- ---- what the driver has read

another_by : {A : Type 0} (b : Bool) (n : ℕ) → nat_lt 0 n ≡ b → (if b then n - 1 else 1) ≡ n → A
another_by true n f e = absurd (grind (arith, nat_tests))
another_by false n f e = absurd (grind (arith, nat_tests))

another_isnt : {A : Type 0} (n : ℕ) → another n ≡ n → A
another_isnt n e = another_by (nat_lt 0 n) n refl e

was_read : (b l : Bool) (r t : ℕ) → nat_lt 0 r ≡ b → (if b then r - 1 else if l then another t else t) ≡ t → (r ≡ t + 1) ⊎ ((r ≡ 0) × (l ≡ false))
was_read true l r t f e = inl (grind (arith, nat_tests))
was_read false true r t f e = another_isnt t e
was_read false false r t f e = inr (grind (arith, nat_tests), refl)

was_received : (b : Bool) (n : ℕ) → (if b then n else another n) ≡ n → b ≡ true
was_received true n e = refl
was_received false n e = another_isnt n e

pub reads_raise : ReadsRaise
reads_raise now x m s n t = record {
  received = was_received (is_received x m s) s.target_number n;
  read = was_read (nat_lt 0 m.read) (lingers now x) m.read s.target refl t;
}

-- ---- a strict guest's process

idle : (g r q d : Bool) → r ≡ false → q ≡ false → (g ≡ true → d ≡ true) → (if g then Deflate else if r then Reset else if q then Room else if d then Deflate else Nothing) ≡ (if d then Deflate else Nothing)
idle true r q true e f h = refl
idle true r q false e f h = absurd (let k : false ≡ true = h refl in cc)
idle false true q d e f h = absurd (cc)
idle false false true d e f h = absurd (cc)
idle false false false d e f h = refl

room_not : (m : Message) → m.waits ≡ 0 → waits_for_room m ≡ false
room_not m e = subst (λ (w : ℕ). (w == 1) ≡ false) (sym e) refl

reset_not : (m : Message) (s : Seat) → m.waits ≡ 0 → needs_reset m s ≡ false
reset_not m s e = subst (λ (w : ℕ). ((w == 2) && nat_lt 0 (reset_pages m s)) ≡ false) (sym e) refl

needs_not : (m : Message) (s : Seat) → m.waits ≡ 0 → needs_room m s ≡ false
needs_not m s e = subst (λ (w : ℕ). ((w == 1) && not (is_let_in s)) ≡ false) (sym e) refl

asks_by : (x : Exchange) (m : Message) (s : Seat) → m.waits ≡ 0 → ask_of x m s ≡ (if nat_lt 0 m.held then Deflate else Nothing)
asks_by x m s e = idle (has_granted x m s) (needs_reset m s) (needs_room m s) (nat_lt 0 m.held) (reset_not m s e) (needs_not m s e) (held_of x m s)

-- its deflate, or none, in the line of deflates
pages_by : (b : Bool) (m : Message) (s : Seat) → nat_lt 0 m.held ≡ b → asked_pages (if b then Deflate else Nothing) m s ≡ m.held
pages_by true m s e = refl
pages_by false m s e = grind (arith, nat_tests)

line_by : (b : Bool) → line_number (asked_line (if b then Deflate else Nothing)) ≡ 0
line_by true = refl
line_by false = refl

holds : (x : Exchange) (m : Message) (s : Seat) → m.waits ≡ 0 → asked_pages (ask_of x m s) m s ≡ m.held
holds x m s e = subst (λ (a : Ask). asked_pages a m s ≡ m.held) (sym (asks_by x m s e)) (pages_by (nat_lt 0 m.held) m s refl)

waits_in : (x : Exchange) (m : Message) (s : Seat) → m.waits ≡ 0 → line_number (asked_line (ask_of x m s)) ≡ 0
waits_in x m s e = subst (λ (a : Ask). line_number (asked_line a) ≡ 0) (sym (asks_by x m s e)) (line_by (nat_lt 0 m.held))

shows : (m : Message) (s : Seat) → m.waits ≡ 0 → shown_ballooned m s ≡ m.ballooned
shows m s e = subst (λ (w : ℕ). (if (w == 1) && (m.pages == 0) then s.ballooned else m.ballooned) ≡ m.ballooned) (sym e) refl

takes_away : (m : Message) (s : Seat) → m.waits ≡ 0 → taken_away m s ≡ s.pages - m.pages
takes_away m s e = subst (λ (w : ℕ). (if w == 1 then 0 else s.pages - m.pages) ≡ s.pages - m.pages) (sym e) refl

has_read : (b l : Bool) (r t k : ℕ) → nat_lt 0 r ≡ b → r ≡ k + 1 → (if b then r - 1 else if l then another t else t) ≡ k
has_read true l r t k e f = omega (arith, f)
has_read false l r t k e f = absurd (grind (arith, nat_tests))

stays_out : (b : Bool) (n k : ℕ) (u : ℕ) → nat_lt 0 u ≡ b → u ≡ 0 → max n (if b then k else 0) ≡ n
stays_out true n k u e f = absurd (grind (arith, nat_tests))
stays_out false n k u e f = omega arith

is_least : (n k m : ℕ) → n ≡ k → k ≤ m → min n m ≡ k
is_least n k m e l = omega (arith, e, l)

pub messages_are_snapshots : MessagesAreSnapshots
messages_are_snapshots now p x m s h k =
    let ballooned : shown_ballooned m s ≡ p.balloon = shows m s h.waits ∙ h.ballooned in
    let read : read_target now x m s ≡ p.read_target = has_read (nat_lt 0 m.read) (lingers now x) m.read s.target p.read_target refl h.read in
    let held : asked_pages (ask_of x m s) m s ≡ p.held = holds x m s h.waits ∙ h.held in
    let line : line_number (asked_line (ask_of x m s)) ≡ p.line = waits_in x m s h.waits ∙ sym h.line in
    let said : said_outside m s ≡ p.outside = stays_out (is_uncounted s) m.outside _ s.uncounted refl k.counts ∙ h.outside in
    let outside : believed_outside (plain_report now x m s) s ≡ p.outside = is_least (said_outside m s) p.outside _ said k.outside in
    let removed : removed_by m s ≡ p.removed = omega (arith, takes_away m s h.waits, h.pages, k.removed, k.fewer, k.few) in
    cc
