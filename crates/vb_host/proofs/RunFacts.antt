-- A worked run in which each step occurs: two guests of 4 pages on 6 frames, with an overdraft of 2, and a place for memory that is added; with the
-- premises of the laws, where they hold and where they don't.
use Rattle.std.proofs.Common.{◌≡◌, ℕ, ◌≤◌, ◌<◌, ◌⊎◌, inl, inr, Bool, true, false, List, [], ◌∷◌, map, get_or, refl, arith}
use Rattle.std.specs.List.{AllByRecursion}
use Rattle.vb_host.specs.declared.event.Event.TheVariants.{Grants as EventGrants, Overdraws as EventOverdraws, Targets as EventTargets}
use Rattle.vb_host.specs.declared.event.Event.TheVariants.{Joins as EventJoins, Uncounts as EventUncounts, Wants as EventWants}
use Rattle.vb_host.specs.declared.event.Event.TheVariants.{Arrives as EventArrives, Prefers as EventPrefers, TakesOver as EventTakesOver}
use Rattle.vb_host.specs.declared.report.Report.{Report}
use Rattle.vb_host.specs.declared.seat.Seat.{Seat}
use Rattle.vb_host.specs.Lending.{may_grant, may_overdraw}
use Rattle.vb_host.specs.Promises.{IsOrdinary, IsStillThere, IsTowardTarget, NeverLowers, PaysBack, used, all_lent, all_used}
use Rattle.vb_host.specs.Seats.{heard, lent, newcomer, asked, waits}
use Rattle.vb_host.specs.System.{Arrives, Budget, Confirms, Does, Drops, Fails, Forgets, Gives, Grants, Guest, Hears, Holds, Host, Joins, Lands}
use Rattle.vb_host.specs.System.{Limits, Obeys, Overdraws, Reads, Reports, Sends, Shrinks, Step, TakesOver, Targets, Uncounts, Wants, arriving}
use Rattle.vb_host.specs.System.{lending, opened, seats, snapshot, through, Deviates, Prefers, Process}
use Rattle.vb_host.specs.Turns.{IsAfter, IsBefore, IsNoLoan, IsNoPreference}

-- The first guest is let in once its limit is sure, and has the target 0.
abbrev arrives : List Step
arrives = Reports 0 ∷ Hears 0 0 ∷ Grants 0 ∷ Targets 0 ∷ Limits 0 ∷ Lands 0 ∷ Confirms 0 ∷ Sends 0 ∷ Obeys 0 1 ∷ Obeys 0 0
    ∷ Does 0 Reads ∷ Reports 0 ∷ Hears 0 0 ∷ []

-- The second waits, so the first is to give two pages.
abbrev asks : List Step
asks = Reports 1 ∷ Hears 1 0 ∷ Grants 1 ∷ Wants 0 2 ∷ Targets 0 ∷ Sends 0 ∷ Obeys 0 0 ∷ Does 0 Reads ∷ Does 0 (Gives 2) ∷ []

-- It has given them, and the second is let in.
abbrev gives : List Step
gives = Reports 0 ∷ Hears 0 0 ∷ Grants 1 ∷ Targets 1 ∷ Limits 0 ∷ Confirms 0 ∷ Limits 1 ∷ Confirms 1 ∷ Sends 1 ∷ Obeys 1 1 ∷ Obeys 1 0
    ∷ Does 1 Reads ∷ Reports 1 ∷ Hears 1 0 ∷ []

-- The first is out of memory, and waits for a page.
abbrev lacks : List Step
lacks = Does 0 (Holds 0 1) ∷ Reports 0 ∷ Hears 0 0 ∷ Grants 0 ∷ []

-- The page is granted from the overdraft; a write of the limit fails, and another one doesn't.
abbrev draws : List Step
draws = Overdraws 0 ∷ Limits 0 ∷ Fails 0 ∷ Limits 0 ∷ Confirms 0 ∷ Sends 0 ∷ Obeys 0 1 ∷ Reports 0 ∷ Hears 0 0 ∷ []

-- The second gives a page, which pays it back.
abbrev pays : List Step
pays = Wants 1 1 ∷ Targets 1 ∷ Sends 1 ∷ Obeys 1 0 ∷ Does 1 Reads ∷ Does 1 (Gives 1) ∷ Reports 1 ∷ Hears 1 0 ∷ []

-- The first is reset, and drops a deflate that waits.
abbrev drops : List Step
drops = Does 0 (Holds 1 1) ∷ Reports 0 ∷ Hears 0 0 ∷ Does 0 Drops ∷ Reports 0 ∷ Hears 0 0 ∷ []

-- A page of the second is taken away, which wasn't in its balloon.
abbrev shrinks : List Step
shrinks = Does 1 (Shrinks 3 1 0 0) ∷ Reports 1 ∷ Hears 1 0 ∷ []

-- A page is added to it, waits as a guest of its own, and joins it.
abbrev joins : List Step
joins = Arrives 2 1 0 ∷ Reports 2 ∷ Hears 2 0 ∷ Grants 2 ∷ Limits 2 ∷ Confirms 2 ∷ Sends 2 ∷ Obeys 2 1 ∷ Reports 2 ∷ Hears 2 0 ∷ Joins 1 2 ∷ []

-- A later lender comes, and the processes connect to it.
abbrev connects : List Step
connects = TakesOver 0 ∷ TakesOver 1 ∷ []

-- There are more frames, so the first may take the page of its balloon.
abbrev takes : List Step
takes = Budget 6 ∷ Budget 8 ∷ Wants 0 0 ∷ Targets 0 ∷ Limits 0 ∷ Confirms 0 ∷ Sends 0 ∷ Obeys 0 0 ∷ Does 0 Reads
    ∷ Reports 0 ∷ Hears 0 0 ∷ Does 0 (Holds 0 1) ∷ []

-- It reports so, and takes it.
abbrev taken : List Step
taken = Reports 0 ∷ Hears 0 0 ∷ Sends 0 ∷ Obeys 0 1 ∷ Reports 0 ∷ Hears 0 0 ∷ []

-- The second takes pages without a grant, and the budget is lowered.
abbrev lowers : List Step
lowers = Uncounts 1 ∷ Budget 4 ∷ []

abbrev after_arrives : Host
after_arrives = through arrives (opened 6 2 (4 ∷ 4 ∷ 0 ∷ []))

abbrev after_asks : Host
after_asks = through asks after_arrives

abbrev after_gives : Host
after_gives = through gives after_asks

abbrev after_lacks : Host
after_lacks = through lacks after_gives

abbrev after_draws : Host
after_draws = through draws after_lacks

abbrev after_pays : Host
after_pays = through pays after_draws

abbrev after_drops : Host
after_drops = through drops after_pays

abbrev after_shrinks : Host
after_shrinks = through shrinks after_drops

abbrev after_joins : Host
after_joins = through joins after_shrinks

abbrev after_forgets : Host
after_forgets = through (Forgets ∷ []) after_joins

abbrev after_connects : Host
after_connects = through connects after_forgets

abbrev after_takes : Host
after_takes = through takes after_connects

abbrev after_taken : Host
after_taken = through taken after_takes

abbrev after_lowers : Host
after_lowers = through lowers after_taken

-- ---- what each guest uses, what it is lent, and its limit

abbrev uses : Host → List ℕ
uses h = map used h.guests

abbrev lends_each : Host → List ℕ
lends_each h = map (λ s. lent s) (seats h.guests)

abbrev limits_each : Host → List ℕ
limits_each h = map (λ g. g.limit.force) h.guests

used_all : (map uses (after_arrives ∷ after_asks ∷ after_gives ∷ after_lacks ∷ after_draws ∷ []) ≡ (4 ∷ 0 ∷ 0 ∷ []) ∷ (2 ∷ 0 ∷ 0 ∷ []) ∷ (2 ∷ 4 ∷ 0 ∷ []) ∷ (2 ∷ 4 ∷ 0 ∷ []) ∷ (3 ∷ 4 ∷ 0 ∷ []) ∷ [])
    × (map uses (after_pays ∷ after_drops ∷ after_shrinks ∷ after_joins ∷ []) ≡ (3 ∷ 3 ∷ 0 ∷ []) ∷ (3 ∷ 3 ∷ 0 ∷ []) ∷ (3 ∷ 2 ∷ 0 ∷ []) ∷ (3 ∷ 3 ∷ 0 ∷ []) ∷ [])
    × (map uses (after_forgets ∷ after_connects ∷ after_takes ∷ after_taken ∷ []) ≡ (3 ∷ 3 ∷ 0 ∷ []) ∷ (3 ∷ 3 ∷ 0 ∷ []) ∷ (3 ∷ 3 ∷ 0 ∷ []) ∷ (4 ∷ 3 ∷ 0 ∷ []) ∷ [])
used_all = (refl, refl, refl)

lent_each : (map lends_each (after_arrives ∷ after_asks ∷ after_gives ∷ after_lacks ∷ after_draws ∷ []) ≡ (4 ∷ 0 ∷ 0 ∷ []) ∷ (4 ∷ 0 ∷ 0 ∷ []) ∷ (2 ∷ 4 ∷ 0 ∷ []) ∷ (2 ∷ 4 ∷ 0 ∷ []) ∷ (3 ∷ 4 ∷ 0 ∷ []) ∷ [])
    × (map lends_each (after_pays ∷ after_drops ∷ after_shrinks ∷ after_joins ∷ []) ≡ (3 ∷ 3 ∷ 0 ∷ []) ∷ (3 ∷ 3 ∷ 0 ∷ []) ∷ (3 ∷ 2 ∷ 0 ∷ []) ∷ (3 ∷ 3 ∷ 0 ∷ []) ∷ [])
    × (map lends_each (after_forgets ∷ after_connects ∷ after_takes ∷ after_taken ∷ after_lowers ∷ []) ≡ (4 ∷ 4 ∷ 0 ∷ []) ∷ (3 ∷ 3 ∷ 0 ∷ []) ∷ (4 ∷ 3 ∷ 0 ∷ []) ∷ (4 ∷ 3 ∷ 0 ∷ []) ∷ (4 ∷ 4 ∷ 0 ∷ []) ∷ [])
lent_each = (refl, refl, refl)

limited : map limits_each (after_arrives ∷ after_gives ∷ after_draws ∷ after_joins ∷ after_takes ∷ [])
    ≡ (4 ∷ 0 ∷ 0 ∷ []) ∷ (2 ∷ 4 ∷ 0 ∷ []) ∷ (3 ∷ 4 ∷ 0 ∷ []) ∷ (3 ∷ 5 ∷ 0 ∷ []) ∷ (4 ∷ 5 ∷ 0 ∷ []) ∷ []
limited = refl

-- the page that is lacking is granted from the overdraft alone, and not while a target is to be reached
drawn : (may_grant (lending after_lacks) 0 ≡ false) × (may_overdraw (lending after_lacks) 0 ≡ true)
    × (may_overdraw (lending (through (Wants 1 1 ∷ Targets 1 ∷ []) after_lacks)) 0 ≡ false)
drawn = (refl, refl, refl)

-- ---- a guest whose balloon counts no longer

-- It gives two pages, which don't count, and may take one of them back at once; then another guest is at its place, whose balloon counts. (A later lender
-- doesn't know the third place yet.)
abbrev gives_uncounted : List Step
gives_uncounted = Does 1 (Gives 2) ∷ Reports 1 ∷ Hears 1 0 ∷ Does 1 (Holds 0 1) ∷ Reports 1 ∷ Hears 1 0 ∷ []

abbrev after_gives_uncounted : Host
after_gives_uncounted = through gives_uncounted after_lowers

abbrev after_another : Host
after_another = through (Arrives 1 4 0 ∷ []) after_gives_uncounted

uncounted_has_all : (map lends_each (after_gives_uncounted ∷ after_another ∷ []) ≡ (4 ∷ 4 ∷ 0 ∷ []) ∷ (4 ∷ 0 ∷ 0 ∷ []) ∷ [])
    × (map uses (after_lowers ∷ after_gives_uncounted ∷ []) ≡ (4 ∷ 3 ∷ 0 ∷ []) ∷ (4 ∷ 1 ∷ 0 ∷ []) ∷ [])
    × (map (λ h. map (λ s. s.uncounted) (seats h.guests)) (after_taken ∷ after_lowers ∷ after_gives_uncounted ∷ after_another ∷ []) ≡ (0 ∷ 0 ∷ 1 ∷ []) ∷ (0 ∷ 1 ∷ 1 ∷ []) ∷ (0 ∷ 1 ∷ 1 ∷ []) ∷ (0 ∷ 0 ∷ 1 ∷ []) ∷ [])
    × (map waits (seats after_gives_uncounted.guests) ≡ false ∷ false ∷ false ∷ [])
uncounted_has_all = (refl, refl, refl, refl)

still_there : IsStillThere 1 (EventUncounts 1) × IsStillThere 1 (EventJoins 1 2) × IsStillThere 1 (EventArrives 0 4 0) × ((r : Report) → IsStillThere 1 (EventTakesOver 0 4 r))
still_there = (tt, λ e. absurd (omega (arith, e)), λ e. absurd (omega (arith, e)), λ _ e. absurd (omega (arith, e)))

not_there : (IsStillThere 1 (EventArrives 1 4 0) → ⊥) × (IsStillThere 2 (EventJoins 1 2) → ⊥) × ((r : Report) → IsStillThere 1 (EventTakesOver 1 4 r) → ⊥)
not_there = (λ l. l refl, λ l. l refl, λ _ l. l refl)

-- ---- two guests of 6 pages on 5 frames, each let in with 2 of them, each of which wants a page more and then another one

abbrev let_in : ℕ → List Step
let_in n = Arrives n 6 4 ∷ Reports n ∷ Hears n 0 ∷ Grants n ∷ Targets n ∷ Limits n ∷ Confirms n ∷ Sends n ∷ Obeys n 1 ∷ Obeys n 0 ∷ Does n Reads ∷ Reports n ∷ Hears n 0 ∷ []

abbrev requests : ℕ → List Step
requests n = Does n (Holds 0 1) ∷ Reports n ∷ Hears n 0 ∷ []

-- its request is granted, and it has another one
abbrev proceeds : ℕ → List Step
proceeds n = Grants n ∷ Limits n ∷ Confirms n ∷ Sends n ∷ Obeys n 1 ∷ Reports n ∷ Hears n 0 ∷ Does n (Holds 0 1) ∷ Reports n ∷ Hears n 0 ∷ []

abbrev both_ask : Host
both_ask = through (requests 1) (through (requests 0) (through (let_in 1) (through (let_in 0) (opened 5 0 (6 ∷ 6 ∷ [])))))

-- the second, which has the later turn, is preferred; each frame that becomes free is for it
abbrev prefers : Host
prefers = through (Prefers 1 ∷ []) both_ask

abbrev after_one : Host
after_one = through (proceeds 1) prefers

abbrev after_two : Host
after_two = through (proceeds 1) (through (Budget 6 ∷ []) after_one)

abbrev after_three : Host
after_three = through (proceeds 1) (through (Budget 7 ∷ []) after_two)

-- who may be granted, of both
abbrev may_each : Host → List Bool
may_each h = map (may_grant (lending h)) (0 ∷ 1 ∷ [])

one_at_a_time : (map lends_each (both_ask ∷ after_one ∷ after_two ∷ after_three ∷ []) ≡ (2 ∷ 2 ∷ []) ∷ (2 ∷ 3 ∷ []) ∷ (2 ∷ 4 ∷ []) ∷ (2 ∷ 5 ∷ []) ∷ [])
    × (map uses (both_ask ∷ after_one ∷ after_two ∷ after_three ∷ []) ≡ (2 ∷ 2 ∷ []) ∷ (2 ∷ 3 ∷ []) ∷ (2 ∷ 4 ∷ []) ∷ (2 ∷ 5 ∷ []) ∷ [])
    × (map may_each (both_ask ∷ prefers ∷ after_one ∷ through (Budget 6 ∷ []) after_one ∷ []) ≡ (true ∷ false ∷ []) ∷ (false ∷ true ∷ []) ∷ (false ∷ false ∷ []) ∷ (false ∷ true ∷ []) ∷ [])
    × (map (λ s. waits s) (seats after_three.guests) ≡ true ∷ true ∷ [])
one_at_a_time = (refl, refl, refl, refl)

-- once another is preferred, or none is, that one is granted next, by its turn
another_next : map may_each (through (Prefers 0 ∷ Budget 8 ∷ []) after_three ∷ through (Prefers 2 ∷ Budget 8 ∷ []) after_three ∷ through (Budget 8 ∷ []) after_three ∷ [])
    ≡ (true ∷ false ∷ []) ∷ (true ∷ false ∷ []) ∷ (false ∷ true ∷ []) ∷ []
another_next = refl

before_it : IsBefore (seats prefers.guests) 1 0
before_it = record { preferred = omega arith; other = refl; line = omega arith }

not_before_it : (IsBefore (seats prefers.guests) 0 1 → ⊥) × (IsBefore (seats both_ask.guests) 1 0 → ⊥)
not_before_it = (λ b. let e : 0 < 0 = b.preferred in absurd (omega (arith, e)), λ b. let e : 0 < 0 = b.preferred in absurd (omega (arith, e)))

-- nor one that is preferred itself, and none of an earlier line
not_before_others : (IsBefore (seats prefers.guests) 1 1 → ⊥) × (IsBefore (record (newcomer 4) { line = 1; preferred = 1 } ∷ newcomer 4 ∷ []) 0 1 → ⊥)
    × IsBefore (record (newcomer 4) { line = 1; preferred = 1 } ∷ record (newcomer 4) { line = 2 } ∷ []) 0 1
not_before_others = (
  λ b. let e : 1 ≡ 0 = b.other in absurd (omega (arith, e)),
  λ b. let e : 1 ≤ 0 = b.line in absurd (omega (arith, e)),
  record { preferred = omega arith; other = refl; line = omega arith },
)

no_preference : IsNoPreference (EventGrants 0) × (IsNoPreference (EventPrefers 0) → ⊥)
no_preference = (tt, λ p. p)

-- ---- a guest that starts with 3 of its 4 pages in its balloon: it is let in where one frame is free, and keeps that target

abbrev starts : Host
starts = through (Arrives 2 4 3 ∷ Reports 2 ∷ Hears 2 0 ∷ Targets 2 ∷ []) after_shrinks

abbrev started : Host
started = through (Grants 2 ∷ Targets 2 ∷ Limits 2 ∷ Confirms 2 ∷ Sends 2 ∷ Obeys 2 1 ∷ []) starts

starts_small : (lends_each starts ≡ 3 ∷ 2 ∷ 0 ∷ []) × (map (λ s. asked s) (seats starts.guests) ≡ 0 ∷ 0 ∷ 1 ∷ []) × (lends_each started ≡ 3 ∷ 2 ∷ 1 ∷ [])
    × (uses started ≡ 3 ∷ 2 ∷ 1 ∷ []) × (map (λ s. s.target) (seats started.guests) ≡ 2 ∷ 1 ∷ 3 ∷ [])
starts_small = (refl, refl, refl, refl, refl)

-- ---- the premises: no budget is lowered, and no balloon uncounted

never_lowers : NeverLowers 6 arrives × NeverLowers 6 draws × NeverLowers 6 joins × NeverLowers 6 connects × NeverLowers 6 takes
never_lowers = (tt, tt, tt, tt, (omega arith, (omega arith, tt)))

lowers_it : (NeverLowers 8 (Budget 7 ∷ []) → ⊥) × (NeverLowers 8 (Uncounts 1 ∷ []) → ⊥)
lowers_it = (λ l. let e : 8 ≤ 7 = l.0 in absurd (omega (arith, e)), λ l. l)

ordinary : AllByRecursion IsOrdinary (Overdraws 0 ∷ Targets 0 ∷ Joins 1 2 ∷ Forgets ∷ TakesOver 0 ∷ []) × AllByRecursion PaysBack (Grants 0 ∷ Targets 0 ∷ Forgets ∷ [])
ordinary = ((tt, (tt, (tt, (tt, (tt, tt))))), (tt, (tt, (tt, tt))))

not_ordinary : (IsOrdinary (Budget 9) → ⊥) × (IsOrdinary (Uncounts 0) → ⊥) × (PaysBack (Overdraws 0) → ⊥) × (PaysBack (Budget 9) → ⊥) × (PaysBack (Uncounts 0) → ⊥)
not_ordinary = (λ l. l, λ l. l, λ l. l, λ l. l, λ l. l)

-- ---- the second guest isn't strict: it uses all its pages, and says that they are in its balloon; the first is lent no more than there is

abbrev lying : Process
lying = record { pages = 4; balloon = 0; target = 9; read_target = 9; held = 0; line = 0; target_number = 0; deflates = 9; removed = 0; outside = 0 }

abbrev deviates : Host
deviates = through (Deviates 1 lying (snapshot (record lying { balloon = 4 }) ∷ []) ∷ Hears 1 0 ∷ []) after_lacks

deviates_alone : (all_used deviates ≡ 2) × (all_lent deviates ≡ 2) × (lends_each deviates ≡ 2 ∷ 4 ∷ 0 ∷ []) × (map (λ g. g.strict) deviates.guests ≡ true ∷ false ∷ true ∷ [])
deviates_alone = (refl, refl, refl, refl)

-- what memory of a guest that isn't strict joins isn't either
joins_deviating : map (λ g. g.strict) (through (Deviates 2 lying [] ∷ Joins 1 2 ∷ []) after_shrinks).guests ≡ true ∷ false ∷ true ∷ []
joins_deviating = refl

-- ---- a deflate toward a target, and one that goes deeper

abbrev first : Host → Guest
first h = get_or h.guests 0 (arriving 0 0)

toward : IsTowardTarget (first after_takes)
toward = record { holds = omega arith; waits = omega arith; no_deeper = omega arith }

granted_toward : (heard 9 (snapshot (first after_takes).process) (first after_takes).seat).granted ≡ 4
granted_toward = refl

deeper : IsTowardTarget (first after_lacks) → ⊥
deeper t = let e : 3 ≤ 2 = t.no_deeper in absurd (omega (arith, e))

-- ---- who comes after whom: the second, which arrives, waits in the asks; the first doesn't

after_it : IsAfter (seats after_asks.guests) 1 0
after_it w = absurd (omega (arith, w))

-- of two that wait at one turn in one line, the one at the higher place
abbrev both : List Seat
both = record (newcomer 4) { held = 4; line = 2; turn = 5 } ∷ record (newcomer 4) { held = 4; line = 2; turn = 5 } ∷ record (newcomer 4) { held = 4; turn = 6 } ∷ []

after_both : IsAfter both 0 1 × IsAfter both 2 0
after_both = (λ _. inr (refl, omega arith), λ _. inl (omega arith))

not_after_both : (IsAfter both 1 0 → ⊥) × (IsAfter both 0 2 → ⊥)
not_after_both = (λ a. not_less _ (a (omega arith)), λ a. not_before _ (omega arith) (a (omega arith))) where
  not_less : (r : ℕ) → (r < r) ⊎ ((r ≡ r) × (1 < 0)) → ⊥
  not_less r e = elim e [
    | inl less ↦ omega (arith, less)
    | inr same ↦ omega (arith, same.1)
  ]

  not_before : (r : ℕ) → 7 < r → (r < 7) ⊎ ((r ≡ 7) × (0 < 2)) → ⊥
  not_before r l e = elim e [
    | inl less ↦ omega (arith, l, less)
    | inr same ↦ omega (arith, l, same.0)
  ]

no_loan : IsNoLoan 0 (EventWants 0 3) × IsNoLoan 0 (EventUncounts 1) × IsNoLoan 0 (EventJoins 1 0)
no_loan = (tt, λ e. absurd (omega (arith, e)), λ e. absurd (omega (arith, e)))

a_loan : (IsNoLoan 0 (EventGrants 1) → ⊥) × (IsNoLoan 0 (EventOverdraws 1) → ⊥) × (IsNoLoan 0 (EventTargets 1) → ⊥) × (IsNoLoan 0 (EventUncounts 0) → ⊥) × (IsNoLoan 0 (EventJoins 0 1) → ⊥)
a_loan = (λ l. l, λ l. l, λ l. l, λ l. l refl, λ l. l refl)
