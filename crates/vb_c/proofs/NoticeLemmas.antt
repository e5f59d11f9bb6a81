-- A notice is read as it was shown.
use Rattle.std.proofs.Common.{◌≡◌, ◌∙◌, ap, refl, arith, ℕ, ◌≤◌, ◌+◌, Bool, true, false, Option, Some, None}
use Rattle.std.{specs.Prelude.{◌==◌, nat_le, if◌then◌else◌}, proofs.lemmas.Bool.Decides.nat_tests}
use Rattle.vb_core.specs.declared.kinds.Kind.{Kind, TheVariants.{Inflate, Deflate, Statistics, Report, Hint}}
use Rattle.vb_core.specs.declared.device.Denial.{Denial}
use Rattle.vb_monitor.specs.declared.{outcome.{HeldChain.HeldChain, Tally.Tally}, step.Phase.Phase}
use Rattle.vb_monitor.specs.declared.step.Phase.TheVariants.{AwaitsIndex, AwaitsEntry}
use Rattle.vb_monitor.specs.declared.step.Phase.TheVariants.{AwaitsDescriptor, AwaitsPart}
use Rattle.vb_monitor.specs.declared.step.Phase.TheVariants.{TellsPages, TellsFigures, TellsId, Discards, Paused}
use Rattle.vb_monitor.specs.declared.step.Phase.TheVariants.{GivesBack, AwaitsFlags, Ended}
use Rattle.vb_monitor.specs.declared.{regions.Spot.Spot, step.Walk.Walk, progress.Progress.Progress}
use Rattle.vb_monitor.specs.declared.room.TheConstants.{MAX_BYTES}
use Rattle.vb_monitor.specs.{Machine.{Fits, waits, may_go_on, row_bytes}, Codes.{why_of, end_rule}}
use Rattle.vb_monitor.specs.Steps.{Step, says_yes, walk_of, place_of, part_of, discarding_of, phase_of}
use Rattle.vb_monitor.proofs.ProgressLemmas.{some_back}
use Rattle.vb_c.specs.{Codes.{kind_of_code, code_of_kind}, Notices.{notice_by, end_code, taken_code}}

-- what goes on has room, and what waits and has room goes on
at_most : (a b : ℕ) → nat_le a b ≡ true → a ≤ b
at_most a b e = grind (arith, nat_tests)

is_most : (a b : ℕ) → a ≤ b → nat_le a b ≡ true
is_most a b e = grind (arith, nat_tests)

pub goes_fits : (p : Phase) → may_go_on p ≡ true → Fits p
goes_fits (AwaitsIndex at) e = tt
goes_fits (AwaitsEntry at) e = tt
goes_fits (AwaitsDescriptor at walk) e = at_most (row_bytes walk) MAX_BYTES e
goes_fits (AwaitsPart at place into len) e = at_most (into + len) MAX_BYTES e
goes_fits (TellsPages place named further) e = absurd (grind arith)
goes_fits (TellsFigures head count) e = absurd (grind arith)
goes_fits (TellsId head id) e = absurd (grind arith)
goes_fits (Discards cut x) e = tt
goes_fits (Paused place) e = tt
goes_fits (GivesBack spots entry) e = tt
goes_fits (AwaitsFlags at why more) e = tt
goes_fits (Ended why interrupt more) e = tt

awaits : (p : Phase) → waits p ≡ true → Fits p → may_go_on p ≡ true
awaits (AwaitsIndex at) e fits = refl
awaits (AwaitsEntry at) e fits = refl
awaits (AwaitsDescriptor at walk) e fits = is_most (row_bytes walk) MAX_BYTES fits
awaits (AwaitsPart at place into len) e fits = is_most (into + len) MAX_BYTES fits
awaits (TellsPages place named further) e fits = absurd (grind arith)
awaits (TellsFigures head count) e fits = absurd (grind arith)
awaits (TellsId head id) e fits = absurd (grind arith)
awaits (Discards cut x) e fits = refl
awaits (Paused place) e fits = refl
awaits (GivesBack spots entry) e fits = absurd (grind arith)
awaits (AwaitsFlags at why more) e fits = refl
awaits (Ended why interrupt more) e fits = refl

-- which notice it is
pub no_step : (k : Option Kind) (b : Bool) (s : Step) → b ≡ false → notice_by k b s ≡ None
no_step None b s e = refl
no_step (Some kind) b s e = ap (λ (x : Bool). notice_by (Some kind) x s) e

pub no_kind : (k : Option Kind) (b : Bool) (s : Step) → k ≡ None → notice_by k b s ≡ None
no_kind k b s e = ap (λ (x : Option Kind). notice_by x b s) e

pub is_notice : (k : Option Kind) (b : Bool) (s : Step) (kind : Kind) → k ≡ Some kind → b ≡ true →
    notice_by k b s ≡ Some (record { kind = kind; step = s })
is_notice k b s kind e f = ap (λ (x : Option Kind). notice_by x b s) e
    ∙ ap (λ (x : Bool). notice_by (Some kind) x s) f

pub kind_back : (kind : Kind) → kind_of_code (code_of_kind (Some kind)) ≡ Some kind
kind_back Inflate = refl
kind_back Deflate = refl
kind_back Statistics = refl
kind_back Report = refl
kind_back Hint = refl

pub shown_is : (k : Option Kind) (kind : Kind) (p q : Phase) (t u : Tally) → k ≡ Some kind → q ≡ p →
    u ≡ t → waits p ≡ true → Fits p →
    notice_by k (may_go_on q) (record { tally = u; phase = q }) ≡
    Some (record { kind = kind; step = record { tally = t; phase = p } })
shown_is k kind p q t u e f g w fits =
    is_notice k (may_go_on q) (record { tally = u; phase = q }) kind e
    (ap (λ (x : Phase). may_go_on x) f ∙ awaits p w fits)
    ∙ (ap (λ (x : Phase). Some (record { kind = kind; step = record { tally = u; phase = x } })) f
    ∙ ap (λ (x : Tally). Some (record { kind = kind; step = record { tally = x; phase = p } })) g)

-- what a notice came to
none_back : (given : Bool) (held : Option HeldChain) →
    why_of (if given then 0 else taken_code held) 0 ≡ None
none_back true held = refl
none_back false (Some head) = refl
none_back false None = refl

pub end_back : (why : Option Denial) (tally : Tally) →
    why_of (end_code why tally) (end_rule why) ≡ why
end_back (Some why) tally = some_back why
end_back None tally = none_back tally.given tally.held

-- how many bytes a row has is no part of it
row_by : (c : Progress) (n m : ℕ) (at : Spot) (walk : Walk)
    (is0 is1 is2 is3 is4 is5 is6 is7 is8 is10 is11 : Bool) →
    (if is0 then Ended (why_of c.code c.rule) (says_yes c.interrupt) (says_yes c.more)
    else if is1 then AwaitsIndex c.at else if is2 then AwaitsEntry c.at
    else if is3 then AwaitsDescriptor c.at (walk_of c) else if is4 then AwaitsPart c.at (place_of c) c.into c.length
    else if is5 then AwaitsFlags c.at (why_of c.code c.rule) (says_yes c.more)
    else if is6 then Discards (part_of c) (discarding_of c)
    else if is7 then TellsPages (place_of c) c.named (says_yes c.flag) else if is8 then TellsFigures c.head c.length
    else if is10 then TellsId c.head c.length else if is11 then Paused (place_of c) else GivesBack c.spots c.entry) ≡ AwaitsDescriptor at walk →
    (if is0 then Ended (why_of c.code c.rule) (says_yes c.interrupt) (says_yes c.more)
    else if is1 then AwaitsIndex c.at else if is2 then AwaitsEntry c.at
    else if is3 then AwaitsDescriptor c.at (walk_of c)
    else if is4 then AwaitsPart c.at (place_of c) m n
    else if is5 then AwaitsFlags c.at (why_of c.code c.rule) (says_yes c.more)
    else if is6 then Discards (part_of c) (discarding_of (record c { length = n; into = m }))
    else if is7 then TellsPages (place_of c) c.named (says_yes c.flag) else if is8 then TellsFigures c.head n
    else if is10 then TellsId c.head n else if is11 then Paused (place_of c) else GivesBack c.spots c.entry) ≡ AwaitsDescriptor at walk
row_by c n m at walk true is1 is2 is3 is4 is5 is6 is7 is8 is10 is11 e = absurd (grind arith)
row_by c n m at walk false true is2 is3 is4 is5 is6 is7 is8 is10 is11 e = absurd (grind arith)
row_by c n m at walk false false true is3 is4 is5 is6 is7 is8 is10 is11 e = absurd (grind arith)
row_by c n m at walk false false false true is4 is5 is6 is7 is8 is10 is11 e = e
row_by c n m at walk false false false false true is5 is6 is7 is8 is10 is11 e = absurd (grind arith)
row_by c n m at walk false false false false false true is6 is7 is8 is10 is11 e = absurd (grind arith)
row_by c n m at walk false false false false false false true is7 is8 is10 is11 e = absurd (grind arith)
row_by c n m at walk false false false false false false false true is8 is10 is11 e = absurd (grind arith)
row_by c n m at walk false false false false false false false false true is10 is11 e = absurd (grind arith)
row_by c n m at walk false false false false false false false false false true is11 e = absurd (grind arith)
row_by c n m at walk false false false false false false false false false false true e = absurd (grind arith)
row_by c n m at walk false false false false false false false false false false false e = absurd (grind arith)

pub row_stays : (c : Progress) (n m : ℕ) (at : Spot) (walk : Walk) →
    phase_of c ≡ AwaitsDescriptor at walk →
    phase_of (record c { length = n; into = m }) ≡ AwaitsDescriptor at walk
unfolding phase_of
row_stays c n m at walk e = row_by c n m at walk (c.phase == 0) (c.phase == 1) (c.phase == 2)
    (c.phase == 3) (c.phase == 4) (c.phase == 5) (c.phase == 6) (c.phase == 7) (c.phase == 8)
    (c.phase == 10) (c.phase == 11) e

pub ruleset going_steps = (no_step, no_kind, is_notice, goes_fits)
