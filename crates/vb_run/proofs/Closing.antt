-- From what the locks kept to the report.
use Rattle.std.proofs.Common.{All, Bool, List, None, Some, [], ap, arith, length, map, refl}
use Rattle.std.proofs.Common.{slice_get, subst, suc, sym, true, zero, ℕ, ◌<◌, ◌∙◌, ◌∷◌, ◌≡◌, ◌↔◌}
use Rattle.std.proofs.lemmas.{List.length-map, List.Folds.list_all-append}
use Rattle.std.{proofs.lemmas.Option.slice_get_within, specs.List.list_all}
use Rattle.{vb_model.proofs.Histories.history_is_safe, vb_ram.specs.declared.config.Config.{Config as Sizes}}
use Rattle.vb_model.specs.{Guest.Guest, GuestRun.{Entry, IsHistory}}
use Rattle.vb_model.specs.declared.calls.Actor.TheVariants.{Balancer, Processor}
use Rattle.vb_model.specs.declared.{calls.Call.Call, replies.Reply.Reply}
use Rattle.vb_run.proofs.{Lists.{some_same, take_whole}, Noted.{balancers, replied, scripts_alike}}
use Rattle.vb_run.{proofs.Tended.served, specs.{Entries.{calls_by, entries_by}, Notes.history_of}}
use Rattle.vb_run.specs.Past.{AllEnded, AreHushed, AreScripts, IsKept, IsSame, Past, scripts_in}
use Rattle.vb_run.specs.{Plans.config_of, Services.services}
use Rattle.vb_run.specs.Reports.{AreApart, IsGuestReport, IsPlanned, IsReport, IsRound}
use Rattle.vb_run.specs.Reports.{frames_behind, history_in}
use Rattle.vb_run.specs.Rounds.{Rounded, is_of_round, round_entries, target_entries}
use Rattle.vb_run.specs.declared.{note.Note.Note, plan.{GuestPlan.GuestPlan, Plan.Plan}}
use Rattle.vb_run.specs.declared.report.{GuestReport.GuestReport, Report.Report}

none_some : {Y : Type 0} (y : Y) → None ≡ Some y → ⊥
none_some y h = cc

there : {X Y : Type 0} (xs : List X) (ys : List Y) (i : ℕ) (y : Y) → length xs ≡ length ys
    → slice_get ys i ≡ Some y → (x : X) × (slice_get xs i ≡ Some x)
there [] [] i y l h = absurd (none_some y h)
there [] (b ∷ ys) i y l h = absurd (omega (arith, l))
there (a ∷ xs) [] i y l h = absurd (omega (arith, l))
there (a ∷ xs) (b ∷ ys) zero y l h = (a, refl)
there (a ∷ xs) (b ∷ ys) (suc i) y l h = there xs ys i y (omega (arith, l)) h

few_services : (n : ℕ) (call : Call) → slice_get services n ≡ Some call → n < 9
few_services n call at = slice_get_within services n call at

pub closes : (Is : Guest → Type 0) (own : List ℕ) (p : Past) (floor guest : ℕ) (plan : GuestPlan)
    (paced : Bool) (rounds : List Rounded) (report : GuestReport) (k : IsKept Is own p)
    → IsPlanned floor guest plan paced rounds p → AreHushed p.quiet → AllEnded p.scripts
    → history_of p.guest (scripts_in p.scripts) report.history.items ≡ p.history
    → ((g : Guest) → Is g → report.frames.items ≡ frames_behind g)
    → IsGuestReport floor guest plan paced rounds report
closes Is own p floor guest plan paced rounds report k of_plan quiet ended noted frames =
    let calls = map (λ v. v.items) plan.scripts.items in
    let history : history_in guest plan report ≡ p.history =
    ap (λ (l : List (List Call)). history_of guest l report.history.items)
    (scripts_alike p.scripts plan.scripts.items of_plan.scripts)
    ∙ ap (λ (g : ℕ). history_of g (scripts_in p.scripts) report.history.items)
    (sym of_plan.number) ∙ noted in
    let run : IsHistory (config_of plan.config paced) 0 (history_in guest plan report) k.now =
    rw history (subst (λ (b : Bool). IsHistory (config_of plan.config b) 0 p.history k.now)
    of_plan.pace (subst (λ (s : Sizes). IsHistory (config_of s p.paced) 0 p.history k.now)
    of_plan.sizes k.run)) in
    record {
      last = k.now;
      safe = history_is_safe (config_of plan.config paced) 0 (history_in guest plan report) k.now run;
      made = rw (history, sym of_plan.number, sym of_plan.scripts.0) k.made;
      plays = λ cpu own here.
          let s = there p.scripts plan.scripts.items cpu own of_plan.scripts.0 here in (
            ap (calls_by (Processor guest cpu)) history
                ∙ ap (λ (g : ℕ). calls_by (Processor g cpu) p.history) (sym of_plan.number)
                ∙ k.follows cpu s.0 s.1
                ∙ take_whole s.0.calls s.0.place (ended cpu s.0 s.1)
                ∙ of_plan.scripts.1 cpu s.0 own s.1 here,
            replied guest cpu calls report.history.items,
          );
      balanced = ap (entries_by Balancer) history ∙ of_plan.balanced;
      served = served k.now k.tended
          (λ n call at. k.hushed n call (quiet n (few_services n call at)) at);
      frames = frames k.now k.stands;
    }

-- What is of a plan stays so where the guest is the same, and the balancer's entries are.
pub still_planned : (floor guest : ℕ) (plan : GuestPlan) (paced : Bool) (rounds : List Rounded)
    (old new : Past) → IsSame old new
    → entries_by Balancer new.history ≡ entries_by Balancer old.history
    → IsPlanned floor guest plan paced rounds old → IsPlanned floor guest plan paced rounds new
still_planned floor guest plan paced rounds old new is balanced of_plan = record {
  number = is.guest ∙ of_plan.number;
  sizes = is.sizes ∙ of_plan.sizes;
  pace = is.paced ∙ of_plan.pace;
  scripts = rw is.scripts of_plan.scripts;
  balanced = balanced ∙ of_plan.balanced;
}

-- ---- whether a history is planned: the entries of rounds are found where they are

targets_pass : (guest : ℕ) (answer : Reply) → list_all is_of_round (target_entries guest answer) ≡ true
targets_pass guest answer = grind arith

rounds_pass : (floor guest : ℕ) (rounds : List Rounded)
    → list_all is_of_round (round_entries floor guest rounds) ≡ true
rounds_pass floor guest [] = refl
rounds_pass floor guest (r ∷ rs) = grind (
  arith,
  list_all-append is_of_round (target_entries guest r.answer) (round_entries floor guest rs),
  targets_pass guest r.answer,
  rounds_pass floor guest rs,
)

pub is_planned : (made : Bool) (floor guest : ℕ) (plan : GuestPlan) (paced : Bool)
    (rounds : List Rounded) (expected : List Entry) (scripts : List (List Call))
    (notes : List Note) (p : Past)
    → (p.guest ≡ guest) × (p.paced ≡ paced) × (p.sizes ≡ plan.config)
    → AreScripts p.scripts plan.scripts.items → p.history ≡ history_of p.guest scripts notes
    → expected ≡ round_entries floor guest rounds
    → ((made ≡ true) ↔ ((entries_by Balancer (history_of guest [] notes) ≡ expected)
    × (list_all is_of_round expected ≡ true)))
    → (made ≡ true) ↔ IsPlanned floor guest plan paced rounds p
is_planned made floor guest plan paced rounds expected scripts notes p (is, pace, sizes) of_plan
    noted wanted has =
    let own : entries_by Balancer p.history ≡ entries_by Balancer (history_of guest [] notes) =
    ap (entries_by Balancer) noted ∙ balancers p.guest scripts notes
    ∙ ap (λ (g : ℕ). entries_by Balancer (history_of g [] notes)) is in (
      λ e. record {
        number = is;
        sizes = sizes;
        pace = pace;
        scripts = of_plan;
        balanced = own ∙ (has.0 e).0 ∙ wanted;
      },
      λ planned. has.1 (
        sym own ∙ planned.balanced ∙ sym wanted,
        ap (list_all is_of_round) wanted ∙ rounds_pass floor guest rounds,
      ),
    )

-- what is at a place of a list that was mapped
mapped_at : {X Y : Type 0} (f : X → Y) (xs : List X) (n : ℕ) (y : Y)
    → slice_get (map f xs) n ≡ Some y → (x : X) × (slice_get xs n ≡ Some x) × (f x ≡ y)
mapped_at f [] n y at = absurd (none_some y at)
mapped_at f (x ∷ xs) zero y at = (x, refl, some_same (f x) y at)
mapped_at f (x ∷ xs) (suc n) y at = mapped_at f xs n y at

-- the report of each guest, by the pace of its seat, is that by the pace of its port
pub reported : {S D : Type 0} (seat : S → Bool) (port : D → Bool) (plan : Plan) (report : Report)
    (seats : List S) (ports : List D) (gs : List GuestPlan) (rs ms : List Rounded)
    → gs ≡ plan.guests.items → rs ≡ report.rounds.items → ms ≡ report.rounds.items
    → length report.guests.items ≡ length gs → length ports ≡ length plan.guests.items
    → map seat seats ≡ map port ports
    → ((g : ℕ) (r : GuestReport) (p : GuestPlan) (s : S) → slice_get report.guests.items g ≡ Some r
    → slice_get gs g ≡ Some p → slice_get seats g ≡ Some s
    → IsGuestReport plan.floor g p (seat s) rs r)
    → AreApart report.guests.items → length report.rounds.items ≡ plan.rounds
    → All (IsRound plan) ms → IsReport plan (map port ports) report
reported seat port plan report seats ports gs rs ms e f h len placed alike each apart count all =
    grind (arith, length-map, mapped_at)
