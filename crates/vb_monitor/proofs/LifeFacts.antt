-- A device's life between rounds of hints, worked out: what the host does, and notices of each kind and chains that are given
-- back, each of which may come; and hints after each of them, of a round that wasn't heard.
use Rattle.std.proofs.Common.{◌≡◌, refl, ap, arith, ℕ, List, [], ◌∷◌, ◌++◌, Some, None, false, true}
use Rattle.std.specs.Prelude.{drop}
use Rattle.vb_core.specs.declared.kinds.Kind.{Kind, TheVariants.{Inflate, Deflate, Statistics, Hint, Report}}
use Rattle.vb_core.specs.declared.{device.{Device.Device, Denial.TheVariants.NotReady}, hints.Round.Round}
use Rattle.vb_core.specs.Hints.{RoundEvent, Begins, Stops, Ends, Resets, Reads, no_round}
use Rattle.vb_monitor.specs.declared.outcome.Outcome.{Outcome}
use Rattle.vb_monitor.specs.{Giving.with_given, Notices.{Serves, fresh}}
use Rattle.vb_monitor.specs.Rounds.{Deed, Comes, Hears, DiscardsHints, Notices, GivesBack, IsLife, AreHeard}
use Rattle.vb_monitor.proofs.Samples.{Same, two, ready, only, budget, given}
use Rattle.vb_monitor.proofs.{AheadFacts.ends, QueueFacts.{used, asked, held_back}}
use Rattle.vb_monitor.proofs.WholeHintFacts.{hints, began_nowhere, unheard}

-- a notice of a queue that may not be used yet, while the device shows a round
abbrev unready : Round → Device
unready r = record ready { status = 11; round = r }

abbrev denied : Outcome
denied = ends (fresh budget) (Some NotReady) false false

looked_at : (r : Round) (kind : Kind) → Serves two kind budget (unready r) (unready r) denied []
looked_at r Inflate = record { nothing = refl; device = refl; outcome = refl }
looked_at r Deflate = record { nothing = refl; device = refl; outcome = refl }
looked_at r Statistics = record { nothing = refl; device = refl; outcome = refl }
looked_at r Hint = record { nothing = refl; device = refl; outcome = refl }
looked_at r Report = record { nothing = refl; device = refl; outcome = refl }

abbrev look : Kind → Round → Deed
look kind r = Notices two kind budget (unready r) (unready r) denied []

abbrev give : Kind → Deed
give kind = GivesBack two kind (record { head = 3; pages = 2 }) (only kind) (used kind) (ends (with_given asked) None true false) given

-- ---- what may come

of_each_kind : (kind : Kind) → IsLife no_round (look kind no_round ∷ give kind ∷ look kind no_round ∷ [])
of_each_kind Inflate = (refl, looked_at no_round Inflate, (refl, held_back Inflate, (refl, looked_at no_round Inflate, tt)))
of_each_kind Deflate = (refl, looked_at no_round Deflate, (refl, held_back Deflate, (refl, looked_at no_round Deflate, tt)))
of_each_kind Statistics = (refl, looked_at no_round Statistics, (refl, held_back Statistics, (refl, looked_at no_round Statistics, tt)))
of_each_kind Hint = (refl, looked_at no_round Hint, (refl, held_back Hint, (refl, looked_at no_round Hint, tt)))
of_each_kind Report = (refl, looked_at no_round Report, (refl, held_back Report, (refl, looked_at no_round Report, tt)))

-- the round that each of the host's calls leaves: 0 is STOP, and 1 DONE
abbrev shows : ℕ → Round
shows word = record { shown = word; last = 5; opened = 0 }

of_each_call : IsLife no_round (Comes (Begins 5) ∷ look Inflate (shows 5) ∷ Comes Ends ∷ look Inflate (shows 1)
    ∷ Comes Stops ∷ look Inflate (shows 0) ∷ Comes (Begins 5) ∷ Comes Resets ∷ look Inflate (shows 0) ∷ [])
of_each_call = (
  refl,
  (
    refl,
    looked_at (shows 5) Inflate,
    (
      refl,
      (
        refl,
        looked_at (shows 1) Inflate,
        (refl, (refl, looked_at (shows 0) Inflate, (refl, (refl, (refl, looked_at (shows 0) Inflate, tt))))),
      ),
    ),
  ),
)

-- ---- hints of a round that wasn't heard, after something else

after_a_notice : AreHeard [] (look Inflate no_round ∷ hints ∷ []) → ⊥
after_a_notice h = unheard h.1

after_a_chain : AreHeard [] (give Inflate ∷ hints ∷ []) → ⊥
after_a_chain h = unheard h.1

began_after : (before rest : List RoundEvent) → Stops ∷ [] ≡ before ++ (Begins 5 ∷ rest) → ⊥
began_after [] rest e = absurd cc
began_after (x ∷ xs) rest e = began_nowhere xs rest (ap (λ (es : List RoundEvent). drop 1 es) e)

after_a_call : AreHeard [] (Comes Stops ∷ hints ∷ []) → ⊥
after_a_call h =
    let of_it = h.0.1.1.1.1.0 (λ e. absurd cc) in
    began_after of_it.before (of_it.unheard ++ (Reads 5 ∷ of_it.since)) of_it.whole

began_after_an_id : (before rest : List RoundEvent) → Reads 5 ∷ [] ≡ before ++ (Begins 5 ∷ rest) → ⊥
began_after_an_id [] rest e = absurd cc
began_after_an_id (x ∷ xs) rest e = began_nowhere xs rest (ap (λ (es : List RoundEvent). drop 1 es) e)

after_an_id : AreHeard [] (Hears 5 ∷ hints ∷ []) → ⊥
after_an_id h =
    let of_it = h.0.1.1.1.1.0 (λ e. absurd cc) in
    began_after_an_id of_it.before (of_it.unheard ++ (Reads 5 ∷ of_it.since)) of_it.whole

-- ---- hints that are discarded between two steps of their notice

abbrev in_round : ℕ → ℕ → ℕ → Device
in_round shown last opened = record ready { round = record { shown = shown; last = last; opened = opened } }

abbrev discards : Device → Deed
discards now = DiscardsHints (in_round 5 5 1) now

while_it_is_open : IsLife no_round (Comes (Begins 5) ∷ Hears 5 ∷ discards (in_round 5 5 1) ∷ Comes Ends ∷ look Inflate (shows 1) ∷ [])
while_it_is_open = (refl, (refl, refl, (refl, (refl, looked_at (shows 1) Inflate, tt))))

once_it_ended : IsLife no_round (Comes (Begins 5) ∷ Hears 5 ∷ Comes Ends ∷ discards (in_round 1 5 0) ∷ []) → ⊥
once_it_ended h = let e : false ≡ true = h.1.1.1 in absurd cc

in_the_next_one : IsLife no_round (Comes (Begins 5) ∷ Hears 5 ∷ Comes (Begins 6) ∷ Hears 6 ∷ discards (in_round 6 6 1) ∷ []) → ⊥
in_the_next_one h = let e : false ≡ true = h.1.1.1 in absurd cc

of_another_round : IsLife no_round (Comes (Begins 5) ∷ Hears 5 ∷ Comes Ends ∷ discards (in_round 5 5 1) ∷ []) → ⊥
of_another_round h = let e : Same 5 1 = ap (λ (r : Round). r.shown) h.1.1.0 in omega arith

discarded_unheard : AreHeard [] (discards (in_round 5 5 1) ∷ []) → ⊥
discarded_unheard h =
    began_nowhere h.0.before (h.0.unheard ++ (Reads 5 ∷ h.0.since)) h.0.whole

after_a_discard : AreHeard [] (discards (in_round 5 5 1) ∷ hints ∷ []) → ⊥
after_a_discard h = unheard h.1
