-- All that is served of a guest's queue: a step of the definitions, over its supply of frames.
use Rattle.std.proofs.Common.{◌≡◌, ℕ, ◌≤◌, Bool, true, false, List, [], ◌∷◌, length}
use Rattle.std.proofs.Common.{Option, Some, None, Result, Ok, Err, refl, sym, ◌∙◌, ap, subst, arith}
use Rattle.std.proofs.lemmas.Bool.{MatchBool-at_false, MatchBool-at_true, eqb-true}
use Rattle.std.specs.Prelude.{◌-◌}
use Rattle.std.specs.Prelude.{MatchBool, MatchOption, ◌==◌, is_some, not, ◌||◌}
use Rattle.vb_model.specs.{Device.{ServesBuffer, ServesRequests, TakesBuffer}, Guest.{Guest, requests}}
use Rattle.vb_virtio.specs.FirstRefusal.{◌⇒◌, first_refusal}
use Rattle.vb_virtio.specs.Queues.{Deflating, Inflating, Kind, Reporting_free, Request}
use Rattle.vb_virtio.specs.Queues.{kind_of_queue, has_chains, lacks_feature}
use Rattle.vb_virtio.specs.Status.{has_fault, is_not_ready}
use Rattle.vb_virtio.specs.declared.layout.TheConstants.{STATISTICS_QUEUE}
use Rattle.vb_virtio.specs.declared.limits.TheConstants.{MAX_QUEUE_SIZE}
use Rattle.vb_virtio.specs.declared.refusals.Refusal.{Refusal}
use Rattle.vb_virtio.specs.declared.refusals.Refusal.TheVariants.{Broken, Busy, NeedsReset, NoQueue}
use Rattle.vb_virtio.specs.declared.refusals.Refusal.TheVariants.{NotReady}
use Rattle.vb_model.specs.Orderly.{IsOrderly}
use Rattle.vb_model.specs.Refusals.{refusal_of}
use Rattle.vb_model.specs.Rogue.{RogueStep}
use Rattle.vb_model.specs.Step.{HonestStep}
use Rattle.vb_model.specs.declared.{calls.Call.TheVariants.Serve, calls.Claim.Claim}
use Rattle.vb_model.specs.declared.replies.Reply.TheVariants.{Empty, Refused, Served, Taken}
use Rattle.{vb_driver.specs.State.DriverState, vb_ram.specs.{Pages.Pages, Part.Part}}
use Rattle.vb_guest.proofs.{Closing.{honest_performed, honest_refused}, Moving.{moves_as, moves_then}}
use Rattle.vb_guest.proofs.{Reaching.{ends_so, leaves, more_served, next_of}}
use Rattle.vb_guest.proofs.{Reaching.{same_rogue, then_rest, told}, Standing.by_guest}
use Rattle.vb_guest.specs.declared.served.Served.{Served as ServedChains}
use Rattle.vb_guest.specs.{Replies.served_reply, Stands.Stands, Steps.{Reaches, StepsOver}}
use Rattle.vb_guest.specs.Serving.{HonestNext, NextBy, NextStep, RestBy, RestStep, ServesAllBy}
use Rattle.vb_guest.specs.Serving.{UsesNext, first_served}
use Rattle.vb_guest.specs.Supply.{Supply}

-- ---- over a supply

pub reaches_then : {New Other Step Jump All : Guest → Type 0} {s1 s2 s3 : Supply} {g : Guest}
    (first : Reaches New Step s1 s2 g) → Reaches Other Jump s2 s3 first.new
    → ((new : Guest) → Step first.new → Jump new → All new) → Reaches Other All s1 s3 g
reaches_then first second both = record {
  new = second.new;
  stands = second.stands;
  step = both second.new first.step second.step;
  moves = moves_as (moves_then first.moves second.moves) (λ n. omega arith);
}

pub reaches_as : {New : Guest → Type 0} {Step Jump : Guest → Type 0} {s1 s2 : Supply} {g : Guest}
    → Reaches New Step s1 s2 g → ((new : Guest) → Step new → Jump new) → Reaches New Jump s1 s2 g
reaches_as reach turn = record {
  new = reach.new;
  stands = reach.stands;
  step = turn reach.new reach.step;
  moves = reach.moves;
}

-- a guest's step of a serve
abbrev pub ServeStep : ℕ → Result ServedChains Refusal → Guest → Guest → Type 0
ServeStep q result g new =
    MatchBool g.rogue (RogueStep g (Serve q) [] (served_reply result) new)
    (HonestStep g (Serve q) [] (served_reply result) new)

pub serve_over : {New : Guest → Type 0} {Answers : List Bool → Claim → Type 0} {s1 s2 : Supply}
    {g : Guest} (q : ℕ) (result : Result ServedChains Refusal)
    → Reaches New (ServeStep q result g) s1 s2 g
    → StepsOver New Answers s1 s2 [] g (Serve q) (served_reply result)
serve_over q result reach = record {
  new = reach.new;
  stands = reach.stands;
  step = reach.step;
  answered = tt;
  moves = reach.moves;
}

step_of : (q : ℕ) (result : Result ServedChains Refusal) (g new : Guest)
    → (g.rogue ≡ true → RogueStep g (Serve q) [] (served_reply result) new)
    → (g.rogue ≡ false → HonestStep g (Serve q) [] (served_reply result) new)
    → ServeStep q result g new
step_of q result g new rogue honest = by g.rogue rogue honest where
  by : (b : Bool) → (b ≡ true → RogueStep g (Serve q) [] (served_reply result) new)
      → (b ≡ false → HonestStep g (Serve q) [] (served_reply result) new)
      → MatchBool b (RogueStep g (Serve q) [] (served_reply result) new)
      (HonestStep g (Serve q) [] (served_reply result) new)
  by true r h = r refl
  by false r h = h refl

-- nothing is available
pub serves_none : (q : ℕ) (g new : Guest) → NextStep q (Ok None) g new
    → ServeStep q (Ok (record { chains = 0; broken = None })) g new
serves_none q g new next = step_of q (Ok (record { chains = 0; broken = None })) g new
    (λ e. told q 0 None _ (MatchBool-at_true _ _ e next)) (λ e. let s = MatchBool-at_false _ _ e next in
    honest_performed g (Serve q) [] (Served 0 None) new s.0
    (refl, by (kind_of_queue q) s.1))
  where
    by : (o : Option Kind) → MatchOption o (TakesBuffer g.buffer g Empty new)
        (λ kind. UsesNext kind (requests kind g).posted g None new)
        → MatchOption o (ServesBuffer g.buffer g (Served 0 None) new)
        (λ kind. ServesRequests kind (requests kind g).posted 0 g (Served 0 None) new)
    by None s = (Empty, s, refl)
    by (Some kind) s = ends_so kind (requests kind g).posted 0 g new s

-- it is refused, or its first chain breaks a rule
never_broken : (a b c d e : Bool) (rule : ℕ) → first_refusal ((a ⇒ NoQueue) ∷ (b ⇒ NotReady)
    ∷ (c ⇒ NeedsReset) ∷ (d ⇒ NoQueue) ∷ (e ⇒ Busy) ∷ []) ≡ Some (Broken rule) → ⊥
never_broken a b c d e rule is = grind arith

pub serves_refused : (q : ℕ) (why : Refusal) (g new : Guest) → NextStep q (Err why) g new
    → ServeStep q (first_served (Err why)) g new
serves_refused q (Broken rule) g new next =
    step_of q (Ok (record { chains = 0; broken = Some rule })) g new
    (λ e. MatchBool-at_true _ _ e next) (λ e. absurd (never_broken (not (has_chains q)) (is_not_ready g.status)
    (has_fault g.status) (lacks_feature g.features q) _ rule (MatchBool-at_false _ _ e next).0))
serves_refused q why g new next = step_of q (Err why) g new (λ e. MatchBool-at_true _ _ e next)
    (λ e. let s = MatchBool-at_false _ _ e next in
    subst (λ x. HonestStep g (Serve q) [] (Refused why) x) (sym s.1)
    (honest_refused g (Serve q) why s.0))

-- the buffer of statistics is taken
buffer_step : (h : ℕ) (g new : Guest) → NextStep 2 (Ok (Some h)) g new
    → ServeStep 2 (Ok (record { chains = 1; broken = None })) g new
buffer_step h g new next = step_of 2 (Ok (record { chains = 1; broken = None })) g new
    (λ e. told 2 1 None _ (MatchBool-at_true _ _ e next)) (λ e. let s = MatchBool-at_false _ _ e next in
    honest_performed g (Serve 2) [] (Served 1 None) new s.0 (refl, (Taken h, s.1, refl)))

pub serves_buffer : (q h : ℕ) (g new : Guest) → (q == STATISTICS_QUEUE) ≡ true
    → NextStep q (Ok (Some h)) g new → ServeStep q (Ok (record { chains = 1; broken = None })) g new
serves_buffer q h g new here next =
    let is : q ≡ 2 = eqb-true q 2 here in
    subst (λ n. ServeStep n (Ok (record { chains = 1; broken = None })) g new) (sym is)
    (buffer_step h g new (subst (λ n. NextStep n (Ok (Some h)) g new) is next))

pub first_alone : {m1 mid : Pages} {p1 part : Part} (q h : ℕ) → (q == STATISTICS_QUEUE) ≡ true
    → NextBy q m1 mid p1 part (Ok (Some h))
    → ServesAllBy q m1 mid p1 part (Ok (record { chains = 1; broken = None }))
first_alone {m1} {mid} {p1} {part} q h here next =
    let only : ServedChains = record { chains = 1; broken = None } in
    let answer : Result ServedChains Refusal = Ok only in (
      mid,
      part,
      Ok (Some h),
      next,
      subst (λ b. MatchBool b ((answer ≡ Ok only) × (mid ≡ mid) × (part ≡ part))
          ((served : ServedChains) × (answer ≡ Ok served)
          × RestBy q (MAX_QUEUE_SIZE - 1) 1 mid mid part part served)) (sym here)
          (refl, refl, refl),
    )

pub as_first : {m1 mid m2 : Pages} {p1 part p2 : Part} (q h : ℕ) (served : ServedChains)
    → (q == STATISTICS_QUEUE) ≡ false → NextBy q m1 mid p1 part (Ok (Some h))
    → RestBy q (MAX_QUEUE_SIZE - 1) 1 mid m2 part p2 served
    → ServesAllBy q m1 m2 p1 p2 (Ok served)
as_first {m1} {mid} {m2} {p1} {part} {p2} q h served other next rest =
    let answer : Result ServedChains Refusal = Ok served in (
      mid,
      part,
      Ok (Some h),
      next,
      subst (λ b. MatchBool b ((answer ≡ Ok (record { chains = 1; broken = None }))
          × (m2 ≡ mid) × (p2 ≡ part)) ((s : ServedChains) × (answer ≡ Ok s)
          × RestBy q (MAX_QUEUE_SIZE - 1) 1 mid m2 part p2 s)) (sym other) (served, refl, rest),
    )

-- chains are served
some_kind : (q : ℕ) (g : Guest) → (q == 2) ≡ false → refusal_of g (Serve q) ≡ None
    → (kind : Kind) × (kind_of_queue q ≡ Some kind)
some_kind q g other free = some (kind_of_queue q) (q == 2) other (known (not (has_chains q))
    (is_not_ready g.status) (has_fault g.status) (lacks_feature g.features q) _ free) where
      known : (a b c d e : Bool) → first_refusal ((a ⇒ NoQueue) ∷ (b ⇒ NotReady) ∷ (c ⇒ NeedsReset)
          ∷ (d ⇒ NoQueue) ∷ (e ⇒ Busy) ∷ []) ≡ None → a ≡ false
      known a b c d e none = grind arith

      some : (o : Option Kind) (b : Bool) → b ≡ false → not (is_some o || b) ≡ false
          → (kind : Kind) × (o ≡ Some kind)
      some None true e f = absurd cc
      some None false e f = absurd cc
      some (Some kind) b e f = (kind, refl)

few_posted : (kind : Kind) (g : Guest) → IsOrderly g → length (requests kind g).posted ≤ 255
few_posted Inflating g h = let few = h.inflating.few in omega (arith, few)
few_posted Deflating g h = let few = h.deflating.few in omega (arith, few)
few_posted Reporting_free g h = let few = h.reporting.few in omega (arith, few)

pub serves_more : {keeps : Bool} {m : Pages} {p : Part} {d : DriverState} (q h : ℕ)
    (served : ServedChains) (g mid new : Guest) → (q == 2) ≡ false → Stands keeps m p d mid
    → NextStep q (Ok (Some h)) g mid → RestStep q 1 255 served mid new
    → ServeStep q (Ok served) g new
serves_more q h served g mid new other stands next rest = step_of q (Ok served) g new
    (λ e. MatchBool-at_true _ _ e whole) (λ e. let s = MatchBool-at_false _ _ e next in
    let kind = some_kind q g other s.0 in
    let orderly = by_guest stands (λ x. x.orderly)
    (λ r. absurd (let bad = sym r.rogue ∙ (same_rogue q h g mid s ∙ e) in cc)) in
    honest_performed g (Serve q) [] (Served served.chains served.broken) new s.0 (
      refl,
      as_kind kind.0 kind.1 (more_served q 0 255 h served kind.0 (requests kind.0 g).posted g
          mid new kind.1 s.0 (next_of q kind.0 g (Some h) mid kind.1 s)
          (MatchBool-at_false _ _ (same_rogue q h g mid s ∙ e) rest) (few kind.0 (requests kind.0 g).posted s orderly
          (next_of q kind.0 g (Some h) mid kind.1 s))),
    ))
  where
    whole : RestStep q 0 256 served g new
    whole = then_rest q 0 255 h served g mid new next rest

    few : (kind : Kind) (posted : List Request) → HonestNext q g (Ok (Some h)) mid → IsOrderly mid
        → UsesNext kind posted g (Some h) mid → length posted ≤ 256
    few kind [] s o n = omega arith
    few kind (r ∷ others) s o n = omega (
      arith,
      few_posted kind mid o,
      ap (λ (l : List Request). length l) (leaves kind r others g n.1 mid n.2 n.3).posted,
    )

    as_kind : (kind : Kind) → kind_of_queue q ≡ Some kind
        → ServesRequests kind (requests kind g).posted 0 g (Served served.chains served.broken) new
        → MatchOption (kind_of_queue q)
        (ServesBuffer g.buffer g (Served served.chains served.broken) new)
        (λ k. ServesRequests k (requests k g).posted 0 g (Served served.chains served.broken) new)
    as_kind kind e s = subst (λ o. MatchOption o
        (ServesBuffer g.buffer g (Served served.chains served.broken) new)
        (λ k. ServesRequests k (requests k g).posted 0 g (Served served.chains served.broken) new))
        (sym e) s
