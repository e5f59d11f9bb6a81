-- Two steps of an honest guest by one call, with the same claims, agree.
use Rattle.std.proofs.Common.{List, [], ap, arith, inl, inr, sym, ℕ, ◌++◌, ◌<◌, ◌∙◌, ◌∷◌, ◌≡◌}
use Rattle.std.{proofs.lemmas.Bool.cases_lt, specs.Prelude.{MatchOption, None, Option, Some}}
use Rattle.std.specs.Prelude.{if◌then◌else◌}
use Rattle.std.proofs.Common.{◌+◌, subst}
use Rattle.vb_model.specs.Device.{ServesBuffer, ServesRequests, taken_chains}
use Rattle.vb_model.specs.declared.{calls.Call.TheVariants.Serve, replies.Reply.TheVariants.Finished}
use Rattle.vb_model.specs.declared.replies.Reply.TheVariants.{Served}
use Rattle.vb_model.proofs.{Cases.supplied, Performed.{Performed, honest_case}}
use Rattle.vb_model.specs.{Determined.Agree, Device.{Finishes, ReturnsBuffer, TakesBuffer}}
use Rattle.vb_model.specs.{Device.{TakesRequest, Works, next_page}, Driver.{Fills, Posts, Reaps}}
use Rattle.vb_model.specs.Driver.{Written, after_posting, claim_refusal, pages_needed}
use Rattle.vb_model.specs.{Driver.stranded_first, Guest.{Guest, requests}, Life.Negotiates}
use Rattle.vb_virtio.specs.Status.{feature_refusal}
use Rattle.vb_virtio.specs.Queues.{Deflating, Inflating, Kind, Reporting_free, Request}
use Rattle.vb_virtio.specs.Queues.{kind_of_queue}
use Rattle.vb_virtio.specs.declared.refusals.Refusal.{Refusal}
use Rattle.vb_model.specs.Life.{lacking}
use Rattle.vb_model.specs.Refusals.{deflate_count, inflate_count}
use Rattle.vb_model.specs.Refusals.{oom_count, refusal_of}
use Rattle.vb_model.specs.Requests.{BufferTaken}
use Rattle.vb_model.specs.Requests.{IsLeastHead, NoBuffer}
use Rattle.vb_model.specs.Requests.{Requests, StatisticsBuffer, all_requests, headed}
use Rattle.vb_model.specs.{Rogue.Scribbled, Step.HonestStep, declared.calls.Call.Call}
use Rattle.vb_model.specs.declared.calls.Call.TheVariants.{Alloc, Ask, Deflate, Finish, Free}
use Rattle.vb_model.specs.declared.calls.Call.TheVariants.{Inflate, Init, Oom, Read, Reap, Report}
use Rattle.vb_model.specs.declared.calls.Call.TheVariants.{Reset, Scribble, SetTarget, Stats, Sweep}
use Rattle.vb_model.specs.declared.calls.{Call.TheVariants.{Take, Work, Write}, Claim.Claim}
use Rattle.vb_model.specs.declared.replies.Reply.{Reply}
use Rattle.vb_model.specs.declared.replies.Reply.TheVariants.{Posted}
use Rattle.vb_model.specs.declared.replies.Reply.TheVariants.{Refused}

-- ---- two choices of one case

abbrev Same : Reply → Guest → Reply → Guest → Type 0
Same r new r' new' = (r ≡ r') × (new ≡ new')

-- one reply and one guest alone
abbrev Fixed : (Reply → Guest → Type 0) → Type 0
Fixed P = (r r' : Reply) (new new' : Guest) → P r new → P r' new' → Same r new r' new'

fixed : (answer : Reply) (left : Guest) → Fixed (λ r new. (r ≡ answer) × (new ≡ left))
fixed answer left r r' new new' s t = (s.0 ∙ sym t.0, s.1 ∙ sym t.1)

by_case : {X : Type 0} (o : Option X) (P : Reply → Guest → Type 0)
    (Q : X → Reply → Guest → Type 0) → Fixed P → ((x : X) → Fixed (Q x))
    → Fixed (λ r new. MatchOption o (P r new) (λ x. Q x r new))
by_case None P Q p q r r' new new' s t = p r r' new new' s t
by_case (Some x) P Q p q r r' new new' s t = q x r r' new new' s t

same_case : {X : Type 0} (o : Option X) (P P' : Type 0) (Q Q' : X → Type 0) (R : Type 0)
    → MatchOption o P Q → MatchOption o P' Q' → (P → P' → R) → ((x : X) → Q x → Q' x → R) → R
same_case None P P' Q Q' R s t none some = none s t
same_case (Some x) P P' Q Q' R s t none some = some x s t

-- ---- heads and pages of a new request

pub least_same : (rs : Requests) (a b : ℕ) → IsLeastHead rs a → IsLeastHead rs b → a ≡ b
least_same rs a b p q = elim (cases_lt a b) [
  | inl l ↦ let some : 0 < headed a (all_requests rs) = q.least a l in absurd (omega arith)
  | inr ge ↦ elim (cases_lt b a) [
    | inl l ↦ let some : 0 < headed b (all_requests rs) = p.least b l in absurd (omega arith)
    | inr le ↦ omega arith
  ]
]

same_last : (rs : List Request) (a b : Request) → rs ++ (a ∷ []) ≡ rs ++ (b ∷ []) → a ≡ b
same_last [] a b e = cc
same_last (r ∷ rs) a b e = same_last rs a b (let t : rs ++ (a ∷ []) ≡ rs ++ (b ∷ []) = cc in t)

same_named : (head : ℕ) (a b : List ℕ) (g new new' : Guest) → new ≡ after_posting Inflating head a g
    → new' ≡ after_posting Inflating head b g → new.inflate ≡ new'.inflate → new ≡ new'
same_named head a b g new new' e e' same = grind (arith, same_last)

-- ---- the parts of steps

fills : (buffer : StatisticsBuffer) (g : Guest) → Fixed (Fills buffer g)
fills NoBuffer g = fixed _ _
fills b g = fixed _ _

takes_buffer : (buffer : StatisticsBuffer) (g : Guest) → Fixed (TakesBuffer buffer g)
takes_buffer NoBuffer g = fixed _ _
takes_buffer b g = fixed _ _

returns_buffer : (buffer : StatisticsBuffer) (g : Guest) → Fixed (ReturnsBuffer buffer g)
returns_buffer (BufferTaken f) g = fixed _ _
returns_buffer b g = λ r r' new new' s t. absurd s

reaps : (kind : Kind) (done : List Request) (g : Guest) → Fixed (Reaps kind done g)
reaps kind [] g = fixed _ _
reaps kind (x ∷ rest) g = fixed _ _

takes : (kind : Kind) (posted : List Request) (g : Guest) → Fixed (TakesRequest kind posted g)
takes kind [] g = fixed _ _
takes kind (x ∷ rest) g = fixed _ _

finishes : (kind : Kind) (i : ℕ) (g : Guest) → Fixed (Finishes kind i g)
finishes kind i g r r' new new' s t = grind arith

serves : (kind : Kind) (posted : List Request) (chains : ℕ) (g : Guest)
    → Fixed (ServesRequests kind posted chains g)
serves kind [] chains g r r' new new' s t = fixed _ _ r r' new new' s t
serves kind (x ∷ rest) chains g r r' new new' s t =
    let first : s.0 ≡ t.0 = (takes kind (x ∷ rest) g _ _ s.0 t.0 s.2 t.2).1 in
    let same = subst (λ (y : Guest). Finishes kind 0 y (Finished x.head) s.1) first s.3 in
    let next : s.1 ≡ t.1 = (finishes kind 0 t.0 _ _ s.1 t.1 same t.3).1 in
    serves kind rest (chains + 1) t.1 r r' new new'
    (subst (λ (y : Guest). ServesRequests kind rest (chains + 1) y r new) next s.4) t.4

serves_buffer : (buffer : StatisticsBuffer) (g : Guest) → Fixed (ServesBuffer buffer g)
serves_buffer buffer g r r' new new' s t =
    let same = takes_buffer buffer g s.0 t.0 new new' s.1 t.1 in
    (s.2 ∙ (ap (λ (took : Reply). Served (taken_chains took) None) same.0 ∙ sym t.2), same.1)

posts : (kind : Kind) (pages : List ℕ) (count : ℕ) (g : Guest) → Fixed (Posts kind pages count g)
posts kind pages count g r r' new new' s t =
    grind (arith, least_same (requests kind g) s.0 t.0 s.1 t.1)

works : (g : Guest) → Fixed (Works g)
works g = by_case (if g.config.paced then next_page g.inflate.taken else None) _ _
    (by_case (if g.config.paced then next_page g.report.taken else None) _ _ (fixed _ _)
    (λ page. fixed _ _)) (λ page. fixed _ _)

negotiates : (o : Option Refusal) (wanted : ℕ) (g : Guest) → Fixed (Negotiates o wanted g)
negotiates None wanted g = fixed _ _
negotiates (Some refusal) wanted g = fixed _ _

-- the claims are the same, so both are given or both are refused
supplies : (g : Guest) (claims : List Claim) (P : Reply → Guest → Type 0) → Fixed P
    → Fixed (λ r new. MatchOption (claim_refusal claims) (P r new)
    (λ refusal. (r ≡ Refused refusal) × (new ≡ g)))
supplies g claims P p = by_case (claim_refusal claims) P _ p (λ refusal. fixed _ _)

-- ---- one call

performs_agree : (call : Call) (g : Guest) (claims : List Claim) (r : Reply) (new : Guest)
    (r' : Reply) (new' : Guest) → Performed call g claims r new → Performed call g claims r' new'
    → Agree call r new r' new'
performs_agree (SetTarget n) g claims r new r' new' s t = fixed _ _ r r' new new' s.1 t.1
performs_agree Reset g claims r new r' new' s t = fixed _ _ r r' new new' s.1 t.1
performs_agree (Free cpu start order) g claims r new r' new' s t =
    fixed _ _ r r' new new' s.1 t.1
performs_agree (Sweep page) g claims r new r' new' s t = fixed _ _ r r' new new' s.1 t.1
performs_agree (Read page offset len) g claims r new r' new' s t = grind arith
performs_agree (Alloc cpu order) g claims r new r' new' s t = grind arith
performs_agree (Inflate n) g claims r new r' new' s t =
    let head : s.1.4.0 ≡ t.1.4.0 = least_same g.inflate s.1.4.0 t.1.4.0 s.1.4.1 t.1.4.1 in (
      s.1.4.2 ∙ (ap (λ (h : ℕ). Posted h (inflate_count g n)) head ∙ sym t.1.4.2),
      λ e. same_named t.1.4.0 (stranded_first g n ++ s.1.0) (stranded_first g n ++ t.1.0) g new new'
          (s.1.4.3 ∙ ap (λ (h : ℕ). after_posting Inflating h (stranded_first g n ++ s.1.0) g) head) t.1.4.3 e,
    )
performs_agree (Deflate n) g claims r new r' new' s t =
    posts Deflating _ (deflate_count g n) g r r' new new' s.1 t.1
performs_agree (Oom n) g claims r new r' new' s t =
    posts Deflating _ (oom_count g n) g r r' new new' s.1 t.1
performs_agree (Report from) g claims r new r' new' s t =
    posts Reporting_free _ _ g r r' new new' s.1 t.1
performs_agree Stats g claims r new r' new' s t = fills g.buffer g r r' new new' s.1 t.1
performs_agree Ask g claims r new r' new' s t = returns_buffer g.buffer g r r' new new' s.1 t.1
performs_agree (Reap q) g claims r new r' new' s t =
    by_case (kind_of_queue q) (λ r new. ⊥) (λ kind. Reaps kind (requests kind g).done g)
    (λ r r' new new' s t. absurd s) (λ kind. reaps kind (requests kind g).done g) r r' new new' s.1
    t.1
performs_agree (Take q) g claims r new r' new' s t = by_case (kind_of_queue q)
    (TakesBuffer g.buffer g) (λ kind. TakesRequest kind (requests kind g).posted g)
    (takes_buffer g.buffer g) (λ kind. takes kind (requests kind g).posted g) r r' new new' s.1 t.1
performs_agree (Serve q) g claims r new r' new' s t = by_case (kind_of_queue q)
    (ServesBuffer g.buffer g) (λ kind. ServesRequests kind (requests kind g).posted 0 g)
    (serves_buffer g.buffer g) (λ kind. serves kind (requests kind g).posted 0 g) r r' new new' s.1
    t.1
performs_agree Work g claims r new r' new' s t = works g r r' new new' s.1 t.1
performs_agree (Finish q i) g claims r new r' new' s t =
    by_case (kind_of_queue q) (λ r new. ⊥) (λ kind. Finishes kind i g)
    (λ r r' new new' s t. absurd s) (λ kind. finishes kind i g) r r' new new' s.1 t.1
performs_agree (Init wanted) g claims r new r' new' s t =
    supplies g claims (Negotiates (feature_refusal wanted) wanted (supplied (lacking g) claims g))
    (negotiates (feature_refusal wanted) wanted _) r r' new new' s.1 t.1
performs_agree (Write page offset bytes) g claims r new r' new' s t =
    supplies g claims (Written page offset bytes (supplied (pages_needed page bytes g) claims g))
    (fixed _ _) r r' new new' s.1 t.1
performs_agree (Scribble page offset bytes) g claims r new r' new' s t =
    same_case (claim_refusal claims) (Scribbled m r new) (Scribbled m r' new')
    (λ refusal. (r ≡ Refused refusal) × (new ≡ g)) (λ refusal. (r' ≡ Refused refusal) × (new' ≡ g))
    (Agree (Scribble page offset bytes) r new r' new') s.1 t.1
    (λ s t. (s.answered ∙ sym t.answered, λ refusal e. absurd cc))
    (λ refusal s t. (s.0 ∙ sym t.0, λ refusal e. s.1 ∙ sym t.1))
  where
    m : Guest
    m = supplied (pages_needed page bytes g) claims g

-- a refusal is the same, and both leave the guest as it was
refused_agree : (call : Call) (g : Guest) (refusal : Refusal) (r : Reply) (new : Guest) (r' : Reply)
    (new' : Guest) → r ≡ Refused refusal → new ≡ g → r' ≡ Refused refusal → new' ≡ g
    → Agree call r new r' new'
refused_agree call g refusal r new r' new' a b c d = grind arith

pub honest_agree : (g : Guest) (call : Call) (claims : List Claim) (r : Reply) (new : Guest)
    (r' : Reply) (new' : Guest) → HonestStep g call claims r new → HonestStep g call claims r' new'
    → Agree call r new r' new'
honest_agree g call claims r new r' new' s t = same_case (refusal_of g call)
    (Performed call g claims r new) (Performed call g claims r' new') (λ refusal. (claims ≡ [])
    × (r ≡ Refused refusal) × (new ≡ g)) (λ refusal. (claims ≡ []) × (r' ≡ Refused refusal)
    × (new' ≡ g)) (Agree call r new r' new') (honest_case g call claims r new s)
    (honest_case g call claims r' new' t) (λ s t. performs_agree call g claims r new r' new' s t)
    (λ refusal s t. refused_agree call g refusal r new r' new' s.1 s.2 t.1 t.2)
