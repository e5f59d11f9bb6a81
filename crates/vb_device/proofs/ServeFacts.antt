-- What a device that serves the next chain of a queue is refused for, and what it leaves.
use Rattle.std.proofs.Common.{◌≡◌, ◌∙◌, ℕ, true, false, List, [], ◌∷◌, refl, sym, subst, map}
use Rattle.std.specs.Prelude.{Option, Some, None, Result, Ok, Err}
use Rattle.vb_virtio.specs.Queues.{Request}
use Rattle.vb_virtio.specs.declared.refusals.Refusal.{Refusal}
use Rattle.vb_virtio.specs.declared.refusals.Refusal.TheVariants.{Broken, Busy, NeedsReset, NoQueue}
use Rattle.vb_virtio.specs.declared.refusals.Refusal.TheVariants.{NotReady, NotTaken, NotWorked}
use Rattle.vb_ram.{specs.Pages.{Pages}, specs.Part.{Part}}
use Rattle.vb_device.specs.Calls.{FollowsTake, ServesBy, Uses, UsesFirst}
use Rattle.vb_device.specs.Conditions.{finish_refusal, serve_refusal, use_refusal}
use Rattle.vb_device.proofs.CallFacts.{asked, mem, busy}
use Rattle.vb_device.proofs.TakeFacts.{at, broken, names, zeros, with_request, request, no_more}
use Rattle.vb_device.proofs.TakeFacts.{index_that_jumped}

-- ---- refusals: pages need a visit first only where visits are asked for, and not those of a deflate

uses_refused : use_refusal true 0 0 busy ∷ use_refusal true 0 1 busy ∷ use_refusal false 0 1 busy
    ∷ use_refusal true 4 0 busy ∷ use_refusal false 4 0 busy ∷ use_refusal false 0 2 busy
    ∷ use_refusal false 2 0 busy ∷ use_refusal false 0 0 (broken busy) ∷ []
    ≡ None ∷ Some NotWorked ∷ None ∷ Some NotWorked ∷ None ∷ Some NotTaken ∷ Some NoQueue
    ∷ Some NeedsReset ∷ []
uses_refused = refl

-- a finish asks for visits by the pace
finishes_refused : finish_refusal 0 1 busy ∷ finish_refusal 0 1 (record busy { paced = false }) ∷ []
    ≡ Some NotWorked ∷ None ∷ []
finishes_refused = refl

-- one taken chain of the queue is enough, and the feature and the fault come before it
serves_refused : map (λ q. serve_refusal q busy) (0 ∷ 1 ∷ 2 ∷ 3 ∷ 4 ∷ [])
    ≡ Some Busy ∷ None ∷ Some NoQueue ∷ Some NoQueue ∷ Some NoQueue ∷ []
serves_refused = refl

serves_refused_first : serve_refusal 0 (broken busy) ∷ serve_refusal 3 (broken busy)
    ∷ serve_refusal 0 (record busy { status = 0 }) ∷ serve_refusal 4 (record busy { features = 32 })
    ∷ serve_refusal 1 (record busy { paced = false }) ∷ []
    ≡ Some NeedsReset ∷ Some NoQueue ∷ Some NotReady ∷ Some Busy ∷ None ∷ []
serves_refused_first = refl

-- ---- what is used: the first taken chain, and none of the statistics

uses_the_first : (m2 : Pages) (p2 : Part) → UsesFirst 0 mem m2 busy p2
    → Uses 0 0 (asked 1 (1 ∷ []) 1) mem m2 busy p2 (Ok 1)
uses_the_first m2 p2 (r, at, uses) =
    subst (λ (x : Request). Uses 0 0 x mem m2 busy p2 (Ok x.head))
    (let same : asked 1 (1 ∷ []) 1 ≡ r = cc in sym same) uses

uses_none : (m2 : Pages) (p2 : Part) → UsesFirst 1 mem m2 busy p2 → ⊥
uses_none m2 p2 (r, at, uses) = cc

uses_no_buffer : (m2 : Pages) (p2 : Part) → UsesFirst 2 mem m2 busy p2 → (m2 ≡ mem) × (p2 ≡ busy)
uses_no_buffer m2 p2 none = none

follows : (m2 : Pages) (p2 : Part) (why : Refusal)
    → (FollowsTake 0 mem m2 busy p2 (Ok None) → (m2 ≡ mem) × (p2 ≡ busy))
    × (FollowsTake 0 mem m2 busy p2 (Err why) → (m2 ≡ mem) × (p2 ≡ busy))
    × (FollowsTake 0 mem m2 busy p2 (Ok (Some 9)) → UsesFirst 0 mem m2 busy p2)
follows m2 p2 why = (λ then_so. then_so, λ then_so. then_so, λ then_so. then_so)

-- ---- a serve, by the guest's bytes

-- A serve of queue 0 answers so, and leaves this part, and memory as it was.
abbrev ServesNone : Pages → Part → Result (Option ℕ) Refusal → Part → Type 0
ServesNone m1 p1 answer new = (m2 : Pages) (p2 : Part) (result : Result (Option ℕ) Refusal)
    → ServesBy 0 m1 m2 p1 p2 result → (result ≡ answer) × (p2 ≡ new) × (m2 ≡ m1)

while_one_is_taken : ServesNone mem busy (Err Busy) busy
while_one_is_taken m2 p2 result by = by.refused Busy refl

none_available : ServesNone zeros (at 0) (Ok None) (at 0)
none_available m2 p2 result by =
    let (part, takes, after) = by.serves refl in
    let (answer, left, same) = no_more zeros part result takes in
    let none = subst (λ (x : Result (Option ℕ) Refusal). FollowsTake 0 zeros m2 part p2 x) answer after
    in (answer, none.1 ∙ left, none.0)

one_that_breaks_a_rule : ServesNone zeros (at 60000) (Err (Broken 7)) (broken (at 60000))
one_that_breaks_a_rule m2 p2 result by =
    let (part, takes, after) = by.serves refl in
    let (answer, left, same) = index_that_jumped zeros part result takes in
    let none = subst (λ (x : Result (Option ℕ) Refusal). FollowsTake 0 zeros m2 part p2 x) answer after
    in (answer, none.1 ∙ left, none.0)

-- a request is taken, with no page visited, and used so
abbrev taken_there : Part
taken_there = with_request 0 (17 ∷ 16 ∷ [])

one_request : (m2 : Pages) (p2 : Part) (result : Result (Option ℕ) Refusal)
    → ServesBy 0 names m2 (at 65535) p2 result
    → (result ≡ Ok (Some 0)) × Uses 0 0 (asked 0 (17 ∷ 16 ∷ []) 0) names m2 taken_there p2 (Ok 0)
one_request m2 p2 result by =
    let (part, takes, after) = by.serves refl in
    let (answer, left, same) = request names part result takes in
    let uses : UsesFirst 0 names m2 part p2 =
    subst (λ (x : Result (Option ℕ) Refusal). FollowsTake 0 names m2 part p2 x) answer after in
    let (r, found, used) = subst (λ (p : Part). UsesFirst 0 names m2 p p2) left uses in
    let same_one : asked 0 (17 ∷ 16 ∷ []) 0 ≡ r = cc in
    (answer, subst (λ (x : Request). Uses 0 0 x names m2 taken_there p2 (Ok x.head)) (sym same_one) used)
