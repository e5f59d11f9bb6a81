-- More laws at what they must not leave out: each at a case of it, of any guest that it speaks of.
use Rattle.std.proofs.Common.{List, [], arith, false, inl, inr, refl, true, ℕ, ◌∷◌, ◌≡◌, ◌+◌}
use Rattle.std.specs.Prelude.{Bool, IsFalse, IsTrue, None, Some}
use Rattle.vb_model.proofs.Samples.{plug}
use Rattle.vb_model.specs.{Courses.{Course, IsAt, IsWriteTo, guest_after}, Driver.contents_of}
use Rattle.vb_model.specs.{Driver.AreClaimsFor, Guest.{Guest, frame_of, is_ballooned}}
use Rattle.vb_model.specs.Histories.{BothAgree, IsSafeCourse}
use Rattle.vb_model.specs.HonestRuns.{HonestAreIdleUnlessReady, HonestStay, IsAttentive, IsThere}
use Rattle.vb_model.specs.HonestRuns.{MakesNoScribble}
use Rattle.vb_model.specs.{HostEvents.WorldStep, HostLaws.{CallsLeaveTheHost, HostStepsAgree}}
use Rattle.vb_virtio.specs.Limits.{is_config}
use Rattle.vb_virtio.specs.Tests.{is_in}
use Rattle.vb_virtio.specs.declared.refusals.Refusal.{Refusal}
use Rattle.vb_virtio.specs.declared.refusals.Refusal.TheVariants.{Broken, NoMemory, RingBroken}
use Rattle.vb_model.specs.Requests.{all_requests}
use Rattle.vb_model.specs.Rogue.{GuestStep, pages_to_back}
use Rattle.vb_model.specs.{Run.{History, Run, guest_in}, Safe.IsHonest, Step.HonestStep}
use Rattle.vb_model.specs.SafeLaws.{HonestMeetNoFault, QuietAgree, UsedPagesStay}
use Rattle.vb_model.specs.Sizes.{SmallConfigsAreConfigs}
use Rattle.vb_model.specs.World.{World, guest_at}
use Rattle.vb_model.specs.StepLaws.{ClaimsAreNeeded, IsOfOthers, NeededPagesAreBare}
use Rattle.vb_model.specs.StepLaws.{OthersAreUntouched, RefusalsChangeNothing}
use Rattle.vb_model.specs.StepLaws.{RefusedEventsChangeNothing, WantsChangeNothing}
use Rattle.vb_model.specs.declared.calls.Call.{TheVariants.{Init, Inflate, Reset, Take, Work, Write}}
use Rattle.vb_model.specs.declared.calls.Claim.{Claim}
use Rattle.vb_model.specs.declared.calls.Event.{Event, TheVariants.{Balance, Restart, Unplug}}
use Rattle.vb_model.specs.declared.calls.Event.TheVariants.{Guest as OnGuest, Query as OnQuery}
use Rattle.vb_model.specs.declared.calls.Query.TheVariants.{PagesBallooned, Places}
use Rattle.vb_model.specs.declared.places.Place.TheVariants.{Lent, Used}
use Rattle.vb_model.specs.declared.replies.Reply.{Reply, TheVariants.{Done, Refused}}

-- ---- other guests, rogue or honest: calls, restarts and unpluggings of others leave them, and so
-- does a question about one

abbrev LeavesGuest1 : Event → Type 0
LeavesGuest1 event = (w v : World) (reply : Reply) (g : Guest) → WorldStep w event reply v
    → guest_at w.guests 1 ≡ Some g → guest_at v.guests 1 ≡ Some g

leaves : OthersAreUntouched → (event : Event) → IsOfOthers 1 event
    → ((floor : ℕ) → event ≡ Balance floor → ⊥) → LeavesGuest1 event
leaves law event of none w v reply g s there = elim (law w event reply v 1 g s there of) [
  | inl same ↦ same
  | inr aimed ↦ absurd (none aimed.0 aimed.2)
]

others : IsOfOthers 1 (OnGuest 0 Work) × IsOfOthers 1 (Restart 0) × IsOfOthers 1 (Unplug 2)
    × IsOfOthers 1 (OnQuery 1 Places) × IsOfOthers 1 (Balance 3)
others = grind arith

untouched : OthersAreUntouched → LeavesGuest1 (OnGuest 0 Work) × LeavesGuest1 (Restart 0)
    × LeavesGuest1 (Unplug 2) × LeavesGuest1 (OnQuery 1 Places)
untouched law = (
  leaves law (OnGuest 0 Work) others.0 (λ floor e. cc),
  leaves law (Restart 0) others.1 (λ floor e. cc),
  leaves law (Unplug 2) others.2 (λ floor e. cc),
  leaves law (OnQuery 1 Places) others.3 (λ floor e. cc),
)

-- a balance may set its target, and nothing else of it
but_for_a_target : OthersAreUntouched → (w v : World) (reply : Reply) (g new : Guest)
    → WorldStep w (Balance 3) reply v → guest_at w.guests 1 ≡ Some g → guest_at v.guests 1 ≡ Some new
    → new ≡ record g { target = new.target }
but_for_a_target law w v reply g new s there then_there =
    elim (law w (Balance 3) reply v 1 g s there others.4) [
      | inl same ↦ grind arith
      | inr aimed ↦ grind arith
    ]

-- ---- claims, of a rogue guest too

any_claim : ClaimsAreNeeded → (g : Guest) (claims : List Claim) (reply : Reply) (new : Guest)
    → GuestStep g (Write 17 0 (1 ∷ [])) claims reply new
    → AreClaimsFor (pages_to_back (Write 17 0 (1 ∷ [])) g) claims
any_claim law g claims reply new s = law g (Write 17 0 (1 ∷ [])) claims reply new s

no_claim_for_work : ClaimsAreNeeded → (g : Guest) (claim : Claim) (reply : Reply) (new : Guest)
    → GuestStep g Work (claim ∷ []) reply new → AreClaimsFor (pages_to_back Work g) (claim ∷ [])
no_claim_for_work law g claim reply new s = law g Work (claim ∷ []) reply new s

any_bare_page : NeededPagesAreBare → (g : Guest) (page : ℕ)
    → IsTrue (is_in page (pages_to_back (Init 1) g)) → frame_of g.frames page ≡ None
any_bare_page law g page is = law g (Init 1) page is

-- ---- refusals leave the guest, and the world; so does an allocation failure, and few events have
-- it

any_refusal : RefusalsChangeNothing → (g : Guest) (refusal : Refusal) (new : Guest)
    → HonestStep g (Inflate 1) [] (Refused refusal) new → new ≡ g
any_refusal law g refusal new s = elim (law g (Inflate 1) [] refusal new s) [
  | inl same ↦ same
  | inr failed ↦ (let e = failed.1 in cc)
]

any_refused_event : RefusedEventsChangeNothing → (w v : World) (refusal : Refusal)
    → (WorldStep w (plug 64 8 1) (Refused refusal) v → v ≡ w)
    × (WorldStep w (Balance 9) (Refused refusal) v → v ≡ w)
any_refused_event law w v refusal = (
  (λ s. law w (plug 64 8 1) refusal v (λ n call e. cc) s),
  (λ s. law w (Balance 9) refusal v (λ n call e. cc) s),
)

no_memory_leaves_the_world : WantsChangeNothing → (w v : World)
    → (WorldStep w (plug 64 8 1) (Refused NoMemory) v → v ≡ w)
    × (WorldStep w (OnQuery 1 PagesBallooned) (Refused NoMemory) v → v ≡ w)
no_memory_leaves_the_world law w v = (
  (λ s. (law w (plug 64 8 1) v s).1),
  (λ s. (law w (OnQuery 1 PagesBallooned) v s).1),
)

no_memory_is_no_answer : WantsChangeNothing → (w v : World)
    → (WorldStep w (Unplug 1) (Refused NoMemory) v → ⊥)
    × (WorldStep w (Balance 9) (Refused NoMemory) v → ⊥)
    × (WorldStep w (OnQuery 1 Places) (Refused NoMemory) v → ⊥)
no_memory_is_no_answer law w v = (
  (λ s. (let e : false ≡ true = (law w (Unplug 1) v s).0 in cc)),
  (λ s. (let e : false ≡ true = (law w (Balance 9) v s).0 in cc)),
  (λ s. (let e : false ≡ true = (law w (OnQuery 1 Places) v s).0 in cc)),
)

-- ---- what is determined of the host

one_answer : HostStepsAgree → (w v x : World) (answer : Reply)
    → WorldStep w (Restart 1) Done v → WorldStep w (Restart 1) answer x
    → (answer ≡ Refused NoMemory → ⊥) → (Done ≡ answer) × (v ≡ x)
one_answer law w v x answer s t none =
    law w (Restart 1) Done v answer x s t (λ e. cc) none

the_host_stays : CallsLeaveTheHost → (w v : World) (reply : Reply)
    → WorldStep w (OnGuest 1 (Init 1)) reply v
    → (v.frames ≡ w.frames) × (v.spares ≡ w.spares) × (v.vacated ≡ w.vacated)
the_host_stays law w v reply s = let l = law w 1 (Init 1) reply v s in (l.0, l.1, l.2)

-- ---- honest guests: no fault, agreement, pages that stay, runs

no_fault : HonestMeetNoFault → (w v : World) (g : Guest) → guest_at w.guests 1 ≡ Some g
    → IsFalse g.rogue → (WorldStep w (OnGuest 1 (Take 0)) (Refused (Broken 3)) v → ⊥)
    × (WorldStep w (OnGuest 1 Reset) (Refused RingBroken) v → ⊥)
no_fault law w v g there honest = (
  (λ s. (law w 1 (Take 0) (Refused (Broken 3)) v g 3 s there honest).0 refl),
  (λ s. (law w 1 Reset (Refused RingBroken) v g 0 s there honest).1 refl),
)

both_ways : QuietAgree → (g : Guest) (page : ℕ) → BothAgree g → all_requests g.inflate ≡ []
    → all_requests g.deflate ≡ [] → (IsTrue (is_ballooned g.ballooned page) → IsAt g page Lent)
    × (IsAt g page Lent → IsTrue (is_ballooned g.ballooned page))
both_ways law g page b inflate deflate = let l = law g b inflate deflate page in (l.0, l.1)

any_used_page : UsedPagesStay → (c : Course) (i page : ℕ) (g new : Guest) → IsSafeCourse c
    → guest_after c i ≡ Some g → guest_after c (i + 1) ≡ Some new → IsAt g page Used
    → IsAt new page Used → (IsWriteTo c page i → ⊥) → contents_of new page ≡ contents_of g page
any_used_page law c i page g new s before after is stays none =
    law c s i page g new before after is stays none

stays_honest : HonestStay → (h : History) (spares : List Bool) (n i k : ℕ) (g new : Guest)
    → Run 64 spares h → IsThere h n i k → MakesNoScribble h n i k → IsHonest h n i g
    → guest_in h n (i + k) ≡ Some new → IsFalse new.rogue
stays_honest law h spares n i k g new run there none honest after =
    law 64 spares h run n i k g new there none honest after

any_idle_guest : HonestAreIdleUnlessReady → (h : History) (spares : List Bool) (n i : ℕ) (g : Guest)
    → Run 64 spares h → IsHonest h n i g → IsAttentive g
any_idle_guest law h spares n i g run honest = law 64 spares h run n i g honest

-- ---- small sizes: the largest, and one that isn't a guest's

at_the_ends : SmallConfigsAreConfigs → (is_config 16384 128 4 ≡ true)
    × (is_config 32 8 1 ≡ false) × (is_config 64 1 1 ≡ false) × (is_config 64 96 1 ≡ false)
    × (is_config 64 8 5 ≡ false)
at_the_ends law = (
  law 16384 128 4 refl (omega arith) (omega arith),
  law 32 8 1 refl (omega arith) (omega arith),
  law 64 1 1 refl (omega arith) (omega arith),
  law 64 96 1 refl (omega arith) (omega arith),
  law 64 8 5 refl (omega arith) (omega arith),
)
