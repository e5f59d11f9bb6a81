-- Which calls claim frames, and what a refusal for lack of frames or memory means.
use Rattle.std.proofs.Common.{Bool, List, [], ap, arith, cond, false, inl, inr, length, refl, sym}
use Rattle.std.proofs.{Common.{true, ℕ, ◌<◌, ◌∙◌, ◌∷◌, ◌≡◌, ◌⊎◌}, lemmas.Bool.{eq-eqb, not-true}}
use Rattle.std.{proofs.lemmas.Bool.{or_left, or_right}, specs.{List.list_all, Prelude.None}}
use Rattle.std.specs.Prelude.{Option, Some, is_none, not, ◌&&◌, ◌==◌, ◌||◌}
use Rattle.std.specs.Prelude.{MatchOption}
use Rattle.vb_model.{proofs.Deeds.served_reply, specs.Device.{ServesBuffer, ServesRequests}}
use Rattle.vb_virtio.specs.Queues.{Kind, kind_of_queue}
use Rattle.vb_virtio.proofs.Tables.{list_all-at}
use Rattle.vb_virtio.specs.Layout.{start_pages}
use Rattle.vb_virtio.specs.FirstRefusal.{Cause, first_refusal}
use Rattle.vb_virtio.specs.Tests.{is_in}
use Rattle.vb_virtio.specs.declared.refusals.Refusal.{Refusal}
use Rattle.vb_virtio.specs.declared.refusals.Refusal.TheVariants.{NoFrame, NoMemory}
use Rattle.vb_model.specs.Guest.{requests}
use Rattle.vb_model.specs.declared.calls.Call.TheVariants.{Serve}
use Rattle.vb_model.proofs.{Cases.{all_filtered, by_kind, match_cases}, Performed.Performed}
use Rattle.vb_model.proofs.Performed.{honest_case}
use Rattle.vb_model.specs.Driver.{AreClaimsFor}
use Rattle.vb_model.specs.{Driver.{claim_refusal, pages_needed}, Guest.{Guest, frame_of}}
use Rattle.vb_model.specs.HostFrames.{Gives}
use Rattle.vb_model.specs.Life.{lacking}
use Rattle.vb_model.specs.Refusals.{causes, refusal_of}
use Rattle.vb_model.specs.Rogue.{GuestStep}
use Rattle.vb_model.specs.Rogue.{after_refused, is_read, pages_to_back, unless_refused}
use Rattle.vb_model.specs.{Step.HonestStep, StepLaws.{ClaimsAreNeeded, NeededPagesAreBare}}
use Rattle.vb_model.specs.StepLaws.{NoFrameIsExact, NoMemoryIsExact, RefusedClaimsAreAnswered}
use Rattle.vb_model.specs.declared.calls.Call.{Call}
use Rattle.vb_model.specs.declared.calls.Call.TheVariants.{Init, Read}
use Rattle.vb_model.specs.declared.calls.{Call.TheVariants.{Scribble, Write}, Claim.Claim}
use Rattle.vb_model.specs.declared.calls.Claim.TheVariants.{Gave, GaveNoFrame, GaveNoMemory}
use Rattle.vb_model.specs.declared.replies.Reply.{Reply, TheVariants.Refused}

-- ---- claims

-- the pages of a call that isn't refused
pub not_refused_pages : (o : Option Refusal) (pages : List ℕ) (claims : List Claim) → o ≡ None
    → AreClaimsFor pages claims → AreClaimsFor (unless_refused o pages) claims
not_refused_pages None pages claims e a = a
not_refused_pages (Some refusal) pages claims e a = absurd cc

pub refused_backs : (call : Call) (g : Guest) (refusal : Refusal) → refusal_of g call ≡ Some refusal
    → pages_to_back call g ≡ []
refused_backs call g refusal e = grind arith

pub claims_needed : ClaimsAreNeeded
claims_needed g call claims reply new s = search arith

-- ---- a claim that is refused is the answer

pub none_refused : (claims : List Claim) (refusal : Refusal) → claims ≡ []
    → claim_refusal claims ≡ Some refusal → ⊥
none_refused claims refusal e r = let none : claim_refusal claims ≡ None = ap claim_refusal e in cc

performs_refused : (call : Call) (g : Guest) (claims : List Claim) (reply : Reply) (new : Guest)
    (refusal : Refusal) → Performed call g claims reply new → claim_refusal claims ≡ Some refusal
    → (reply ≡ Refused refusal) × (new.frames ≡ g.frames)
performs_refused (Init wanted) g claims reply new refusal s r = grind arith
performs_refused (Write page offset bytes) g claims reply new refusal s r = grind arith
performs_refused (Scribble page offset bytes) g claims reply new refusal s r = grind arith
performs_refused call g claims reply new refusal s r = absurd (none_refused claims refusal s.0 r)

pub refused_claims : RefusedClaimsAreAnswered
refused_claims g call claims reply new refusal s r = by_kind g call claims reply new s
    (λ rogue k. grind arith)
    (λ honest p. elim (match_cases (refusal_of g call) (Performed call g claims reply new)
    (λ refusal. (claims ≡ []) × (reply ≡ Refused refusal) × (new ≡ g))
    (honest_case g call claims reply new p)) [
      | inl d ↦ performs_refused call g claims reply new refusal d.1 r
      | inr k ↦ absurd (none_refused claims refusal k.2.0 r)
    ])

-- ---- the pages that get frames had none

bare_page : (o : Option ℕ) → is_none o ≡ true → o ≡ None
bare_page None e = refl
bare_page (Some x) e = absurd cc

lacking_bare : (g : Guest) (page : ℕ) → is_in page (lacking g) ≡ true
    → frame_of g.frames page ≡ None
lacking_bare g page k = bare_page (frame_of g.frames page)
    (list_all-at (λ p. is_none (frame_of g.frames p)) (lacking g) page
    (all_filtered (λ p. is_none (frame_of g.frames p)) (start_pages g.config.queue_size)) k)

needed_bare : (p page : ℕ) (bytes : List ℕ) (g : Guest) → is_in page (pages_needed p bytes g) ≡ true
    → frame_of g.frames page ≡ None
needed_bare p page bytes g k = grind arith

unrefused_page : (o : Option Refusal) (pages : List ℕ) (page : ℕ)
    → is_in page (unless_refused o pages) ≡ true → is_in page pages ≡ true
unrefused_page None pages page k = k
unrefused_page (Some refusal) pages page k = absurd cc

pub needed_pages_bare : NeededPagesAreBare
needed_pages_bare g h1 page k = grind (arith, lacking_bare, unrefused_page, needed_bare)

-- ---- no frame is left

-- the claims that ended without a frame
want : (frames : ℕ) (Out : ℕ → Type 0) (pages : List ℕ) (claims : List Claim)
    → Gives frames Out claims → AreClaimsFor pages claims → claim_refusal claims ≡ Some NoFrame
    → (got : List ℕ) × (length got < length pages)
    × ((x : ℕ) → x < frames → Out x ⊎ (is_in x got ≡ true))
want frames Out [] [] gives a r = absurd cc
want frames Out [] (claim ∷ claims) gives a r = absurd (let e : claim ∷ claims ≡ [] = a in cc)
want frames Out (page ∷ pages) [] gives a r = absurd a
want frames Out (page ∷ pages) (GaveNoMemory ∷ claims) gives a r = absurd cc
want frames Out (page ∷ pages) (GaveNoFrame ∷ claims) gives a r =
    ([], omega arith, λ x l. inl (gives.0 x l))
want frames Out (page ∷ pages) (Gave f ∷ claims) gives a r =
    let more = want frames (λ x. Out x ⊎ (x ≡ f)) pages claims gives.3 a r in
    (f ∷ more.0, omega arith, λ x l. later x more.0 (more.2 x l))
  where
    later : (x : ℕ) (got : List ℕ) → (Out x ⊎ (x ≡ f)) ⊎ (is_in x got ≡ true)
        → Out x ⊎ ((f == x || is_in x got) ≡ true)
    later x got (inl (inl o)) = inl o
    later x got (inl (inr e)) = inr (or_left (f == x) (is_in x got) (eq-eqb f x (sym e)))
    later x got (inr k) = inr (or_right (f == x) (is_in x got) k)

-- a reply that is a refusal for lack of a frame, or of memory
abbrev pub is_want : Refusal → Bool
is_want NoFrame = true
is_want NoMemory = true
is_want _ = false

abbrev pub wants : Reply → Bool
wants (Refused refusal) = is_want refusal
wants _ = false

abbrev pub none_wants : List Cause → Bool
none_wants ts = list_all (λ t. not (is_want t.refusal)) ts

-- a refusal of these tests passes what all of theirs pass
pub refused_passes : (passes : Refusal → Bool) (ts : List Cause) (refusal : Refusal)
    → list_all (λ t. passes t.refusal) ts ≡ true → first_refusal ts ≡ Some refusal
    → passes refusal ≡ true
refused_passes passes [] refusal h e = absurd cc
refused_passes passes (t ∷ ts) refusal h e = grind (arith, refused_passes passes ts refusal)

pub refused_otherwise : (ts : List Cause) (refusal : Refusal) → none_wants ts ≡ true
    → first_refusal ts ≡ Some refusal → is_want refusal ≡ false
refused_otherwise ts refusal h e = not-true _ (refused_passes (λ r. not (is_want r)) ts refusal h e)

causes_otherwise : (g : Guest) (call : Call) → none_wants (causes g call) ≡ true
causes_otherwise g call = grind arith

-- the call's claims ended so, and nothing is changed
abbrev Lacks : Refusal → Guest → List Claim → Guest → Type 0
Lacks why g claims new = (claim_refusal claims ≡ Some why) × (new ≡ g)

-- or the bytes of its answer found no memory
abbrev Fails : Refusal → Call → Guest → List Claim → Guest → Type 0
Fails why call g claims new = Lacks why g claims new
    ⊎ ((is_read call ≡ true) × (why ≡ NoMemory) × (new ≡ g))

-- a reply that is no such refusal isn't this one
pub no_want : {A : Type 0} (reply : Reply) (why : Refusal) → wants reply ≡ false
    → is_want why ≡ true → reply ≡ Refused why → A
no_want reply why f w e = absurd (let t : wants reply ≡ true = ap wants e ∙ w in cc)

-- a reply to a serve is that n chains were served
serves_wants : (o : Option Kind) (g : Guest) (reply : Reply) (new : Guest)
    → MatchOption o (ServesBuffer g.buffer g reply new)
    (λ kind. ServesRequests kind (requests kind g).posted 0 g reply new) → wants reply ≡ false
serves_wants None g reply new s = ap wants s.2
serves_wants (Some kind) g reply new s =
    ap wants (served_reply kind (requests kind g).posted 0 g reply new s).1

performs_lack : (call : Call) (g : Guest) (claims : List Claim) (reply : Reply) (new : Guest)
    (why : Refusal) → Performed call g claims reply new → is_want why ≡ true
    → reply ≡ Refused why → Fails why call g claims new
performs_lack (Serve q) g claims reply new why s w e =
    no_want reply why (serves_wants (kind_of_queue q) g reply new s.1) w e
performs_lack call g claims reply new why s w e = search arith

-- an honest guest's reply that is such a refusal
honest_lack : (g : Guest) (call : Call) (claims : List Claim) (why : Refusal) (new : Guest)
    → HonestStep g call claims (Refused why) new → is_want why ≡ true → Fails why call g claims new
honest_lack g call claims why new s w =
    elim (match_cases (refusal_of g call) (Performed call g claims (Refused why) new)
    (λ refusal. (claims ≡ []) × (Refused why ≡ Refused refusal) × (new ≡ g))
    (honest_case g call claims (Refused why) new s)) [
      | inl d ↦ performs_lack call g claims (Refused why) new why d.1 w refl
      | inr r ↦ no_want (Refused r.0) why
          (refused_otherwise (causes g call) r.0 (causes_otherwise g call) r.1) w (sym r.2.1)
    ]

-- the call's claims ended without a frame
step_lacks : (g : Guest) (call : Call) (claims : List Claim) (new : Guest)
    → GuestStep g call claims (Refused NoFrame) new → claim_refusal claims ≡ Some NoFrame
step_lacks g call claims new s = by_kind g call claims (Refused NoFrame) new s
    (λ rogue r. r.no_frame refl)
    (λ honest p. elim (honest_lack g call claims NoFrame new p refl) [
      | inl lacks ↦ lacks.0
      | inr read ↦ absurd (let e : NoFrame ≡ NoMemory = read.1 in cc)
    ])

pub no_frame_exact : NoFrameIsExact
no_frame_exact w v n call g here s = grind (arith, step_lacks, claims_needed, want)

-- ---- no memory is left

pub unsupplied : (idle : Bool) (o : Option Refusal) (why : Refusal) (old new : Guest)
    → o ≡ Some why → cond (idle && is_none o) new old ≡ old
unsupplied idle o why old new e = grind arith

pub no_memory_exact : NoMemoryIsExact
no_memory_exact g call claims new s = by_kind g call claims (Refused NoMemory) new s
    (λ rogue r. let by_cause = caused (r.no_memory refl) in
    (by_cause, r.refused NoMemory refl ∙ left call by_cause))
    (λ honest p. elim (honest_lack g call claims NoMemory new p refl) [
      | inl lacks ↦ (inl lacks.0, lacks.1)
      | inr read ↦ (inr read.0, read.2)
    ])
  where
    left : (c : Call) → (claim_refusal claims ≡ Some NoMemory) ⊎ (is_read c ≡ true)
        → after_refused c NoMemory claims g ≡ g
    left (Init wanted) (inl e) = unsupplied (g.status == 0) (claim_refusal claims) NoMemory g _ e
    left (Init wanted) (inr e) = absurd cc
    left c e = refl

    caused : (claim_refusal claims ≡ Some NoMemory)
        ⊎ ((page : ℕ) × (offset : ℕ) × (len : ℕ) × (call ≡ Read page offset len))
        → (claim_refusal claims ≡ Some NoMemory) ⊎ (is_read call ≡ true)
    caused (inl e) = inl e
    caused (inr (page, offset, len, is)) = inr (ap is_read is)
