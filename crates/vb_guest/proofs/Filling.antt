-- Bytes that are written to a page with no frame, by how the claim of one was answered.
use Rattle.std.specs.Prelude.{◌≡◌, ℕ, ◌<◌, Bool, true, List, [], ◌∷◌, length, None, Result, Ok, Err}
use Rattle.{std.proofs.Common.{sym, subst}, vb_model.specs.{Pages.{place_of, is_used}, Guest.Guest}}
use Rattle.vb_virtio.specs.declared.refusals.Refusal.{Refusal}
use Rattle.vb_model.specs.declared.replies.Reply.TheVariants.{Done, Refused}
use Rattle.vb_model.specs.declared.calls.{Call.{Call, TheVariants.{Write, Scribble}}, Claim.Claim}
use Rattle.vb_model.specs.declared.calls.Claim.TheVariants.{Gave, GaveNoFrame, GaveNoMemory}
use Rattle.vb_ram.specs.{Part.Part, Pages.{Pages, frame_at, Covers, Supplied, Wrote}}
use Rattle.vb_frames.specs.{Out.claim_in, declared.keeper.Refused.Refused as KeeperRefused}
use Rattle.vb_frames.specs.declared.keeper.Refused.TheVariants.{NoFrame, Memory}
use Rattle.{vb_driver.specs.State.DriverState, vb_guest.specs.{Replies.done_reply, Steps.StepsOver}}
use Rattle.vb_guest.specs.{Exact.{FillsBare, FillsBy}, Supply.{Supply, supply_of, IsClaimed}}
use Rattle.vb_guest.{specs.Stands.Stands, proofs.WriteStep.{write_unsupplied, write_supplied}}
use Rattle.vb_guest.proofs.{WriteStep.refusal_of_claim, RogueMemory.write_supplied_rogue}
use Rattle.vb_guest.proofs.{RogueMemory.write_unsupplied_rogue, Standing.over_stands}
use Rattle.vb_guest.proofs.Scribbles.{scribble_supplied, scribble_unsupplied}

-- what a call is where its claim was answered by a frame, and where it was refused
filled : {T : Type 0} {New : Guest → Type 0} {Answers : List Bool → Claim → Type 0} {s1 s2 : Supply}
    {m1 m2 : Pages} {p1 p2 : Part} {g : Guest} {claims : List Claim} {page off : ℕ} {bs : List ℕ}
    {call : Call} {r : Result T Refusal} → FillsBare Answers s1 s2 m1 m2 p1 p2 claims page off bs r
    → ((n : ℕ) (m : Pages) → IsClaimed Answers s1 s2 (Gave n) → Supplied m1 m page n
    → Wrote m m2 page off bs → StepsOver New Answers s1 s2 (Gave n ∷ []) g call Done)
    → ((why : KeeperRefused) → IsClaimed Answers s1 s2 (claim_in (Err why)) → m2 ≡ m1
    → StepsOver New Answers s1 s2 (claim_in (Err why) ∷ []) g call (Refused (refusal_of_claim why)))
    → StepsOver New Answers s1 s2 claims g call (done_reply r)
filled {T} {New}
    {Answers} {s1} {s2} {m1} {m2} {g = g} {page = page} {off} {bs} {call} {r} fills gave none =
    subst (λ (l : List Claim). StepsOver New Answers s1 s2 l g call (done_reply r))
    (sym fills.noted) (by fills.claim r fills.claimed fills.fills) where
      by : (c : Claim) (x : Result T Refusal) → IsClaimed Answers s1 s2 c
          → FillsBy c m1 m2 page off bs x → StepsOver New Answers s1 s2 (c ∷ []) g call (done_reply x)
      by (Gave n) (Ok u) claimed did = gave n did.1.0 claimed did.1.1 did.1.2
      by (Gave n) (Err why) claimed did = (let wrong = did.0 in cc)
      by GaveNoFrame x claimed did =
          subst (λ (y : Result T Refusal). StepsOver New Answers s1 s2 (GaveNoFrame ∷ []) g call
          (done_reply y)) (sym did.0) (none NoFrame claimed did.1)
      by GaveNoMemory x claimed did =
          subst (λ (y : Result T Refusal). StepsOver New Answers s1 s2 (GaveNoMemory ∷ []) g call
          (done_reply y)) (sym did.0) (none Memory claimed did.1)

-- by the driver
pub bare_written : {keeps : Bool} {Answers : List Bool → Claim → Type 0} (out1 out2 : List Bool)
    {m1 m2 : Pages} {p1 p2 : Part} {d : DriverState} {g : Guest} {claims : List Claim}
    {page off : ℕ} {bs : List ℕ} {r : Result (Unit {0}) Refusal} → is_used (place_of d.places page)
    ≡ true → Stands keeps m1 p1 d g → Covers m1 page off (length bs)
    → 0 < length bs → frame_at m1 page ≡ None → FillsBare Answers (supply_of p1 out1)
    (supply_of p2 out2) m1 m2 p1 p2 claims page off bs r → StepsOver (Stands keeps m2 p2 d) Answers
    (supply_of p1 out1) (supply_of p2 out2) claims g (Write page off bs) (done_reply r)
bare_written out1 out2 used stands covers some bare fills =
    filled fills (λ n m claimed supplied wrote. over_stands out1 out2 stands (λ
    honest. write_supplied out1 out2 claimed used honest covers some bare supplied wrote fills.part)
    (λ rogue. write_supplied_rogue out1 out2 claimed used rogue covers some bare supplied wrote
    fills.part)) (λ why claimed same. over_stands out1 out2 stands (λ honest. write_unsupplied out1
    out2 why claimed used honest covers some bare same fills.part) (λ rogue. write_unsupplied_rogue
    out1 out2 why claimed used rogue covers some bare same fills.part))

-- past the driver
pub bare_scribbled : {keeps : Bool} {Answers : List Bool → Claim → Type 0} (out1 out2 : List Bool)
    {m1 m2 : Pages} {p1 p2 : Part} {d : DriverState} {g : Guest} {claims : List Claim}
    {page off : ℕ} {bs : List ℕ} {r : Result (Unit {0}) Refusal} → Stands keeps m1 p1 d g
    → Covers m1 page off (length bs) → 0 < length bs → frame_at m1 page ≡ None
    → FillsBare Answers (supply_of p1 out1) (supply_of p2 out2) m1 m2 p1 p2 claims page off bs r
    → StepsOver (Stands keeps m2 p2 d) Answers
    (supply_of p1 out1) (supply_of p2 out2) claims g (Scribble page off bs) (done_reply r)
bare_scribbled out1 out2 stands covers some bare fills = filled fills
    (λ n m claimed supplied wrote. scribble_supplied
    out1 out2 claimed stands covers some bare supplied wrote fills.part) (λ why
    claimed same. scribble_unsupplied out1 out2 why claimed stands covers some bare same fills.part)
