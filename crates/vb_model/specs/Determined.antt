-- How far an honest guest's step is determined by its state, the call, and what the call's claims
-- were given.
use Rattle.std.specs.Prelude.{◌≡◌, List, ◌⊎◌}
use Rattle.vb_model.specs.declared.calls.Call.{Call}
use Rattle.vb_model.specs.declared.calls.Call.TheVariants.{Alloc, Read, Scribble, Inflate}
use Rattle.vb_model.specs.declared.calls.Claim.{Claim}
use Rattle.vb_virtio.specs.declared.refusals.Refusal.{Refusal}
use Rattle.vb_virtio.specs.declared.refusals.Refusal.TheVariants.{NoMemory}
use Rattle.vb_model.specs.declared.replies.Reply.{Reply}
use Rattle.vb_model.specs.declared.replies.Reply.TheVariants.{Refused}
use Rattle.vb_model.specs.Guest.{Guest}
use Rattle.vb_model.specs.Step.{HonestStep}

-- two answers to one call, with the guests that they leave
abbrev pub Agree : Call → Reply → Guest → Reply → Guest → Type 0
-- of an allocation the block is open
Agree (Alloc cpu order) reply new reply' new' =
    (reply ≡ reply' → new ≡ new') × ((refusal : Refusal) → reply ≡ Refused refusal → reply' ≡ reply)
-- of an inflate it is open which free pages the request names
Agree (Inflate n) reply new reply' new' =
    (reply ≡ reply') × (new.inflate ≡ new'.inflate → new ≡ new')
-- a reply that holds a list may find no memory
Agree (Read page offset len) reply new reply' new' =
    (new ≡ new') × ((reply ≡ reply') ⊎ ((reply ≡ Refused NoMemory) ⊎ (reply' ≡ Refused NoMemory)))
-- a scribble leaves a rogue guest
Agree (Scribble page offset bytes) reply new reply' new' =
    (reply ≡ reply') × ((refusal : Refusal) → reply ≡ Refused refusal → new ≡ new')
-- all else is determined
Agree _ reply new reply' new' = (reply ≡ reply') × (new ≡ new')

abbrev pub HonestStepsAgree : Type 0
HonestStepsAgree =
    (g : Guest) (call : Call) (claims : List Claim) (reply : Reply) (new : Guest) (reply' : Reply)
    (new' : Guest)
    → HonestStep g call claims reply new → HonestStep g call claims reply' new'
    → Agree call reply new reply' new'
