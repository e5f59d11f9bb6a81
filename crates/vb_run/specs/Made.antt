-- Who may have made the entries of a guest's history.
use Rattle.std.specs.Prelude.{◌≡◌, ℕ, ◌<◌, false, List, ◌∷◌, ⊤, All, Contains}
use Rattle.vb_virtio.specs.declared.negotiation.TheConstants.{OFFERED_FEATURES}
use Rattle.vb_model.specs.declared.calls.Actor.TheVariants.{Starter, Processor, Worker, Balancer}
use Rattle.vb_model.specs.declared.calls.Call.TheVariants.{Init}
use Rattle.vb_model.specs.declared.calls.Claim.{Claim}
use Rattle.vb_model.specs.declared.replies.Reply.{Reply}
use Rattle.vb_model.specs.GuestRun.{Entry, Called, Looked}
use Rattle.vb_run.specs.Services.{services, found_nothing}

-- An entry of a guest that was started: a call of one of its processors, a call of its worker that
-- is one of the services and found something to do, or one of the balancer.
abbrev pub IsMade : ℕ → ℕ → Entry → Type 0
IsMade guest processors (Called Starter call claims reply) = ⊥
IsMade guest processors (Called (Processor g cpu) call claims reply) =
    (g ≡ guest) × (cpu < processors)
IsMade guest processors (Called (Worker g) call claims reply) =
    (g ≡ guest) × Contains services call × (found_nothing reply ≡ false)
IsMade guest processors (Called Balancer call claims reply) = ⊤
IsMade guest processors (Looked floor spare) = ⊤

-- The first entry is the starter's initialisation, with the features that a driver wants by itself,
-- and each one after it is an entry of a guest that was started.
abbrev pub AreMade : ℕ → ℕ → List Entry → Type 0
AreMade guest processors entries =
    (claims : List Claim) × (reply : Reply) × (rest : List Entry)
    × (entries ≡ Called Starter (Init OFFERED_FEATURES) claims reply ∷ rest)
    × All (IsMade guest processors) rest
