-- What a guest's worker does as its device, and when there is nothing left to do.
use Rattle.std.specs.Prelude.{◌≡◌, Bool, true, false, List, [], ◌∷◌}
use Rattle.vb_virtio.specs.declared.negotiation.TheConstants.{OFFERED_FEATURES, READY_STATUS}
use Rattle.vb_virtio.specs.declared.layout.TheConstants.{INFLATE_QUEUE, DEFLATE_QUEUE}
use Rattle.vb_virtio.specs.declared.layout.TheConstants.{STATISTICS_QUEUE, REPORT_QUEUE}
use Rattle.vb_model.specs.declared.calls.Call.{Call}
use Rattle.vb_model.specs.declared.calls.Call.TheVariants.{Take, Work, Finish, Ask}
use Rattle.vb_model.specs.declared.calls.Claim.{Claim}
use Rattle.vb_model.specs.declared.replies.Reply.{Reply}
use Rattle.vb_model.specs.declared.replies.Reply.TheVariants.{Empty, Idle, Refused}
use Rattle.vb_model.specs.Requests.{Requests, StatisticsBuffer, NoBuffer, BufferDone}
use Rattle.vb_model.specs.Guest.{Guest}
use Rattle.vb_model.specs.Consistent.{IsConsistent}
use Rattle.vb_model.specs.Orderly.{IsOrderly}
use Rattle.vb_model.specs.HonestRuns.{IsAttentive}
use Rattle.vb_model.specs.Step.{HonestStep}

-- a worker's calls
abbrev pub services : List Call
services =
    Take INFLATE_QUEUE ∷ Take DEFLATE_QUEUE ∷ Take STATISTICS_QUEUE ∷ Take REPORT_QUEUE ∷ Work
    ∷ Finish INFLATE_QUEUE 0 ∷ Finish DEFLATE_QUEUE 0 ∷ Finish REPORT_QUEUE 0 ∷ Ask ∷ []

-- the reply of a call of a worker that changed nothing
abbrev pub found_nothing : Reply → Bool
found_nothing Empty = true
found_nothing Idle = true
found_nothing (Refused refusal) = true
found_nothing _ = false

-- the call finds nothing to do
pub record IsQuiet (g : Guest) (call : Call) : Type 0 where
  pub claims : List Claim
  pub reply : Reply
  pub nothing : found_nothing reply ≡ true
  pub step : HonestStep g call claims reply g

-- nothing of these was made available or taken and not used since
abbrev pub AreServed : Requests → Type 0
AreServed rs = (rs.posted ≡ []) × (rs.taken ≡ [])

abbrev pub is_waiting : StatisticsBuffer → Bool
is_waiting NoBuffer = false
is_waiting (BufferDone figures) = false
is_waiting _ = true

-- no request and no statistics buffer waits for the device
pub record IsServed (g : Guest) : Type 0 where
  pub inflate : AreServed g.inflate
  pub deflate : AreServed g.deflate
  pub report : AreServed g.report
  pub buffer : is_waiting g.buffer ≡ false

-- an honest guest whose driver accepted the features that it accepts by itself, if it is ready
pub record IsTended (g : Guest) : Type 0 where
  pub honest : g.rogue ≡ false
  pub consistent : IsConsistent g
  pub orderly : IsOrderly g
  pub attentive : IsAttentive g
  pub features : g.status ≡ READY_STATUS → g.features ≡ OFFERED_FEATURES
