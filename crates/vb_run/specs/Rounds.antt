-- A round of the balancer.
use Rattle.std.specs.Prelude.{ℕ, Bool, true, false, List, [], ◌∷◌, ◌++◌, slice_index_or}
use Rattle.vb_model.specs.declared.calls.Actor.TheVariants.{Balancer}
use Rattle.vb_model.specs.declared.calls.Call.TheVariants.{SetTarget}
use Rattle.vb_model.specs.declared.replies.Reply.{Reply}
use Rattle.vb_model.specs.declared.replies.Reply.TheVariants.{Done, Targets}
use Rattle.vb_virtio.specs.Targets.{Need, spare_at}
use Rattle.vb_model.specs.GuestRun.{Entry, Called, Looked}

pub record Rounded : Type 0 where
  -- the host's frames
  pub frames : ℕ
  -- what each guest has, and what was seen of it
  pub needs : List Need
  -- the guests' targets, or what stays missing
  pub answer : Reply

-- the target that an answer sets for the guest, if it sets any
abbrev pub target_entries : ℕ → Reply → List Entry
target_entries guest (Targets targets) =
    Called Balancer (SetTarget (slice_index_or targets guest 0)) [] Done ∷ []
target_entries guest answer = []

-- the balancer's entries at a guest in one round
abbrev pub entries_of_round : ℕ → ℕ → Rounded → List Entry
entries_of_round floor guest r =
    Looked floor (spare_at r.needs guest) ∷ target_entries guest r.answer

-- an entry that a round may make at a guest: a look, or a target that is set without a claim
abbrev pub is_of_round : Entry → Bool
is_of_round (Looked floor spare) = true
is_of_round (Called Balancer (SetTarget pages) [] Done) = true
is_of_round entry = false

abbrev pub round_entries : ℕ → ℕ → List Rounded → List Entry
round_entries floor guest [] = []
round_entries floor guest (r ∷ rs) =
    entries_of_round floor guest r ++ round_entries floor guest rs
