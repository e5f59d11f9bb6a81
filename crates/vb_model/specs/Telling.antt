-- What a guest does that has agreed to tell the host (MUST_TELL_HOST, VIRTIO 1.1, 5.5.3), in rules
-- that don't speak of guests that haven't.
use Rattle.std.specs.Prelude.{◌≡◌, ℕ, not, ◌==◌, ◌||◌, nat_le, List, [], ◌∷◌, length}
use Rattle.std.specs.Prelude.{count_by, MatchOption, IsTrue, ◌↔◌, Bool}
use Rattle.vb_model.specs.declared.places.Place.{Place}
use Rattle.vb_model.specs.declared.places.Place.TheVariants.{Free, Lent, Taking}
use Rattle.vb_model.specs.declared.calls.Call.{Call}
use Rattle.vb_model.specs.declared.calls.Call.TheVariants.{Inflate, Deflate, Oom, Reap, Sweep}
use Rattle.vb_model.specs.declared.calls.Claim.{Claim}
use Rattle.vb_virtio.specs.declared.refusals.Refusal.TheVariants.{NotReady, NeedsReset, QueueFull}
use Rattle.vb_virtio.specs.declared.refusals.Refusal.TheVariants.{Nothing, NotBallooned}
use Rattle.vb_virtio.specs.Queues.{Request, Kind, Inflating, Deflating, Reporting_free}
use Rattle.vb_virtio.specs.Queues.{kind_of_queue}
use Rattle.vb_virtio.specs.Status.{is_up, is_not_ready, has_fault}
use Rattle.vb_virtio.specs.FirstRefusal.{Cause, ◌⇒◌, first_refusal}
use Rattle.vb_model.specs.declared.replies.Reply.{Reply}
use Rattle.vb_model.specs.declared.replies.Reply.TheVariants.{Posted, Reaped, NotUsed, Refused}
use Rattle.vb_model.specs.Pages.{is_lent, is_taking, placed}
use Rattle.vb_model.specs.Requests.{posting, outstanding, IsLeastHead}
use Rattle.vb_model.specs.Guest.{Guest, requests, with_requests, is_ballooned, tells_host}
use Rattle.vb_model.specs.Refusals.{causes, room}
use Rattle.vb_model.specs.Refusals.{inflate_count, deflate_count, oom_count}
use Rattle.vb_model.specs.Driver.{lowest_lent}
use Rattle.vb_model.specs.Step.{Performs, HonestStep}
use Rattle.vb_model.specs.Consistent.{IsConsistent}
use Rattle.vb_model.specs.Orderly.{IsOrderly}

-- an inflate and a sweep have these refusals alone
abbrev pub told_causes : Guest → Call → List Cause
told_causes g (Inflate n) =
    (not (is_up g.status) ⇒ NotReady)
    ∷ (nat_le (room g) (outstanding g.inflate) ⇒ QueueFull)
    ∷ ((inflate_count g n == 0) ⇒ Nothing)
    ∷ []
told_causes g (Sweep page) =
    (is_not_ready g.status ⇒ NotReady)
    ∷ (has_fault g.status ⇒ NeedsReset)
    ∷ (not (is_ballooned g.ballooned page) ⇒ NotBallooned)
    ∷ []
told_causes g call = causes g call

-- pages that are requested back are taking
abbrev pub CallsBack : ℕ → Guest → Reply → Guest → Type 0
CallsBack count g reply new =
    (head : ℕ) × IsLeastHead g.deflate head × (reply ≡ Posted head count)
    × (new ≡ record g {
      deflate = posting head (lowest_lent count g) g.deflate;
      places = placed (lowest_lent count g) Taking g.places;
    })

-- where pages go that a used request names
abbrev pub told_place : Kind → Place
told_place Inflating = Lent
told_place Deflating = Free
told_place Reporting_free = Free

-- a page that counts as given to the host
abbrev pub is_lent_or_taking : Place → Bool
is_lent_or_taking place = is_lent place || is_taking place

abbrev pub told_reaped : Kind → Request → List Request → Guest → Guest
told_reaped kind r rest g =
    let places : List Place = placed r.pages (told_place kind) g.places in
    record (with_requests kind (record (requests kind g) { done = rest }) g) {
      places = places;
      actual = count_by is_lent_or_taking places;
    }

abbrev pub ToldReaps : Kind → List Request → Guest → Reply → Guest → Type 0
ToldReaps kind [] g reply new = (reply ≡ NotUsed) × (new ≡ g)
ToldReaps kind (r ∷ rest) g reply new =
    (reply ≡ Reaped r.head (length r.pages)) × (new ≡ told_reaped kind r rest g)

abbrev pub ToldPerforms : Call → Guest → List Claim → Reply → Guest → Type 0
ToldPerforms (Deflate n) g claims reply new =
    (claims ≡ []) × CallsBack (deflate_count g n) g reply new
ToldPerforms (Oom n) g claims reply new = (claims ≡ []) × CallsBack (oom_count g n) g reply new
ToldPerforms (Reap q) g claims reply new =
    (claims ≡ []) × MatchOption (kind_of_queue q) ⊥
    (λ kind. ToldReaps kind (requests kind g).done g reply new)
ToldPerforms call g claims reply new = Performs call g claims reply new

abbrev pub ToldStep : Guest → Call → List Claim → Reply → Guest → Type 0
ToldStep g call claims reply new =
    MatchOption (first_refusal (told_causes g call))
    (ToldPerforms call g claims reply new)
    (λ refusal. (claims ≡ []) × (reply ≡ Refused refusal) × (new ≡ g))

-- it takes just the steps of the definitions
abbrev pub ToldStepsAgree : Type 0
ToldStepsAgree =
    (g : Guest) (call : Call) (claims : List Claim) (reply : Reply) (new : Guest)
    → IsConsistent g → IsOrderly g → IsTrue (tells_host g)
    → HonestStep g call claims reply new ↔ ToldStep g call claims reply new
