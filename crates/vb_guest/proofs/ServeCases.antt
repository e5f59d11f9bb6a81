-- What a device that serves one chain leaves of its own frames and of those that back pages.
use Rattle.std.proofs.Common.{◌≡◌, ℕ, Bool, true, false, Option, Some, Result, sym, ◌∙◌, ap}
use Rattle.std.specs.Prelude.{if◌then◌else◌, ◌==◌}
use Rattle.vb_virtio.specs.Queues.{Request}
use Rattle.vb_virtio.specs.Tests.{is_in}
use Rattle.vb_virtio.specs.declared.layout.TheConstants.{DEFLATE_QUEUE}
use Rattle.vb_virtio.specs.declared.refusals.Refusal.{Refusal}
use Rattle.vb_ram.specs.{Pages.{Pages, frame_at, number_of, page_at}, Part.Part}
use Rattle.vb_device.proofs.ServeCases.{Did, Not_served, Only_took, Took_and_used, what_it_did}
use Rattle.vb_device.specs.{Calls.{ServesBy, Uses}, Discards.discarded}
use Rattle.vb_guest.proofs.{Kept.{SameOwn, as_it_was, same_then, take_kept, uses_kept}}
use Rattle.vb_guest.proofs.{PagesKept.{number_if, page_discarded}, RogueDevice.none_of}
use Rattle.vb_guest.specs.Serving.{LosesBehind}

-- ---- its own frames are as they were

did_keep : {q : ℕ} {m1 m2 : Pages} {p1 p2 : Part} {result : Result (Option ℕ) Refusal}
    → Did q m1 m2 p1 p2 result → SameOwn p1 p2
did_keep (Not_served why e answer part memory) = as_it_was part
did_keep (Only_took part e takes same memory) = same_then (take_kept takes) (as_it_was same)
did_keep (Took_and_used part h r e other answer takes at uses) =
    same_then (take_kept takes) (uses_kept uses)

pub serve_kept : {q : ℕ} {m1 m2 : Pages} {p1 p2 : Part} {result : Result (Option ℕ) Refusal}
    → ServesBy q m1 m2 p1 p2 result → SameOwn p1 p2
serve_kept did = did_keep (what_it_did did)

-- ---- pages lose their frames, and get no others

same_lose : {m1 m2 : Pages} → m2 ≡ m1 → LosesBehind m1 m2
same_lose e page frame at = ap (λ (m : Pages). frame_at m page) (sym e) ∙ at

uses_lose : {q i : ℕ} {r : Request} {m1 m2 : Pages} {p1 p2 : Part} {result : Result ℕ Refusal}
    → Uses q i r m1 m2 p1 p2 result → LosesBehind m1 m2
uses_lose {q} {r = r} {m1} uses page frame at =
    by (q == DEFLATE_QUEUE) (sym (uses.memory.puts.rest.backing page) ∙ at) where
      by : (b : Bool) → frame_at (if b then m1 else discarded r.pages m1) page ≡ Some frame
          → frame_at m1 page ≡ Some frame
      by true e = e
      by false e = none_of (is_in page r.pages) frame (sym (ap number_of
          (page_discarded r.pages m1 page) ∙ number_if (is_in page r.pages) (page_at m1 page)) ∙ e)

did_lose : {q : ℕ} {m1 m2 : Pages} {p1 p2 : Part} {result : Result (Option ℕ) Refusal}
    → Did q m1 m2 p1 p2 result → LosesBehind m1 m2
did_lose (Not_served why e answer part memory) = same_lose memory
did_lose (Only_took part e takes same memory) = same_lose memory
did_lose (Took_and_used part h r e other answer takes at uses) = uses_lose uses

pub serve_loses : {q : ℕ} {m1 m2 : Pages} {p1 p2 : Part} {result : Result (Option ℕ) Refusal}
    → ServesBy q m1 m2 p1 p2 result → LosesBehind m1 m2
serve_loses did = did_lose (what_it_did did)
