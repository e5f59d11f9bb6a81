-- What each call may put into the balloon of a guest, and take out of it, of the pages that count.
use Rattle.std.specs.Prelude.{◌≡◌, ℕ, ◌+◌, ◌≤◌, Bool, List, Option, Some, slice_get, length}
use Rattle.std.specs.Prelude.{option_map, unwrap_or}
use Rattle.vb_model.specs.declared.calls.Call.{Call}
use Rattle.vb_model.specs.declared.calls.Call.TheVariants.{Finish, Reset, Scribble, Serve}
use Rattle.vb_model.specs.declared.calls.Event.TheVariants.{Guest as OnGuest}
use Rattle.vb_model.specs.declared.replies.Reply.{Reply}
use Rattle.vb_model.specs.Guest.{Guest}
use Rattle.vb_model.specs.HostEvents.{WorldStep}
use Rattle.vb_virtio.specs.Queues.{Kind, Deflating, Inflating, Request, kind_of_queue}
use Rattle.vb_model.specs.Requests.{Requests}
use Rattle.vb_model.specs.Requests.{pages_named}
use Rattle.vb_model.specs.Run.{History, Run, states}
use Rattle.vb_model.specs.World.{World, guest_at}
use Rattle.vb_room.specs.Tie.{counted}

-- how many pages the request at an index has, if there is one
abbrev pub pages_of_request : List Request → ℕ → ℕ
pages_of_request requests i =
    unwrap_or (option_map (λ r. length r.pages) (slice_get requests i)) 0

-- what the finish of a request of a queue puts in: an inflate's pages
abbrev pub finish_puts_in : Option Kind → ℕ → Guest → ℕ
finish_puts_in (Some Inflating) i g = pages_of_request g.inflate.taken i
finish_puts_in _ i g = 0

-- and what it takes out: a deflate's pages
abbrev pub finish_takes_out : Option Kind → ℕ → Guest → ℕ
finish_takes_out (Some Deflating) i g = pages_of_request g.deflate.taken i
finish_takes_out _ i g = 0

-- how many pages the requests of a queue have that aren't used yet
abbrev pub pages_in_queue : Requests → ℕ
pages_in_queue rs = pages_named rs.posted + pages_named rs.taken

-- what the serve of a queue puts in and takes out, which uses all of them
abbrev pub serve_puts_in : Option Kind → Guest → ℕ
serve_puts_in (Some Inflating) g = pages_in_queue g.inflate
serve_puts_in _ g = 0

abbrev pub serve_takes_out : Option Kind → Guest → ℕ
serve_takes_out (Some Deflating) g = pages_in_queue g.deflate
serve_takes_out _ g = 0

-- how many pages a call puts into the balloon, at most
abbrev pub puts_in : Call → Guest → ℕ
puts_in (Finish q i) g = finish_puts_in (kind_of_queue q) i g
puts_in (Serve q) g = serve_puts_in (kind_of_queue q) g
puts_in _ g = 0

-- How many pages that count a call takes out of the balloon, at most. A reset takes out all, and so
-- does a scribble, since a rogue guest's count no longer.
abbrev pub takes_out : Call → Guest → ℕ
takes_out (Finish q i) g = finish_takes_out (kind_of_queue q) i g
takes_out (Serve q) g = serve_takes_out (kind_of_queue q) g
takes_out Reset g = counted g
takes_out (Scribble page offset bytes) g = counted g
takes_out _ g = 0

-- after the call as many pages count as before, but for what it puts in and takes out
pub record CountsSo (call : Call) (g new : Guest) : Type 0 where
  pub least : counted g ≤ counted new + takes_out call g
  pub most : counted new ≤ counted g + puts_in call g

-- so each call of a guest leaves them, whatever it is answered
abbrev pub CallsCountSo : Type 0
CallsCountSo =
    (frames : ℕ) (spares : List Bool) (h : History) → Run frames spares h
    → (n i : ℕ) (w v : World) (call : Call) (reply : Reply) (g new : Guest)
    → slice_get (states h) i ≡ Some w → WorldStep w (OnGuest n call) reply v
    → guest_at w.guests n ≡ Some g → guest_at v.guests n ≡ Some new → CountsSo call g new
