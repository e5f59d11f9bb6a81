-- What one event may change: targets, configurations, other guests, frames; and who claims frames.
use Rattle.std.specs.Prelude.{◌≡◌, ◌≢◌, ℕ, ◌<◌, Bool, true, false, not, ◌||◌, List, [], Option}
use Rattle.std.specs.Prelude.{Some, None, length, slice_get, IsTrue, ◌⊎◌}
use Rattle.vb_virtio.specs.declared.negotiation.TheConstants.{FAILED_STATUS}
use Rattle.vb_virtio.specs.declared.refusals.Refusal.{Refusal}
use Rattle.vb_virtio.specs.declared.refusals.Refusal.TheVariants.{NoFrame, NoMemory}
use Rattle.vb_virtio.specs.Layout.{reserved_pages}
use Rattle.vb_virtio.specs.Tests.{is_in}
use Rattle.vb_virtio.specs.Status.{feature_refusal}
use Rattle.vb_model.specs.declared.calls.Call.{Call}
use Rattle.vb_model.specs.declared.calls.Call.TheVariants.{Init, Scribble, SetTarget}
use Rattle.vb_model.specs.declared.calls.Claim.{Claim}
use Rattle.vb_model.specs.declared.calls.Event.{Event}
use Rattle.vb_model.specs.declared.calls.Event.TheVariants.{Plug, Unplug, Restart}
use Rattle.vb_model.specs.declared.calls.Event.TheVariants.{Guest as OnGuest, Query as OnQuery}
use Rattle.vb_model.specs.declared.calls.Event.TheVariants.{Balance}
use Rattle.vb_model.specs.declared.calls.Query.{Query}
use Rattle.vb_model.specs.declared.calls.Query.TheVariants.{PagesAt, PagesBallooned}
use Rattle.vb_model.specs.declared.replies.Reply.{Reply}
use Rattle.vb_model.specs.declared.replies.Reply.TheVariants.{Done, Refused}
use Rattle.vb_model.specs.Guest.{Guest, frame_of, all_backed, is_ballooned}
use Rattle.vb_model.specs.Driver.{given, claim_refusal, AreClaimsFor}
use Rattle.vb_model.specs.Life.{lacking, accepted_before}
use Rattle.vb_model.specs.Rogue.{pages_to_back, is_read}
use Rattle.vb_model.specs.Step.{HonestStep}
use Rattle.vb_model.specs.Rogue.{GuestStep}
use Rattle.vb_model.specs.World.{World, guest_at}
use Rattle.vb_model.specs.HostEvents.{WorldStep}
use Rattle.vb_model.specs.HostFrames.{Backs, IsOut}

-- guest n is there before the event and after it
pub record Follows (w : World) (event : Event) (reply : Reply) (v : World) (n : ℕ) (old new : Guest)
    : Type 0 where
  pub step : WorldStep w event reply v
  pub before : guest_at w.guests n ≡ Some old
  pub after : guest_at v.guests n ≡ Some new

-- the event is none that is made for guest n
pub record IsOfOthers (n : ℕ) (event : Event) : Type 0 where
  pub no_call : (call : Call) → event ≢ OnGuest n call
  pub no_restart : event ≢ Restart n
  pub no_unplug : event ≢ Unplug n

-- it leaves the guest as it was, but for a balance, which may set its target
abbrev pub OthersAreUntouched : Type 0
OthersAreUntouched =
    (w : World) (event : Event) (reply : Reply) (v : World) (n : ℕ) (g : Guest)
    → WorldStep w event reply v → guest_at w.guests n ≡ Some g → IsOfOthers n event
    → (guest_at v.guests n ≡ Some g)
    ⊎ ((floor target : ℕ) × (event ≡ Balance floor)
    × (guest_at v.guests n ≡ Some (record g { target = target })))

-- a target changes by `target` and by a balance alone, and `target` sets it
abbrev pub TargetsAreKept : Type 0
TargetsAreKept =
    (w : World) (event : Event) (reply : Reply) (v : World) (n : ℕ) (old new : Guest)
    → Follows w event reply v n old new
    → ((target : ℕ) → event ≢ OnGuest n (SetTarget target)) → ((floor : ℕ) → event ≢ Balance floor)
    → new.target ≡ old.target

abbrev pub TargetsAreSet : Type 0
TargetsAreSet = (w : World) (reply : Reply) (v : World) (n target : ℕ) (old new : Guest)
    → Follows w (OnGuest n (SetTarget target)) reply v n old new → new.target ≡ target

-- a configuration stays for all lives
abbrev pub ConfigurationsAreKept : Type 0
ConfigurationsAreKept =
    (w : World) (event : Event) (reply : Reply) (v : World) (n : ℕ) (old new : Guest)
    → Follows w event reply v n old new → new.config ≡ old.config

-- a restarted guest is honest and has no frame, and an unplugged one is gone with its frames
abbrev pub HasNoFrame : World → ℕ → Type 0
HasNoFrame w n = (page frame : ℕ) → ¬ Backs w n page frame

abbrev pub FramesGoBack : Type 0
FramesGoBack = (w : World) (event : Event) (reply : Reply) (v : World) (n : ℕ)
    → WorldStep w event reply v → (event ≡ Restart n) ⊎ (event ≡ Unplug n) → HasNoFrame v n

abbrev pub RestartedAreHonest : Type 0
RestartedAreHonest = (w : World) (reply : Reply) (v : World) (n : ℕ) (old new : Guest)
    → Follows w (Restart n) reply v n old new → new.rogue ≡ false

-- a guest turns rogue by a scribble of its own that is done, and stays so until a restart
abbrev pub RoguesAreMade : Type 0
RoguesAreMade =
    (w : World) (event : Event) (reply : Reply) (v : World) (n : ℕ) (old new : Guest)
    → Follows w event reply v n old new
    → ((page offset : ℕ) (bytes : List ℕ) → event ≢ OnGuest n (Scribble page offset bytes))
    → old.rogue ≡ false → new.rogue ≡ false

abbrev pub ScribblesMakeRogues : Type 0
ScribblesMakeRogues =
    (w : World) (v : World) (n page offset : ℕ) (bytes : List ℕ) (old new : Guest)
    → Follows w (OnGuest n (Scribble page offset bytes)) Done v n old new
    → old.rogue ≡ false → new.rogue ≡ true

abbrev pub RoguesStay : Type 0
RoguesStay =
    (w : World) (event : Event) (reply : Reply) (v : World) (n : ℕ) (old new : Guest)
    → Follows w event reply v n old new
    → event ≢ Restart n → old.rogue ≡ true → new.rogue ≡ true

-- the claim for this page, one of those that the call needs frames for, was given this frame
abbrev pub IsGiven : List ℕ → List Claim → ℕ → ℕ → Type 0
IsGiven pages claims page frame =
    (i : ℕ) × (slice_get pages i ≡ Some page) × (slice_get (given claims) i ≡ Some frame)

-- a page's frame is the one that it had, or the one that the call's claim for it was given
abbrev pub FramesEnterByClaims : Type 0
FramesEnterByClaims =
    (g : Guest) (call : Call) (claims : List Claim) (reply : Reply) (new : Guest)
    → GuestStep g call claims reply new
    → (page frame : ℕ) → frame_of new.frames page ≡ Some frame
    → (frame_of g.frames page ≡ Some frame) ⊎ IsGiven (pages_to_back call g) claims page frame

-- a claim that is refused is the reply, and then no frame enters or leaves
abbrev pub RefusedClaimsAreAnswered : Type 0
RefusedClaimsAreAnswered =
    (g : Guest) (call : Call) (claims : List Claim) (reply : Reply) (new : Guest)
    (refusal : Refusal) → GuestStep g call claims reply new
    → claim_refusal claims ≡ Some refusal → (reply ≡ Refused refusal) × (new.frames ≡ g.frames)

-- a call claims a frame for each page that it needs, and for no other; none of these has a frame
abbrev pub ClaimsAreNeeded : Type 0
ClaimsAreNeeded = (g : Guest) (call : Call) (claims : List Claim) (reply : Reply) (new : Guest)
    → GuestStep g call claims reply new → AreClaimsFor (pages_to_back call g) claims

abbrev pub NeededPagesAreBare : Type 0
NeededPagesAreBare = (g : Guest) (call : Call) (page : ℕ)
    → IsTrue (is_in page (pages_to_back call g)) → frame_of g.frames page ≡ None

-- fewer frames are not out than are needed: those that are not went to earlier claims of the same
-- call
pub record WantOfFrames (w : World) (pages : List ℕ) : Type 0 where
  pub claimed : List ℕ
  pub fewer : length claimed < length pages
  pub all_out : (frame : ℕ) → frame < w.frames → IsOut w frame ⊎ IsTrue (is_in frame claimed)

abbrev pub NoFrameIsExact : Type 0
NoFrameIsExact =
    (w v : World) (n : ℕ) (call : Call) (g : Guest) → guest_at w.guests n ≡ Some g
    → WorldStep w (OnGuest n call) (Refused NoFrame) v → WantOfFrames w (pages_to_back call g)

-- and there it is refused, unless there is no memory first
abbrev pub WantIsAnswered : Type 0
WantIsAnswered =
    (w v : World) (n : ℕ) (call : Call) (reply : Reply) (g : Guest) → guest_at w.guests n ≡ Some g
    → WorldStep w (OnGuest n call) reply v → WantOfFrames w (pages_to_back call g)
    → (reply ≡ Refused NoFrame) ⊎ (reply ≡ Refused NoMemory)

-- ---- an allocation failure

-- a call of a guest, honest or rogue, is refused on an allocation failure only where a claim of its
-- was, or for bytes that it is answered with; and nothing is changed
abbrev pub NoMemoryIsExact : Type 0
NoMemoryIsExact =
    (g : Guest) (call : Call) (claims : List Claim) (new : Guest)
    → GuestStep g call claims (Refused NoMemory) new
    → ((claim_refusal claims ≡ Some NoMemory) ⊎ IsTrue (is_read call)) × (new ≡ g)

abbrev pub is_none_of : List ℕ → Bool
is_none_of [] = true
is_none_of _ = false

-- a call may find no memory where it needs a frame, or is answered with bytes
abbrev pub call_may_want : Option Guest → Call → Bool
call_may_want None call = false
call_may_want (Some g) call = is_read call || not (is_none_of (pages_to_back call g))

-- the question is answered with a list
abbrev pub is_list : Query → Bool
is_list (PagesAt place) = true
is_list PagesBallooned = true
is_list _ = false

-- the events that may find no memory
abbrev pub may_want_memory : World → Event → Bool
may_want_memory w (Plug size) = true
may_want_memory w (OnGuest n call) = call_may_want (guest_at w.guests n) call
may_want_memory w (OnQuery n query) = is_list query
may_want_memory w _ = false

-- and each of them leaves the world as it was
abbrev pub WantsChangeNothing : Type 0
WantsChangeNothing = (w : World) (event : Event) (v : World)
    → WorldStep w event (Refused NoMemory) v → IsTrue (may_want_memory w event) × (v ≡ w)

-- no reserved page is ballooned
abbrev pub HasNoReservedBallooned : Guest → Type 0
HasNoReservedBallooned g = (page : ℕ) → page < reserved_pages g.config.queue_size
    → is_ballooned g.ballooned page ≡ false

-- the pages of rings and buffers have frames, and the driver has given up
abbrev pub with_features_refused : ℕ → Refusal → List Claim → Guest → Guest
with_features_refused wanted refusal claims g =
    record g {
      frames = all_backed (lacking g) (given claims) g.frames;
      status = FAILED_STATUS;
      features = accepted_before refusal wanted;
    }

-- a refusal leaves an honest guest as it was, or its driver has given up since the features were
-- refused
abbrev pub IsUnchanged : Call → Refusal → List Claim → Guest → Guest → Type 0
IsUnchanged call refusal claims g new =
    (new ≡ g) ⊎ ((wanted : ℕ) × (call ≡ Init wanted) × (feature_refusal wanted ≡ Some refusal)
    × (new ≡ with_features_refused wanted refusal claims g))

abbrev pub RefusalsChangeNothing : Type 0
RefusalsChangeNothing =
    (g : Guest) (call : Call) (claims : List Claim) (refusal : Refusal) (new : Guest)
    → HonestStep g call claims (Refused refusal) new → IsUnchanged call refusal claims g new

-- and a refused event of the host leaves the world as it was
abbrev pub RefusedEventsChangeNothing : Type 0
RefusedEventsChangeNothing =
    (w : World) (event : Event) (refusal : Refusal) (v : World)
    → ((n : ℕ) (call : Call) → event ≢ OnGuest n call) → WorldStep w event (Refused refusal) v
    → v ≡ w
