-- What a call does that is told apart by its name, whether or not its guest wrote past its driver:
-- just what the driver's or the device's own call does, whose answer is the reply.
use Rattle.std.specs.Prelude.{◌≡◌, ℕ, Bool, true, false, List, [], Option, Result, Err}
use Rattle.vb_model.specs.declared.calls.Call.{Call}
use Rattle.vb_model.specs.declared.calls.Call.TheVariants.{Init, Reset, Alloc, Free, Read, Write}
use Rattle.vb_model.specs.declared.calls.Call.TheVariants.{Scribble, Inflate, Deflate, Oom, Report}
use Rattle.vb_model.specs.declared.calls.Call.TheVariants.{Stats, Reap, Take, Work, Finish, Sweep}
use Rattle.vb_model.specs.declared.calls.Call.TheVariants.{Serve, Ask, SetTarget}
use Rattle.vb_model.specs.declared.calls.Claim.{Claim}
use Rattle.vb_virtio.specs.declared.refusals.Refusal.{Refusal}
use Rattle.vb_virtio.specs.declared.refusals.Refusal.TheVariants.{NotHeld}
use Rattle.vb_model.specs.declared.replies.Reply.{Reply}
use Rattle.vb_model.specs.declared.replies.Reply.TheVariants.{Done}
use Rattle.vb_model.specs.Pages.{place_of, is_used}
use Rattle.vb_ram.specs.Pages.{Pages}
use Rattle.vb_device.specs.Calls.{TakesBy, WorksBy, FinishesBy, SweepsBy, AsksBy}
use Rattle.vb_device.specs.declared.worked.Worked.{Worked}
use Rattle.vb_driver.specs.Calls.{AllocatesBy, FreesBy, InflatesBy, DeflatesBy, DeflatesOnOomBy}
use Rattle.vb_driver.specs.Calls.{ReportsBy, FillsBy, ReapsBy, ResetsBy}
use Rattle.vb_driver.specs.declared.answers.Posted.{Posted}
use Rattle.vb_driver.specs.declared.answers.Reaped.{Reaped}
use Rattle.vb_guest.specs.Exact.{InitialisesBy, IsHandedBack, IsQuiet, KeepsFrames, PutsBy, ReadsBy}
use Rattle.vb_guest.specs.Promises.{Moment}
use Rattle.vb_guest.specs.Serving.{ServesAllBy}
use Rattle.vb_guest.specs.Replies.{served_reply}
use Rattle.vb_guest.specs.declared.served.Served.{Served as ServedChains}
use Rattle.vb_guest.specs.Replies.{ready_reply, page_reply, done_reply, bytes_reply}
use Rattle.vb_guest.specs.Replies.{posted_reply, reaped_reply, taken_reply, finished_reply}
use Rattle.vb_guest.specs.Replies.{worked_reply, swept_reply, filled_reply, asked_reply}

-- The device is as it was.
abbrev pub DeviceStays : Moment → Moment → Type 0
DeviceStays a b = (b.mem ≡ a.mem) × (b.part ≡ a.part)

-- A write to a page that is used.
abbrev pub PutsAt : (List Bool → Claim → Type 0) → Moment → Moment → List Claim → ℕ → ℕ → List ℕ
    → Result (Unit {0}) Refusal → Type 0
PutsAt Answers a b claims page offset bytes result =
    PutsBy Answers a.supply b.supply a.mem b.mem a.part b.part claims page offset bytes result

-- A write is refused where its page isn't used.
pub record WritesAt (Answers : List Bool → Claim → Type 0) (a b : Moment) (claims : List Claim)
    (page offset : ℕ) (bytes : List ℕ) (result : Result (Unit {0}) Refusal) : Type 0 where
  pub refused : is_used (place_of a.driver.places page) ≡ false
      → (result ≡ Err NotHeld) × IsQuiet a.supply b.supply a.mem b.mem a.part b.part claims
  pub exact : is_used (place_of a.driver.places page) ≡ true
      → PutsAt Answers a b claims page offset bytes result

abbrev pub CallsBy : (List Bool → Claim → Type 0) → Moment → Moment → List Claim → Call → Reply
    → Type 0
CallsBy Answers a b claims (Init wanted) reply =
    (r : Result (Unit {0}) Refusal) × (reply ≡ ready_reply r)
    × InitialisesBy Answers a.supply b.supply.out a.mem b.mem a.part b.part a.driver b.driver
    claims wanted r
CallsBy Answers a b claims Reset reply =
    (reply ≡ Done) × ResetsBy a.mem b.mem a.part b.part a.driver b.driver
CallsBy Answers a b claims (Alloc cpu order) reply =
    (r : Result ℕ Refusal) × (reply ≡ page_reply r)
    × AllocatesBy a.driver b.driver cpu order r × DeviceStays a b
CallsBy Answers a b claims (Free cpu start order) reply =
    (r : Result (Unit {0}) Refusal) × (reply ≡ done_reply r)
    × FreesBy a.driver b.driver cpu start order r × DeviceStays a b
CallsBy Answers a b claims (Read page offset len) reply =
    (r : Result (List ℕ) Refusal) × (reply ≡ bytes_reply r)
    × ReadsBy a.mem a.driver.places page offset len r × (b ≡ a)
CallsBy Answers a b claims (Write page offset bytes) reply =
    (r : Result (Unit {0}) Refusal) × (reply ≡ done_reply r)
    × WritesAt Answers a b claims page offset bytes r × (b.driver ≡ a.driver)
CallsBy Answers a b claims (Scribble page offset bytes) reply =
    (r : Result (Unit {0}) Refusal) × (reply ≡ done_reply r)
    × PutsAt Answers a b claims page offset bytes r × (b.driver ≡ a.driver)
CallsBy Answers a b claims (Inflate n) reply =
    (r : Result Posted Refusal) × (reply ≡ posted_reply r)
    × InflatesBy a.mem b.mem a.part b.part a.driver b.driver n r
CallsBy Answers a b claims (Deflate n) reply =
    (r : Result Posted Refusal) × (reply ≡ posted_reply r)
    × DeflatesBy a.mem b.mem a.part b.part a.driver b.driver n r
CallsBy Answers a b claims (Oom n) reply =
    (r : Result Posted Refusal) × (reply ≡ posted_reply r)
    × DeflatesOnOomBy a.mem b.mem a.part b.part a.driver b.driver n r
CallsBy Answers a b claims (Report from) reply =
    (r : Result Posted Refusal) × (reply ≡ posted_reply r)
    × ReportsBy a.mem b.mem a.part b.part a.driver b.driver from r
CallsBy Answers a b claims Stats reply =
    (r : Result Bool Refusal) × (reply ≡ filled_reply r)
    × FillsBy a.mem b.mem a.part b.part a.driver b.driver r
CallsBy Answers a b claims (Reap q) reply =
    (r : Result (Option Reaped) Refusal) × (reply ≡ reaped_reply r)
    × ReapsBy a.mem b.mem a.part b.part a.driver b.driver q r
CallsBy Answers a b claims (Take q) reply =
    (r : Result (Option ℕ) Refusal) × (reply ≡ taken_reply r)
    × TakesBy q a.mem b.mem a.part b.part r × (b.driver ≡ a.driver)
CallsBy Answers a b claims Work reply =
    (r : Result (Option Worked) Refusal) × (reply ≡ worked_reply r)
    × IsHandedBack (λ part. WorksBy a.mem b.mem a.part part r) b.part × (b.driver ≡ a.driver)
CallsBy Answers a b claims (Finish q i) reply =
    (r : Result ℕ Refusal) × (reply ≡ finished_reply r)
    × IsHandedBack (λ part. FinishesBy q i a.mem b.mem a.part part r) b.part
    × (b.driver ≡ a.driver)
CallsBy Answers a b claims (Serve q) reply =
    (r : Result ServedChains Refusal) × (reply ≡ served_reply r)
    × ServesAllBy q a.mem b.mem a.part b.part r × (b.driver ≡ a.driver)
CallsBy Answers a b claims (Sweep page) reply =
    (r : Result Bool Refusal) × (reply ≡ swept_reply r)
    × IsHandedBack (λ part. SweepsBy page a.mem b.mem a.part part r) b.part
    × (b.driver ≡ a.driver)
CallsBy Answers a b claims Ask reply =
    (r : Result (Unit {0}) Refusal) × (reply ≡ asked_reply r)
    × AsksBy a.mem b.mem a.part b.part r × (b.driver ≡ a.driver)
CallsBy Answers a b claims (SetTarget n) reply =
    (reply ≡ Done) × (b.mem ≡ a.mem) × (b.part ≡ record (a.part) { target = n })
    × (b.driver ≡ a.driver)

-- What a call leaves of the keeper: all of it where the device keeps frames of its own, and where
-- the call notes no claim and each page has the frame that it had. Same says that the keeper is as
-- it was.
pub record LeavesAlone (Same : Type 0) (keeps : Bool) (m1 m2 : Pages) (claims : List Claim) :
    Type 0 where
  pub unasked : keeps ≡ true → Same
  pub quiet : claims ≡ [] → KeepsFrames m1 m2 → Same
