-- A step in which pages lose their frames.
use Rattle.std.proofs.Common.{◌≡◌, ℕ, ◌+◌, ◌<◌, List, [], All, None, count_by, sym, ap, subst}
use Rattle.{std.proofs.Common.arith, vb_model.specs.declared.{replies.Reply.Reply, calls.Call.Call}}
use Rattle.vb_virtio.specs.Tests.{AllDistinct, times}
use Rattle.vb_model.specs.Step.{HonestStep}
use Rattle.vb_model.specs.Guest.{Guest}
use Rattle.{vb_ram.specs.{Pages.Pages, Part.Part}, vb_device.specs.Discards.frames_behind}
use Rattle.{vb_device.specs.Calls.SameFrames, vb_driver.specs.State.DriverState}
use Rattle.vb_guest.specs.{Steps.{StepsFreeing, is_frame, backing_count}, Stands.Honest}
use Rattle.vb_guest.{specs.Stands.{Ties, HasPages}, proofs.Discarding.{with_entry, frames_freed}}
use Rattle.vb_guest.proofs.{Closing.{still_stands, guest_step}, Handing.{handed_back, behind_same}}

-- pages lose their frames, and no other
pub frames_lost : {m : Pages} (loose : List ℕ) (g new : Guest) (pages : List ℕ)
    → HasPages m g.config.queue_size g.config.pages g.frames g.contents
    → new.frames ≡ with_entry pages None g.frames → SameFrames loose (frames_behind m pages)
    → AllDistinct pages → All (λ page. page < g.config.pages) pages
    → (k : ℕ) → times k loose + backing_count k new ≡ backing_count k g
frames_lost {m} loose g new pages has lost same distinct below k =
    let F : ℕ → Type 0 = λ k. All (λ page. page < k) pages in omega (
      arith,
      same k,
      ap (times k) (behind_same m g.frames pages has.behind),
      frames_freed k pages g.frames distinct (subst F (sym has.framed) below),
      ap (count_by (is_frame k)) lost,
    )

pub steps_losing : {m1 m2 : Pages} {p1 : Part}
    (p2 : Part) {d : DriverState} {g new : Guest} {call : Call} {reply : Reply} (pages : List ℕ)
    → Honest m1 p1 d g → HonestStep g call [] reply new → Ties m2 (handed_back p2) d new
    → new.frames ≡ with_entry pages None g.frames → SameFrames p2.loose (frames_behind m1 pages)
    → AllDistinct pages → All (λ page. page < g.config.pages) pages
    → StepsFreeing (Honest m2 (handed_back p2) d) p2.loose g call reply
steps_losing p2 {g} {new} {call} {reply} pages stands step ties lost loose distinct below =
    record {
      new = new;
      stands = still_stands call [] reply stands step ties;
      step = guest_step g call [] reply new stands.ties.parts.guest.honest step;
      freed = frames_lost p2.loose g new pages stands.ties.pages lost loose distinct below;
    }
