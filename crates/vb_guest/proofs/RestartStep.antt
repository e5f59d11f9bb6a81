-- A guest's life ends, and a new one begins: all its frames go back.
use Rattle.std.specs.Prelude.{◌≡◌, ℕ, ◌+◌, ◌<◌, ◌==◌, Bool, true, false, List, [], ◌∷◌, length, suc}
use Rattle.std.specs.Prelude.{Option, None, count_by, replicate, slice_index_or, refl}
use Rattle.{std.specs.Option.option_to_list, vb_driver.specs.State.{DriverState, fresh_driver}}
use Rattle.{std.specs.List.range_with_len, vb_ram.specs.Part.Part, vb_guest.proofs.Moving.moves_as}
use Rattle.std.proofs.{Common.{sym, ◌∙◌, ap, subst, arith}, lemmas.List.length-replicate}
use Rattle.vb_virtio.specs.Limits.{is_config}
use Rattle.vb_virtio.specs.Statistics.{no_statistics}
use Rattle.vb_virtio.specs.Tests.{times}
use Rattle.vb_virtio.proofs.Tables.{count_by-cons, count_by-append}
use Rattle.vb_model.specs.Guest.{Guest}
use Rattle.vb_model.specs.Life.{after_restart}
use Rattle.{vb_ram.specs.Pages.{Pages, frame_at, number_of}, vb_status.specs.After.part_after_reset}
use Rattle.{vb_device.specs.Discards.frames_behind, vb_guest.proofs.Standing.{stands_of, own_moved}}
use Rattle.vb_guest.proofs.{Discarding.one_frame, Fresh.{everywhere, backs_none, fresh_honest}}
use Rattle.vb_guest.{proofs.Writing.HasFrames, specs.Stands.{Honest, DeviceKeeps, Stands}}
use Rattle.vb_guest.specs.{Exact.KeepsFrames, Supply.{Supply, supply_of, Moves, nothing, AreLoose}}
use Rattle.vb_guest.specs.Steps.{is_frame, backing_count, AreOut, AllReturn, IsBare, Restarts}

-- ---- the frames that back all pages

-- each frame as often as it is in the table
all_behind : (n first : ℕ) (mem : Pages) (frames : List (Option ℕ)) → ((i : ℕ)
    → i < length frames → frame_at mem (first + i) ≡ slice_index_or frames i None) → times n
    (frames_behind mem (range_with_len first (length frames))) ≡ count_by (is_frame n) frames
all_behind n first mem [] same = refl
all_behind n first mem (x ∷ xs) same =
    let here : frame_at mem first ≡ x = ap (frame_at mem) (omega arith) ∙ same 0 (omega arith) in
    let rest = all_behind n (first + 1) mem xs
    (λ i lt. ap (frame_at mem) (omega arith) ∙ same (suc i) (omega (arith, lt))) in
    let others = frames_behind mem (range_with_len (first + 1) (length xs)) in
    omega (
      arith,
      rest,
      count_by-append (λ (m : ℕ). m == n) (option_to_list (frame_at mem first)) others,
      ap (λ (o : Option ℕ). times n (option_to_list o)) here,
      one_frame n x,
      count_by-cons (is_frame n) x xs,
    )

-- ---- what is needed of the guest

-- how large it is, its target and its pace, and the frames that back its pages
record Rooted (mem : Pages) (part : Part) (d : DriverState) (g : Guest) : Type 0 where
  config : is_config g.config.pages g.config.queue_size g.config.processors ≡ true
  pages : d.pages ≡ g.config.pages
  queue_size : d.queue_size ≡ g.config.queue_size
  processors : d.processors ≡ g.config.processors
  size : part.queue_size ≡ g.config.queue_size
  paced : part.paced ≡ g.config.paced
  target : part.target ≡ g.target
  flagged : length part.ballooned ≡ g.config.pages
  frames : HasFrames mem g.config.pages g.frames

rooted : {keeps : Bool} {mem : Pages} {part : Part} {d : DriverState} {g : Guest}
    → Stands keeps mem part d g → Rooted mem part d g
rooted stands = search arith

-- all frames of the guest
abbrev pub all_frames : Pages → List ℕ
all_frames mem = frames_behind mem (range_with_len 0 (length mem))

frames_of_guest : {mem : Pages} (g : Guest)
    → HasFrames mem g.config.pages g.frames → (n : ℕ) → times n (all_frames mem) ≡ backing_count n g
frames_of_guest {mem} g pages n =
    let size : length mem ≡ length g.frames = pages.length_is ∙ sym pages.framed in
    ap (λ (k : ℕ). times n (frames_behind mem (range_with_len 0 k))) size
    ∙ all_behind n 0 mem g.frames (λ i lt. ap (frame_at mem) (omega arith) ∙ pages.behind i)

-- they are out
pub all_loose : {keeps : Bool} {mem : Pages}
    {part : Part} {d : DriverState} {g : Guest} (out : List Bool) → Stands keeps mem part d g
    → (keeps ≡ false → AreOut g out) → AreLoose (all_frames mem) (supply_of part out)
all_loose {g} out stands held n = grind (arith, frames_of_guest g (rooted stands).frames n)

-- and have gone back
pub all_returned : {keeps : Bool} {mem : Pages}
    {part : Part} {d : DriverState} {g : Guest} {s1 s2 : Supply} → Stands keeps mem part d g
    → Moves s1 s2 nothing (λ n. times n (all_frames mem)) → AllReturn s1 s2 g
all_returned {g} stands moves =
    moves_as moves (λ n. omega (arith, frames_of_guest g (rooted stands).frames n))

-- no page has one
pub is_bare : {mem : Pages} {part : Part} (n : ℕ)
    → mem ≡ replicate n None → part.loose ≡ [] → IsBare mem part
is_bare n none loose = grind (arith, everywhere)

-- where each page has the frame that it had, none had one
pub none_had : (m1 : Pages) {m2 : Pages} (n : ℕ)
    → m2 ≡ replicate n None → KeepsFrames m1 m2 → (page : ℕ) → frame_at m1 page ≡ None
none_had m1 n none kept page =
    sym (kept page)
    ∙ ap (λ (m : Pages). frame_at m page) none ∙ ap number_of (everywhere n None page)

-- ---- the new life

-- what the device keeps
part_restarted : {m1 : Pages} {p1 p2 : Part} {d1 : DriverState} {g : Guest} (own : List ℕ)
    → Rooted m1 p1 d1 g
    → p2 ≡ record (part_after_reset (part_after_reset p1)) { loose = []; own = own }
    → DeviceKeeps p2 g.config 0 0 g.target 0 (replicate g.config.pages false) no_statistics
part_restarted own root is = grind (arith, length-replicate)

honest_restarted : {m1 m2 : Pages} {p1 p2 : Part} {d1 d2 : DriverState} {g : Guest}
    → Rooted m1 p1 d1 g → m2 ≡ replicate (length m1) None
    → p2 ≡ record (part_after_reset (part_after_reset p1)) { loose = []; own = p2.own }
    → d2 ≡ fresh_driver d1.pages d1.queue_size d1.processors → Honest m2 p2 d2 (after_restart g)
honest_restarted {p2} {g} root m p d =
    grind (arith, fresh_honest g.config g.target p2 root.config (part_restarted p2.own root p))

pub restart_step : {keeps : Bool} {m1 between m2 : Pages} {p1 reset p2 : Part} {d1 d2 : DriverState}
    {g : Guest} (out1 out2 : List Bool) → Stands keeps m1 p1 d1 g → between ≡ m1 → reset
    ≡ part_after_reset p1 → d2 ≡ fresh_driver d1.pages d1.queue_size d1.processors → m2 ≡ replicate
    (length between) None → p2 ≡ record (part_after_reset reset) { loose = []; own = p2.own }
    → Moves (supply_of reset out1) (supply_of p2 out2) nothing (λ n. times n (all_frames between))
    → Restarts (Stands keeps m2 p2 d2) (supply_of p1 out1) (supply_of p2 out2) g
restart_step {between} {p1} {p2} {g} out1 out2 stands same was d m p moved =
    let root = rooted stands in
    let back : AllReturn (supply_of p1 out1) (supply_of p2 out2) g =
    all_returned stands (subst (λ (x : Pages). Moves (supply_of p1 out1) (supply_of p2 out2) nothing
    (λ n. times n (all_frames x))) same (subst (λ (x : Supply). Moves x (supply_of p2 out2) nothing
    (λ n. times n (all_frames between))) (ap (λ (x : Part). supply_of x out1) was) moved)) in
    let fresh_frames : Moves (supply_of p1 out1) (supply_of p2 out2)
    (λ n. backing_count n (after_restart g)) (λ n. backing_count n g) = moves_as back
    (λ n. omega (arith, backs_none n g.config.pages)) in
    record {
      stands = stands_of (honest_restarted root (m ∙ ap (λ (x : Pages). replicate
          (length x) None) same) (p ∙ ap (λ (x : Part). record (part_after_reset x)
          { loose = []; own = p2.own }) was) d) (own_moved out1 out2 fresh_frames stands.own);
      moves = back;
    }
