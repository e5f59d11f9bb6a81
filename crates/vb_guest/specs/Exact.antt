-- What the calls do exactly, whether or not their guest wrote past its driver: by memory, the
-- device's part and the driver alone.
use Rattle.std.specs.Prelude.{◌≡◌, ◌≢◌, ◌<◌, ◌⊎◌, ℕ, Bool, true, false, List, [], ◌∷◌}
use Rattle.std.specs.Prelude.{None, Result, Ok, Err, IsOk, IsSome, length, take, drop}
use Rattle.vb_model.specs.declared.calls.Claim.{Claim}
use Rattle.vb_model.specs.declared.calls.Claim.TheVariants.{Gave, GaveNoFrame, GaveNoMemory}
use Rattle.vb_model.specs.declared.places.Place.{Place}
use Rattle.vb_virtio.specs.declared.refusals.Refusal.{Refusal}
use Rattle.vb_virtio.specs.declared.refusals.Refusal.TheVariants.{AlreadyUp, NotHeld, OutOfRam}
use Rattle.vb_virtio.specs.declared.refusals.Refusal.TheVariants.{NoFrame as NoFrameLeft, NoMemory}
use Rattle.vb_model.specs.Pages.{place_of, is_used}
use Rattle.vb_ram.specs.Pages.{Pages, frame_at, contents_at, Covers, Supplied, Wrote}
use Rattle.vb_ram.specs.Part.{Part}
use Rattle.vb_frames.specs.declared.keeper.Refused.{Refused}
use Rattle.vb_frames.specs.declared.keeper.Refused.TheVariants.{NoFrame, Memory}
use Rattle.vb_status.specs.After.{part_after_reset}
use Rattle.vb_driver.specs.Calls.{InitsBy, Unchanged}
use Rattle.vb_driver.specs.State.{DriverState}
use Rattle.vb_guest.specs.Lives.{SuppliesBy, bare_from}
use Rattle.vb_guest.specs.Supply.{Supply, supply_of, IsClaimed}

-- The device did this, and then the frames that it took from pages went back to where they came
-- from.
abbrev pub IsHandedBack : (Part → Type 0) → Part → Type 0
IsHandedBack Did new =
    (part : Part) × Did part × (new ≡ record part { loose = []; own = new.own })

-- Each page has the frame that it had, or none as before.
abbrev pub KeepsFrames : Pages → Pages → Type 0
KeepsFrames m1 m2 = (page : ℕ) → frame_at m2 page ≡ frame_at m1 page

-- The device is reset, and frames of its own came back.
abbrev pub IsReset : Part → Part → Type 0
IsReset old new = new ≡ record (part_after_reset old) { loose = []; own = new.own }

-- ---- bytes of pages

-- No claim was made, and nothing is changed.
pub record IsQuiet (s1 s2 : Supply) (m1 m2 : Pages) (p1 p2 : Part) (claims : List Claim) :
    Type 0 where
  pub mem : m2 ≡ m1
  pub part : p2 ≡ p1
  pub supply : s2 ≡ s1
  pub none : claims ≡ []

-- What a write of bytes to a page with no frame does, by how the claim of one was answered.
abbrev pub FillsBy : {T : Type 0} → Claim → Pages → Pages → ℕ → ℕ → List ℕ → Result T Refusal
    → Type 0
FillsBy (Gave number) m1 m2 page offset bytes result =
    IsOk result × ((between : Pages) × Supplied m1 between page number
    × Wrote between m2 page offset bytes)
FillsBy GaveNoFrame m1 m2 page offset bytes result = (result ≡ Err NoFrameLeft) × (m2 ≡ m1)
FillsBy GaveNoMemory m1 m2 page offset bytes result = (result ≡ Err NoMemory) × (m2 ≡ m1)

-- Just one claim is made, and the page has the frame that it gave, and the bytes in it.
pub record FillsBare {T : Type 0} (Answers : List Bool → Claim → Type 0) (s1 s2 : Supply)
    (m1 m2 : Pages) (p1 p2 : Part) (claims : List Claim) (page offset : ℕ) (bytes : List ℕ)
    (result : Result T Refusal) : Type 0 where
  pub claim : Claim
  pub noted : claims ≡ claim ∷ []
  pub claimed : IsClaimed Answers s1 s2 claim
  pub part : p2 ≡ record p1 { own = p2.own }
  pub fills : FillsBy claim m1 m2 page offset bytes result

-- Bytes are written to a page, which gets a frame first where a byte is to be written and it has
-- none.
pub record PutsBy {T : Type 0} (Answers : List Bool → Claim → Type 0) (s1 s2 : Supply)
    (m1 m2 : Pages) (p1 p2 : Part) (claims : List Claim) (page offset : ℕ) (bytes : List ℕ)
    (result : Result T Refusal) : Type 0 where
  pub outside : (Covers m1 page offset (length bytes) → ⊥)
      → (result ≡ Err OutOfRam) × IsQuiet s1 s2 m1 m2 p1 p2 claims
  pub empty : Covers m1 page offset (length bytes) → length bytes ≡ 0
      → IsOk result × IsQuiet s1 s2 m1 m2 p1 p2 claims
  pub backed : Covers m1 page offset (length bytes) → IsSome (frame_at m1 page)
      → IsOk result × Wrote m1 m2 page offset bytes × (p2 ≡ p1) × (s2 ≡ s1) × (claims ≡ [])
  pub bare : Covers m1 page offset (length bytes) → 0 < length bytes → frame_at m1 page ≡ None
      → FillsBare Answers s1 s2 m1 m2 p1 p2 claims page offset bytes result

-- Bytes of a page are read: just those of memory, where the page is used and they lie in it.
pub record ReadsBy (mem : Pages) (places : List Place) (page offset len : ℕ)
    (result : Result (List ℕ) Refusal) : Type 0 where
  pub unheld : is_used (place_of places page) ≡ false → result ≡ Err NotHeld
  pub outside : is_used (place_of places page) ≡ true → (Covers mem page offset len → ⊥)
      → result ≡ Err OutOfRam
  pub bytes : is_used (place_of places page) ≡ true → Covers mem page offset len
      → (result ≡ Ok (take len (drop offset (contents_at mem page)))) ⊎ (result ≡ Err NoMemory)

-- ---- lives

-- What an initialisation does once it is known whether the pages of rings and buffers have frames.
abbrev pub Continues : {T U : Type 0} → Result U Refused → Pages → Pages → Part → Part
    → DriverState → DriverState → ℕ → Result T Refusal → Type 0
Continues (Ok x) m1 m2 p1 p2 d1 d2 wanted result = InitsBy m1 m2 p1 p2 d1 d2 wanted result
Continues (Err NoFrame) m1 m2 p1 p2 d1 d2 wanted result =
    (result ≡ Err NoFrameLeft) × Unchanged m1 m2 p1 p2 d1 d2
Continues (Err Memory) m1 m2 p1 p2 d1 d2 wanted result =
    (result ≡ Err NoMemory) × Unchanged m1 m2 p1 p2 d1 d2

-- The pages of rings and buffers that have no frame get one, or none does; then the driver
-- initialises the device.
pub record SuppliesFirst {T : Type 0} (Answers : List Bool → Claim → Type 0) (s1 : Supply)
    (new_out : List Bool) (m1 m2 : Pages) (p1 p2 : Part) (d1 d2 : DriverState)
    (claims : List Claim) (wanted : ℕ) (result : Result T Refusal) : Type 0 where
  pub mem : Pages
  pub part : Part
  pub got : Result (Unit {0}) Refused
  pub own : part ≡ record p1 { own = part.own }
  pub supplies : SuppliesBy Answers s1 (supply_of part new_out) [] claims
      (bare_from d1.queue_size m1 0) m1 mem got
  pub continues : Continues got mem m2 part p2 d1 d2 wanted result

-- An initialisation, of a device that isn't initialised.
pub record InitialisesBy {T : Type 0} (Answers : List Bool → Claim → Type 0) (s1 : Supply)
    (new_out : List Bool) (m1 m2 : Pages) (p1 p2 : Part) (d1 d2 : DriverState)
    (claims : List Claim) (wanted : ℕ) (result : Result T Refusal) : Type 0 where
  pub up : p1.status ≢ 0 → (result ≡ Err AlreadyUp) × Unchanged m1 m2 p1 p2 d1 d2
      × (supply_of p2 new_out ≡ s1) × (claims ≡ [])
  pub new : p1.status ≡ 0
      → SuppliesFirst Answers s1 new_out m1 m2 p1 p2 d1 d2 claims wanted result
