-- A device is asked for features, and its rings begin.
use Rattle.{std.proofs.Common.{inl, inr, ◌≡◌, ◌≢◌, ◌∙◌}, vb_driver.specs.Calls.with_nothing_out}
use Rattle.std.proofs.Common.{arith, ℕ, ◌<◌, true, false, None, Some, Result, is_err, OnOk}
use Rattle.vb_virtio.specs.Layout.{is_ring_page, ring_number, ring_page}
use Rattle.vb_virtio.specs.Status.{negotiate_refusal, status_refusal, feature_refusal}
use Rattle.vb_virtio.specs.declared.refusals.Refusal.{Refusal}
use Rattle.vb_virtio.proofs.Shapes.{InRing, in_ring_page, ring_no_buffer}
use Rattle.vb_model.specs.Life.{accepted_before}
use Rattle.vb_ram.specs.Pages.{Pages, byte_at, SameIn}
use Rattle.{vb_ram.proofs.FieldLaws.same_page, vb_ring.specs.{Layout.IsSize, Ends.DriverEnd}}
use Rattle.vb_ring.proofs.{Shapes.{parts_in_ring, fits_at}, MeaningLaws.{fresh_shows, fresh_tracks}}
use Rattle.vb_status.specs.{declared.bits.StatusFault.StatusFault, Answers.answered_refusal}
use Rattle.vb_driver.{proofs.Shapes.{ring_layout, IsBeside, beside_rings}, specs.Calls.IsNewRing}
use Rattle.vb_driver.specs.{State.{DriverState, fresh_ring, fresh_statistics}, Coding.SameButPages}

-- features that are offered are refused for what FEATURES_OK needs alone
pub offered_then : (wanted : ℕ) → negotiate_refusal 3 wanted ≡ None
    → feature_refusal wanted ≡ status_refusal 3 wanted 11
offered_then wanted h = search (arith)

-- and were accepted then
pub accepted_then : {wanted : ℕ} (refusal : Refusal)
    → Some refusal ≡ status_refusal 3 wanted 11 → accepted_before refusal wanted ≡ wanted
accepted_then refusal e = search (arith)

-- the pages of all rings are zeros
abbrev pub AreZeros : ℕ → Pages → Type 0
AreZeros size mem = (page offset : ℕ) → is_ring_page size page ≡ true → offset < 4096
    → byte_at mem page offset ≡ 0

-- a fresh queue's ring in pages of zeros
zero_ring : {mem : Pages} {size : ℕ} (q : ℕ) → IsSize size → ((page o : ℕ)
    → InRing size q page → o < 4096 → byte_at mem page o ≡ 0) → IsNewRing mem (fresh_ring q size)
zero_ring {mem} {size} q sized zeros = let l = ring_layout size q in
    let parts = parts_in_ring size q sized in record {
      shows = fresh_shows mem l size (fits_at (ring_page size q) size sized)
          (λ o lt. zeros l.avail.page o parts.avail lt) (λ o lt. zeros l.used.page o parts.used lt);
      tracks = fresh_tracks mem l size;
    }

pub new_ring : {mem : Pages} {size : ℕ} (q : ℕ)
    → IsSize size → AreZeros size mem → IsNewRing mem (fresh_ring q size)
new_ring {size} q sized zeros =
    zero_ring q sized (λ page o at lt. zeros page o (in_ring_page size q page at) lt)

-- the same where the first statistics buffer went out meanwhile
pub still_new : {m1 m2 m3 : Pages} {size : ℕ} (q : ℕ) {ring : DriverEnd}
    → ring ≡ fresh_ring q size → IsSize size → ring_number q ≢ ring_number 2 → SameButPages m1 m2
    (fresh_statistics size).layout 12 → m3 ≡ m2 → AreZeros size m1 → IsNewRing m3 ring
still_new {m1} {m2} {size} q fresh sized other rest told zeros = rw told (rw fresh
    (zero_ring q sized (λ page o at lt. (same page at).bytes o (omega arith) lt
    ∙ zeros page o (in_ring_page size q page at) lt))) where
      no_buffer : (page : ℕ) → InRing size q page → page ≢ 12
      no_buffer page at same = elim (ring_no_buffer size page (in_ring_page size q page at)) [
        | inl low ↦ omega (arith, low, same)
        | inr high ↦ omega (arith, high, same)
      ]

      same : (page : ℕ) → InRing size q page → SameIn m1 m2 page 0 4096
      same page at =
          let beside : IsBeside (ring_layout size 2) page = search (arith, beside_rings) in same_page m1 m2 page 0 4096
          (rest.others page beside.table beside.avail (no_buffer page at))

-- the other queues are fresh then
pub record OthersFresh (d : DriverState) (size : ℕ) : Type 0 where
  pub inflate : d.inflate.ring ≡ fresh_ring 0 size
  pub deflate : d.deflate.ring ≡ fresh_ring 1 size
  pub report : d.report.ring ≡ fresh_ring 4 size

pub others_fresh : (d1 : DriverState) {d2 d3 : DriverState} → d2 ≡ with_nothing_out d1
    → d3 ≡ record d2 { statistics = d3.statistics } → OthersFresh d3 d1.queue_size
others_fresh d1 e f = search (arith)

-- ---- answers

pub none_ok : {T : Type 0} (r : Result T StatusFault) → is_err r ≡ false → answered_refusal r ≡ None
none_ok x e = grind arith

pub at_ok : {T E : Type 0} (r : Result T E) (P : Type 0) → is_err r ≡ false → OnOk r P → P
at_ok x y e h = grind arith
