-- What a device's call leaves of memory and of its part, and which frames pages lose.
use Rattle.std.specs.Prelude.{◌≡◌, ℕ, ◌<◌, ◌≤◌, ◌==◌, ◌||◌, Bool, true, false, List, [], ◌∷◌, All}
use Rattle.std.specs.{Prelude.Option, Option.option_to_list, List.flat_map}
use Rattle.std.proofs.{Common.{sym, ◌∙◌, ap, arith, inl, inr}, lemmas.List.Elements.All-tail}
use Rattle.vb_virtio.specs.Tests.{is_in}
use Rattle.vb_virtio.specs.Layout.{ring_page}
use Rattle.std.proofs.lemmas.Bool.{eqb-true, cases_Bool}
use Rattle.vb_model.specs.Guest.{frame_of}
use Rattle.vb_ram.specs.Pages.{Pages, frame_at}
use Rattle.{vb_ram.specs.Part.Part, vb_ring.specs.{declared.layout.Layout.Layout, Ends.DriverEnd}}
use Rattle.vb_ring.specs.{Ends.DeviceEnd, Entries.next_entry, Layout.layout_of, Calls.AddsUsedBy}
use Rattle.{vb_device.specs.Discards.frames_behind, vb_guest.proofs.PagesKept.SamePages}

-- once its loose frames are gone
abbrev pub handed_back : Part → Part
handed_back part = record part { loose = [] }

pub loose_none : {part : Part} → part.loose ≡ [] → handed_back part ≡ part
loose_none {part} e = ap (λ (l : List ℕ). record part { loose = l }) (sym e)

in_high : (least : ℕ) (pages : List ℕ) (p : ℕ) → All (λ page. least ≤ page) pages
    → is_in p pages ≡ true → least ≤ p
in_high least [] p above e = absurd cc
in_high least (x ∷ xs) p above e = elim (cases_Bool (x == p)) [
  | inl same ↦ (let is : x ≡ p = eqb-true x p same in
      let here : least ≤ x = above 0 x (omega arith) in omega arith)
  | inr other ↦ in_high least xs p (All-tail (λ page. least ≤ page) x xs above)
      (ap (λ (b : Bool). b || is_in p xs) (sym other) ∙ e)
]

-- a reserved page isn't among those of a request
pub not_among : (least : ℕ) (pages : List ℕ) (p : ℕ) → All (λ page. least ≤ page) pages
    → p < least → is_in p pages ≡ false
not_among least pages p above low = elim (cases_Bool (is_in p pages)) [
  | inl e ↦ absurd (let high : least ≤ p = in_high least pages p above e in omega arith)
  | inr e ↦ e
]

-- what is left of memory once a device has used a chain
pub used_same : {least : ℕ} {m1 m2 : Pages} {e1 e2 : DeviceEnd} {head len : ℕ}
    → e1.layout.used.page < least → AddsUsedBy m1 m2 e1 e2 head len → SamePages least m1 m2
used_same low adds = grind arith

-- the device's end of a ring, as the driver keeps the ring
abbrev pub end_by : Layout → ℕ → ℕ → ℕ → DeviceEnd
end_by layout size next_avail next_used = record {
  layout = layout;
  size = size;
  ready = true;
  next_avail = next_avail;
  next_used = next_used;
}

-- the device's end of the queue is the one whose ring the driver keeps
pub same_end : {m1 m2 : Pages} (q : ℕ) {size : ℕ} (next_avail next_used : ℕ) (ring : DriverEnd)
    {after : DeviceEnd} {head : ℕ} → ring.layout ≡ layout_of (ring_page ring.size q) ring.size
    → size ≡ ring.size → AddsUsedBy m1 m2
    (end_by (layout_of (ring_page size q) size) size next_avail next_used) after head 0
    → AddsUsedBy m1 m2 (end_by ring.layout ring.size next_avail next_used) after head 0
same_end q next_avail next_used ring layout same adds = grind arith

-- the next entry of the queue is that of the ring which the driver keeps
pub same_entry : (mem : Pages) (q : ℕ) {size : ℕ} (next : ℕ) (ring : DriverEnd)
    → ring.layout ≡ layout_of (ring_page ring.size q) ring.size → size ≡ ring.size → next_entry mem
    (layout_of (ring_page size q) size) size next ≡ next_entry mem ring.layout ring.size next
same_entry mem q next ring layout same = grind arith

-- the frames that back pages are those of the guest's pages
pub behind_same : (mem : Pages) (frames : List (Option ℕ)) (pages : List ℕ)
    → ((p : ℕ) → frame_at mem p ≡ frame_of frames p)
    → frames_behind mem pages ≡ flat_map (λ page. option_to_list (frame_of frames page)) pages
behind_same mem frames pages same = grind arith
