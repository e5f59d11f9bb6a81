-- A request that goes out: its buffer is written, and then its chain is published.
use Rattle.std.proofs.Common.{◌≡◌, ◌≢◌, ◌∙◌, sym, ap, subst, arith, refl, ℕ, ◌+◌, ◌*◌, ◌<◌, ◌≤◌}
use Rattle.std.proofs.Common.{false, eqb, List, [], ◌∷◌, length, slice_index, Some, Ok, set, min}
use Rattle.{std.proofs.lemmas.Bool.ne_eqb, vb_ring.proofs.MeaningLaws.{ring_apart, tracks_apart}}
use Rattle.vb_virtio.specs.Tests.{is_in}
use Rattle.vb_virtio.specs.Layout.{buffer_page, buffer_offset}
use Rattle.vb_ram.{specs.Pages.{Pages, page_at, SameBut}, proofs.FieldLaws.{same_page, same_trans}}
use Rattle.vb_chain.specs.{declared.pieces.Piece.Piece, Written.linked}
use Rattle.vb_chain.{specs.Table.descriptor_at, proofs.TableLaws.{descriptor_apart, same_parts}}
use Rattle.vb_ring.specs.Ends.{DriverEnd, IsDriverEnd, outstanding, next_head, next_path}
use Rattle.vb_ring.{specs.Calls.AddsBy, proofs.EntryLaws.entries_apart}
use Rattle.vb_driver.proofs.RequestTables.{next_path_is, head_low, requests_added_at}
use Rattle.vb_driver.{proofs.Buffers.{buffer_apart, names_kept, outside_both}, specs.Coding.Names}
use Rattle.vb_driver.proofs.{Shapes.{IsBeside, KeepsRing, keeps_ring}, Placing.or_false}
use Rattle.vb_driver.specs.{State.{RequestSide, AreRequests}, Calls.{Posts, Announces}}

-- a chain of one readable piece that was published after a write to other pages
pub record OnePiece (m1 m2 m3 : Pages) (r r2 : DriverEnd) (h a l : ℕ) : Type 0 where
  pub put : descriptor_at m3 r.layout.table h ≡ record { addr = a; len = l; flags = 0; next = 0 }
  pub descriptors : (i : ℕ) → i < r.size → i ≢ h
      → descriptor_at m3 r.layout.table i ≡ descriptor_at m1 r.layout.table i
  pub others : (p : ℕ) → p ≢ r.layout.table → p ≢ r.layout.avail.page → page_at m3 p ≡ page_at m2 p
  pub announces : Announces m1 m3 r r2 h

pub one_piece : {m1 m2 m3 : Pages} {r r2 : DriverEnd} {h a l : ℕ}
    → IsDriverEnd r → next_head r ≡ Some h → KeepsRing m1 m2 r.layout → AddsBy m2 m3 r r2
    (record { addr = a; len = l; writable = false } ∷ []) (Ok h) → OnePiece m1 m2 m3 r r2 h a l
one_piece {m1} {m2} {m3} {r} {h} {a} {l} end next keeps adds = let T = r.layout.table in
    let path : next_path r 1 ≡ h ∷ [] = next_path_is r h next in record {
      put = subst (λ (p : List ℕ). descriptor_at m3 T (slice_index p 0) ≡ linked p (record
          { addr = a; len = l; writable = false } ∷ []) 0) path (adds.links.put 0 (omega arith));
      descriptors = λ i lt ne.
          let out : is_in i (next_path r 1) ≡ false =
          ap (is_in i) path ∙ (or_false (eqb h i) ∙ ne_eqb h i (λ e. ne (sym e))) in
          adds.links.others i lt out ∙ descriptor_apart m1 m2 T i keeps.table;
      others = λ p table avail. adds.publishes.rest.others p (table, (avail, (avail, tt)));
      announces = record {
        entry = adds.publishes.entry;
        index = adds.publishes.index;
        entries = λ heads elems counted shows. adds.entries heads elems counted (entries_apart
            m1 m2 r.layout r.size heads elems end.fits.size keeps.avail keeps.used shows);
        shown = λ heads elems n tracks shows. adds.shown heads elems n
            (tracks_apart m1 m2 r heads elems n keeps.table tracks) (ring_apart m1
            m2 r.layout r.size heads elems end.fits.size keeps.table keeps.avail keeps.used shows);
      };
    }

-- what was written and added, by plain names
pub record Sending (m1 m2 m3 : Pages) (side : RequestSide) (r2 : DriverEnd) (base h a l : ℕ)
    (pages : List ℕ) : Type 0 where
  pub requests : AreRequests side
  pub is_end : IsDriverEnd side.ring
  pub next : next_head side.ring ≡ Some h
  pub room : outstanding side.ring < min side.ring.size 16
  pub beside : (k : ℕ) → k < 16 → IsBeside side.ring.layout (buffer_page base k)
  pub few : length pages ≤ 256
  pub names : Names m2 (buffer_page base h) (buffer_offset h) pages
  pub wrote : SameBut m1 m2 (buffer_page base h) (buffer_offset h)
      (buffer_offset h + 4 * length pages)
  pub addr : a ≡ 4096 * buffer_page base h + buffer_offset h
  pub len : l ≡ 4 * length pages

pub posts_at : (m1 m2 m3 : Pages) (side : RequestSide) (r2 : DriverEnd) (base h a l : ℕ)
    (pages : List ℕ) → Sending m1 m2 m3 side r2 base h a l pages
    → AddsBy m2 m3 side.ring r2 (record { addr = a; len = l; writable = false } ∷ []) (Ok h)
    → Posts m1 m3 side (record side { ring = r2; sent = set side.sent h pages }) base pages h
posts_at m1 m2 m3 side r2 base h a l pages s adds =
    let r = side.ring in
    let low = head_low r h s.requests.single s.next in
    let small : h < 16 = omega (arith, low.1, s.room) in
    let one : OnePiece m1 m2 m3 r r2 h a l = one_piece s.is_end s.next
    (keeps_ring (s.beside h small) s.wrote) adds in
    let kept : (k : ℕ) → k < 16
    → page_at m3 (buffer_page base k) ≡ page_at m2 (buffer_page base k) =
    λ k few. one.others (buffer_page base k) (s.beside k few).table (s.beside k few).avail in
    record {
      lowest = s.next;
      small = small;
      state = ap (λ (v : DriverEnd). record side { ring = v; sent = set side.sent h pages })
          adds.state;
      coded = record {
        descriptor = one.put ∙ same_parts _ _ s.addr s.len refl refl;
        names = names_kept m2 m3 (buffer_page base h) (buffer_offset h) pages
            (buffer_offset h + 1024) (same_page m2 m3 (buffer_page base h) (buffer_offset h)
            (buffer_offset h + 1024) (kept h small)) (omega (arith, s.few)) s.names;
      };
      descriptors = one.descriptors;
      announces = one.announces;
      rest = record {
        others = λ p table avail buffer. one.others p table avail ∙ s.wrote.others p buffer;
        buffers = λ k few ne. same_trans m1 m2 m3 (buffer_page base k) (buffer_offset k)
            (buffer_offset k + 1024) (buffer_apart base h k
            (4 * length pages) (omega (arith, s.few)) s.wrote ne) (same_page m2 m3
            (buffer_page base k) (buffer_offset k) (buffer_offset k + 1024) (kept k few));
        backing = λ p. adds.publishes.rest.backing p ∙ s.wrote.backing p;
        count = adds.publishes.rest.count ∙ s.wrote.count;
      };
      outside = outside_both s.wrote adds.publishes.rest;
      requests = requests_added_at side r2 h h pages s.requests s.is_end s.next small s.few
          adds.state refl;
    }

-- the head that was added is the one that was told
pub added_head : {m2 m3 : Pages} {r r2 : DriverEnd} {h g : ℕ} {pieces : List Piece}
    → length pieces ≡ 1 → next_head r ≡ Some h → AddsBy m2 m3 r r2 pieces (Ok g) → h ≡ g
added_head one e adds = grind arith

pub posts_by : (m1 m2 m3 : Pages) (side : RequestSide) (r2 : DriverEnd) (base h g a l : ℕ)
    (pages : List ℕ) → Sending m1 m2 m3 side r2 base h a l pages
    → AddsBy m2 m3 side.ring r2 (record { addr = a; len = l; writable = false } ∷ []) (Ok g)
    → Posts m1 m3 side (record side { ring = r2; sent = set side.sent g pages }) base pages g
posts_by m1 m2 m3 side r2 base h g a l pages s adds =
    let pieces : List Piece = record { addr = a; len = l; writable = false } ∷ [] in
    let same : h ≡ g = added_head refl s.next adds in
    subst (λ (n : ℕ). Posts m1 m3 side (record side { ring = r2; sent = set side.sent n pages })
    base pages n) same (posts_at m1 m2 m3 side r2 base h a l pages s
    (subst (λ (n : ℕ). AddsBy m2 m3 side.ring r2 pieces (Ok n)) (sym same) adds))
