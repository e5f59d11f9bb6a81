-- The statistics buffer goes out: it is written, and then its chain is published.
use Rattle.std.proofs.Common.{◌≡◌, ◌∙◌, sym, subst, arith, refl, ℕ, ◌<◌, false, List, [], ◌∷◌}
use Rattle.{std.proofs.Common.{length, Some, Ok, Err}, vb_ram.specs.Pages.{Pages, page_at, SameBut}}
use Rattle.vb_ram.proofs.FieldLaws.{field_in, same_page, same_above, same_trans}
use Rattle.vb_chain.{specs.declared.pieces.Piece.Piece, proofs.TableLaws.same_parts}
use Rattle.vb_ring.specs.{declared.driver.Full.Full, Calls.AddsBy}
use Rattle.vb_ring.specs.Ends.{DriverEnd, IsDriverEnd, outstanding, next_head, after_add}
use Rattle.vb_driver.specs.{Coding.IsStatistic, State.IsStatisticsQueue, Calls.PostsBuffer}
use Rattle.vb_driver.proofs.{Buffers.outside_both, Posting.{OnePiece, one_piece, added_head}}
use Rattle.vb_driver.proofs.Shapes.{IsBeside, beside_buffers, keeps_ring}
use Rattle.vb_driver.proofs.OneBuffer.{none_used, first_head, queue_added}

-- what was written and added, by plain names
pub record Filling (m1 m2 m3 : Pages) (r r2 : DriverEnd) (n a free total : ℕ) : Type 0 where
  pub queue : IsStatisticsQueue r n
  pub is_end : IsDriverEnd r
  pub none : outstanding r ≡ 0
  pub free_is : IsStatistic m2 0 4 free
  pub total_is : IsStatistic m2 10 5 total
  pub wrote : SameBut m1 m2 12 0 20
  pub addr : a ≡ 49152

-- a statistic in a page that a write to another leaves
statistic_kept : {old new : Pages} {offset tag value : ℕ} → page_at new 12 ≡ page_at old 12
    → IsStatistic old offset tag value → IsStatistic new offset tag value
statistic_kept same s = grind (arith, field_in, same_page)

-- the descriptor that the buffer gets is the lowest
pub next_is_first : {r : DriverEnd} {n : ℕ}
    → IsStatisticsQueue r n → IsDriverEnd r → outstanding r ≡ 0 → next_head r ≡ Some 0
next_is_first queue end none = grind (arith, first_head, none_used)

fills_at : {m1 m2 m3 : Pages} {r r2 : DriverEnd} {n a free total : ℕ}
    → Filling m1 m2 m3 r r2 n a free total
    → AddsBy m2 m3 r r2 (record { addr = a; len = 20; writable = false } ∷ []) (Ok 0)
    → PostsBuffer m1 m3 r r2 (record { free = free; total = total })
fills_at {m1} {m2} {m3} {r} {r2} {n} {a} {free} {total} s adds =
    let beside : IsBeside r.layout 12 = search (arith, beside_buffers) in
    let one : OnePiece m1 m2 m3 r r2 0 a 20 =
    one_piece s.is_end (next_is_first s.queue s.is_end s.none) (keeps_ring beside s.wrote) adds in
    let buffer : page_at m3 12 ≡ page_at m2 12 = one.others 12 beside.table beside.avail in record {
      state = adds.state;
      coded = record {
        descriptor = one.put ∙ same_parts _ _ s.addr refl refl refl;
        free = statistic_kept buffer s.free_is;
        total = statistic_kept buffer s.total_is;
      };
      beyond = same_trans m1 m2 m3 12 20 4096 (same_above m1 m2 12 0 20 20 4096 s.wrote
          (omega arith)) (same_page m2 m3 12 20 4096 buffer);
      descriptors = one.descriptors;
      announces = one.announces;
      rest = record {
        others = λ p table avail other. one.others p table avail ∙ s.wrote.others p other;
        backing = λ p. adds.publishes.rest.backing p ∙ s.wrote.backing p;
        count = adds.publishes.rest.count ∙ s.wrote.count;
      };
      outside = outside_both s.wrote adds.publishes.rest;
    }

-- whatever head the add tells, it is 0
pub fills_by : {m1 m2 m3 : Pages} {r r2 : DriverEnd} {n a : ℕ} (g : ℕ) {free total : ℕ}
    → Filling m1 m2 m3 r r2 n a free total
    → AddsBy m2 m3 r r2 (record { addr = a; len = 20; writable = false } ∷ []) (Ok g)
    → PostsBuffer m1 m3 r r2 (record { free = free; total = total })
fills_by {m2} {m3} {r} {r2} {a} g s adds =
    let pieces : List Piece = record { addr = a; len = 20; writable = false } ∷ [] in
    let same : 0 ≡ g = added_head refl (next_is_first s.queue s.is_end s.none) adds in fills_at s
    (subst (λ (h : ℕ). AddsBy m2 m3 r r2 pieces (Ok h)) (sym same) adds)

pub filled_queue : {m2 m3 : Pages} {r r2 : DriverEnd} {n : ℕ} (g : ℕ) {pieces : List Piece}
    → length pieces ≡ 1 → IsStatisticsQueue r n
    → outstanding r ≡ 0 → AddsBy m2 m3 r r2 pieces (Ok g) → IsStatisticsQueue r2 n
filled_queue {r} {r2} g one queue none adds =
    let some : 0 < r.size = omega (arith, adds.is_end.fits.size.least) in
    let unused = none_used queue some none in
    let same : 0 ≡ g = added_head one (first_head r some unused) adds in
    let state : r2 ≡ after_add r 1 (Ok 0) = search arith in rw state
    (queue_added queue adds.is_end some unused)

-- an add of one piece isn't refused
pub not_full : {m2 m3 : Pages} {r r2 : DriverEnd} {n : ℕ} (full : Full) {pieces : List Piece}
    → length pieces ≡ 1
    → IsStatisticsQueue r n → outstanding r ≡ 0 → AddsBy m2 m3 r r2 pieces (Err full) → ⊥
not_full full one queue none adds = grind (arith, next_is_first queue adds.is_end none)
