-- A report that goes out: its chain has the first descriptors.
use Rattle.std.proofs.Common.{◌≡◌, ◌∙◌, ap, subst, arith, ℕ, ◌+◌, ◌<◌, ◌≤◌, List, [], length, Err}
use Rattle.std.proofs.{Common.{slice_index, Result, Ok}, lemmas.List.FromFn.get_or-range_with_len}
use Rattle.vb_virtio.specs.Tests.{is_in}
use Rattle.std.proofs.lemmas.List.{length-map}
use Rattle.vb_ram.specs.Pages.{Pages}
use Rattle.{std.specs.List.range_with_len, vb_chain.specs.{Table.descriptor_at, Written.linked}}
use Rattle.{vb_model.specs.Pages.Block, vb_pages.specs.declared.block.FreeBlock.FreeBlock}
use Rattle.{vb_chain.specs.declared.pieces.Piece.Piece, vb_ring.specs.declared.driver.Full.Full}
use Rattle.{vb_ring.specs.Calls.AddsBy, vb_report.specs.Blocks.{blocks_of, piece_of, pieces_of}}
use Rattle.vb_ring.specs.Ends.{DriverEnd, outstanding, next_path, add_answer, after_add}
use Rattle.vb_driver.specs.{State.{ReportSide, IsReportQueue}, Calls.PostsReport}
use Rattle.vb_driver.proofs.ReportTables.{none_out, unowned, first_path, first_head, not_first}

pub same_head : {a b : ℕ} {x y : Result ℕ Full} → x ≡ Ok a → y ≡ Ok b → x ≡ y → a ≡ b
same_head e f q = cc

pub not_full : (answer : Result ℕ Full) (full : Full) → answer ≡ Ok 0 → answer ≡ Err full → ⊥
not_full x full e f = grind arith

-- where no report is out, and there are as many descriptors
pub record Reporting (m1 m2 : Pages) (side : ReportSide) (r2 : DriverEnd) (pieces : List Piece)
    (blocks : List Block) (answer : Result ℕ Full) (size : ℕ) : Type 0 where
  pub queue : IsReportQueue side size
  pub none_out : outstanding side.ring ≡ 0
  pub some : 0 < length blocks
  pub room : length blocks ≤ side.ring.size
  pub coded : pieces ≡ pieces_of blocks
  pub adds : AddsBy m1 m2 side.ring r2 pieces answer

pub reporting : {m1 m2 : Pages} {side now : ReportSide}
    {r2 : DriverEnd} {pieces : List Piece} (blocks : List FreeBlock) {answer : Result ℕ Full}
    → side ≡ now → IsReportQueue now now.ring.size
    → outstanding now.ring ≡ 0 → 0 < length blocks → length blocks ≤ now.ring.size
    → pieces ≡ pieces_of (blocks_of blocks) → AddsBy m1 m2 side.ring r2 pieces answer
    → Reporting m1 m2 side r2 pieces (blocks_of blocks) answer now.ring.size
reporting blocks is queue none some room coded adds = grind (arith, none_out, length-map)

module _ (m1 m2 : Pages) (side : ReportSide) (r2 : DriverEnd) (pieces : List Piece)
    (blocks : List Block) (answer : Result ℕ Full) (size : ℕ)
    (s : Reporting m1 m2 side r2 pieces blocks answer size) where
  pub nothing : side.blocks ≡ []
  nothing = none_out s.queue s.adds.is_end s.none_out

  count : length pieces ≡ length blocks
  count = ap length s.coded ∙ length-map blocks piece_of

  -- the ring has room, and the head is 0
  pub answer_is : answer ≡ Ok 0
  answer_is = s.adds.value ∙ (ap (add_answer side.ring) count
      ∙ first_head side.ring (unowned s.queue nothing) (length blocks) s.some s.room)

  pub ring_is : r2 ≡ after_add side.ring (length blocks) (Ok 0)
  ring_is = s.adds.state ∙ (ap (λ (n : ℕ). after_add side.ring n answer) count
      ∙ ap (after_add side.ring (length blocks)) answer_is)

  added : AddsBy m1 m2 side.ring r2 (pieces_of blocks) (Ok 0)
  added = rw (← s.coded) (rw (← answer_is) s.adds)

  path_is : next_path side.ring (length (pieces_of blocks)) ≡ range_with_len 0 (length blocks)
  path_is = ap (next_path side.ring) (length-map blocks piece_of)
      ∙ first_path side.ring (unowned s.queue nothing) (length blocks) s.room

  pub posts_report : PostsReport m1 m2 side (record { ring = r2; blocks = blocks }) blocks
  posts_report = let T = side.ring.layout.table in record {
    state = ap (λ (v : DriverEnd). record { ring = v; blocks = blocks }) ring_is;
    coded = record {
      chain = λ k lt.
          let at : slice_index (range_with_len 0 (length blocks)) k ≡ k =
          get_or-range_with_len 0 (length blocks) k 0 lt ∙ (let q : 0 + k ≡ k = omega arith in q) in
          subst (λ (n : ℕ). descriptor_at m2 T n ≡ linked (range_with_len 0 (length blocks))
          (pieces_of blocks) k) at (subst (λ (p : List ℕ). descriptor_at m2 T (slice_index p k)
          ≡ linked p (pieces_of blocks) k) path_is
          (added.links.put k (omega (arith, length-map blocks piece_of))));
    };
    descriptors = λ i lt past. added.links.others i lt
        (ap (is_in i) path_is ∙ not_first i (length blocks) past);
    announces = record {
      entry = added.publishes.entry;
      index = added.publishes.index;
      entries = added.entries;
      shown = added.shown;
    };
    rest = record {
      others = λ p table avail same. added.publishes.rest.others p (table, (avail, (avail, tt)));
      backing = added.publishes.rest.backing;
      count = added.publishes.rest.count;
    };
    outside = added.publishes.rest;
  }
