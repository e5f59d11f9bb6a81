-- A posted report, as its device finds it.
use Rattle.std.specs.Prelude.{◌≡◌, ℕ, ◌*◌, ◌<◌, ◌≤◌, ◌||◌, Bool, true, false, not, List, [], ◌∷◌}
use Rattle.std.specs.Prelude.{All, length, map, Option, None, Ok, slice_index, slice_index_or, refl}
use Rattle.std.{specs.List.{list_any, range_with_len}, proofs.Common.{sym, ◌∙◌, ap, subst, arith}}
use Rattle.std.proofs.lemmas.{Nat.pow_pos, List.{length-map, get_or-map, Elements.All-tail}}
use Rattle.std.proofs.lemmas.List.FromFn.{length-range_with_len, get_or-range_with_len}
use Rattle.vb_virtio.specs.Layout.{reserved_pages}
use Rattle.vb_model.specs.Pages.{Block, size, pages_of_all}
use Rattle.{vb_ram.specs.Pages.Pages, vb_chain.specs.Written.{empty, linked, AreSound, IsRoute}}
use Rattle.vb_chain.{specs.{Table.descriptor_at, Chain.ChainGives}, proofs.ChainLaws.written_chain}
use Rattle.vb_chain.specs.declared.{fault.ChainFault.ChainFault, pieces.Piece.Piece}
use Rattle.vb_request.specs.Report.{pages_of_pieces, piece_fault, first_piece_fault, has_bad_length}
use Rattle.vb_request.specs.{Report.report_request, Request.first_of_both}
use Rattle.{vb_driver.specs.Coding.AreReported, vb_guest.specs.Reported.IsOwnBlock}

-- the bytes of a block, and those of all blocks, as a chain has them
abbrev piece_of : Block → Piece
piece_of b = record { addr = b.start * 4096; len = 4096 * size b; writable = true }

abbrev pub pieces_of : List Block → List Piece
pieces_of blocks = map piece_of blocks

-- a block in the middle of the list, and its piece
piece_at : (blocks : List Block) (k : ℕ) (d : Block) → k < length blocks
    → slice_index_or (pieces_of blocks) k empty ≡ piece_of (slice_index_or blocks k d)
piece_at blocks k d lt = get_or-map piece_of blocks k d empty lt

abbrev no_block : Block
no_block = record { start = 0; order = 0 }

-- its blocks' bytes are pieces that a chain may have
report_sound : (descriptors : ℕ) {n : ℕ} (mem : Pages) (blocks : List Block)
    → length mem ≡ n → 0 < length blocks
    → All (IsOwnBlock descriptors n) blocks → AreSound (4096 * length mem) (pieces_of blocks)
report_sound descriptors {n} mem blocks len some own = record {
  some = omega (arith, some, length-map blocks piece_of);
  fit = λ k lt.
      let at : k < length blocks = omega (arith, length-map blocks piece_of) in
      let b : Block = slice_index_or blocks k no_block in
      let is : IsOwnBlock descriptors n b = own k no_block at in
      let here = piece_at blocks k no_block at in
      omega (arith, ap (λ (p : Piece). p.addr) here, ap (λ (p : Piece). p.len) here, is.below, len);
  ordered = λ j k before lt e. ap (λ (p : Piece). p.writable)
      (piece_at blocks k no_block (omega (arith, length-map blocks piece_of)));
}

-- its chain has the first descriptors, and a piece for each block
pub report_chain : {mem : Pages} {table descriptors n : ℕ} {blocks : List Block}
    → length mem ≡ n → 0 < length blocks → length blocks ≤ descriptors
    → All (IsOwnBlock descriptors n) blocks → AreReported mem table blocks
    → ChainGives (descriptor_at mem table) descriptors (4096 * length mem) 0 (pieces_of blocks)
report_chain {mem} {table} {descriptors} {blocks} len some inside own reported =
    let count : ℕ = length blocks in let path : List ℕ = range_with_len 0 count in
    let long : length path ≡ count = length-range_with_len 0 count in
    let at : (k : ℕ) → k < count → slice_index path k ≡ k = grind (arith, get_or-range_with_len) in
    let route : IsRoute descriptors path = search arith in
    let put : (k : ℕ) → k < length path → descriptor_at mem table (slice_index path k)
    ≡ linked path (pieces_of blocks) k = λ k lt. let below : k < count = omega (arith, long) in
    ap (descriptor_at mem table) (at k below) ∙ reported.chain k below in
    let G : ℕ → Type 0 = λ h. ChainGives (descriptor_at mem table) descriptors
    (4096 * length mem) h (pieces_of blocks) in
    subst G (at 0 some) (written_chain (descriptor_at mem table) descriptors
    (4096 * length mem) path (pieces_of blocks) route (long ∙ sym (length-map blocks piece_of))
    (omega (arith, long, inside)) (report_sound descriptors mem blocks len some own) put)

-- ---- the pages that it names

all_writable : (blocks : List Block)
    → list_any (λ piece. not piece.writable) (pieces_of blocks) ≡ false
all_writable [] = refl
all_writable (b ∷ bs) = all_writable bs

whole_length : (b : Block) → has_bad_length (piece_of b) ≡ false
whole_length b = grind (arith, pow_pos)

all_whole : (blocks : List Block) → list_any has_bad_length (pieces_of blocks) ≡ false
all_whole [] = refl
all_whole (b ∷ bs) =
    ap (λ (v : Bool). v || list_any has_bad_length (pieces_of bs)) (whole_length b) ∙ all_whole bs

right_start : (reserved : ℕ) (b : Block) → reserved ≤ b.start
    → piece_fault reserved (piece_of b) ≡ None
right_start reserved b above = grind arith

all_right : (size n : ℕ) (blocks : List Block) → All (IsOwnBlock size n) blocks
    → first_piece_fault (reserved_pages size) (pieces_of blocks) ≡ None
all_right size n [] own = refl
all_right size n (b ∷ bs) own = let reserved : ℕ = reserved_pages size in
    let first : IsOwnBlock size n b = own 0 b (omega arith) in
    ap (λ (o : Option ChainFault). first_of_both o (first_piece_fault reserved (pieces_of bs)))
    (right_start reserved b first.above)
    ∙ all_right size n bs (All-tail (IsOwnBlock size n) b bs own)

pages_named : (blocks : List Block) → pages_of_pieces (pieces_of blocks) ≡ pages_of_all blocks
pages_named [] = refl
pages_named (b ∷ bs) = grind (arith, pages_named bs)

-- it is a report of the pages of its blocks
pub report_pages : (size n : ℕ) (blocks : List Block) → length blocks ≤ 16
    → All (IsOwnBlock size n) blocks
    → report_request (pieces_of blocks) (reserved_pages size) ≡ Ok (pages_of_all blocks)
report_pages size n blocks few own = grind (
  arith,
  length-map blocks piece_of,
  all_writable blocks,
  all_whole blocks,
  all_right size n blocks own,
  pages_named blocks,
)
