-- The queue of reports, whose one chain has the first descriptors.
use Rattle.vb_virtio.proofs.Ranges.{is_in-range, outside-range}
use Rattle.vb_virtio.specs.Tests.{is_in}
use Rattle.std.specs.List.{range_with_len}
use Rattle.std.{specs.Prelude.All, proofs.lemmas.Bool.{cases_lt, le-ltb, lt-ltb, or_left, or_right}}
use Rattle.std.proofs.{lemmas.Grind.flat_map-append, Common.{nat_lt, add-one, append-nil, ◌-◌, ◌^◌}}
use Rattle.std.proofs.lemmas.{Nat.pow_pos, List.{get_or-map, take_more, map-append, length-append}}
use Rattle.std.proofs.lemmas.List.{length-replicate, get_or-replicate, get_or_past, length-map}
use Rattle.std.proofs.lemmas.List.{Folds.list_any-append, FromFn.get_or-range_with_len}
use Rattle.std.proofs.lemmas.List.FromFn.{take-map-range_with_len, length-range_with_len}
use Rattle.std.proofs.Common.{◌≡◌, ◌∙◌, sym, ap, arith, refl, ℕ, zero, suc, ◌+◌, ◌<◌, ◌≤◌, Bool}
use Rattle.std.proofs.Common.{true, false, cond, List, [], ◌∷◌, ◌++◌, length, take, map, Option}
use Rattle.std.proofs.Common.{None, Some, Ok, replicate, is_none, slice_index, slice_index_or}
use Rattle.vb_model.specs.Pages.{Block, pages_of, pages_of_all}
use Rattle.vb_ring.{proofs.OwnerLaws.{claimed-at, released-at}, specs.Entries.{is_own, is_head}}
use Rattle.vb_ring.proofs.Numbers.{numbers_yes, numbers_zero, length_all}
use Rattle.vb_ring.specs.Ends.{DriverEnd, IsDriverEnd, is_unused, outstanding, free_descriptors}
use Rattle.vb_ring.specs.{Ends.{next_path, add_answer, after_add, after_take}, Numbers.numbers}
use Rattle.{vb_pages.proofs.Sets.in_block, vb_report.specs.Blocks.{block_of, blocks_of, HasOrder}}
use Rattle.{vb_pages.specs.declared.block.FreeBlock.FreeBlock, vb_driver.proofs.Placing.range_push}
use Rattle.vb_driver.specs.State.{ReportSide, IsReportQueue, IsAreaBlock, fresh_report}

-- nothing belongs to a chain
pub none_owned : (size i : ℕ) → slice_index_or (replicate {A = Option ℕ} size None) i None ≡ None
none_owned size i = grind (arith, cases_lt, get_or-replicate, get_or_past, length-replicate)

-- the head of the one chain, of a descriptor that it has
abbrev head_if : Bool → Option ℕ
head_if b = cond b (Some 0) None

no_block : (i : ℕ) → head_if (nat_lt i 0) ≡ None
no_block i = ap head_if (le-ltb i 0 (omega arith))

pub fresh_report_queue : {size : ℕ} → IsReportQueue (fresh_report size) size
fresh_report_queue = grind (arith, none_owned, no_block)

-- ---- blocks, one after the other

abbrev pub no_free_block : FreeBlock
no_free_block = record { start = 0; order = 0 }

abbrev pub block_in : List FreeBlock → ℕ → Block
block_in blocks i = block_of (slice_index_or blocks i no_free_block)

pub orders_of : (blocks : List FreeBlock) → All IsAreaBlock (blocks_of blocks) → All HasOrder blocks
orders_of blocks all k d lt = grind (
  arith,
  slice_index_or (blocks_of blocks) k (block_of d),
  length-map blocks block_of,
  get_or-map block_of blocks k d (block_of d) lt,
)

pub order_of : (blocks : List FreeBlock) (i : ℕ) → All IsAreaBlock (blocks_of blocks)
    → i < length blocks → (block_in blocks i).order ≤ 9
order_of blocks i all lt = orders_of blocks all i no_free_block lt

pub pages_more_blocks : (blocks : List FreeBlock) (i : ℕ) → i < length blocks
    → pages_of_all (blocks_of (take (i + 1) blocks))
    ≡ pages_of_all (blocks_of (take i blocks)) ++ pages_of (block_in blocks i)
pages_more_blocks blocks i lt = let last = slice_index_or blocks i no_free_block in
    ap (λ (l : List FreeBlock). pages_of_all (blocks_of l)) (take_more blocks i no_free_block lt)
    ∙ (ap pages_of_all (map-append block_of (take i blocks) (last ∷ []))
    ∙ (flat_map-append pages_of (blocks_of (take i blocks)) (block_of last ∷ [])
    ∙ ap (λ (l : List ℕ). pages_of_all (blocks_of (take i blocks)) ++ l)
    (append-nil (pages_of (block_of last)))))

pub length_more_blocks : (blocks : List FreeBlock) (i : ℕ) → i < length blocks
    → length (pages_of_all (blocks_of (take (i + 1) blocks)))
    ≡ length (pages_of_all (blocks_of (take i blocks))) + 2 ^ (block_in blocks i).order
length_more_blocks blocks i lt =
    grind (arith, pages_more_blocks, length-append, length-range_with_len)

-- a page of one of the blocks is a page of all
pub in_all : (bs : List Block) (i : ℕ) (d : Block) (p : ℕ) → i < length bs
    → is_in p (pages_of (slice_index_or bs i d)) ≡ true → is_in p (pages_of_all bs) ≡ true
in_all [] i d p lt here = absurd (omega arith)
in_all (b ∷ bs) zero d p lt here = grind (arith, list_any-append, or_left)
in_all (b ∷ bs) (suc i) d p lt here =
    grind (arith, list_any-append, or_right, in_all bs i d p (omega arith) here)

-- a block whose last page is there lies within
pub block_inside : (n : ℕ) (b : Block) → ((p : ℕ) → is_in p (pages_of b) ≡ true → p < n)
    → b.start + 2 ^ b.order ≤ n
block_inside n b there = let some = pow_pos b.order in let last = b.start + (2 ^ b.order - 1) in
    let here : last < n = there last (in_block b.start b.order last (omega arith) (omega arith)) in
    omega arith

pub block_inside_all : (blocks : List FreeBlock) (i : ℕ) (d : FreeBlock) (n : ℕ) → i < length blocks
    → ((p : ℕ) → is_in p (pages_of_all (blocks_of blocks)) ≡ true → p < n)
    → (slice_index_or blocks i d).start + 2 ^ (slice_index_or blocks i d).order ≤ n
block_inside_all blocks i d n lt there = let b = block_of (slice_index_or blocks i d) in
    let is : slice_index_or (blocks_of blocks) i (block_of d) ≡ b = search (arith, get_or-map) in
    block_inside n b (λ p here. there p (in_all (blocks_of blocks) i (block_of d) p
    (omega (arith, length-map blocks block_of)) (rw is here)))

-- ---- nothing is out

-- where no chain is out, there is no report
pub none_out : {side : ReportSide} {size : ℕ}
    → IsReportQueue side size → IsDriverEnd side.ring → outstanding side.ring ≡ 0 → side.blocks ≡ []
none_out {side} queue end none = at side.blocks refl where
  at : (blocks : List Block) → side.blocks ≡ blocks → side.blocks ≡ []
  at [] e = e
  at (b ∷ blocks) e =
      let first : slice_index_or side.ring.owner 0 None ≡ Some 0 = queue.owned 0 ∙ ap head_if
      (lt-ltb 0 (length side.blocks) (omega (arith, ap length e))) in
      let head : is_head side.ring.owner 0 ≡ true = ap (is_own 0) first in
      let some : 1 ≤ outstanding side.ring = search (arith, length_all) in absurd (omega arith)

-- and then no descriptor is in use
pub unowned : {side : ReportSide} {size : ℕ} → IsReportQueue side size
    → side.blocks ≡ [] → (i : ℕ) → slice_index_or side.ring.owner i None ≡ None
unowned queue none i = grind (arith, no_block i)

-- ---- the first descriptors

all_numbers : (test : ℕ → Bool) (n : ℕ) → ((i : ℕ) → test i ≡ true)
    → numbers test n ≡ range_with_len 0 n
all_numbers test zero all = numbers_zero test
all_numbers test (suc n) all =
    grind (arith, add-one n, numbers_yes test n (all n), all_numbers test n all, range_push 0 n)

same_map : (xs : List ℕ) → map (λ (n : ℕ). n) xs ≡ xs
same_map [] = refl
same_map (x ∷ xs) = ap (λ (l : List ℕ). x ∷ l) (same_map xs)

module _ (r : DriverEnd) (none : (i : ℕ) → slice_index_or r.owner i None ≡ None) where
  all_free : free_descriptors r ≡ range_with_len 0 r.size
  all_free = all_numbers (is_unused r.owner) r.size (λ i. ap is_none (none i))

  pub first_path : (n : ℕ) → n ≤ r.size → next_path r n ≡ range_with_len 0 n
  first_path n room = ap (take n) (all_free ∙ sym (same_map (range_with_len 0 r.size)))
      ∙ (take-map-range_with_len (λ (n : ℕ). n) 0 r.size n room ∙ same_map (range_with_len 0 n))

  -- there is room, and the head is 0
  pub first_head : (n : ℕ) → 0 < n → n ≤ r.size → add_answer r n ≡ Ok 0
  first_head n some room = grind (
    arith,
    nat_lt,
    le-ltb,
    all_free,
    length-range_with_len,
    slice_index,
    first_path,
    get_or-range_with_len,
  )

in_first : (i n : ℕ) → is_in i (range_with_len 0 n) ≡ nat_lt i n
in_first i n = grind (arith, nat_lt, lt-ltb, is_in-range, cases_lt, outside-range, le-ltb)

pub not_first : (i n : ℕ) → n ≤ i → is_in i (range_with_len 0 n) ≡ false
not_first i n past = in_first i n ∙ le-ltb i n past

-- ---- a report goes out, and comes back

pub posted_report_queue : {side : ReportSide} {size : ℕ} {r2 : DriverEnd} (blocks : List Block)
    → IsReportQueue side size → IsDriverEnd side.ring → side.blocks ≡ [] → length blocks ≤ 16
    → length blocks ≤ side.ring.size → All IsAreaBlock blocks → r2 ≡ after_add side.ring
    (length blocks) (Ok 0) → IsReportQueue (record { ring = r2; blocks = blocks }) size
posted_report_queue blocks queue end nothing few room good state = grind (
  arith,
  slice_index_or,
  unowned,
  nat_lt,
  first_path,
  claimed-at,
  length-range_with_len,
  get_or-range_with_len,
  in_first,
)

pub taken_report_queue : {side : ReportSide} {size h : ℕ} {r2 : DriverEnd}
    → IsReportQueue side size → h ≡ 0 → r2 ≡ after_take side.ring (Ok (Some h))
    → IsReportQueue (record { ring = r2; blocks = [] }) size
taken_report_queue queue zero_is state =
    grind (arith, slice_index_or, released-at, nat_lt, no_block)
