-- A posted statistics buffer, as its device finds it.
use Rattle.std.proofs.{Common.{sym, ◌∙◌, ap, arith}, lemmas.List.append-nil}
use Rattle.std.proofs.lemmas.List.{get_or-take, get_or-drop, FromFn.get_or-map-range_with_len}
use Rattle.std.specs.Prelude.{◌≡◌, ℕ, ◌+◌, ◌*◌, ◌/◌, ◌%◌, ◌<◌, ◌≤◌}
use Rattle.std.specs.Prelude.{List, [], ◌∷◌, length, take, drop, false, Some, Ok, slice_index, refl}
use Rattle.{vb_model.specs.Requests.Figures, vb_ram.proofs.FieldLaws.{field_2, field_8}}
use Rattle.{vb_ram.specs.Pages.{Pages, byte_at}, vb_chain.proofs.ChainLaws.{single_chain, no_fault}}
use Rattle.vb_chain.specs.{Chain.ChainGives, Rules.piece_of, Table.descriptor_at}
use Rattle.{vb_chain.specs.declared.pieces.Piece.Piece, vb_request.specs.Request.byte_of_address}
use Rattle.vb_request.specs.{Request.{bytes_from, bytes_of}, Statistics.{Statistic, statistic_at}}
use Rattle.vb_request.specs.Statistics.{statistics_of, statistics_in, statistics_request}
use Rattle.vb_driver.specs.Coding.{AreFigures, IsStatistic, statistics_buffer}

-- the buffer's one piece
abbrev pub buffer_pieces : List Piece
buffer_pieces = piece_of statistics_buffer ∷ []

-- its chain is one readable piece
pub buffer_chain : {mem : Pages} {table descriptors : ℕ} {figures : Figures}
    → 64 ≤ length mem → 0 < descriptors → AreFigures mem table figures
    → ChainGives (descriptor_at mem table) descriptors (4096 * length mem) 0 buffer_pieces
buffer_chain {mem} {table} {descriptors} large some code =
    single_chain (descriptor_at mem table) descriptors (4096 * length mem) 0 statistics_buffer some
    code.descriptor refl (no_fault descriptors (4096 * length mem) false 0 statistics_buffer refl
    (omega (arith, large)) (λ e. cc) (λ e. cc))

-- it is a buffer of statistics, and names no pages
pub buffer_names : statistics_request buffer_pieces ≡ Ok []
buffer_names = refl

-- ---- what it says

abbrev buffer_bytes : Pages → List ℕ
buffer_bytes mem = bytes_from mem 49152 20

bytes_are : (mem : Pages) → bytes_of mem buffer_pieces ≡ buffer_bytes mem
unfolding bytes_of
bytes_are mem = append-nil (buffer_bytes mem)

-- byte i of the buffer
byte_is : (mem : Pages) (i : ℕ) → i < 20 → slice_index (buffer_bytes mem) i ≡ byte_at mem 12 i
byte_is mem i lt = let page : (49152 + i) / 4096 ≡ 12 = omega (arith, lt) in
    let offset : (49152 + i) % 4096 ≡ i = omega (arith, lt) in
    get_or-map-range_with_len (byte_of_address mem) 49152 20 i (49152 + i) 0 lt refl
    ∙ ap (λ (p : ℕ). byte_at mem p ((49152 + i) % 4096)) page ∙ ap (byte_at mem 12) offset

-- byte j of n bytes from the offset on
part_is : (mem : Pages) (n o j : ℕ) → o + n ≤ 20 → j < n
    → slice_index (take n (drop o (buffer_bytes mem))) j ≡ byte_at mem 12 (o + j)
part_is mem n o j fits lt = grind (arith, get_or-take, get_or-drop, byte_is)

abbrev stated : ℕ → ℕ → Statistic
stated tag value = record { tag = tag; value = value }

statistic_is : {mem : Pages} (k : ℕ) {tag value : ℕ} → k < 2
    → IsStatistic mem (10 * k) tag value → statistic_at (buffer_bytes mem) k ≡ stated tag value
statistic_is {mem} k {tag} lt is =
    let word = field_2 mem 12 (10 * k) (take 2 (drop (10 * k) (buffer_bytes mem)))
    (λ j l. part_is mem 2 (10 * k) j (omega (arith, lt)) l) in
    let long = field_8 mem 12 (10 * k + 2) (take 8 (drop (10 * k + 2) (buffer_bytes mem)))
    (λ j l. part_is mem 8 (10 * k + 2) j (omega (arith, lt)) l) in
    ap (λ (v : ℕ). stated v (statistic_at (buffer_bytes mem) k).value) (sym word ∙ is.tagged)
    ∙ ap (stated tag) (sym long ∙ is.valued)

two_statistics : (mem : Pages) → statistics_of (buffer_bytes mem)
    ≡ statistic_at (buffer_bytes mem) 0 ∷ statistic_at (buffer_bytes mem) 1 ∷ []
unfolding statistics_of
two_statistics mem = grind arith

-- it says the figures
pub buffer_says : {mem : Pages} {table : ℕ} {figures : Figures}
    → AreFigures mem table figures → statistics_in mem buffer_pieces
    ≡ record { free = Some figures.free; total = Some figures.total }
buffer_says {mem} code = grind (
  arith,
  statistic_is 0 (omega arith) code.free,
  statistic_is 1 (omega arith) code.total,
  bytes_are mem,
  two_statistics mem,
)
