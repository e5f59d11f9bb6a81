-- The numbers of a request, one after the other.
use Rattle.std.proofs.Common.{◌≡◌, ℕ, ◌+◌, ◌-◌, ◌<◌, ◌≤◌, Bool, true, false, List, [], ◌∷◌, ◌++◌}
use Rattle.std.proofs.lemmas.List.{Elements.filter-append, append-nil, take_more}
use Rattle.std.{proofs.lemmas.Bool.Decides.nat_tests, specs.Prelude.{is_none, ◌%◌, ◌^◌}}
use Rattle.std.proofs.Common.{Some, None, Err, length, get_or, take, arith, length-append}
use Rattle.vb_chain.specs.declared.fault.ChainFault.{ChainFault}
use Rattle.vb_request.specs.Request.{number_fault, first_number_fault}
use Rattle.vb_request.proofs.Once.{fault_here, sound_more}
use Rattle.vb_core.specs.{Name.{right_numbers, NamesRuns}, Runs.Tell, declared.runs.Run.Run}

-- a number that is less than n after the reserved ones
pub within : (reserved count n : ℕ) → reserved < 2 ^ 32 → n < 2 ^ 32 → count < 2 ^ 32 →
    (n + (2 ^ 32 - reserved)) % 2 ^ 32 < count - reserved → number_fault reserved count n ≡ None
within reserved count n r m c lt = let lower : reserved ≤ n = omega (arith, r, m, c, lt) in
    let upper : n < count = omega (arith, r, m, c, lt) in grind (arith, nat_tests)

-- What is in the runs after the first k numbers.
pub record Named_so_far (skipping : Bool) (reserved count : ℕ) (ns : List ℕ) (k : ℕ)
    (runs : List Run) (used skipped : ℕ) : Type 0 where
  pub told_so : Tell (take used runs) (right_numbers reserved count ns)
  pub few : used ≤ length (right_numbers reserved count ns)
  pub others : skipped + length (right_numbers reserved count ns) ≡ k
  pub sound : skipping ≡ false → first_number_fault reserved count ns ≡ None

right_more : (reserved count : ℕ) (ns : List ℕ) (i : ℕ) → i < length ns →
    right_numbers reserved count (take (i + 1) ns) ≡
    right_numbers reserved count (take i ns) ++ right_numbers reserved count (get_or ns i 0 ∷ [])
right_more reserved count ns i lt = grind (
  arith,
  take_more ns i 0 lt,
  filter-append (λ n. is_none (number_fault reserved count n)) (take i ns) (get_or ns i 0 ∷ []),
)

pub right_number : (reserved count : ℕ) (ns : List ℕ) (i n : ℕ) → i < length ns → get_or ns i 0 ≡ n
    → number_fault reserved count n ≡ None → right_numbers reserved count (take (i + 1) ns)
    ≡ right_numbers reserved count (take i ns) ++ n ∷ []
right_number reserved count ns i n lt at e = grind (arith, right_more)

pub wrong_number : (reserved count : ℕ) (ns : List ℕ) (i n : ℕ) (f : ChainFault) →
    i < length ns → get_or ns i 0 ≡ n → number_fault reserved count n ≡ Some f →
    right_numbers reserved count (take (i + 1) ns) ≡ right_numbers reserved count (take i ns)
wrong_number reserved count ns i n f lt at e = grind (arith, right_more, append-nil)

-- one more number was taken in
pub more_named : (skipping : Bool) (reserved count : ℕ) (ns : List ℕ) (k n : ℕ)
    (runs new : List Run) (used now skipped : ℕ) → k < length ns
    → get_or ns k 0 ≡ n → number_fault reserved count n ≡ None → now ≤ used + 1 → ((ms : List ℕ)
    → length ms < 4294967295 → Tell (take used runs) ms → Tell (take now new) (ms ++ n ∷ []))
    → k < 4294967295 → Named_so_far skipping reserved count (take k ns) k runs used skipped
    → Named_so_far skipping reserved count (take (k + 1) ns) (k + 1) new now skipped
more_named skipping reserved count ns k n runs new used now skipped lt at e one added short so_far =
    grind (arith, right_number, length-append, sound_more)

-- one more number was skipped
pub more_skipped : (skipping : Bool) (reserved count : ℕ) (ns : List ℕ) (k n : ℕ) (f : ChainFault)
    (runs : List Run) (used skipped : ℕ) → k < length ns → get_or ns k 0 ≡ n →
    number_fault reserved count n ≡ Some f → skipping ≡ true →
    Named_so_far skipping reserved count (take k ns) k runs used skipped →
    Named_so_far skipping reserved count (take (k + 1) ns) (k + 1) runs used (skipped + 1)
more_skipped skipping reserved count ns k n f runs used skipped lt at e skips so_far =
    grind (arith, wrong_number reserved count ns k n f lt)

pub same_named : (skipping : Bool) (reserved count : ℕ) (ns : List ℕ) (k : ℕ)
    (runs new : List Run) (used now skipped others : ℕ) → runs ≡ new → used ≡ now →
    skipped ≡ others → Named_so_far skipping reserved count ns k new now others →
    Named_so_far skipping reserved count ns k runs used skipped
same_named skipping reserved count ns k runs new used now skipped others e f g so_far = grind arith

-- a wrong number comes after right ones
pub names_fault : (skipping : Bool) (reserved count : ℕ) (ns : List ℕ) (k n : ℕ) (f : ChainFault)
    (runs : List Run) → k < length ns → get_or ns k 0 ≡ n → number_fault reserved count n ≡ Some f →
    skipping ≡ false → (skipping ≡ false → first_number_fault reserved count (take k ns) ≡ None) →
    NamesRuns skipping reserved count ns runs (Err f)
names_fault skipping reserved count ns k n f runs lt at e no_skip so_far =
    search (arith, fault_here)
