-- What runs say of the pages that the definitions give.
use Rattle.std.proofs.Common.{◌≡◌, ◌∙◌, ℕ, Bool, false, List, [], ◌∷◌, Option, Some, None, Result}
use Rattle.std.specs.Prelude.{cond, is_none, IsOkAnd}
use Rattle.std.proofs.Common.{Ok, Err, refl, length, take, sym, ap, arith}
use Rattle.vb_virtio.specs.Tests.{times, is_in, AllDistinct}
use Rattle.vb_virtio.proofs.Distinct.{times-none, times-some}
use Rattle.vb_ram.specs.Pages.{Pages}
use Rattle.vb_chain.specs.declared.{fault.ChainFault.ChainFault, pieces.Piece.Piece}
use Rattle.vb_request.specs.Request.{number_fault, first_of_both, first_number_fault, each_once}
use Rattle.vb_request.proofs.{Bytes.read_numbers, Once.is_in-each_once, OneRequest.once_distinct}
use Rattle.vb_request.specs.Request.{numbers_of, bytes_of, request_length, page_request}
use Rattle.vb_core.specs.{Name.right_numbers, declared.{name.Named.Named, runs.Run.Run}}
use Rattle.vb_core.{proofs.RunLemmas.tell_times, specs.{Name.NamesRuns, Runs.{pages_of_runs, Tell}}}

none_of_both : (a b : Option ChainFault) → first_of_both a b ≡ None → (a ≡ None) × (b ≡ None)
none_of_both None b e = (refl, e)
none_of_both (Some f) b e = absurd cc

-- where no number is wrong, all are right
all_right : (reserved count : ℕ) (ns : List ℕ) → first_number_fault reserved count ns ≡ None →
    right_numbers reserved count ns ≡ ns
all_right reserved count [] e = refl
all_right reserved count (n ∷ ns) e =
    let both =
    none_of_both (number_fault reserved count n) (first_number_fault reserved count ns) e in
    ap (λ (o : Option ChainFault). cond (is_none o) (n ∷ right_numbers reserved count ns)
    (right_numbers reserved count ns)) both.0
    ∙ ap (λ (xs : List ℕ). n ∷ xs) (all_right reserved count ns both.1)

-- what is as often in two lists is in both or in neither
in_both : (p : ℕ) (xs ys : List ℕ) (a b : Bool) → is_in p xs ≡ a → is_in p ys ≡ b →
    times p xs ≡ times p ys → a ≡ b
in_both p xs ys a b e f same = grind (arith, times-some, times-none)

weaker : {A : Type 0} {E : Type 0} (result : Result A E) (P Q : A → Type 0) →
    ((x : A) → P x → Q x) → IsOkAnd result P → IsOkAnd result Q
weaker (Ok x) P Q leads holds = leads x holds
weaker (Err e) P Q leads holds = holds

-- the runs where the definitions give pages
named_right : (mem : Pages) (pieces : List Piece) (reserved total : ℕ) (runs : List Run)
    (result : Result Named ChainFault) (pages : List ℕ) → request_length pieces ≡ Ok total →
    NamesRuns false reserved (length mem) (numbers_of (bytes_of mem pieces)) runs result →
    page_request mem pieces reserved ≡ Ok pages →
    (each_once (numbers_of (bytes_of mem pieces)) ≡ pages)
    × IsOkAnd result (λ named. Tell (take named.runs runs) (numbers_of (bytes_of mem pieces)))
named_right mem pieces reserved total runs result pages e names is =
    grind (arith, read_numbers, all_right, weaker)

pub named_fault : (mem : Pages) (pieces : List Piece) (reserved total : ℕ) (runs : List Run)
    (result : Result Named ChainFault) (fault : ChainFault) → request_length pieces ≡ Ok total →
    NamesRuns false reserved (length mem) (numbers_of (bytes_of mem pieces)) runs result →
    page_request mem pieces reserved ≡ Err fault → result ≡ Err fault
named_fault mem pieces reserved total runs result fault e names is =
    grind (arith, read_numbers mem pieces reserved total e)

pub named_members : (mem : Pages) (pieces : List Piece) (reserved total : ℕ) (runs : List Run)
    (result : Result Named ChainFault) (pages : List ℕ) → request_length pieces ≡ Ok total →
    NamesRuns false reserved (length mem) (numbers_of (bytes_of mem pieces)) runs result →
    page_request mem pieces reserved ≡ Ok pages → IsOkAnd result (λ named. (p : ℕ) →
    is_in p (pages_of_runs (take named.runs runs)) ≡ is_in p pages)
named_members mem pieces reserved total runs result pages e names is =
    let ns : List ℕ = numbers_of (bytes_of mem pieces) in
    let found = named_right mem pieces reserved total runs result pages e names is in
    weaker result (λ named. Tell (take named.runs runs) ns) (λ named. (p : ℕ)
    → is_in p (pages_of_runs (take named.runs runs)) ≡ is_in p pages) (λ named are p. in_both p
    (pages_of_runs (take named.runs runs)) ns (is_in p (pages_of_runs (take named.runs runs)))
    (is_in p ns) refl refl (tell_times (take named.runs runs) ns are p)
    ∙ (sym (is_in-each_once p ns) ∙ ap (is_in p) found.0)) found.1

pub named_once : (mem : Pages) (pieces : List Piece) (reserved total : ℕ) (runs : List Run)
    (result : Result Named ChainFault) (pages : List ℕ) → request_length pieces ≡ Ok total →
    NamesRuns false reserved (length mem) (numbers_of (bytes_of mem pieces)) runs result →
    page_request mem pieces reserved ≡ Ok pages → AllDistinct (numbers_of (bytes_of mem pieces)) →
    IsOkAnd result (λ named. Tell (take named.runs runs) pages)
named_once mem pieces reserved total runs result pages e names is apart =
    grind (arith, named_right mem pieces reserved total runs result pages e names is, once_distinct)
