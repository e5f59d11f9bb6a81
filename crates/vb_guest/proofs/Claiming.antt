-- What a call of `supply_from` makes of one page and of the rest.
use Rattle.std.specs.Prelude.{◌≡◌, ℕ, ◌+◌, ◌<◌, true, false, cond, ◌∷◌, length, IsErrAnd, ◌++◌}
use Rattle.std.specs.Prelude.{suc, ◌-◌, ◌≤◌, Bool, List, [], None, filter, Result, Ok, Err}
use Rattle.{std.specs.List.range_with_len, vb_ram.specs.Pages.{Pages, frame_at, Supplied}}
use Rattle.std.proofs.{lemmas.List.{append-nil, append_assoc}, Common.{sym, ◌∙◌, ap, subst, arith}}
use Rattle.vb_virtio.specs.Layout.{reserved_pages}
use Rattle.vb_virtio.specs.Tests.{times}
use Rattle.vb_model.specs.declared.calls.Claim.{Claim}
use Rattle.vb_model.specs.declared.calls.Claim.TheVariants.{Gave}
use Rattle.vb_model.specs.Driver.{given}
use Rattle.vb_guest.specs.Lives.{is_bare, bare_from}
use Rattle.vb_frames.specs.{declared.keeper.Refused.Refused, Out.claim_in}
use Rattle.vb_guest.specs.{Supply.{Supply, is_used, IsClaimed, nothing}, Lives.SuppliesBy}
use Rattle.vb_guest.{specs.Supply.Moves, proofs.Moving.{times_first, times_one, moves_then}}
use Rattle.vb_guest.proofs.{Supplying.{not_again, supplied_count, supplied_other}, Moving.moves_as}

-- ---- the pages without frames

bare_first : (size : ℕ) (mem : Pages) (page : ℕ) → page < reserved_pages size
    → bare_from size mem page ≡ cond (is_bare size mem page)
    (page ∷ bare_from size mem (page + 1)) (bare_from size mem (page + 1))
bare_first size mem page lt =
    let one : reserved_pages size - page ≡ suc (reserved_pages size - (page + 1)) = omega arith in
    ap (λ (n : ℕ). filter (is_bare size mem) (range_with_len page n)) one

pub bare_skips : (size : ℕ) (mem : Pages) (page : ℕ) → page < reserved_pages size
    → is_bare size mem page ≡ false → bare_from size mem page ≡ bare_from size mem (page + 1)
bare_skips size mem page lt passed = grind (arith, bare_first)

pub bare_takes : (size : ℕ) (mem : Pages) (page : ℕ) → page < reserved_pages size
    → is_bare size mem page ≡ true → bare_from size mem page ≡ page ∷ bare_from size mem (page + 1)
bare_takes size mem page lt bare = grind (arith, bare_first)

-- after the rest got frames, the page is still there and has none
pub still_inside : {Answers : List Bool → Claim → Type 0} (size : ℕ) {s1 s2 : Supply}
    {l1 l2 : List Claim} {m m1 m2 : Pages} (page : ℕ) → page < reserved_pages size → 64 ≤ length m
    → m1 ≡ m → SuppliesBy {T = Unit {0}} Answers s1 s2 l1 l2 (bare_from size m1 (page
    + 1)) m1 m2 (Ok tt) → page < length m2
still_inside size page lt large same did = grind (arith, supplied_count)

pub still_bare : {Answers : List Bool → Claim → Type 0} (size : ℕ) {s1 s2 : Supply}
    {l1 l2 : List Claim} {m m1 m2 : Pages} (page : ℕ) → is_bare size m page ≡ true → m1 ≡ m
    → SuppliesBy {T = Unit {0}} Answers s1 s2 l1 l2 (bare_from size m1 (page + 1)) m1 m2 (Ok tt)
    → frame_at m2 page ≡ None
still_bare size page none same did = grind (arith, supplied_other, not_again)

-- ---- what is left

pub supplies_none : {Answers : List Bool → Claim → Type 0}
    (size : ℕ) {s : Supply} {l : List Claim} {m : Pages} (page : ℕ) → reserved_pages size ≤ page
    → SuppliesBy {T = Unit {0}} Answers s s l l (bare_from size m page) m m (Ok tt)
supplies_none size page past = grind (arith, append-nil)

pub supplies_rest : {Answers : List Bool → Claim → Type 0} (size : ℕ) {s1 s2 : Supply}
    {l1 l2 : List Claim} {m1 m2 : Pages} (page : ℕ) {result : Result (Unit {0}) Refused}
    → page < reserved_pages size → is_bare size m1 page ≡ false
    → SuppliesBy Answers s1 s2 l1 l2 (bare_from size m1 (page + 1)) m1 m2 result
    → SuppliesBy Answers s1 s2 l1 l2 (bare_from size m1 page) m1 m2 result
supplies_rest size page lt has did = grind (arith, bare_skips)

-- the page's claim is refused
pub supplies_refused : {Answers : List Bool → Claim → Type 0}
    (size : ℕ) {s1 s2 : Supply} {l1 l2 : List Claim} {m1 m2 : Pages} (page : ℕ) (why : Refused)
    → page < reserved_pages size → is_bare size m1 page ≡ true
    → IsClaimed Answers s1 s2 (claim_in (Err why)) → l2 ≡ l1 ++ (claim_in (Err why) ∷ []) → m2 ≡ m1
    → SuppliesBy {T = Unit {0}} Answers s1 s2 l1 l2 (bare_from size m1 page) m1 m2 (Err why)
supplies_refused size {m1} page why lt none answer noted m =
    grind (arith, bare_takes size m1 page lt none)

-- a refusal that is handed on
pub err_is : (result : Result (Unit {0}) Refused) (why : Refused) → IsErrAnd result (λ e. e ≡ why)
    → Err why ≡ result
err_is x why h = grind arith

-- a claim is noted before those of the rest
noted_first : (l1 : List Claim) {l2 l3 : List Claim} (claims : List Claim) (claim : Claim)
    → l2 ≡ l1 ++ (claim ∷ []) → l3 ≡ l2 ++ claims → l3 ≡ l1 ++ (claim ∷ claims)
noted_first l1 claims claim first rest =
    rest ∙ ap (λ (l : List Claim). l ++ claims) first ∙ append_assoc l1 (claim ∷ []) claims

-- the page's claim was answered, and then the rest got frames, and the page the claimed one
pub supplies_all : {Answers : List Bool → Claim → Type 0} (size : ℕ) {s1 s2 s3 : Supply}
    {l1 l2 l3 : List Claim} {m1 m2 m3 m4 : Pages} {page n : ℕ} → page < reserved_pages size
    → is_bare size m1 page ≡ true → IsClaimed Answers s1 s2 (Gave n) → l2 ≡ l1 ++ (Gave n ∷ [])
    → m2 ≡ m1 → SuppliesBy {T = Unit {0}} Answers s2 s3 l2 l3 (bare_from size m2 (page
    + 1)) m2 m3 (Ok tt) → frame_at m3 page ≡ None → Supplied m3 m4 page n
    → SuppliesBy {T = Unit {0}} Answers s1 s3 l1 l3 (bare_from size m1 page) m1 m4 (Ok tt)
supplies_all {Answers} size {s1}
    {s2} {s3} {l1} {l2} {l3} {m1} {m3} {m4} {page} {n} lt none answer noted same rest bare did =
    let here : SuppliesBy {T = Unit {0}} Answers s2 s3 l2 l3 (bare_from size m1 (page + 1)) m1 m3
    (Ok tt) = subst (λ (m : Pages). SuppliesBy {T = Unit {0}} Answers s2 s3 l2 l3
    (bare_from size m (page + 1)) m m3 (Ok tt)) same rest in
    let claims = here.claims in
    subst (λ (l : List ℕ). SuppliesBy {T = Unit {0}} Answers s1 s3 l1 l3 l m1 m4 (Ok tt))
    (sym (bare_takes size m1 page lt none)) (record {
      claims = Gave n ∷ claims;
      noted = noted_first l1 claims (Gave n) noted here.noted;
      made = here.made;
      answered = (s2, answer, here.answered);
      answer = here.answer;
      supplied = (
        (m3, here.supplied.0, bare, did),
        moves_as (moves_then answer.moves here.supplied.1)
            (λ x. omega (arith, times_first x n (given claims), times_one x n)),
      );
      refused = tt;
    })

-- the page's claim was answered, but one of the rest was refused: the frame goes back
pub supplies_back : {Answers : List Bool → Claim → Type 0} (size : ℕ) {s1 s2 s3 s4 : Supply}
    {l1 l2 l3 : List Claim} {m1 m2 m3 m4 : Pages} (page : ℕ) {n : ℕ} (why : Refused)
    → page < reserved_pages size → is_bare size m1 page ≡ true → IsClaimed Answers s1 s2 (Gave n)
    → l2 ≡ l1 ++ (Gave n ∷ []) → m2 ≡ m1 → SuppliesBy {T = Unit {0}} Answers s2 s3 l2 l3
    (bare_from size m2 (page + 1)) m2 m3 (Err why) → m4 ≡ m3 → Moves s3 s4 nothing (λ x. times x (n
    ∷ [])) → SuppliesBy {T = Unit {0}} Answers s1 s4 l1 l3 (bare_from size m1 page) m1 m4 (Err why)
supplies_back {Answers} size {s1} {s2}
    {s3} {s4} {l1} {l2} {l3} {m1} {m3} {m4} page {n} why lt none answer noted same rest left back =
    let here : SuppliesBy {T = Unit {0}} Answers s2 s3 l2 l3 (bare_from size m1 (page + 1)) m1 m3
    (Err why) = subst (λ (m : Pages). SuppliesBy {T = Unit {0}} Answers s2 s3 l2 l3
    (bare_from size m (page + 1)) m m3 (Err why)) same rest in
    let claims = here.claims in
    subst (λ (l : List ℕ). SuppliesBy {T = Unit {0}} Answers s1 s4 l1 l3 l m1 m4 (Err why))
    (sym (bare_takes size m1 page lt none)) (record {
      claims = Gave n ∷ claims;
      noted = noted_first l1 claims (Gave n) noted here.noted;
      made = here.made;
      answered = (s2, answer, here.answered);
      answer = here.answer;
      supplied = tt;
      refused = search (arith, moves_as, moves_then);
    })

-- the claimed frame is out still, where the rest got none
pub still_used : {Answers : List Bool → Claim → Type 0} {s1 s2 s3 : Supply} {l2 l3 : List Claim}
    {m2 m3 : Pages} {pages : List ℕ} {n : ℕ} (why : Refused) → IsClaimed Answers s1 s2 (Gave n)
    → SuppliesBy {T = Unit {0}} Answers s2 s3 l2 l3 pages m2 m3 (Err why) → is_used s3 n ≡ true
still_used why answer rest = grind arith
