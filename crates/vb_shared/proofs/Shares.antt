-- Views that are cut, joined and compared.
use Rattle.std.{proofs.{Common.{◌≡◌, ◌≢◌}, lemmas.List.length-replicate}, specs.Prelude.slice_index}
use Rattle.std.proofs.Common.{ℕ, zero, suc, ◌+◌, ◌<◌, ◌≤◌, eqb, List, [], ◌∷◌, ◌++◌, length, set}
use Rattle.std.proofs.Common.{refl, sym, ap, ◌∙◌, subst, arith, eq-eqb, ne_eqb, eqb-true, replicate}
use Rattle.atomic_table.specs.Table.{Me, Allows, Splits, Joins, step, opening, keeps}
use Rattle.{atomic_table.proofs.Lists.{at_set, at_snoc}, vb_shared.proofs.Lists.zeros}
use Rattle.vb_virtio.specs.Tests.{one_if}
use Rattle.vb_shared.specs.{Steps.Apart, declared.rule.{Holding.Holding, View.View, Size.Size}}
use Rattle.vb_shared.specs.Steps.{met, no_view, first_of, rest_of, new_holdings, opening_view}
use Rattle.vb_shared.specs.Rule.{view_of, count, count_all, AllTied, IsKept, Kept, pass, FrameRule}
use Rattle.vb_shared.proofs.Keeps.{count_set, count_at, count_two, one_tag, not_tag, still}
use mathlib.Core.Option.{some, none, some-ne-none, some-injective}
use mathlib.Core.Logic.{dite}
use native.Mathlib.Decide.{ℕ_discrete}
use lib.ListN.{get_elem?}

count_snoc : (tag : ℕ) (views : List View) (v : View)
    → count_all tag (views ++ v ∷ []) ≡ count_all tag views + count tag v.holdings
count_snoc tag [] v = omega arith
count_snoc tag (x ∷ xs) v = let rest = count_snoc tag xs v in omega arith

count_append : (tag : ℕ) (ps qs : List Holding) → count tag (ps ++ qs) ≡ count tag ps + count tag qs
count_append tag [] qs = omega arith
count_append tag (p ∷ ps) qs = let rest = count_append tag ps qs in omega arith

tied_append : (guests : ℕ) (words : List ℕ) (ps qs : List Holding) → AllTied guests words ps
    → AllTied guests words qs → AllTied guests words (ps ++ qs)
tied_append guests words [] qs a b = b
tied_append guests words (p ∷ ps) qs a b = (a.0, tied_append guests words ps qs a.1 b)

-- ---- a view is cut

splits : (size : Size) (id : ℕ) (v : View) (left right : List Holding)
    → ((tag : ℕ) → count tag left + count tag right ≡ count tag v.holdings)
    → ((words : List ℕ) → AllTied size.guests words v.holdings
    → AllTied size.guests words left × AllTied size.guests words right)
    → Splits (Kept size) id v (view_of left) (view_of right)
splits size id v left right counts ties s r at =
    grind (arith, at_set, at_snoc, count_snoc, count_set)

pub all_goes : (size : Size) (id : ℕ) (v : View) → Splits (Kept size) id v no_view v
all_goes size id v = splits size id v [] v.holdings (λ tag. omega arith) (λ words tied. (tt, tied))

first_rest : (tag : ℕ) (ps : List Holding)
    → count tag (first_of ps) + count tag (rest_of ps) ≡ count tag ps
first_rest tag [] = refl
first_rest tag (p ∷ ps) = omega arith

tied_first_rest : (guests : ℕ) (words : List ℕ) (ps : List Holding) → AllTied guests words ps
    → AllTied guests words (first_of ps) × AllTied guests words (rest_of ps)
tied_first_rest guests words [] tied = (tt, tt)
tied_first_rest guests words (p ∷ ps) tied = ((tied.0, tt), tied.1)

pub rest_goes : (size : Size) (id : ℕ) (v : View)
    → Splits (Kept size) id v (view_of (first_of v.holdings)) (view_of (rest_of v.holdings))
rest_goes size id v = search (arith, splits, first_rest, tied_first_rest)

pub first_goes : (size : Size) (id : ℕ) (v : View)
    → Splits (Kept size) id v (view_of (rest_of v.holdings)) (view_of (first_of v.holdings))
first_goes size id v = splits size id v (rest_of v.holdings) (first_of v.holdings)
    (λ tag. let sum = first_rest tag v.holdings in omega arith)
    (λ words tied. let both = tied_first_rest size.guests words v.holdings tied in (both.1, both.0))

-- ---- two views are joined

pub joins : (size : Size) (id : ℕ) (v : View) (other : ℕ) (w : View)
    → Joins (Kept size) id v other w (view_of (v.holdings ++ w.holdings)) no_view
joins size id v other w s r at ne there =
    let both : View = view_of (v.holdings ++ w.holdings) in
    let before : get_elem? s.views other ≡ some w = search (arith, at_set) in
    let joined = tied_append size.guests s.words v.holdings w.holdings (r.tied id v at)
    (r.tied other w before) in
    record {
      wide = r.wide;
      small = r.small;
      tied = search (arith, at_set);
      apart = λ tag.
          let a = count_set tag s.views id v both at in
          let b = count_set tag (set s.views id both) other w no_view there in
          let c = count_append tag v.holdings w.holdings in
          let most = r.apart tag in omega arith;
    }

-- ---- two passes of one view

apart_at : (size : Size) (words : List ℕ) (ps : List Holding) → AllTied size.guests words ps
    → ((tag : ℕ) → count tag ps ≤ 1) → Apart ps
apart_at size words [] tied once = tt
apart_at size words (p ∷ []) tied once = tt
apart_at size words (p ∷ q ∷ ps) tied once = λ f mine.
    let here : slice_index words f ≡ p.tag + 1 = eqb-true _ _ (tied.0.1 f ∙ mine) in
    let most = once p.tag in
    let self = one_tag p.tag in
    let ne : q.tag ≢ p.tag = not_tag q.tag p.tag (count p.tag ps) (omega arith) in
    sym (tied.1.0.1 f) ∙ ne_eqb (slice_index words f) (q.tag + 1) (λ e. ne (omega arith))

pub meets : (size : Size) (slots id : ℕ) (me : Me (Unit {0}) View)
    → Allows (Kept size) slots id me 0 (λ n. n) (met (step slots 0 0 0 none) me)
meets size slots id me s r _ at _ = (
  me.0,
  keeps,
  tt,
  still size s.words s.views id 0 me.0 r at,
  (
    refl,
    apart_at size s.words me.0.holdings (r.tied id me.0 at)
        (λ tag. let a = count_at tag s.views id me.0 at in let most = r.apart tag in omega arith),
  ),
)

-- ---- the start

new_tied : (guests : ℕ) (words : List ℕ) (tag n : ℕ) → tag + n ≤ guests
    → ((f : ℕ) → slice_index words f ≡ 0) → AllTied guests words (new_holdings tag n)
new_tied guests words tag zero low free = tt
new_tied guests words tag (suc n) low free =
    grind (arith, new_tied guests words (suc tag) n (omega arith) free)

new_none : (tag first n : ℕ) → tag < first → count tag (new_holdings first n) ≡ 0
new_none tag first zero low = refl
new_none tag first (suc n) low = grind (
  arith,
  new_none tag (suc first) n (omega arith),
  eqb first tag,
  ne_eqb first tag (λ e. omega arith),
)

new_once : (tag first n : ℕ) → count tag (new_holdings first n) ≤ 1
new_once tag first zero = omega arith
new_once tag first (suc n) = dite (ℕ_discrete first tag) (search (arith, eq-eqb, new_none))
    (λ ne. let other : one_if (eqb first tag) ≡ 0 = ap one_if (ne_eqb first tag ne) in
    let rest = new_once tag (suc first) n in omega arith)

pub begins : (size : Size) (words : List ℕ) → words ≡ replicate size.frames 0
    → Kept size (opening words [] (opening_view size.guests))
begins size words is = record {
  wide = ap length is ∙ length-replicate size.frames 0;
  small = λ f. let free = free_at f in omega arith;
  tied = only;
  apart = λ tag. let once = new_once tag 0 size.guests in omega arith;
}
  where
    free_at : (f : ℕ) → slice_index words f ≡ 0
    free_at f = ap (λ ws. slice_index ws f) is ∙ zeros size.frames f

    only : (i : ℕ) (v : View) → get_elem? (opening_view size.guests ∷ []) i ≡ some v
        → AllTied size.guests words v.holdings
    only zero v e = subst (λ (y : View). AllTied size.guests words y.holdings)
        (some-injective _ _ e) (new_tied size.guests words 0 size.guests (omega arith)
        (λ f. ap (λ ws. slice_index ws f) is ∙ zeros size.frames f))
    only (suc i) v e = absurd (some-ne-none v (sym e))

-- ---- the rule in plain words

pub in_words : (size : Size) (words : List ℕ) (views : List View) → IsKept size words views
    → FrameRule size words views
in_words size words views r = record {
  tags = differ;
  holder = search (arith, eq-eqb, eqb-true);
  guests = r.small;
  frames = λ i j t u f held other ne at there mine.
      let here : slice_index words f ≡ t + 1
      = eqb-true _ _ ((r.tied i (pass t held) at).0.1 f ∙ mine) in
      let apart = differ i j t u held other ne at there in
      sym ((r.tied j (pass u other) there).0.1 f)
      ∙ ne_eqb (slice_index words f) (u + 1) (λ e. apart (omega arith));
}
  where
    differ : (i j t u : ℕ) (held other : List ℕ) → i ≢ j → get_elem? views i ≡ some (pass t held)
        → get_elem? views j ≡ some (pass u other) → t ≢ u
    differ i j t u held other ne at there same =
        let two = count_two t views i j (pass t held) (pass u other) ne at there in
        let most = r.apart t in
        let one = one_tag t in
        let also : one_if (eqb u t) ≡ 1 = ap one_if (eq-eqb u t (sym same)) in omega arith
