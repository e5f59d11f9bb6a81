-- Pages lose their frames.
use Rattle.std.specs.Prelude.{◌≡◌, ◌≢◌, ℕ, ◌+◌, ◌<◌, ◌==◌, ◌||◌, Bool, true, false, not, cond}
use Rattle.std.specs.Prelude.{if◌then◌else◌, List, [], ◌∷◌, ◌++◌, All, length, Option, None, IsTrue}
use Rattle.std.specs.{Prelude.{slice_set, slice_index_or, count_by, refl}, Option.option_to_list}
use Rattle.vb_virtio.specs.Tests.{AllDistinct, times, one_if, is_in, each_page}
use Rattle.vb_virtio.proofs.Tables.{length-each_from, each_page-get, count_by-cons, count_by-append}
use Rattle.std.specs.List.{flat_map, list_any}
use Rattle.std.proofs.{Common.{sym, ◌∙◌, ap, arith, inl, inr, eq-eqb}, lemmas.List.Sums.sum_by-set}
use Rattle.std.proofs.lemmas.{Bool.{cases_eq, eqb-true, cases_Bool}, List.Elements.All-tail}
use Rattle.std.proofs.lemmas.List.{ext_get_or, length-set, get_or-set_same, get_or-set_other}
use Rattle.vb_guest.proofs.RingHeads.{cond_one}
use Rattle.{vb_model.specs.Guest.frame_of, vb_guest.specs.Steps.is_frame}

-- the table in which these pages have this entry
abbrev pub with_entry : {A : Type 0} → List ℕ → A → List A → List A
with_entry pages x xs = each_page (λ page old. if is_in page pages then x else old) xs

pub length-with_entry : {A : Type 0} (pages : List ℕ) (x : A) (xs : List A)
    → length (with_entry pages x xs) ≡ length xs
length-with_entry pages x xs =
    length-each_from 0 (λ page old. if is_in page pages then x else old) xs

pub with_entry-get : {A : Type 0} (pages : List ℕ) (x : A) (xs : List A) (i : ℕ) (d : A)
    → i < length xs → slice_index_or (with_entry pages x xs) i d
    ≡ (if is_in i pages then x else slice_index_or xs i d)
with_entry-get pages x xs i d lt = grind (arith, each_page-get)

-- where the entry is what is past the end, any index will do
pub with_none-get : {A : Type 0} (pages : List ℕ) (x : A) (xs : List A) (i : ℕ) → slice_index_or
    (with_entry pages x xs) i x ≡ (if is_in i pages then x else slice_index_or xs i x)
with_none-get pages x xs i = grind (arith, each_page-get)

pub in_first : (p : ℕ) (ps : List ℕ) → is_in p (p ∷ ps) ≡ true
in_first p ps = ap (λ (b : Bool). b || list_any (λ m. m == p) ps) (eq-eqb p p refl)

pub other_not : (p i : ℕ) → p ≢ i → (p == i) ≡ false
other_not p i ne = elim (cases_Bool (p == i)) [ inl e ↦ absurd (ne (eqb-true p i e)) | inr e ↦ e ]

pub in_rest : (p i : ℕ) (ps : List ℕ) → p ≢ i → is_in i (p ∷ ps) ≡ is_in i ps
in_rest p i ps ne = ap (λ (b : Bool). b || list_any (λ m. m == i) ps) (other_not p i ne)

-- one page after the others
entry_first : {A : Type 0} (p : ℕ) (ps : List ℕ) (x d : A) (xs : List A) → p < length xs
    → with_entry (p ∷ ps) x xs ≡ slice_set (with_entry ps x xs) p x
entry_first p ps x d xs lt = ext_get_or d
    (with_entry (p ∷ ps) x xs) (slice_set (with_entry ps x xs) p x) (length-with_entry (p ∷ ps) x xs
    ∙ sym (length-set (with_entry ps x xs) p x ∙ length-with_entry ps x xs)) (λ i h.
    let inside : i < length xs = omega (arith, length-with_entry (p ∷ ps) x xs) in
    with_entry-get (p ∷ ps) x xs i d inside ∙ elim (cases_eq p i) [
      | inl same ↦ ap (λ (b : Bool). if b then x else slice_index_or xs i d)
          (ap (λ (k : ℕ). is_in k (p ∷ ps)) (sym same) ∙ in_first p ps)
          ∙ sym (ap (λ (k : ℕ). slice_index_or (slice_set (with_entry ps x xs) p x) k d) (sym same)
          ∙ get_or-set_same (with_entry ps x xs) p x d (omega (arith, length-with_entry ps x xs)))
      | inr ne ↦ ap (λ (b : Bool). if b then x else slice_index_or xs i d) (in_rest p i ps ne)
          ∙ sym (get_or-set_other (with_entry ps x xs) p i x d (λ e. ne (sym e))
          ∙ with_entry-get ps x xs i d inside)
    ])

not_in : (b : Bool) → IsTrue (not b) → b ≡ false
not_in x h = grind arith

pub one_frame : (n : ℕ) (o : Option ℕ) → times n (option_to_list o) ≡ one_if (is_frame n o)
one_frame n y = grind (arith, count_by-cons)

-- how often a frame backed the pages, and how often it backs one afterwards
pub frames_freed : (n : ℕ) (pages : List ℕ) (frames : List (Option ℕ)) → AllDistinct pages
    → All (λ page. page < length frames) pages
    → times n (flat_map (λ page. option_to_list (frame_of frames page)) pages) + count_by
    (is_frame n) (with_entry pages None frames) ≡ count_by (is_frame n) frames
frames_freed n [] frames distinct below =
    let same : count_by (is_frame n) (with_entry [] None frames) ≡ count_by (is_frame n) frames =
    ap (count_by (is_frame n))
    (ext_get_or None (with_entry [] None frames) frames (length-with_entry [] None frames)
    (λ i h. with_none-get [] None frames i)) in omega (arith, same)
frames_freed n (p ∷ ps) frames distinct below =
    let lt : p < length frames = below 0 p (omega arith) in
    let rest = frames_freed n ps frames distinct.1
    (All-tail (λ page. page < length frames) p ps below) in
    let behind : Option ℕ = frame_of frames p in
    let others = flat_map (λ page. option_to_list (frame_of frames page)) ps in
    let split : times n (option_to_list behind ++ others) ≡ times n (option_to_list behind)
    + times n others = count_by-append (λ (m : ℕ). m == n) (option_to_list behind) others in
    let f : Option ℕ → ℕ = λ o. cond (is_frame n o) 1 0 in
    let there : slice_index_or (with_entry ps None frames) p None ≡ behind = with_none-get ps None
    frames p ∙ ap (λ (b : Bool). if b then None else behind) (not_in (is_in p ps) distinct.0) in
    let set_one : count_by (is_frame n) (slice_set (with_entry ps None frames) p None) + f
    (slice_index_or (with_entry ps None frames) p None)
    ≡ count_by (is_frame n) (with_entry ps None frames) + f None = sum_by-set f
    (with_entry ps None frames) p None None (omega (arith, length-with_entry ps None frames)) in
    let none : f None ≡ 0 = refl in
    let same : f (slice_index_or (with_entry ps None frames) p None) ≡ one_if (is_frame n behind) =
    ap f there ∙ cond_one (is_frame n behind) in
    let whole : count_by (is_frame n) (with_entry (p ∷ ps) None frames)
    ≡ count_by (is_frame n) (slice_set (with_entry ps None frames) p None) =
    ap (count_by (is_frame n)) (entry_first p ps None None frames lt) in
    omega (arith, rest, split, set_one, none, same, whole, one_frame n behind)
