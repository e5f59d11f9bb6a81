-- Statistics one after another.
use Rattle.std.specs.Prelude.{◌≡◌, ℕ, ◌+◌, ◌/◌, ◌<◌, Bool, true, false, ◌==◌, List, [], ◌∷◌, ◌++◌}
use Rattle.std.proofs.lemmas.List.FromFn.{length-map-range_with_len, get_or-map-range_with_len}
use Rattle.std.specs.Prelude.{length, if◌then◌else◌, Option, Some, None, refl}
use Rattle.std.proofs.{Common.{sym, ◌∙◌, ap, arith, get_or, take}, lemmas.List.take_more}
use Rattle.vb_request.specs.Statistics.{Statistic, statistic_at, statistics_of, later_or, last_of}

later_assoc : (a b c : Option ℕ) → later_or a (later_or b c) ≡ later_or (later_or a b) c
later_assoc None b c = refl
later_assoc (Some v) b c = refl

last_append : (tag : ℕ) (xs ys : List Statistic) →
    last_of tag (xs ++ ys) ≡ later_or (last_of tag ys) (last_of tag xs)
last_append tag [] ys = later_none (last_of tag ys) where
  later_none : (o : Option ℕ) → o ≡ later_or o None
  later_none None = refl
  later_none (Some v) = refl
last_append tag (x ∷ xs) ys = grind (
  arith,
  last_append tag xs ys,
  later_assoc (last_of tag ys) (last_of tag xs) (if x.tag == tag then Some x.value else None),
)

pub statistics_of-length : (bytes : List ℕ) → length (statistics_of bytes) ≡ length bytes / 10
unfolding statistics_of
statistics_of-length bytes = length-map-range_with_len (statistic_at bytes) 0 (length bytes / 10)

abbrev pub no_statistic : Statistic
no_statistic = record { tag = 0; value = 0 }

pub statistics_of-at : (bytes : List ℕ) (k : ℕ) → k < length bytes / 10 →
    get_or (statistics_of bytes) k no_statistic ≡ statistic_at bytes k
unfolding statistics_of
statistics_of-at bytes k lt = grind (arith, get_or-map-range_with_len)

noted_so : (b : Bool) (value : ℕ) (old : Option ℕ) →
    (if b then Some value else old) ≡ later_or (if b then Some value else None) old
noted_so true value old = refl
noted_so false value old = refl

-- one more statistic
pub last_more : (which tag value k : ℕ) (bytes : List ℕ) (old new : Option ℕ) →
    k < length bytes / 10 → tag ≡ (statistic_at bytes k).tag →
    value ≡ (statistic_at bytes k).value → old ≡ last_of which (take k (statistics_of bytes)) →
    new ≡ (if tag == which then Some value else old) →
    new ≡ last_of which (take (k + 1) (statistics_of bytes))
last_more which tag value k bytes old new lt tag_is value_is so_far is =
    let here : Statistic = get_or (statistics_of bytes) k no_statistic in
    let at : here ≡ statistic_at bytes k = statistics_of-at bytes k lt in
    let inside : k < length (statistics_of bytes) = omega (arith, lt, statistics_of-length bytes) in
    is ∙ (ap (λ (t : ℕ). if t == which then Some value else old)
    (tag_is ∙ sym (ap (λ (s : Statistic). s.tag) at))
    ∙ (ap (λ (v : ℕ). if here.tag == which then Some v else old)
    (value_is ∙ sym (ap (λ (s : Statistic). s.value) at))
    ∙ (noted_so (here.tag == which) here.value old
    ∙ (ap (λ (o : Option ℕ). later_or (if here.tag == which then Some here.value else None) o) so_far
    ∙ sym (ap (last_of which) (take_more (statistics_of bytes) k no_statistic inside)
    ∙ last_append which (take k (statistics_of bytes)) (here ∷ []))))))
