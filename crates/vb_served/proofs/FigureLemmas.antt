-- Figures one after another.
use Rattle.std.proofs.Common.{◌≡◌, ◌∙◌, ap, sym, refl, ℕ, ◌+◌, ◌<◌, Bool, true, false, List, [], ◌∷◌}
use Rattle.std.proofs.Common.{◌++◌, length, get_or, take, Option, Some, None}
use Rattle.std.specs.Prelude.{◌==◌, if◌then◌else◌}
use Rattle.std.proofs.lemmas.List.{take_more}
use Rattle.vb_core.specs.declared.statistics.Statistic.{Statistic}
use Rattle.vb_request.specs.Statistics.{later_or}
use Rattle.vb_served.specs.Store.{last_value}

later_none : (o : Option ℕ) → later_or None o ≡ o
later_none None = refl
later_none (Some v) = refl

later_again : (a b c : Option ℕ) → later_or (later_or a b) c ≡ later_or a (later_or b c)
later_again None b c = refl
later_again (Some v) b c = refl

abbrev of_tag : ℕ → Statistic → Option ℕ
of_tag tag x = if x.tag == tag then Some x.value else None

-- one more figure
one_more : (tag : ℕ) (xs : List Statistic) (x : Statistic) →
    last_value tag (xs ++ (x ∷ [])) ≡ later_or (of_tag tag x) (last_value tag xs)
one_more tag [] x = with_none (of_tag tag x) where
  with_none : (o : Option ℕ) → later_or None o ≡ later_or o None
  with_none None = refl
  with_none (Some v) = refl
one_more tag (y ∷ ys) x =
    ap (λ (o : Option ℕ). later_or o (of_tag tag y)) (one_more tag ys x)
    ∙ later_again (of_tag tag x) (last_value tag ys) (of_tag tag y)

noted : (b : Bool) (value : ℕ) (old : Option ℕ) →
    (if b then Some value else old) ≡ later_or (if b then Some value else None) old
noted true value old = refl
noted false value old = refl

pub figure_more : (tag : ℕ) (figures : List Statistic) (k : ℕ) (d : Statistic)
    (old new : Option ℕ) → k < length figures → old ≡ last_value tag (take k figures) →
    new ≡ (if (get_or figures k d).tag == tag then Some (get_or figures k d).value else old) →
    new ≡ last_value tag (take (k + 1) figures)
figure_more tag figures k d old new lt so_far is =
    let x = get_or figures k d in
    is ∙ (noted (x.tag == tag) x.value old
    ∙ (ap (λ (o : Option ℕ). later_or (of_tag tag x) o) so_far
    ∙ sym (ap (last_value tag) (take_more figures k d lt) ∙ one_more tag (take k figures) x)))
