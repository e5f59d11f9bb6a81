-- A guest is consistent after a reset and at the beginning of a life.
use Rattle.std.proofs.Common.{Bool, List, [], arith, cond, false, get_or, map, refl, replicate}
use Rattle.std.proofs.Common.{subst, suc, sym, true, zero, ℕ, ◌∙◌, ◌∷◌, ◌≡◌}
use Rattle.std.{proofs.lemmas.List.FromFn.length-range_with_len, specs.Prelude.{count_by, nat_lt}}
use Rattle.std.{proofs.Math.ListN.get_or-map, specs.List.range_with_len}
use Rattle.std.proofs.lemmas.List.{get_or-replicate, get_or_past, length-map, length-replicate}
use Rattle.vb_model.{proofs.PageSteps.fresh_page, specs.Life.{after_reset, place_after_reset}}
use Rattle.vb_model.specs.{Consistent.{IsConsistent, IsPageSound}, Pages.{is_lent, place_of}}
use Rattle.vb_model.specs.declared.places.Place.{TheVariants.{Reserved, Free}, Place}
use Rattle.vb_model.specs.Guest.{Config, Guest, fresh, is_ballooned, tells_host}
use Rattle.vb_virtio.specs.Layout.{reserved_pages}
use Rattle.vb_model.specs.Requests.{given_away, no_requests}

none_given : (places : List Place) → count_by is_lent places ≡ 0 → 0 ≡ given_away places no_requests
none_given places none = omega (arith, none)

get_or-no_flags : (n page : ℕ) → is_ballooned (replicate n false) page ≡ false
get_or-no_flags n page = grind (arith, get_or-replicate, get_or_past, length-replicate)

count_by-none : {A B : Type 0} (test : B → Bool) (f : A → B) (xs : List A)
    → ((x : A) → test (f x) ≡ false) → count_by test (map f xs) ≡ 0
count_by-none test f [] h = refl
count_by-none test f (x ∷ xs) h = grind (arith, count_by-none test f xs h)

pub place_of-reset : (places : List Place) (page : ℕ)
    → place_of (map place_after_reset places) page ≡ place_after_reset (place_of places page)
place_of-reset places page = get_or-map place_after_reset places page Reserved

pub kept_by_reset : (g : Guest) → IsConsistent g → IsConsistent (after_reset g)
kept_by_reset g h =
    search (arith, place_of-reset, get_or-no_flags, count_by-none, length-map, length-replicate)

abbrev pub first_place : ℕ → ℕ → Place
first_place reserved page = cond (nat_lt page reserved) Reserved Free

pub fresh_place : (reserved : ℕ) (xs : List ℕ) (page : ℕ)
    → (v : Bool) × (get_or (map (first_place reserved) xs) page Reserved ≡ cond v Reserved Free)
fresh_place reserved [] page = (true, refl)
fresh_place reserved (x ∷ xs) zero = (nat_lt x reserved, refl)
fresh_place reserved (x ∷ xs) (suc page) = fresh_place reserved xs page

first_not_lent : (reserved page : ℕ) → is_lent (first_place reserved page) ≡ false
first_not_lent reserved page = grind arith

pub fresh_consistent : (config : Config) (target : ℕ) → IsConsistent (fresh config target)
fresh_consistent config target = record {
  pages = λ page.
      let f = fresh_place (reserved_pages config.queue_size) (range_with_len 0 config.pages) page in
      subst (λ (place : Place). IsPageSound page (tells_host (fresh config target)) place []
      no_requests no_requests no_requests (is_ballooned (replicate config.pages false) page))
      (sym f.1) (subst (λ (flag : Bool). IsPageSound page (tells_host (fresh config target))
      (cond f.0 Reserved Free) [] no_requests no_requests no_requests flag)
      (sym (get_or-no_flags config.pages page))
      (fresh_page page (tells_host (fresh config target)) f.0));
  counted = none_given
      (map (first_place (reserved_pages config.queue_size)) (range_with_len 0 config.pages))
      (count_by-none is_lent (first_place (reserved_pages config.queue_size))
      (range_with_len 0 config.pages) (first_not_lent (reserved_pages config.queue_size)));
  sized = length-map (range_with_len 0 config.pages)
      (first_place (reserved_pages config.queue_size)) ∙ length-range_with_len 0 config.pages;
  flagged = length-replicate config.pages false;
}
