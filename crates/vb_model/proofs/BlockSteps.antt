-- What a block that is allocated or freed changes of each page, and of the counts.
use Rattle.std.proofs.Common.{Bool, List, [], ap, arith, cond, false, refl, true, ℕ, ◌+◌, ◌∷◌, ◌≡◌}
use Rattle.std.specs.{List.list_any, Prelude.{count_by, nat_lt, ◌||◌}}
use Rattle.vb_virtio.proofs.Tables.{count_by-cons}
use Rattle.vb_virtio.specs.Tests.{is_in, one_if}
use Rattle.vb_model.proofs.PageSteps.{SoundSo, exclusive, covers_is}
use Rattle.vb_model.specs.Driver.{with_block, without_block}
use Rattle.vb_model.specs.Guest.{Guest}
use Rattle.vb_model.specs.Pages.{Block, covers, is_free, is_same_block, pages_of}
use Rattle.vb_model.specs.declared.places.Place.{Place, TheVariants.{Free, Used}}

count-with_block : (page : ℕ) (b : Block) (held : List Block)
    → count_by (covers page) (with_block b held)
    ≡ one_if (covers page b) + count_by (covers page) held
count-with_block page b [] = count_by-cons (covers page) b []
count-with_block page b (x ∷ held) = step (nat_lt b.start x.start) (count-with_block page b held)
  where
    step : (v : Bool) → count_by (covers page) (with_block b held)
        ≡ one_if (covers page b) + count_by (covers page) held
        → count_by (covers page) (cond v (b ∷ x ∷ held) (x ∷ with_block b held))
        ≡ one_if (covers page b) + count_by (covers page) (x ∷ held)
    step true ih = count_by-cons (covers page) b (x ∷ held)
    step false ih = omega (
      arith,
      count_by-cons (covers page) x (with_block b held),
      count_by-cons (covers page) x held,
      ih,
    )

pub count-without_block : (page : ℕ) (b : Block) (held : List Block)
    → list_any (λ h. is_same_block h b) held ≡ true
    → one_if (covers page b) + count_by (covers page) (without_block b held)
    ≡ count_by (covers page) held
count-without_block page b [] h = absurd cc
count-without_block page b (x ∷ held) h =
    step (is_same_block x b) refl h (count-without_block page b held)
  where
    step : (v : Bool) → is_same_block x b ≡ v → (v || list_any (λ h. is_same_block h b) held) ≡ true
        → (list_any (λ h. is_same_block h b) held ≡ true
        → one_if (covers page b) + count_by (covers page) (without_block b held)
        ≡ count_by (covers page) held)
        → one_if (covers page b) + count_by (covers page) (cond v held (x ∷ without_block b held))
        ≡ count_by (covers page) (x ∷ held)
    step true e h ih = grind (arith, count_by-cons (covers page) x held, h)
    step false e h ih = omega (
      arith,
      count_by-cons (covers page) x (without_block b held),
      count_by-cons (covers page) x held,
      ih h,
    )

pub alloc_at : (v : Bool) (page : ℕ) (told : Bool) (place : Place) (flag : Bool) (g : Guest)
    (b : Block) → is_in page (pages_of b) ≡ v → (v ≡ true → is_free place ≡ true)
    → SoundSo page told place flag g
    → SoundSo page told (cond v Used place) flag (record g { held = with_block b g.held })
alloc_at false page told place flag g b e ok h =
    let c : one_if (covers page b) ≡ 0 = ap one_if (covers_is page b false e) in
    grind (arith, c, count-with_block page b g.held, h)
alloc_at true page told Free flag g b e ok h =
    let c : one_if (covers page b) ≡ 1 = ap one_if (covers_is page b true e) in
    grind (arith, c, count-with_block page b g.held, h)
alloc_at true page told _ flag g b e ok h = let bad : false ≡ true = ok refl in
    absurd cc

pub free_at : (v : Bool) (page : ℕ) (told : Bool) (place : Place) (flag : Bool) (g : Guest)
    (b : Block) → is_in page (pages_of b) ≡ v → list_any (λ h. is_same_block h b) g.held ≡ true
    → SoundSo page told place flag g
    → SoundSo page told (cond v Free place) flag (record g { held = without_block b g.held })
free_at false page told place flag g b e ok h =
    let c : one_if (covers page b) ≡ 0 = ap one_if (covers_is page b false e) in
    grind (arith, c, count-without_block page b g.held ok, h)
free_at true page told place flag g b e ok h =
    let c : one_if (covers page b) ≡ 1 = ap one_if (covers_is page b true e) in
    let k = count-without_block page b g.held ok in
    let x = exclusive place in grind (arith, c, k, x, h)
