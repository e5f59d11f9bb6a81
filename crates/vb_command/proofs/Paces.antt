-- The devices are made of the paces in turn.
use Rattle.std.proofs.Common.{◌≡◌, ℕ, ◌+◌, ◌<◌, Bool, List, [], ◌∷◌, ◌++◌, length, get_or, map}
use Rattle.std.{proofs.Common.{take, refl, ap}, proofs.lemmas.List.take_more}
use Rattle.vb_script.{specs.declared.lines.Pace.Pace, specs.Lines.is_paced}

map_push : {A B : Type 0} (f : A → B) (xs : List A) (x : A)
    → map f (xs ++ x ∷ []) ≡ map f xs ++ f x ∷ []
map_push f [] x = refl
map_push f (y ∷ ys) x = ap (λ (zs : List _). f y ∷ zs) (map_push f ys x)

-- one more device for one more pace
pub one_more : {D : Type 0} (is_paced_device : D → Bool) (olds news : List D) (device : D)
    (paces : List Pace) (i : ℕ) (default pace : Pace)
    → news ≡ olds ++ device ∷ [] → map is_paced_device olds ≡ map is_paced (take i paces)
    → i < length paces → get_or paces i default ≡ pace → is_paced_device device ≡ is_paced pace
    → map is_paced_device news ≡ map is_paced (take (i + 1) paces)
one_more f olds news device paces i default pace grown same lt is alike =
    let first : map f news ≡ map f olds ++ f device ∷ [] = rw grown (map_push f olds device) in
    let second : map is_paced (take (i + 1) paces) ≡ map is_paced (take i paces)
    ++ is_paced (get_or paces i default) ∷ [] = rw (take_more paces i default lt)
    (map_push is_paced (take i paces) (get_or paces i default)) in
    let last : is_paced (get_or paces i default) ≡ is_paced pace = rw is refl in cc
