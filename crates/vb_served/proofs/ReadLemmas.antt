-- Bytes past the end, and bytes in two parts.
use Rattle.std.proofs.Common.{◌≡◌, ◌∙◌, ap, sym, refl, arith, ℕ, List, [], ◌∷◌, ◌++◌, length, replicate, None}
use Rattle.std.specs.Prelude.{◌+◌, ◌≤◌, ◌<◌, ◌/◌, ◌%◌}
use Rattle.std.proofs.lemmas.List.{append-nil, ext_get_or, get_or_past, get_or-replicate, length-replicate}
use Rattle.std.proofs.lemmas.List.FromFn.{get_or-map-range_with_len}
use Rattle.vb_ram.specs.Pages.{Pages, byte_at, byte_of}
use Rattle.vb_request.specs.Request.{byte_of_address, bytes_from}
use Rattle.vb_request.proofs.Bytes.{bytes_from-length, bytes_from-append}

byte_past : (mem : Pages) (p o : ℕ) → length mem ≤ p → byte_at mem p o ≡ 0
unfolding byte_at
byte_past mem p o le = ap (λ w. byte_of w o) (get_or_past mem p None le)

-- past the end of memory are zeros
pub zeros_past : (mem : Pages) (address n : ℕ) → length mem ≤ address / 4096 →
    replicate n 0 ≡ bytes_from mem address n
zeros_past mem address n past = ext_get_or 0 (replicate n 0) (bytes_from mem address n)
    (length-replicate n 0 ∙ sym (bytes_from-length mem address n)) (λ k l.
    let lt : k < n = omega (arith, l, length-replicate {A = ℕ} n 0) in
    let page : length mem ≤ (address + k) / 4096 = omega (arith, past) in
    get_or-replicate n k 0 0 lt ∙ sym (get_or-map-range_with_len (byte_of_address mem) address n k
    (address + k) 0 lt refl ∙ byte_past mem ((address + k) / 4096) ((address + k) % 4096) page))

pub two_parts : (mem : Pages) (address room a b n : ℕ) (xs ys : List ℕ) →
    xs ≡ bytes_from mem address a → ys ≡ bytes_from mem (address + room) b → a ≡ room →
    room + b ≡ n → xs ++ ys ≡ bytes_from mem address n
two_parts mem address room a b n xs ys e f same all =
    ap (λ (l : List ℕ). l ++ ys) (e ∙ ap (bytes_from mem address) same)
    ∙ ap (λ (l : List ℕ). bytes_from mem address room ++ l) f
    ∙ bytes_from-append mem address room b ∙ ap (bytes_from mem address) all

empty_so : (l : List ℕ) → length l ≡ 0 → l ≡ []
empty_so [] e = refl
empty_so (x ∷ xs) e = absurd cc

-- where the first part is all of it
pub no_more : (mem : Pages) (address a n : ℕ) (xs ys : List ℕ) → xs ≡ bytes_from mem address a →
    length ys ≡ 0 → a ≡ n → xs ++ ys ≡ bytes_from mem address n
no_more mem address a n xs ys e none all =
    ap (λ (l : List ℕ). xs ++ l) (empty_so ys none) ∙ (append-nil xs
    ∙ (e ∙ ap (bytes_from mem address) all))
