-- What is put after a writer's bytes, whether it is held or written.
use Rattle.std.proofs.Common.{◌≡◌, ℕ, List, [], ◌∷◌, ◌++◌, Option, Some, None, refl, ap, sym, ◌∙◌}
use Rattle.std.proofs.Common.{◌/◌, ◌%◌, slice_index, take, drop, append_assoc, append-nil}
use Rattle.std.{proofs.lemmas.List.take-append-drop, specs.Io.KnownBytes.Appends}
use Rattle.hex.specs.Hex.{encode_lower, encode_with, lower_digits}
use Rattle.vb_reply.specs.Held.{Puts}

-- what fits is held
pub held_too : (a : Option (List ℕ)) (held text : List ℕ) → Puts a held a (held ++ text) text
held_too None held text = tt
held_too (Some xs) held text = sym (append_assoc xs held text)

-- else what was held is written first
pub written_behind : (a b c : Option (List ℕ)) (held kept text : List ℕ)
    → Appends a b held → kept ≡ [] → Appends b c text → Puts a held c kept text
written_behind None b c held kept text p e q = tt
written_behind (Some xs) None c held kept text p e q = absurd p
written_behind (Some xs) (Some ys) None held kept text p e q = absurd q
written_behind (Some xs) (Some ys) (Some zs) held kept text p e q = rw (e, append-nil, q, p) refl

-- a writer for which nothing is held at either end has just what was put
pub put_in_all : (a b c : Option (List ℕ)) (held kept text : List ℕ)
    → held ≡ [] → Puts a held b kept text → Appends b c kept → Appends a c text
put_in_all None b c held kept text e p q = tt
put_in_all (Some xs) None c held kept text e p q = absurd p
put_in_all (Some xs) (Some ys) None held kept text e p q = absurd q
put_in_all (Some xs) (Some ys) (Some zs) held kept text e p q =
    let first : ys ++ kept ≡ xs ++ text = rw (e, append-nil) at p in q ∙ first

-- nothing was put yet
pub put_nothing : (a : Option (List ℕ)) (held : List ℕ) → held ≡ [] → Puts a [] a held []
put_nothing None held e = tt
put_nothing (Some xs) held e = rw (e, append-nil, append-nil) refl

-- a text is put after another
pub put_on : (a b c : Option (List ℕ)) (held kept last first next : List ℕ) → Puts a held b kept first
    → Puts b kept c last next → Puts a held c last (first ++ next)
put_on None b c held kept last first next p q = tt
put_on (Some xs) None c held kept last first next p q = absurd p
put_on (Some xs) (Some ys) None held kept last first next p q = absurd q
put_on (Some xs) (Some ys) (Some zs) held kept last first next p q =
    rw (q, p) (append_assoc (xs ++ held) first next)

-- digits of bytes, and of more bytes
pub encoded_behind : (first rest : List ℕ)
    → encode_lower (first ++ rest) ≡ encode_lower first ++ encode_lower rest
unfolding encode_with
encoded_behind [] rest = refl
encoded_behind (byte ∷ first) rest = ap (λ (digits : List ℕ). slice_index lower_digits (byte / 16)
    ∷ slice_index lower_digits (byte % 16) ∷ digits) (encoded_behind first rest)

-- digits of bytes in two parts
pub encoded_parts : (n : ℕ) (bytes first rest : List ℕ) → first ≡ take n bytes → rest ≡ drop n bytes
    → encode_lower bytes ≡ encode_lower first ++ encode_lower rest
encoded_parts n bytes first rest is_first is_rest =
    rw (is_first, is_rest) (ap (λ (all : List ℕ). encode_lower all) (sym (take-append-drop n bytes))
    ∙ encoded_behind (take n bytes) (drop n bytes))
