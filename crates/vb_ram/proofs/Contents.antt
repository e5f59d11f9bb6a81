-- Laws of a page's bytes as one list, for the crates above.
use Rattle.std.specs.Prelude.{◌≡◌, ℕ, ◌+◌, ◌-◌, ◌<◌, ◌≤◌, List, ◌++◌, length, slice_index, take}
use Rattle.std.proofs.lemmas.List.{get_or-replicate, get_or_past, length-replicate, ext_get_or}
use Rattle.std.proofs.lemmas.List.{length-take-le, length-drop, length-append, get_or-take}
use Rattle.std.{specs.Prelude.{drop, refl, replicate, ◌⊎◌}, proofs.lemmas.Bool.cases_lt}
use Rattle.std.proofs.Common.{sym, ◌∙◌, ap, arith, inl, inr}
use Rattle.std.proofs.lemmas.List.{get_or-drop, get_or_append_left, get_or-append_right}
use Rattle.vb_virtio.specs.Memory.{zero_page, overwritten}
use Rattle.vb_ram.specs.Pages.{Pages, page_at, frame_at, contents_at, byte_at, IsWhole, SameBut}
use Rattle.vb_ram.specs.Pages.{Wrote, Supplied, Discarded}

-- n zeros, at any offset
pub zeros-at : (n k : ℕ) → slice_index (replicate n 0) k ≡ 0
zeros-at n k = grind (arith, get_or-replicate, length-replicate, get_or_past)

-- any list of 4096 zeros is the page of zeros
pub zero_page_is : (n : ℕ) → n ≡ 4096 → replicate n 0 ≡ zero_page
unfolding zero_page
zero_page_is n e = ap (λ (m : ℕ). replicate {A = ℕ} m 0) e

pub length-zero_page : length zero_page ≡ 4096
length-zero_page = ap (λ (xs : List ℕ). length xs) (sym (zero_page_is 4096 refl))
    ∙ length-replicate {A = ℕ} 4096 0

pub zero_page-at : (o : ℕ) → slice_index zero_page o ≡ 0
zero_page-at o = ap (λ (xs : List ℕ). slice_index xs o) (sym (zero_page_is 4096 refl))
    ∙ zeros-at 4096 o

-- a byte is one of the page's bytes
pub byte_at-contents : (mem : Pages) (p o : ℕ) → byte_at mem p o ≡ slice_index (contents_at mem p) o
unfolding byte_at
byte_at-contents mem p o = grind (arith, zero_page-at)

-- pages of one frame's number and of equal bytes are one page
pub same_page_at : (a b : Pages) (p : ℕ) → frame_at a p ≡ frame_at b p
    → contents_at a p ≡ contents_at b p → page_at a p ≡ page_at b p
same_page_at a b p number bytes = grind arith

-- pages of as many bytes, equal at each offset, have the same bytes
pub same_contents : (a b : Pages) (p : ℕ) → length (contents_at a p) ≡ length (contents_at b p)
    → ((o : ℕ) → byte_at a p o ≡ byte_at b p o) → contents_at a p ≡ contents_at b p
same_contents a b p len same = ext_get_or 0 (contents_at a p) (contents_at b p) len
    (λ o h. sym (byte_at-contents a p o) ∙ same o ∙ byte_at-contents b p o)

-- a write leaves the bytes before, its own, and the bytes after
pub contents_wrote : (old new : Pages) (p off : ℕ) (bs : List ℕ) → Wrote old new p off bs
    → off + length bs ≤ length (contents_at old p)
    → contents_at new p ≡ overwritten off bs (contents_at old p)
contents_wrote old new p off bs w fits = let was = contents_at old p in
    let front : length (take off was) ≡ off = length-take-le off was (omega arith) in
    let behind : length (drop (off + length bs) was) ≡ length was - (off + length bs) =
    length-drop (off + length bs) was in
    let len : length (contents_at new p) ≡ length (overwritten off bs was) =
    w.rest.sizes p ∙ omega (
      arith,
      front,
      behind,
      length-append (take off was) (bs ++ drop (off + length bs) was),
      length-append bs (drop (off + length bs) was),
    ) in ext_get_or 0 (contents_at new p) (overwritten off bs was) len (λ o h.
    sym (byte_at-contents new p o) ∙ at o (cases_lt o off) (cases_lt o (off + length bs)))
  where
    at : (o : ℕ) → (o < off) ⊎ (off ≤ o) → (o < off + length bs) ⊎ (off + length bs ≤ o)
        → byte_at new p o ≡ slice_index (overwritten off bs (contents_at old p)) o
    at o (inl before) _ = let was = contents_at old p in
        let front : length (take off was) ≡ off = length-take-le off was (omega arith) in
        w.rest.below o before ∙ byte_at-contents old p o
        ∙ sym (get_or_append_left (take off was) (bs ++ drop (off + length bs) was) 0 o
        (omega (arith, front)) ∙ get_or-take off was o 0 before)
    at o (inr past) (inl inside) = let was = contents_at old p in
        let front : length (take off was) ≡ off = length-take-le off was (omega arith) in
        let back : off + (o - off) ≡ o = omega arith in
        ap (byte_at new p) (sym back) ∙ w.written (o - off) (omega arith)
        ∙ sym (get_or-append_right (take off was) (bs ++ drop (off + length bs) was) off o 0 front
        past ∙ get_or_append_left bs (drop (off + length bs) was) 0 (o - off) (omega arith))
    at o (inr past) (inr behind) = let was = contents_at old p in
        let front : length (take off was) ≡ off = length-take-le off was (omega arith) in
        let place : off + length bs + (o - off - length bs) ≡ o = omega arith in
        w.rest.above o behind ∙ byte_at-contents old p o ∙ sym (ap (λ n. slice_index was n) place)
        ∙ sym (get_or-append_right (take off was) (bs ++ drop (off + length bs) was) off o 0 front
        past ∙ get_or-append_right bs (drop (off + length bs) was) (length bs) (o - off) 0 refl
        (omega arith) ∙ get_or-drop (off + length bs) was (o - off - length bs) 0)

-- what a read gave is that part of the page's bytes
pub contents_read : (mem : Pages) (p off : ℕ) (out : List ℕ)
    → off + length out ≤ length (contents_at mem p)
    → ((k : ℕ) → k < length out → slice_index out k ≡ byte_at mem p (off + k))
    → out ≡ take (length out) (drop off (contents_at mem p))
contents_read mem p off out fits read = let rest = drop off (contents_at mem p) in
    let left : length rest ≡ length (contents_at mem p) - off =
    length-drop off (contents_at mem p) in ext_get_or 0 out (take (length out) rest)
    (sym (length-take-le (length out) rest (omega (arith, left)))) (λ k h.
    read k h ∙ byte_at-contents mem p (off + k)
    ∙ sym (get_or-take (length out) rest k 0 h ∙ get_or-drop off (contents_at mem p) k 0))

-- what each change leaves whole
pub whole_but : (old new : Pages) (p lo hi : ℕ) → IsWhole old → SameBut old new p lo hi
    → IsWhole new
whole_but old new p lo hi whole but = record { sizes = λ q. but.sizes q ∙ whole.sizes q }

pub whole_supplied : (old new : Pages) (p number : ℕ) → IsWhole old → Supplied old new p number
    → IsWhole new
whole_supplied old new p number whole s = grind (arith, length-zero_page)

pub whole_discarded : (old new : Pages) (p : ℕ) → IsWhole old → Discarded old new p → IsWhole new
whole_discarded old new p whole d = grind (arith, length-zero_page)
