-- What a memory is where one of its pages was exchanged.
use Rattle.std.proofs.Common.{◌≡◌, ℕ, zero, suc, ◌+◌, ◌<◌, List, Option, Some, None, length, get_or}
use Rattle.std.proofs.lemmas.List.{get_or-set_same, get_or-set_other, get_or_default, length-set}
use Rattle.std.proofs.Common.{set, replicate, refl, sym, ◌∙◌, ap, subst, arith}
use Rattle.std.proofs.lemmas.List.{get_or_past}
use Rattle.vb_virtio.specs.Memory.{zero_page}
use Rattle.vb_ram.specs.Pages.{Page, Pages, byte_of, byte_at, contents_of, page_at, IsWhole, Wrote}
use Rattle.vb_ram.{specs.Pages.{Supplied, Cleared, SameBut}, specs.Memory.IsMemory, specs.Put.PutAt}
use Rattle.vb_ram.proofs.Contents.{length-zero_page, zero_page-at}

-- the page that was read is the page there
pub page_read : (mem : Pages) (p : ℕ) (page : Option Page) → p < length mem
    → page ≡ get_or mem p page → page_at mem p ≡ page
page_read mem p page lt e = get_or_default mem p None page lt ∙ sym e

pub byte_read : (mem : Pages) (p o : ℕ) (page : Option Page) → p < length mem
    → page ≡ get_or mem p page → byte_at mem p o ≡ byte_of page o
unfolding byte_at
byte_read mem p o page lt e = ap (λ w. byte_of w o) (page_read mem p page lt e)

-- a page that is there has been exchanged for one with other bytes
pub wrote : (mem : Pages) (p off : ℕ) (bs : List ℕ) (f g : Page) → p < length mem
    → page_at mem p ≡ Some f → g.number ≡ f.number → length g.bytes ≡ length f.bytes
    → PutAt f.bytes g.bytes off bs → Wrote mem (set mem p (Some g)) p off bs
unfolding byte_at
wrote mem p off bs f g lt was same_number same_length put =
    grind (arith, get_or-set_same, get_or-set_other, length-set)

-- a page has been exchanged for one of zeros
pub supplied : (mem : Pages) (p : ℕ) (f : Page) → p < length mem → f.bytes ≡ zero_page
    → Supplied mem (set mem p (Some f)) p f.number
unfolding byte_at
supplied mem p f lt zeros =
    grind (arith, get_or-set_same, zero_page-at, get_or-set_other, length-set)

-- memory stays whole where a page is exchanged for a whole one
pub is_memory-set : (count : ℕ) (mem : Pages) (p : ℕ) (page : Option Page) → p < length mem
    → IsMemory count mem → length (contents_of page) ≡ 4096 → IsMemory count (set mem p page)
is_memory-set count mem p page lt is full = grind (arith, get_or-set_same, get_or-set_other)

-- pages without frames
pub bare_at : (n q : ℕ) → page_at (replicate n None) q ≡ None
bare_at zero q = refl
bare_at (suc n) zero = refl
bare_at (suc n) (suc q) = bare_at n q

pub whole-bare : (n : ℕ) → IsWhole (replicate n None)
whole-bare n = record
    { sizes = λ q. ap (λ w. length (contents_of w)) (bare_at n q) ∙ length-zero_page }

-- a page of zeros was written over a page
pub cleared : (old new : Pages) (p : ℕ) → Wrote old new p 0 zero_page → Cleared old new p
cleared old new p put = let from_start : (k : ℕ) → 0 + k ≡ k = λ k. omega arith in record {
  zero = λ o lt. ap (byte_at new p) (sym (from_start o))
      ∙ put.written o (omega (arith, length-zero_page)) ∙ zero_page-at o;
  rest = subst (λ (n : ℕ). SameBut old new p 0 n)
      (from_start (length zero_page) ∙ length-zero_page) put.rest;
}

-- the page of zeros is where it was put
pub put_zeros : (old : List ℕ) → length old ≡ 4096 → PutAt old zero_page 0 zero_page
put_zeros old whole = grind (arith, get_or_past, length-zero_page)
