use Rattle.vb_ram.{proofs.FieldLaws.{same_page, field_in}, specs.Pages.{page_at, Pages, SameIn}}
use Rattle.vb_chain.specs.{Table.descriptor_at, declared.descriptor.Descriptor.Descriptor}
use Rattle.std.proofs.Common.{arith}
use Rattle.std.{specs.Prelude.{◌≡◌, ℕ, ◌+◌, ◌*◌}, proofs.Common.arith}

pub same_parts : (a b : Descriptor) → a.addr ≡ b.addr → a.len ≡ b.len → a.flags ≡ b.flags
    → a.next ≡ b.next → a ≡ b
same_parts a b w x y z = grind arith

-- bytes that are as before make the descriptor that they made
pub descriptor_kept : (old new : Pages) (p i : ℕ) → SameIn old new p (16 * i) (16 * i + 16)
    → descriptor_at new p i ≡ descriptor_at old p i
unfolding descriptor_at
descriptor_kept old new p i same = grind (arith, field_in)

-- where the table's page is as before, so is each descriptor
pub descriptor_apart : (old new : Pages) (p i : ℕ) → page_at new p ≡ page_at old p
    → descriptor_at new p i ≡ descriptor_at old p i
descriptor_apart old new p i same =
    descriptor_kept old new p i (same_page old new p (16 * i) (16 * i + 16) same)
