-- Fields of guest memory in bytes that were read or written at once.
use Rattle.std.specs.Prelude.{slice_index, refl}
use Rattle.std.proofs.{Common.{sym, ◌∙◌, ap, arith}, lemmas.List.{get_or-drop, get_or-take}}
use Rattle.byteorder.specs.Endian.{little_from, little_number, little_bytes}
use Rattle.vb_ram.specs.Pages.{Pages, byte_at, field, Wrote}
use Rattle.vb_chain.specs.declared.descriptor.Descriptor.{Descriptor}
use Rattle.vb_chain.specs.Table.{descriptor_at, bytes_of, FitsBytes}
use Rattle.std.specs.Prelude.{◌≡◌, ℕ, zero, suc, ◌+◌, ◌*◌, ◌<◌, ◌≤◌, List, [], ◌++◌, drop, take}

-- bytes from a place on are the number that they are in memory
little_field : (n : ℕ) (mem : Pages) (p o i : ℕ) (bytes : List ℕ) → ((k : ℕ) → k < n
    → slice_index bytes (i + k) ≡ byte_at mem p (o + k)) → little_from i n bytes ≡ field n mem p o
unfolding field
little_field zero mem p o i bytes read = refl
little_field (suc n) mem p o i bytes read =
    let first : slice_index bytes i ≡ byte_at mem p o = ap (slice_index bytes) (omega arith)
    ∙ read 0 (omega arith) ∙ ap (byte_at mem p) (omega arith) in
    let more : little_from (suc i) n bytes ≡ field n mem p (o + 1) = little_field n mem p (o + 1)
    (suc i) bytes (λ k l. ap (slice_index bytes) (omega arith) ∙ read (k + 1) (omega (arith, l))
    ∙ ap (byte_at mem p) (omega arith)) in omega (arith, first, more)

-- the first n of 16 bytes
pub field_first : (n : ℕ) (mem : Pages) (p at : ℕ) (bytes : List ℕ)
    → ((k : ℕ) → k < 16 → slice_index bytes k ≡ byte_at mem p (at + k)) → n ≤ 16
    → little_number n bytes ≡ field n mem p at
field_first n mem p at bytes read fits = grind (arith, little_field)

-- n of 16 bytes, after some others
pub field_after : (n : ℕ) (mem : Pages) (p at skip rest : ℕ) (bytes : List ℕ)
    → ((k : ℕ) → k < 16 → slice_index bytes k ≡ byte_at mem p (at + k)) → skip + n ≤ 16 → n ≤ rest
    → little_number n (take rest (drop skip bytes)) ≡ field n mem p (at + skip)
field_after n mem p at skip rest bytes read fits within =
    grind (arith, little_field, get_or-take, get_or-drop)

-- where the bytes of a descriptor were written it is
pub descriptor_written : (old new : Pages) (p i : ℕ) (d : Descriptor) → FitsBytes d
    → Wrote old new p (16 * i) (bytes_of d) → descriptor_at new p i ≡ d
unfolding descriptor_at
descriptor_written old new p i d fits wrote = let bytes : List ℕ = bytes_of d in
    let read : (k : ℕ) → k < 16 → slice_index bytes k ≡ byte_at new p (16 * i + k) =
    λ k l. sym (wrote.written k l) in
    let last : List ℕ = little_bytes 2 d.next in
    grind (
      arith,
      field_first 8 new p (16 * i) bytes read (omega arith),
      field_after 4 new p (16 * i) 8 8 bytes read (omega arith) (omega arith),
      field_after 2 new p (16 * i) 12 4 bytes read (omega arith) (omega arith),
      field_after 2 new p (16 * i) 14 2 bytes read (omega arith) (omega arith),
    )
