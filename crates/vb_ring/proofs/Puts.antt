-- What the writes of an entry and its index make together.
use Rattle.{std.proofs.Common.{◌∙◌, ◌+◌, ◌%◌, ◌*◌, ℕ, arith}, vb_ring.proofs.FrameLaws.byte_kept}
use Rattle.vb_ram.{proofs.FieldLaws.{field_in, same_above}, specs.Pages.{Pages, PutField, SameBut}}
use Rattle.vb_ring.specs.Entries.{avail_index, avail_place, used_index, used_place}
use Rattle.vb_ring.specs.{Calls.{PutsAvail, PutsUsed, Publishes}, declared.layout.Layout.Layout}

pub puts_avail : (m1 m2 m3 : Pages) (l : Layout) (q next head : ℕ)
    → PutField 2 m1 m2 l.avail.page (avail_place l q next) head
    → PutField 2 m2 m3 l.avail.page (avail_index l) ((next + 1) % 65536)
    → PutsAvail m1 m3 l q next head
puts_avail m1 m2 m3 l q next head entry index = record {
  entry = field_in 2 m2 m3 l.avail.page _ _ (avail_place l q next)
      (same_above m2 m3 l.avail.page _ _ (avail_place l q next) (avail_place l q next + 2)
      index.rest (omega arith)) (omega arith) (omega arith) ∙ entry.value;
  index = index.value;
  rest = record {
    bytes = λ p o out. byte_kept m2 m3 _ _ _ p o index.rest out.1.0
        ∙ byte_kept m1 m2 _ _ _ p o entry.rest out.0;
    others = λ p out. index.rest.others p out.1.0 ∙ entry.rest.others p out.0;
    backing = λ p. index.rest.backing p ∙ entry.rest.backing p;
    sizes = λ p. index.rest.sizes p ∙ entry.rest.sizes p;
    count = index.rest.count ∙ entry.rest.count;
  };
}

pub puts_used : (m1 m2 m3 m4 : Pages) (l : Layout) (q next head count : ℕ)
    → PutField 4 m1 m2 l.used.page (used_place l q next) head
    → PutField 4 m2 m3 l.used.page (used_place l q next + 4) count
    → PutField 2 m3 m4 l.used.page (used_index l) ((next + 1) % 65536)
    → PutsUsed m1 m4 l q next head count
puts_used m1 m2 m3 m4 l q next head count id len index = record {
  id = grind (arith, field_in);
  len = field_in 4 m3 m4 l.used.page _ _ (used_place l q next + 4)
      (same_above m3 m4 l.used.page _ _ (used_place l q next + 4) (used_place l q next + 8)
      index.rest (omega arith)) (omega arith) (omega arith) ∙ len.value;
  index = index.value;
  rest = record {
    bytes = λ p o out. byte_kept m3 m4 _ _ _ p o index.rest out.1.0
        ∙ byte_kept m2 m3 _ _ _ p o len.rest (λ i. out.0
        (record { page = i.page; from = omega (arith, i.from); to = omega (arith, i.to) }))
        ∙ byte_kept m1 m2 _ _ _ p o id.rest (λ i. out.0
        (record { page = i.page; from = omega (arith, i.from); to = omega (arith, i.to) }));
    others = λ p out. index.rest.others p out.1.0 ∙ len.rest.others p out.0
        ∙ id.rest.others p out.0;
    backing = λ p. index.rest.backing p ∙ len.rest.backing p ∙ id.rest.backing p;
    sizes = λ p. index.rest.sizes p ∙ len.rest.sizes p ∙ id.rest.sizes p;
    count = index.rest.count ∙ len.rest.count ∙ id.rest.count;
  };
}

-- the descriptors, and then the entry and the index
pub publishes : (m1 m2 m3 : Pages) (l : Layout) (q next head : ℕ) → SameBut m1 m2 l.table 0 (16 * q)
    → PutsAvail m2 m3 l q next head → Publishes m1 m3 l q next head
publishes m1 m2 m3 l q next head table put = record {
  entry = put.entry;
  index = put.index;
  rest = record {
    bytes = λ p o out. put.rest.bytes p o out.1 ∙ byte_kept m1 m2 _ _ _ p o table out.0;
    others = λ p out. put.rest.others p out.1 ∙ table.others p out.0;
    backing = λ p. put.rest.backing p ∙ table.backing p;
    sizes = λ p. put.rest.sizes p ∙ table.sizes p;
    count = put.rest.count ∙ table.count;
  };
}
