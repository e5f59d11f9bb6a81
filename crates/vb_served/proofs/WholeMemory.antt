-- Places in the one region that is all of a memory.
use Rattle.std.proofs.Common.{◌≡◌, ◌≢◌, ◌∙◌, ap, sym, refl, arith, ℕ, ◌+◌, ◌-◌, ◌*◌, ◌%◌, ◌<◌, ◌≤◌}
use Rattle.std.proofs.Common.{zero, suc, subst, Bool, true, false, List, [], ◌∷◌, ◌++◌, Option, Some, None}
use Rattle.std.specs.Prelude.{All, ◌&&◌, ◌==◌, if◌then◌else◌}
use Rattle.std.proofs.lemmas.Bool.Decides.{nat_tests}
use Rattle.vb_chain.specs.declared.pieces.Piece.{Piece}
use Rattle.vb_core.specs.declared.ring.Virtqueue.{Virtqueue}
use Rattle.vb_core.specs.declared.settings.TheConstants.{MEMORY_LIMIT}
use Rattle.vb_core.specs.Rings.{has_place, used_entry}
use Rattle.vb_core.proofs.RingLemmas.{placed_size}
use Rattle.vb_monitor.specs.declared.regions.{Region.Region, Spot.Spot}
use Rattle.vb_monitor.specs.declared.parts.Part.{Part}
use Rattle.vb_monitor.specs.Regions.{holds, spot}
use Rattle.vb_monitor.specs.Giving.{used_spots, three_spots}
use Rattle.vb_monitor.specs.Notices.{entry_offset}
use Rattle.vb_monitor.specs.Pieces.{next_part, parts_of, parts_on, all_parts}
use Rattle.vb_monitor.proofs.PartLemmas.{few_bytes, no_parts, more_parts}
use Rattle.vb_monitor.specs.Still.{IsMapped, ArePartsMapped}
use Rattle.vb_monitor.proofs.StillFound.{offset_so}
use Rattle.vb_served.specs.One.{all_of}

-- the next entry is one of the ring's
offset_fits : (r : Virtqueue) → 0 < r.size → entry_offset r + 2 ≤ 4 + 2 * r.size
offset_fits r some =
    let at : entry_offset r ≡ 4 + 2 * (r.next_avail % r.size) = offset_so r some in
    let below : r.next_avail % r.size < r.size = grind arith in
    omega (arith, at, below)

abbrev offset_of : Option Spot → ℕ
offset_of None = 0
offset_of (Some at) = at.offset

abbrev region : ℕ → Region
region n = record { guest = 0; length = 4096 * n; in_file = 0 }

holds_all : (n a len : ℕ) → 4096 * n ≤ MEMORY_LIMIT → a + len ≤ 4096 * n →
    holds (region n) a len ≡ true
holds_all n a len few fits = grind (arith, nat_tests)

inside : (n a len : ℕ) → 4096 * n ≤ MEMORY_LIMIT → a + len ≤ 4096 * n →
    spot (all_of n) a len ≡ Some (record { region = 0; offset = a - 0 })
inside n a len few fits = ap (λ (b : Bool). if b then Some (record { region = 0; offset = a - 0 })
    else None) (holds_all n a len few fits)

some_so : (o : Option Spot) (x : Spot) → o ≡ Some x → o ≢ None
some_so None x e = absurd cc
some_so (Some y) x e = λ f. absurd cc

pub there : (n a len : ℕ) → 4096 * n ≤ MEMORY_LIMIT → a + len ≤ 4096 * n →
    spot (all_of n) a len ≢ None
there n a len few fits = some_so _ _ (inside n a len few fits)

at_offset : (a : ℕ) (at : Spot) (b : Bool) →
    (if b then Some (record { region = 0; offset = a - 0 }) else None) ≡ Some at → at.offset ≡ a
at_offset a at true e = let same : a - 0 ≡ a = omega arith in sym (ap offset_of e) ∙ same
at_offset a at false e = absurd cc

-- a place is an address
pub plain_all : (n a len : ℕ) (at : Spot) → spot (all_of n) a len ≡ Some at → at.offset ≡ a
plain_all n a len at e = at_offset a at (holds (region n) a len) e

-- ---- a ring

pub record Lies (end : ℕ) (r : Virtqueue) : Type 0 where
  pub some : 0 < r.size
  pub table : r.table + 16 * r.size ≤ end
  pub avail : r.avail + (6 + 2 * r.size) ≤ end
  pub used : r.used + (6 + 8 * r.size) ≤ end

both : (a b : Bool) → (a && b) ≡ true → (a ≡ true) × (b ≡ true)
both true b e = (refl, e)
both false b e = absurd cc

table_lies : (end : ℕ) (r : Virtqueue) → has_place end r ≡ true → r.table + 16 * r.size ≤ end
table_lies end r e = grind (arith, both, nat_tests)

avail_lies : (end : ℕ) (r : Virtqueue) → has_place end r ≡ true →
    r.avail + (6 + 2 * r.size) ≤ end
avail_lies end r e = grind (arith, both, nat_tests)

used_lies : (end : ℕ) (r : Virtqueue) → has_place end r ≡ true → r.used + (6 + 8 * r.size) ≤ end
used_lies end r e = grind (arith, both, nat_tests)

pub lies : (end : ℕ) (r : Virtqueue) → has_place end r ≡ true → Lies end r
lies end r e = record {
  some = placed_size end r e;
  table = table_lies end r e;
  avail = avail_lies end r e;
  used = used_lies end r e;
}

pub mapped : (n : ℕ) (r : Virtqueue) → 4096 * n ≤ MEMORY_LIMIT → Lies (4096 * n) r →
    IsMapped (all_of n) r
mapped n r few at = record {
  index = there n (r.avail + 2) 2 few (omega (arith, at.avail, at.some));
  entry = there n (r.avail + entry_offset r) 2 few
      (omega (arith, at.avail, offset_fits r at.some));
  descriptors = λ k lt. there n (r.table + 16 * k) 16 few (omega (arith, at.table, lt));
}

three : (a b c : Option Spot) (x y z : Spot) → a ≡ Some x → b ≡ Some y → c ≡ Some z →
    three_spots a b c ≢ None
three (Some a) (Some b) (Some c) x y z ea eb ec = λ f. absurd cc
three None b c x y z ea eb ec = absurd cc
three (Some a) None c x y z ea eb ec = absurd cc
three (Some a) (Some b) None x y z ea eb ec = absurd cc

place_below : (r : Virtqueue) → 0 < r.size → r.next_used % r.size < r.size
place_below r some = grind arith

pub used_there : (n head : ℕ) (r : Virtqueue) → 4096 * n ≤ MEMORY_LIMIT → Lies (4096 * n) r →
    used_spots (all_of n) (used_entry r head) ≢ None
used_there n head r few at =
    let e = used_entry r head in
    let below : r.next_used % r.size < r.size = place_below r at.some in
    three _ _ _ _ _ _
    (inside n e.element_at 4 few (omega (arith, at.used, below)))
    (inside n (e.element_at + 4) 4 few (omega (arith, at.used, below)))
    (inside n e.index_at 2 few (omega (arith, at.used, below)))

-- ---- pieces

appended : (n : ℕ) (xs ys : List Part) → ArePartsMapped (all_of n) xs →
    ArePartsMapped (all_of n) ys → ArePartsMapped (all_of n) (xs ++ ys)
appended n [] ys h k = k
appended n (x ∷ xs) ys h k = (h.0, appended n xs ys h.1 k)

parts_by : (n : ℕ) (b : Bool) (k : ℕ) (p : Piece) (done into : ℕ)
    (on : (d i : ℕ) → ArePartsMapped (all_of n) (parts_of k p d i)) → 4096 * n ≤ MEMORY_LIMIT →
    p.addr + p.len ≤ 4096 * n → (p.len - done == 0) ≡ b →
    ArePartsMapped (all_of n) (parts_of (suc k) p done into)
parts_by n true k p done into on few fits e =
    let none : p.len - done ≤ 0 = grind (arith, nat_tests) in
    subst (λ (l : List Part). ArePartsMapped (all_of n) l) (sym (no_parts (suc k) p done into none)) tt
parts_by n false k p done into on few fits e =
    let lt : done < p.len = grind (arith, nat_tests) in
    let part = next_part p done into in
    let le = few_bytes p done into lt in
    subst (λ (l : List Part). ArePartsMapped (all_of n) l) (sym (more_parts k p done into lt)) (
      there n (p.addr + done) part.length few (omega (arith, fits, le)),
      on (done + part.length) (into + part.length),
    )

piece_there : (n k : ℕ) (p : Piece) (done into : ℕ) → 4096 * n ≤ MEMORY_LIMIT →
    p.addr + p.len ≤ 4096 * n → ArePartsMapped (all_of n) (parts_of k p done into)
piece_there n zero p done into few fits = tt
piece_there n (suc k) p done into few fits =
    parts_by n (p.len - done == 0) k p done into (λ d i. piece_there n k p d i few fits) few fits refl

all_there : (n : ℕ) (ps : List Piece) (into : ℕ) → 4096 * n ≤ MEMORY_LIMIT →
    All (λ p. p.addr + p.len ≤ 4096 * n) ps → ArePartsMapped (all_of n) (parts_on into 0 ps)
all_there n [] into few fits = tt
all_there n (p ∷ ps) into few fits =
    appended n (parts_of (p.len - 0) p 0 into) (parts_on (into + (p.len - 0)) 0 ps)
    (piece_there n (p.len - 0) p 0 into few (fits 0 p (omega arith)))
    (all_there n ps (into + (p.len - 0)) few (λ k d lt. fits (suc k) d (omega (arith, lt))))

pub pieces_there : (n : ℕ) (ps : List Piece) → 4096 * n ≤ MEMORY_LIMIT →
    All (λ p. p.addr + p.len ≤ 4096 * n) ps → ArePartsMapped (all_of n) (all_parts ps)
pieces_there n ps few fits = all_there n ps 0 few fits
