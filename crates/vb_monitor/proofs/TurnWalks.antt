-- What each access of a notice is, by those before it, and how many there are: the walk along a
-- chain.
use Rattle.std.proofs.Common.{◌≡◌, ◌∙◌, ap, sym, subst, refl, arith, ℕ, zero, suc, ◌+◌, ◌-◌, ◌*◌}
use Rattle.std.proofs.Common.{◌≤◌, Bool, true, false, List, [], ◌∷◌, ◌++◌, length, take, Option, Some, None}
use Rattle.vb_virtio.specs.declared.limits.TheConstants.{MAX_QUEUE_SIZE}
use Rattle.vb_chain.specs.declared.{pieces.Piece.Piece, fault.ChainFault.ChainFault}
use Rattle.vb_chain.specs.{declared.descriptor.Descriptor.Descriptor, Rules.{has_next, piece_of}}
use Rattle.vb_core.{specs.declared.kinds.Kind.Kind, specs.declared.ring.Virtqueue.Virtqueue}
use Rattle.vb_core.{specs.declared.device.Device.Device}
use Rattle.vb_core.specs.Devices.{ring_of}
use Rattle.vb_monitor.proofs.TurnEnds.{newest, Goes, one_more, asked, more_room, copy_comes, Agrees}
use Rattle.vb_monitor.proofs.{TurnEnds.{one_copied, flags_of, breaks_go}}
use Rattle.vb_monitor.{proofs.TurnRows.{Begun}, specs.Accesses.{Access}}
use Rattle.vb_monitor.specs.Order.{is_read, is_told, is_copied}
use Rattle.std.specs.Prelude.{◌||◌}
use Rattle.vb_monitor.specs.{Accesses.{CopyBytes}}
use Rattle.vb_monitor.specs.Chains.{TableRow, row_of, in_row, further_in_row, descriptor_of}
use Rattle.vb_monitor.specs.Chains.{GoesOn, DescriptorBy, RowAt, FollowsBy, Follows}
use Rattle.vb_monitor.{specs.Ends.Whole}
use Rattle.vb_monitor.proofs.TableRowLemmas.{first_in_row}
use Rattle.vb_monitor.specs.{Regions.spot}
use Rattle.vb_monitor.specs.SoFar.{Known, Walks, known, ring_after}
use Rattle.vb_monitor.specs.SoFar.{with_descriptor, walked_by, walked_in, with_copied}
use Rattle.vb_monitor.specs.Turns.{CopiesNext}
use Rattle.vb_monitor.specs.declared.outcome.{Tally.Tally}
use Rattle.vb_monitor.specs.declared.regions.{Spot.Spot}

-- ---- the walk

-- what is known of a row, descriptor by descriptor
pub walked_out : (n : ℕ) (kind : Kind) (head : ℕ) (row : TableRow) (number : ℕ) (pieces : List Piece) →
    in_row row number ≡ None → walked_in n kind head row number pieces ≡ Walks head number pieces
walked_out zero kind head row number pieces e = refl
walked_out (suc n) kind head row number pieces e =
    ap (λ (o : Option (List ℕ)). walked_by o (walked_in n kind head row) kind head number pieces) e

-- after one that the row has
abbrev Known_after : ℕ → Kind → ℕ → TableRow → List Piece → Descriptor → Known
Known_after n kind head row pieces x = with_descriptor (has_next x) (walked_in n kind head row)
    kind head (pieces ++ piece_of x ∷ []) x.next

walked_on : (n : ℕ) (kind : Kind) (head : ℕ) (row : TableRow) (number : ℕ) (pieces : List Piece)
    (bytes : List ℕ) → in_row row number ≡ Some bytes →
    walked_in (suc n) kind head row number pieces ≡
    Known_after n kind head row pieces (descriptor_of bytes)
walked_on n kind head row number pieces bytes e =
    ap (λ (o : Option (List ℕ)). walked_by o (walked_in n kind head row) kind head number pieces) e

-- after a descriptor of a row: what is known of the row is as the walk has it
pub record Walking (w : Whole) (d0 d : Device) (t : Tally) (known_so : Known) (b : List Access) :
    Type 0 where
  pub agrees : Agrees w d0 t b d
  pub known_is : known w.kind b ≡ known_so
  pub copied : is_copied (newest b) ≡ true
  pub read : (is_read (newest b) || is_told (newest b)) ≡ true

-- at most n after n pieces, where m descriptors more may be there
abbrev pub walk_room : ℕ → ℕ → ℕ → ℕ
walk_room n k m = n + (2 * (n + k) + (5 + m))

abbrev On : Whole → Device → Device → Tally → ℕ → ℕ → ℕ → ℕ → TableRow →
    (ℕ → Bool → List Piece → List Access → Type 0) → Type 0
On w d0 d t m n head fuel row on = (number : ℕ) (writing : Bool) (ps : List Piece)
    (b rest : List Access) →
    Walking w d0 d t (walked_in fuel w.kind head row number ps) b →
    on number writing ps rest → Goes w d0 t.keeps (walk_room n (length ps) m) b rest

abbrev Last : Whole → Device → Device → Tally → ℕ → ℕ → (List Piece → List Access → Type 0) → Type 0
Last w d0 d t m head done = (ps : List Piece) (b rest : List Access) →
    Begun w d0 d t head ps b → done ps rest →
    Goes w d0 t.keeps (2 * length ps + (5 + m)) b rest

one_longer : (ps : List Piece) (p : Piece) → length (ps ++ p ∷ []) ≡ suc (length ps)
one_longer [] p = refl
one_longer (x ∷ ps) p = ap (λ (n : ℕ). suc n) (one_longer ps p)

goes_on : (w : Whole) (d0 d : Device) (t : Tally) (m n head fuel : ℕ) (row : TableRow)
    (on : ℕ → Bool → List Piece → List Access → Type 0) (done : List Piece → List Access → Type 0)
    (more : On w d0 d t m n head fuel row on) (last : Last w d0 d t m head done)
    (goes writing : Bool) (x : Descriptor) (pieces : List Piece) (b log : List Access) →
    Walking w d0 d t (with_descriptor goes (walked_in fuel w.kind head row) w.kind head
    (pieces ++ piece_of x ∷ []) x.next) b → GoesOn goes on done writing x pieces log →
    Goes w d0 t.keeps (walk_room n (suc (length pieces)) m) b log
goes_on w d0 d t m n head fuel row on done more last true writing x pieces b log is h =
    let long = one_longer pieces (piece_of x) in
    more_room w d0 t.keeps (walk_room n (length (pieces ++ piece_of x ∷ [])) m) _ b log
    (omega (arith, long)) (more x.next _ (pieces ++ piece_of x ∷ []) b log is h)
goes_on w d0 d t m n head fuel row on done more last false writing x pieces b log is h =
    let long = one_longer pieces (piece_of x) in
    more_room w d0 t.keeps (2 * length (pieces ++ piece_of x ∷ []) + (5 + m)) _ b log
    (omega (arith, long)) (last (pieces ++ piece_of x ∷ []) b log
    (record {
      reads = record { agrees = is.agrees; known_so = is.known_is; read = is.read };
      copied = is.copied;
    }) h)

descriptor_by : (w : Whole) (d0 d : Device) (t : Tally) (m n head fuel : ℕ) (row : TableRow)
    (on : ℕ → Bool → List Piece → List Access → Type 0) (done : List Piece → List Access → Type 0)
    (more : On w d0 d t m n head fuel row on) (last : Last w d0 d t m head done)
    (fault : Option ChainFault) (writing : Bool) (x : Descriptor) (pieces : List Piece)
    (b log : List Access) →
    Walking w d0 d t (Known_after fuel w.kind head row pieces x) b
    → DescriptorBy fault w d t on done writing x pieces log →
    Goes w d0 t.keeps (walk_room n (suc (length pieces)) m) b log
descriptor_by w d0 d t m n head fuel row on done more last (Some fault) writing x pieces b log is h =
    breaks_go w d0 d t _ _ b log (omega arith) (flags_of w d0 _ b d is.agrees.stands) h
descriptor_by w d0 d t m n head fuel row on done more last None writing x pieces b log is h =
    goes_on w d0 d t m n head fuel row on done more last (has_next x) writing x pieces b log is h

-- a row that was just copied
abbrev Rows : Whole → Device → Device → Tally → ℕ → ℕ → ℕ →
    (TableRow → ℕ → Bool → List Piece → List Access → Type 0) → Type 0
Rows w d0 d t m n head on = (row : TableRow) → On w d0 d t m n head (MAX_QUEUE_SIZE - 1) row (on row)

row_at : (w : Whole) (d0 d : Device) (t : Tally) (m n head number : ℕ)
    (on : TableRow → ℕ → Bool → List Piece → List Access → Type 0)
    (done : List Piece → List Access → Type 0) (more : Rows w d0 d t m n head on)
    (last : Last w d0 d t m head done) (writing : Bool) (pieces : List Piece) (o : Option Spot)
    (b log : List Access) → Agrees w d0 t b d →
    known w.kind b ≡ Walks head number pieces → (is_read (newest b) || is_told (newest b)) ≡ true →
    spot w.regions ((ring_of w.kind d).table + 16 * number)
    (16 * (further_in_row w.regions (ring_of w.kind d) number pieces + 1)) ≡ o →
    RowAt w d t on done number (further_in_row w.regions (ring_of w.kind d) number pieces) writing
    pieces o log → Goes w d0 t.keeps (walk_room (suc n) (length pieces) m) b log
row_at w d0 d t m n head number on done more last writing pieces None b log is known_is read e h =
    breaks_go w d0 d t _ _ b log (omega arith) (flags_of w d0 _ b d is.stands) h
row_at w d0 d t m n head number on done more last writing pieces (Some at) b log is known_is read e h =
    let r : Virtqueue = ring_of w.kind d in
    let next : CopiesNext w.regions r (Walks head number pieces) at h.bytes =
    record { place = e; long = h.long } in
    let row = row_of number h.bytes in
    let x : Access = CopyBytes at h.bytes in
    asked w d0 t.keeps _ b log _ h.asks
    (one_more w d0 t.keeps (walk_room n (suc (length pieces)) m) _ x b _ (omega arith)
    (copy_comes w d0 t.keeps (r.table + 16 * number)
    (16 * (further_in_row w.regions r number pieces + 1)) at h.bytes b
    (subst (λ (k : Known). CopiesNext w.regions (ring_after w.kind (ring_of w.kind d0) b) k at h.bytes)
    (sym known_is) (subst (λ (q : Virtqueue). CopiesNext w.regions q (Walks head number pieces) at
    h.bytes) is.stands.ring next)) is.done read e h.long)
    (descriptor_by w d0 d t m n head (MAX_QUEUE_SIZE - 1) row (on row) done (more row) last _ writing
    _ pieces (x ∷ b) h.rest (record {
      agrees = one_copied w d0 t at h.bytes b d is;
      known_is = ap (λ (k : Known). with_copied w.kind h.bytes k) known_is
          ∙ walked_on (MAX_QUEUE_SIZE - 1) w.kind head row number pieces (take 16 h.bytes)
          (first_in_row number h.bytes _ h.long);
      copied = refl;
      read = refl;
    }) h.goes_on))

-- after what was read, which bytes are where the row that was copied last has the descriptor
abbrev pub ReadBefore : Option (List ℕ) → List Access → Type 0
ReadBefore None b = (is_read (newest b) || is_told (newest b)) ≡ true
ReadBefore (Some bytes) b = (is_copied (newest b) ≡ true) × ((is_read (newest b) || is_told (newest b)) ≡ true)

may_read : (o : Option (List ℕ)) (b : List Access) → is_copied (newest b) ≡ true →
    (is_read (newest b) || is_told (newest b)) ≡ true → ReadBefore o b
may_read None b copied read = read
may_read (Some bytes) b copied read = (copied, read)

row_by : (w : Whole) (d0 d : Device) (t : Tally) (m n head fuel : ℕ) (row : TableRow) (number : ℕ)
    (on : TableRow → ℕ → Bool → List Piece → List Access → Type 0)
    (done : List Piece → List Access → Type 0) (more : On w d0 d t m n head fuel row (on row))
    (rows : Rows w d0 d t m n head on) (last : Last w d0 d t m head done) (writing : Bool)
    (pieces : List Piece) (o : Option (List ℕ)) (b log : List Access) →
    Agrees w d0 t b d →
    known w.kind b ≡ walked_in (suc fuel) w.kind head row number pieces → ReadBefore o b →
    in_row row number ≡ o → FollowsBy o w d t on done row number writing pieces log →
    Goes w d0 t.keeps (walk_room (suc n) (length pieces) m) b log
row_by w d0 d t m n head fuel row number on done more rows last writing pieces None b log is known_is was e h =
    row_at w d0 d t m n head number on done rows last writing pieces _ b log is
    (known_is ∙ walked_out (suc fuel) w.kind head row number pieces e) was refl h
row_by w d0 d t m n head fuel row number on done more rows last writing pieces (Some bytes) b log is known_is was e h =
    more_room w d0 t.keeps (walk_room n (suc (length pieces)) m) _ b log (omega arith)
    (descriptor_by w d0 d t m n head fuel row (on row) done more last _ writing (descriptor_of bytes)
    pieces b log (record {
      agrees = is;
      known_is = known_is ∙ walked_on fuel w.kind head row number pieces bytes e;
      copied = was.0;
      read = was.1;
    }) h)

pub follows_from : (n fuel : ℕ) (w : Whole) (d0 d : Device) (t : Tally) (m head : ℕ)
    (done : List Piece → List Access → Type 0) (last : Last w d0 d t m head done) → n ≤ fuel →
    n ≤ MAX_QUEUE_SIZE → (row : TableRow) (number : ℕ) (writing : Bool) (pieces : List Piece)
    (b log : List Access) → Agrees w d0 t b d →
    known w.kind b ≡ walked_in fuel w.kind head row number pieces → ReadBefore (in_row row number) b →
    Follows n w d t done row number writing pieces log →
    Goes w d0 t.keeps (walk_room n (length pieces) m) b log
follows_from zero fuel w d0 d t m head done last less most row number writing pieces b log is known_is was h =
    breaks_go w d0 d t _ _ b log (omega arith) (flags_of w d0 _ b d is.stands) h
follows_from (suc n) zero w d0 d t m head done last less most row number writing pieces b log is known_is was h =
    absurd (omega (arith, less))
follows_from (suc n) (suc fuel) w d0 d t m head done last less most row number writing pieces b log is known_is was h =
    let on = λ (k : ℕ) (fits : n ≤ k) (row : TableRow) (number : ℕ) (writing : Bool)
    (ps : List Piece) (b rest : List Access) (x : Walking w d0 d t (walked_in k w.kind head row number ps) b)
    (h : Follows n w d t done row number writing ps rest).
    follows_from n k w d0 d t m head done last fits (omega (arith, most)) row number writing ps b rest
    x.agrees x.known_is (may_read (in_row row number) b x.copied x.read) h in
    row_by w d0 d t m n head fuel row number (Follows n w d t done) done (on fuel (omega (arith, less)) row)
    (on (MAX_QUEUE_SIZE - 1) (omega (arith, most))) last writing pieces _ b log is known_is was refl h
