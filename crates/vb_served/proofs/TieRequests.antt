-- A request that a notice serves is one that a device takes and uses.
use Rattle.std.proofs.Common.{◌≡◌, ◌∙◌, ap, sym, subst, refl, arith, ℕ, ◌+◌, ◌*◌, ◌%◌, ◌<◌, ◌≤◌}
use Rattle.std.proofs.Common.{Bool, true, false, List, length, Some}
use Rattle.std.proofs.Common.{Result, Ok, Err}
use Rattle.vb_virtio.specs.Layout.{reserved_pages}
use Rattle.vb_virtio.specs.Tests.{is_in}
use Rattle.vb_ram.specs.{Part.Part}
use Rattle.vb_chain.specs.declared.{fault.ChainFault.{ChainFault, TheVariants.IndexJump}, pieces.Piece.Piece}
use Rattle.vb_request.specs.Request.{request_length, page_request}
use Rattle.vb_request.proofs.RequestPages.{request_pages}
use Rattle.vb_core.specs.declared.kinds.Kind.TheVariants.{Inflate, Deflate}
use Rattle.vb_core.specs.declared.device.{Device.Device}
use Rattle.vb_core.specs.declared.{ring.Virtqueue.Virtqueue, runs.Run.Run}
use Rattle.vb_core.specs.Devices.{ring_of, with_one_taken}
use Rattle.vb_core.specs.Runs.{pages_of_runs}
use Rattle.vb_device.specs.Calls.{HasChain, taking}
use Rattle.vb_device.specs.{Queues.{queue_part, next_available}, Discards.flagged}
use Rattle.vb_monitor.specs.declared.outcome.Outcome.{Outcome}
use Rattle.vb_monitor.specs.Chains.{memory_end}
use Rattle.vb_monitor.specs.Giving.{after_use}
use Rattle.vb_served.specs.{Store.Store, Alike.{IsAlike, AreRings}, Tied.IsServedAlike}
use Rattle.vb_served.specs.One.{byte, head_in, NextGives, RequestBy, Settles}
use Rattle.vb_served.proofs.RequestLemmas.{RequestDoes, Wrong, Right, request_does, wrong_length}
use Rattle.vb_served.proofs.TakeLemmas.{takes_wrong, takes_right}
use Rattle.vb_served.proofs.ShapeLemmas.{shape_so, used_alone}
use Rattle.vb_served.proofs.TieLemmas.{IsTie, chain_so, broken_tied, heads_so, first_taken, strict_so}
use Rattle.vb_served.proofs.UsedRequests.{inflates_so, deflates_so, inflated, deflated, asked}
use Rattle.vb_served.proofs.CutLemmas.{AreInside}

-- ---- rings of which an entry was taken, or used

taken_ring : (r : Virtqueue) (q : ℕ) (p : Part) → AreRings r q p → (r.next_avail + 1) % 65536
    ≡ ((queue_part q p).next_avail + 1) % 65536
taken_ring r q p a = ap (λ (n : ℕ). (n + 1) % 65536) a.next_avail

used_ring : (r : Virtqueue) (q : ℕ) (p : Part) → AreRings r q p → (r.next_used + 1) % 65536
    ≡ ((queue_part q p).next_used + 1) % 65536
used_ring r q p a = ap (λ (n : ℕ). (n + 1) % 65536) a.next_used

few_heads : (h size n : ℕ) → h < n → n ≡ size → size ≤ 256 → h < 65536
few_heads h size n lt e most = omega (arith, lt, e, most)

-- ---- an inflate

inflated_alike : (d : Device) (p : Part) (h : ℕ) (pages : List ℕ) (s t : Store) → IsAlike Inflate d p s →
    t.ballooned ≡ flagged pages true s.ballooned → t.last ≡ s.last → length t.mem ≡ length s.mem →
    IsAlike Inflate (after_use Inflate (with_one_taken Inflate d)) (inflated h pages p t) t
inflated_alike d p h pages s t a marks last count = record {
  loose = refl;
  ballooned = marks ∙ ap (λ (fs : List Bool). flagged pages true fs) a.ballooned;
  last = last ∙ a.last;
  settings = a.settings;
  end = a.end ∙ ap (λ (n : ℕ). 4096 * n) (sym count);
  reserved = a.reserved;
  strict = a.strict;
  keeps = a.keeps;
  status = a.status;
  features = a.features;
  ring = let r = a.ring in record {
    size = r.size;
    next_avail = taken_ring d.inflate 0 p r;
    next_used = used_ring d.inflate 0 p r;
    table = r.table;
    avail = r.avail;
    used = r.used;
  };
}

taken_rings : (d : Device) (p : Part) (h : ℕ) (pages : List ℕ) (s : Store) → IsAlike Inflate d p s →
    AreRings (ring_of Inflate (with_one_taken Inflate d)) 0 (taking 0 h pages p)
taken_rings d p h pages s a = let r = a.ring in record {
  size = r.size;
  next_avail = taken_ring d.inflate 0 p r;
  next_used = r.next_used;
  table = r.table;
  avail = r.avail;
  used = r.used;
}

right_inflate : (h : ℕ) (d1 d2 : Device) (outcome : Outcome) (s t : Store) (p1 : Part)
    (pieces : List Piece) (pages : List ℕ) (runs : List Run) → IsTie Inflate d1 p1 s → h < 65536 →
    next_available 0 s.mem p1 ≡ Ok (Some h) → HasChain 0 s.mem p1 h pieces →
    page_request s.mem pieces (reserved_pages p1.queue_size) ≡ Ok pages →
    ((p : ℕ) → is_in p (pages_of_runs runs) ≡ is_in p pages) → AreInside (length s.mem) runs →
    Settles Inflate h runs (with_one_taken Inflate d1) d2 outcome.why s t →
    IsServedAlike Inflate d1 d2 outcome s t p1
right_inflate h d1 d2 outcome s t p1 pieces pages runs tie below next chain asks same inside did =
    let above = (request_pages s.mem pieces (reserved_pages p1.queue_size) pages asks).above in
    let (uses, marks, last, count) = inflates_so h pages runs p1 (with_one_taken Inflate d1) d2 outcome.why s t
    tie.ready below above same inside tie.none_taken
    (taken_rings d1 p1 h pages s tie.alike) did in
    let alike = subst (λ (x : Device). IsAlike Inflate x (inflated h pages p1 t) t) (sym did.device)
    (inflated_alike d1 p1 h pages s t tie.alike marks last count) in
    record {
      part = inflated h pages p1 t;
      result = Ok (Some h);
      fault = IndexJump;
      serves = (
        taking 0 h pages p1,
        takes_right 0 h s.mem p1 pieces pages tie.may_take next chain asks,
        (asked h pages, first_taken p1.inflate.taken (asked h pages) tie.none_taken, uses),
      );
      ends = did.ends;
      broken = λ refusal e. absurd cc;
      held = λ head kind_so e. absurd cc;
      alike = alike;
      shape = shape_so Inflate d2 (inflated h pages p1 t) p1 t (Ok (Some h)) alike refl
          (used_alone p1.inflate.taken (asked h pages) tie.none_taken) refl;
      taken = alike.ring.next_avail ∙ sym (ap (λ (n : ℕ). (n + 1) % 65536) tie.alike.ring.next_avail);
      pages = count;
      head = λ k e. heads_so _ h k next e;
      below = λ k is e. absurd cc;
    }

pub tie_inflate : (d1 d2 : Device) (outcome : Outcome) (s t : Store) (p1 : Part)
    (pieces : List Piece) (o : Result ℕ ChainFault) → IsTie Inflate d1 p1 s →
    next_available 0 s.mem p1 ≡ Ok (Some (head_in (byte s) d1.inflate)) →
    NextGives (byte s) d1.inflate (memory_end d1) pieces → request_length pieces ≡ o →
    RequestBy o Inflate (head_in (byte s) d1.inflate) pieces d1 d2 outcome s t →
    IsServedAlike Inflate d1 d2 outcome s t p1
tie_inflate d1 d2 outcome s t p1 pieces (Err f) tie next gives e did =
    let h = head_in (byte s) d1.inflate in
    broken_tied Inflate d1 d2 outcome s t p1 f tie
    (takes_wrong 0 h s.mem p1 pieces f tie.may_take next
    (chain_so Inflate d1 p1 s pieces tie gives)
    (wrong_length s.mem pieces (reserved_pages p1.queue_size) f e)) did
tie_inflate d1 d2 outcome s t p1 pieces (Ok n) tie next gives e did =
    let h = head_in (byte s) d1.inflate in
    let reserved = reserved_pages p1.queue_size in
    let chain = chain_so Inflate d1 p1 s pieces tie gives in
    let below : h < 65536 =
    few_heads h p1.queue_size d1.inflate.size gives.gives.chain.inside tie.alike.ring.size
    tie.ready.size.most in
    by chain below (request_does Inflate h reserved pieces d1 d2 outcome.why s t n refl tie.open_so
    (strict_so Inflate d1 p1 s tie.alike) e did)
  where
    by : HasChain 0 s.mem p1 (head_in (byte s) d1.inflate) pieces →
        head_in (byte s) d1.inflate < 65536 →
        RequestDoes Inflate (head_in (byte s) d1.inflate) (reserved_pages p1.queue_size) pieces d1 d2
        outcome.why s t → IsServedAlike Inflate d1 d2 outcome s t p1
    by chain below (Wrong f asks left) =
        broken_tied Inflate d1 d2 outcome s t p1 f tie
        (takes_wrong 0 (head_in (byte s) d1.inflate) s.mem p1 pieces f tie.may_take next chain asks)
        left
    by chain below (Right pages runs asks same inside settles) =
        right_inflate (head_in (byte s) d1.inflate) d1 d2 outcome s t p1 pieces pages runs tie
        below next chain asks same inside settles

-- ---- a deflate

deflated_alike : (d : Device) (p : Part) (h : ℕ) (pages : List ℕ) (s t : Store) → IsAlike Deflate d p s →
    t.ballooned ≡ flagged pages false s.ballooned → t.last ≡ s.last → length t.mem ≡ length s.mem →
    IsAlike Deflate (after_use Deflate (with_one_taken Deflate d)) (deflated h pages p t) t
deflated_alike d p h pages s t a marks last count = record {
  loose = refl;
  ballooned = marks ∙ ap (λ (fs : List Bool). flagged pages false fs) a.ballooned;
  last = last ∙ a.last;
  settings = a.settings;
  end = a.end ∙ ap (λ (n : ℕ). 4096 * n) (sym count);
  reserved = a.reserved;
  strict = a.strict;
  keeps = a.keeps;
  status = a.status;
  features = a.features;
  ring = let r = a.ring in record {
    size = r.size;
    next_avail = taken_ring d.deflate 1 p r;
    next_used = used_ring d.deflate 1 p r;
    table = r.table;
    avail = r.avail;
    used = r.used;
  };
}

taken_deflates : (d : Device) (p : Part) (h : ℕ) (pages : List ℕ) (s : Store) → IsAlike Deflate d p s →
    AreRings (ring_of Deflate (with_one_taken Deflate d)) 1 (taking 1 h pages p)
taken_deflates d p h pages s a = let r = a.ring in record {
  size = r.size;
  next_avail = taken_ring d.deflate 1 p r;
  next_used = r.next_used;
  table = r.table;
  avail = r.avail;
  used = r.used;
}

right_deflate : (h : ℕ) (d1 d2 : Device) (outcome : Outcome) (s t : Store) (p1 : Part)
    (pieces : List Piece) (pages : List ℕ) (runs : List Run) → IsTie Deflate d1 p1 s → h < 65536 →
    next_available 1 s.mem p1 ≡ Ok (Some h) → HasChain 1 s.mem p1 h pieces →
    page_request s.mem pieces (reserved_pages p1.queue_size) ≡ Ok pages →
    ((p : ℕ) → is_in p (pages_of_runs runs) ≡ is_in p pages) → AreInside (length s.mem) runs →
    Settles Deflate h runs (with_one_taken Deflate d1) d2 outcome.why s t →
    IsServedAlike Deflate d1 d2 outcome s t p1
right_deflate h d1 d2 outcome s t p1 pieces pages runs tie below next chain asks same inside did =
    let (uses, marks, last, count) = deflates_so h pages runs p1 (with_one_taken Deflate d1) d2 outcome.why s t
    tie.ready below same tie.none_taken
    (taken_deflates d1 p1 h pages s tie.alike) did in
    let alike = subst (λ (x : Device). IsAlike Deflate x (deflated h pages p1 t) t) (sym did.device)
    (deflated_alike d1 p1 h pages s t tie.alike marks last count) in
    record {
      part = deflated h pages p1 t;
      result = Ok (Some h);
      fault = IndexJump;
      serves = (
        taking 1 h pages p1,
        takes_right 1 h s.mem p1 pieces pages tie.may_take next chain asks,
        (asked h pages, first_taken p1.deflate.taken (asked h pages) tie.none_taken, uses),
      );
      ends = did.ends;
      broken = λ refusal e. absurd cc;
      held = λ head kind_so e. absurd cc;
      alike = alike;
      shape = shape_so Deflate d2 (deflated h pages p1 t) p1 t (Ok (Some h)) alike refl
          (used_alone p1.deflate.taken (asked h pages) tie.none_taken) refl;
      taken = alike.ring.next_avail ∙ sym (ap (λ (n : ℕ). (n + 1) % 65536) tie.alike.ring.next_avail);
      pages = count;
      head = λ k e. heads_so _ h k next e;
      below = λ k is e. absurd cc;
    }

pub tie_deflate : (d1 d2 : Device) (outcome : Outcome) (s t : Store) (p1 : Part)
    (pieces : List Piece) (o : Result ℕ ChainFault) → IsTie Deflate d1 p1 s →
    next_available 1 s.mem p1 ≡ Ok (Some (head_in (byte s) d1.deflate)) →
    NextGives (byte s) d1.deflate (memory_end d1) pieces → request_length pieces ≡ o →
    RequestBy o Deflate (head_in (byte s) d1.deflate) pieces d1 d2 outcome s t →
    IsServedAlike Deflate d1 d2 outcome s t p1
tie_deflate d1 d2 outcome s t p1 pieces (Err f) tie next gives e did =
    let h = head_in (byte s) d1.deflate in
    broken_tied Deflate d1 d2 outcome s t p1 f tie
    (takes_wrong 1 h s.mem p1 pieces f tie.may_take next
    (chain_so Deflate d1 p1 s pieces tie gives)
    (wrong_length s.mem pieces (reserved_pages p1.queue_size) f e)) did
tie_deflate d1 d2 outcome s t p1 pieces (Ok n) tie next gives e did =
    let h = head_in (byte s) d1.deflate in
    let reserved = reserved_pages p1.queue_size in
    let chain = chain_so Deflate d1 p1 s pieces tie gives in
    let below : h < 65536 =
    few_heads h p1.queue_size d1.deflate.size gives.gives.chain.inside tie.alike.ring.size
    tie.ready.size.most in
    by chain below (request_does Deflate h reserved pieces d1 d2 outcome.why s t n refl tie.open_so
    (strict_so Deflate d1 p1 s tie.alike) e did)
  where
    by : HasChain 1 s.mem p1 (head_in (byte s) d1.deflate) pieces →
        head_in (byte s) d1.deflate < 65536 →
        RequestDoes Deflate (head_in (byte s) d1.deflate) (reserved_pages p1.queue_size) pieces d1 d2
        outcome.why s t → IsServedAlike Deflate d1 d2 outcome s t p1
    by chain below (Wrong f asks left) =
        broken_tied Deflate d1 d2 outcome s t p1 f tie
        (takes_wrong 1 (head_in (byte s) d1.deflate) s.mem p1 pieces f tie.may_take next chain asks)
        left
    by chain below (Right pages runs asks same inside settles) =
        right_deflate (head_in (byte s) d1.deflate) d1 d2 outcome s t p1 pieces pages runs tie
        below next chain asks same inside settles
