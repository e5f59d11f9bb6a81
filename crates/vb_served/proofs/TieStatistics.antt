-- A buffer of statistics that a notice holds is one that a device takes.
use Rattle.std.proofs.Common.{◌≡◌, ◌∙◌, ap, sym, subst, refl, arith, inl, inr, ◌⊎◌, ℕ, ◌+◌, ◌/◌, ◌%◌, ◌<◌, ◌≤◌}
use Rattle.std.proofs.Common.{Bool, true, false, List, [], length, take, map, Option, Some}
use Rattle.std.proofs.Common.{Result, Ok, Err}
use Rattle.std.specs.Prelude.{not, if◌then◌else◌}
use Rattle.std.specs.List.{list_any}
use Rattle.std.proofs.lemmas.Bool.{cases_lt}
use Rattle.std.proofs.lemmas.List.{ext_get_or, get_or-map, get_or-take, get_or_past, length-map}
use Rattle.std.proofs.lemmas.List.{length-take-le}
use Rattle.vb_virtio.specs.declared.layout.TheConstants.{FREE_MEMORY_TAG, TOTAL_MEMORY_TAG}
use Rattle.vb_ram.specs.{Pages.{Pages, end_of}, Part.Part}
use Rattle.vb_chain.specs.declared.{fault.ChainFault.{ChainFault, TheVariants.{IndexJump, WrongDirection, BadLength}}, pieces.Piece.Piece}
use Rattle.vb_request.specs.Request.{bytes_of, total_length}
use Rattle.vb_request.specs.Statistics.{Statistic as Said, statistics_of, statistics_in, last_of}
use Rattle.vb_request.specs.Statistics.{statistics_length, statistics_request, is_statistics_length}
use Rattle.vb_request.proofs.LastStatistics.{statistics_of-length, statistics_of-at, no_statistic}
use Rattle.vb_core.specs.declared.kinds.Kind.TheVariants.{Statistics}
use Rattle.vb_core.specs.declared.{device.Device.Device, statistics.Statistic.Statistic}
use Rattle.vb_core.specs.{Devices.{with_one_taken}, Statistics.{AreFigures, figure_at}}
use Rattle.vb_device.specs.Calls.{taking, noting}
use Rattle.vb_device.specs.Queues.{next_available}
use Rattle.vb_monitor.specs.declared.outcome.Outcome.{Outcome}
use Rattle.vb_monitor.specs.Chains.{memory_end}
use Rattle.vb_monitor.specs.Still.{bytes_of as read_bytes}
use Rattle.vb_served.specs.{Store.{Store, as_said, last_in, with_figures}, Alike.{IsAlike}}
use Rattle.vb_served.specs.{Tied.IsServedAlike, One.{byte, head_in, NextGives, BufferBy}}
use Rattle.vb_served.proofs.{RequestLemmas.same_bytes, TakeLemmas.{takes_wrong, takes_right}}
use Rattle.vb_served.proofs.ShapeLemmas.{shape_so}
use Rattle.vb_served.proofs.TieLemmas.{IsTie, chain_so, broken_tied, heads_so}

-- ---- figures

-- there are as many as the bytes have
enough : (bytes : List ℕ) (figures : List Statistic) (k : ℕ) → AreFigures bytes figures →
    k < length bytes / 10 → k < length figures
enough bytes figures k are lt = by (cases_lt k (length figures)) where
  more : (x : Statistic) → record { tag = x.tag + 1; value = 0 } ≡ x → ⊥
  more x e =
      let one : x.tag + 1 ≡ x.tag = ap (λ (y : Statistic). y.tag) e in omega (arith, one)

  by : (k < length figures) ⊎ (length figures ≤ k) → k < length figures
  by (inl here) = here
  by (inr past) =
      let d : Statistic = record { tag = (figure_at bytes k).tag + 1; value = 0 } in
      absurd (more (figure_at bytes k) (sym (get_or_past figures k d past) ∙ are k d lt))

all_there : (n : ℕ) (figures : List Statistic) → ((k : ℕ) → k < n → k < length figures) →
    n ≤ length figures
all_there n figures each = by (cases_lt (length figures) n) where
  by : (length figures < n) ⊎ (n ≤ length figures) → n ≤ length figures
  by (inl few) = let lt : length figures < length figures = each (length figures) few in omega (arith, lt)
  by (inr le) = le

same_figures : (bytes : List ℕ) (figures : List Statistic) → AreFigures bytes figures →
    map as_said (take (length bytes / 10) figures) ≡ statistics_of bytes
same_figures bytes figures are =
    let n = length bytes / 10 in
    let enough_so : n ≤ length figures =
    all_there n figures (λ k lt. enough bytes figures k are lt) in
    let long : length (take n figures) ≡ n = length-take-le n figures enough_so in
    let mapped : length (map as_said (take n figures)) ≡ n =
    length-map (take n figures) as_said ∙ long in
    ext_get_or no_statistic (map as_said (take n figures)) (statistics_of bytes)
    (mapped ∙ sym (statistics_of-length bytes)) (λ k l.
    let lt : k < n = omega (arith, l, mapped) in
    let d : Statistic = record { tag = 0; value = 0 } in
    get_or-map as_said (take n figures) k d no_statistic (omega (arith, lt, long))
    ∙ (ap as_said (get_or-take n figures k d lt ∙ are k d lt) ∙ sym (statistics_of-at bytes k lt)))

same_last : (s : Store) (pieces : List Piece) (figures : List Statistic) →
    AreFigures (read_bytes (byte s) pieces) figures →
    last_in (take (length (read_bytes (byte s) pieces) / 10) figures) ≡ statistics_in s.mem pieces
same_last s pieces figures are =
    let bytes = read_bytes (byte s) pieces in
    let same : map as_said (take (length bytes / 10) figures) ≡ statistics_of (bytes_of s.mem pieces) =
    same_figures bytes figures are ∙ ap (λ (bs : List ℕ). statistics_of bs) (same_bytes s pieces) in
    ap (λ (xs : List Said). record {
      free = last_of FREE_MEMORY_TAG xs;
      total = last_of
          TOTAL_MEMORY_TAG xs;
    }) same

-- ---- what a buffer asks

wrong_by : (a b : Bool) (n : ℕ) (f : ChainFault) →
    (if a then Err WrongDirection else (if not b then Err BadLength else Ok n)) ≡ Err f →
    ◌≡◌ {A = Result (List ℕ) ChainFault}
    (if a then Err WrongDirection else (if not b then Err BadLength else Ok [])) (Err f)
wrong_by true b n f e = wrong f e where
  wrong : (f : ChainFault) → ◌≡◌ {A = Result ℕ ChainFault} (Err WrongDirection) (Err f)
      → ◌≡◌ {A = Result (List ℕ) ChainFault} (Err WrongDirection) (Err f)
  wrong f e = let same : WrongDirection ≡ f = cc in ap Err same
wrong_by false false n f e = bad f e where
  bad : (f : ChainFault) → ◌≡◌ {A = Result ℕ ChainFault} (Err BadLength) (Err f)
      → ◌≡◌ {A = Result (List ℕ) ChainFault} (Err BadLength) (Err f)
  bad f e = let same : BadLength ≡ f = cc in ap Err same
wrong_by false true n f e = absurd cc

right_by : (a b : Bool) (m n : ℕ) →
    (if a then Err WrongDirection else (if not b then Err BadLength else Ok m)) ≡ Ok n →
    ◌≡◌ {A = Result (List ℕ) ChainFault}
    (if a then Err WrongDirection else (if not b then Err BadLength else Ok [])) (Ok [])
right_by true b m n e = absurd cc
right_by false false m n e = absurd cc
right_by false true m n e = refl

wrong_buffer : (pieces : List Piece) (f : ChainFault) → statistics_length pieces ≡ Err f →
    statistics_request pieces ≡ Err f
wrong_buffer pieces f e = wrong_by (list_any (λ piece. piece.writable) pieces)
    (is_statistics_length (total_length pieces)) (total_length pieces) f e

right_buffer : (pieces : List Piece) (n : ℕ) → statistics_length pieces ≡ Ok n →
    statistics_request pieces ≡ Ok []
right_buffer pieces n e = right_by (list_any (λ piece. piece.writable) pieces)
    (is_statistics_length (total_length pieces)) (total_length pieces) n e

-- ---- the tie

abbrev holding : ℕ → Pages → List Piece → Part → Part
holding h mem pieces p = taking 2 h [] (noting 2 mem pieces p)

held_alike : (d : Device) (p : Part) (h : ℕ) (s t : Store) (pieces : List Piece)
    (figures : List Statistic) → IsAlike Statistics d p s → t ≡ with_figures figures s →
    last_in figures ≡ statistics_in s.mem pieces →
    IsAlike Statistics (with_one_taken Statistics d) (holding h s.mem pieces p) t
held_alike d p h s t pieces figures a told last = record {
  loose = ap (λ (x : Store). x.loose) told ∙ a.loose;
  ballooned = ap (λ (x : Store). x.ballooned) told ∙ a.ballooned;
  last = ap (λ (x : Store). x.last) told ∙ last;
  settings = a.settings;
  end = a.end ∙ ap (λ (x : Store). end_of x.mem) (sym told);
  reserved = a.reserved;
  strict = a.strict;
  keeps = a.keeps;
  status = a.status;
  features = a.features;
  ring = let r = a.ring in record {
    size = r.size;
    next_avail = ap (λ (n : ℕ). (n + 1) % 65536) r.next_avail;
    next_used = r.next_used;
    table = r.table;
    avail = r.avail;
    used = r.used;
  };
}

pub tie_statistics : (d1 d2 : Device) (outcome : Outcome) (s t : Store) (p1 : Part)
    (pieces : List Piece) (o : Result ℕ ChainFault) → IsTie Statistics d1 p1 s →
    next_available 2 s.mem p1 ≡ Ok (Some (head_in (byte s) d1.statistics)) →
    NextGives (byte s) d1.statistics (memory_end d1) pieces → statistics_length pieces ≡ o →
    BufferBy o (head_in (byte s) d1.statistics) pieces d1 d2 outcome s t →
    IsServedAlike Statistics d1 d2 outcome s t p1
tie_statistics d1 d2 outcome s t p1 pieces (Err f) tie next gives e did =
    let h = head_in (byte s) d1.statistics in
    broken_tied Statistics d1 d2 outcome s t p1 f tie
    (takes_wrong 2 h s.mem p1 pieces f tie.may_take next
    (chain_so Statistics d1 p1 s pieces tie gives) (wrong_buffer pieces f e)) did
tie_statistics d1 d2 outcome s t p1 pieces (Ok n) tie next gives e did =
    let h = head_in (byte s) d1.statistics in
    let last = same_last s pieces did.figures did.are in
    let alike = subst (λ (x : Device). IsAlike Statistics x (holding h s.mem pieces p1) t) (sym did.device)
    (held_alike d1 p1 h s t pieces
    (take (length (read_bytes (byte s) pieces) / 10) did.figures) tie.alike did.told last) in
    record {
      part = holding h s.mem pieces p1;
      result = Ok (Some h);
      fault = IndexJump;
      serves = (
        holding h s.mem pieces p1,
        takes_right 2 h s.mem p1 pieces [] tie.may_take next
            (chain_so Statistics d1 p1 s pieces tie gives) (right_buffer pieces n e),
        (ap (λ (x : Store). x.mem) did.told, refl),
      );
      ends = did.ends;
      broken = λ refusal e. absurd cc;
      held = λ head kind_so e. held_so h head did.held e;
      alike = alike;
      shape = shape_so Statistics d2 (holding h s.mem pieces p1) p1 t (Ok (Some h)) alike refl refl refl;
      taken = alike.ring.next_avail ∙ sym (ap (λ (n : ℕ). (n + 1) % 65536) tie.alike.ring.next_avail);
      pages = ap (λ (x : Store). length x.mem) did.told;
      head = λ k same. heads_so _ h k next same;
      below = λ k is same. below_so h k same (subst (λ (n : ℕ). h < n) tie.alike.ring.size gives.gives.chain.inside);
    }
  where
    held_so : {E : Type 0} (h k : ℕ) → outcome.tally.held ≡ Some (record { head = h; pages = 0 }) →
        ◌≡◌ {A = Result (Option ℕ) E} (Ok (Some h)) (Ok (Some k)) →
        outcome.tally.held ≡ Some (record { head = k; pages = 0 })
    held_so h k f e = let same : h ≡ k = cc in
        f ∙ ap (λ (n : ℕ). Some (record { head = n; pages = 0 })) same

    below_so : {E : Type 0} (h k : ℕ) → ◌≡◌ {A = Result (Option ℕ) E} (Ok (Some h)) (Ok (Some k)) →
        h < p1.queue_size → k < p1.queue_size
    below_so h k e lt = let same : h ≡ k = cc in subst (λ (n : ℕ). n < p1.queue_size) same lt
