-- A report that a notice serves is one that a device takes and uses.
use Rattle.std.proofs.Common.{◌≡◌, ◌∙◌, ap, sym, subst, refl, arith, ℕ, suc, ◌+◌, ◌*◌, ◌%◌, ◌<◌, ◌≤◌}
use Rattle.std.proofs.Common.{Bool, true, false, List, [], ◌∷◌, length, take, map, get_or, Option, Some, None}
use Rattle.std.proofs.Common.{Result, Ok, Err}
use Rattle.std.specs.Prelude.{All, ◌&&◌, ◌||◌, not, nat_lt, if◌then◌else◌, IsOk}
use Rattle.std.specs.List.{list_any}
use Rattle.std.proofs.lemmas.{Bool.Decides.nat_tests, List.Folds.list_any_none}
use Rattle.vb_virtio.specs.Layout.{reserved_pages}
use Rattle.vb_virtio.specs.Tests.{times}
use Rattle.vb_ram.specs.{Pages.{Pages}, Part.Part}
use Rattle.vb_chain.specs.declared.{fault.ChainFault.{ChainFault, TheVariants.{IndexJump, WrongDirection, BadLength}}, pieces.Piece.Piece}
use Rattle.vb_ring.specs.{Layout.IsBacked, Calls.AddsUsedBy}
use Rattle.vb_request.proofs.{Chains.chain_fits, Reports.report_pages}
use Rattle.vb_request.specs.Report.{report_request, pages_of_pieces, has_bad_length, piece_fault}
use Rattle.vb_request.specs.Report.{first_piece_fault}
use Rattle.vb_request.specs.Request.{first_of_both, unless_fault}
use Rattle.vb_core.specs.declared.kinds.Kind.TheVariants.{Report}
use Rattle.vb_core.specs.declared.device.{Denial.Denial, Device.Device}
use Rattle.vb_core.specs.declared.{runs.Run.Run, name.Named.Named}
use Rattle.vb_core.specs.declared.settings.TheConstants.{MEMORY_LIMIT}
use Rattle.vb_core.specs.Devices.{ring_of, with_one_taken, queue_denial, call_denial}
use Rattle.vb_core.specs.Report.{pieces_denial, named_by, is_beyond, run_of}
use Rattle.vb_core.specs.{Runs.pages_of_runs, Name.{after_chain, told}}
use Rattle.vb_core.specs.Config.{keeps_reports}
use Rattle.vb_core.proofs.RunLemmas.{runs_of_pieces}
use Rattle.vb_device.specs.{Calls.{HasChain, taking}, Discards.discarded}
use Rattle.vb_device.specs.{Finishes.{Uses, settled, using}, Queues.{queue_layout, queue_end, next_available}}
use Rattle.vb_device.proofs.Discards.{discarded-length}
use Rattle.vb_monitor.specs.declared.{outcome.Outcome.Outcome}
use Rattle.vb_monitor.specs.{Chains.{memory_end, told_if}, Giving.{after_use, cuts_for, is_kept}}
use Rattle.vb_served.specs.{Store.{Store, with_marks}, Alike.{IsAlike, AreRings}, Tied.IsServedAlike}
use Rattle.vb_served.specs.One.{byte, all_of, head_in, descriptor_in, Discards, NextGives, NamesOne}
use Rattle.vb_served.specs.One.{ServesReport, Settles}
use Rattle.vb_served.proofs.{LostFrames.{backing, all_lost}, ElementLemmas.adds_so}
use Rattle.vb_served.proofs.CutLemmas.{AreInside, No_more, One_more, discards_lose}
use Rattle.vb_served.proofs.AlikeLemmas.{backed_inside, ring_still}
use Rattle.vb_served.proofs.UsedRequests.{IsReady, asked, next_end, kept_given}
use Rattle.vb_served.proofs.TakeLemmas.{takes_wrong, takes_right}
use Rattle.vb_served.proofs.ShapeLemmas.{shape_so, used_alone}
use Rattle.vb_served.proofs.TieLemmas.{IsTie, chain_so, broken_tied, heads_so, first_taken, pages_so}

-- ---- pieces lie in memory

not_beyond : (end : ℕ) (p : Piece) → p.addr + p.len ≤ end → end < MEMORY_LIMIT → is_beyond p ≡ false
not_beyond end p fits lt = grind (arith, nat_tests)

none_beyond : (end : ℕ) (pieces : List Piece) → All (λ p. p.addr + p.len ≤ end) pieces →
    end < MEMORY_LIMIT → list_any is_beyond pieces ≡ false
none_beyond end pieces fits lt =
    list_any_none is_beyond pieces (λ k d l. not_beyond end (get_or pieces k d) (fits k d l) lt)

pub report_open : (end : ℕ) (pieces : List Piece) (d : Device) → All (λ p. p.addr + p.len ≤ end) pieces →
    end < MEMORY_LIMIT → queue_denial Report d ≡ None → pieces_denial Report pieces 256 d ≡ None
report_open end pieces d fits lt open_so =
    ap (λ (b : Bool). call_denial Report true (true && not b) d) (none_beyond end pieces fits lt)
    ∙ open_so

-- ---- runs of pieces

by_tests : (a b : Bool) (f : Option ChainFault) (ps qs : List ℕ) →
    (if a then Err WrongDirection else (if b then Err BadLength else unless_fault f ps)) ≡ Ok qs →
    (b ≡ false) × (f ≡ None) × (ps ≡ qs)
by_tests true b f ps qs e = absurd cc
by_tests false true f ps qs e = absurd cc
by_tests false false None ps qs e = (refl, refl, (let same : ps ≡ qs = cc in same))
by_tests false false (Some x) ps qs e = absurd cc

second_of : (a b : Bool) → (a || b) ≡ false → b ≡ false
second_of true b e = absurd cc
second_of false b e = e

its_pages : (pieces : List Piece) (reserved : ℕ) (pages : List ℕ) →
    report_request pieces reserved ≡ Ok pages →
    (list_any has_bad_length pieces ≡ false) × (first_piece_fault reserved pieces ≡ None)
    × (pages_of_pieces pieces ≡ pages)
its_pages pieces reserved pages e =
    let (long, none, same) = by_tests (list_any (λ piece. not piece.writable) pieces)
    (nat_lt 32 (length pieces) || list_any has_bad_length pieces) (first_piece_fault reserved pieces)
    (pages_of_pieces pieces) pages e in
    (second_of _ _ long, none, same)

first_none : (a b : Option ChainFault) → first_of_both a b ≡ None → (a ≡ None) × (b ≡ None)
first_none None b e = (refl, e)
first_none (Some f) b e = absurd cc

or_none : (a b : Bool) → (a || b) ≡ false → (a ≡ false) × (b ≡ false)
or_none true b e = absurd cc
or_none false b e = (refl, e)

whole_piece : (reserved n : ℕ) (p : Piece) → has_bad_length p ≡ false → piece_fault reserved p ≡ None →
    p.addr + p.len ≤ 4096 * n →
    (0 < (run_of p).count) × ((run_of p).first + (run_of p).count ≤ n)
whole_piece reserved n p long fault fits =
    let some : 0 < p.len = some_of p long in
    let rest : p.len % 4096 ≡ 0 = rest_of p long in
    let at : p.addr % 4096 ≡ 0 = at_of reserved p fault in
    (omega (arith, some, rest), omega (arith, rest, at, fits))
  where
    some_of : (p : Piece) → has_bad_length p ≡ false → 0 < p.len
    some_of p e = grind (arith, nat_tests)

    rest_of : (p : Piece) → has_bad_length p ≡ false → p.len % 4096 ≡ 0
    rest_of p e = grind (arith, nat_tests)

    at_of : (reserved : ℕ) (p : Piece) → piece_fault reserved p ≡ None → p.addr % 4096 ≡ 0
    at_of reserved p e = grind (arith, nat_tests)

pieces_inside : (reserved n : ℕ) (pieces : List Piece) → list_any has_bad_length pieces ≡ false →
    first_piece_fault reserved pieces ≡ None → All (λ p. p.addr + p.len ≤ 4096 * n) pieces →
    AreInside n (map run_of pieces)
pieces_inside reserved n [] long fault fits = No_more
pieces_inside reserved n (p ∷ ps) long fault fits =
    let (this, others) = or_none (has_bad_length p) (list_any has_bad_length ps) long in
    let (here, behind) = first_none (piece_fault reserved p) (first_piece_fault reserved ps) fault in
    let (some, inside) = whole_piece reserved n p this here (fits 0 p (omega arith)) in
    One_more (run_of p) (map run_of ps) some inside
    (pieces_inside reserved n ps others behind (λ k d lt. fits (suc k) d (omega (arith, lt))))

-- ---- a report

abbrev reported : ℕ → List ℕ → Part → Store → Part
reported h pages p t =
    record (settled 4 pages (using 4 0 (taking 4 h pages p))) { loose = t.loose }

not_kept : (d : Device) (n : ℕ) (runs : List Run) (s b : Store) → keeps_reports d ≡ false →
    Discards s (cuts_for Report (is_kept Report false (keeps_reports d)) (all_of n) runs) b →
    Discards s (cuts_for Report false (all_of n) runs) b
not_kept d n runs s b e did = subst (λ (k : Bool). Discards s
    (cuts_for Report (is_kept Report false k) (all_of n) runs) b) e did

reports_so : (h : ℕ) (pages : List ℕ) (runs : List Run) (p : Part) (d d2 : Device)
    (why : Option Denial) (s t : Store) → IsReady 4 p s → h < 65536 →
    All (λ page. reserved_pages p.queue_size ≤ page) pages → pages_of_runs runs ≡ pages →
    AreInside (length s.mem) runs → keeps_reports d ≡ false → (taken : p.report.taken ≡ []) →
    AreRings (ring_of Report d) 4 (taking 4 h pages p) → Settles Report h runs d d2 why s t →
    Uses 4 0 (asked h pages) s.mem t.mem (taking 4 h pages p) (reported h pages p t) (Ok h)
    × (t.ballooned ≡ s.ballooned) × (t.last ≡ s.last) × (length t.mem ≡ length s.mem)
reports_so h pages runs p d d2 why s t is below above same inside keeps none alike did =
    let b = did.between in
    let lost = discards_lose (length s.mem) runs (with_marks Report runs s) b is.few inside
    (not_kept d (length s.mem) runs (with_marks Report runs s) b keeps did.discards) in
    let gone : b.mem ≡ discarded pages s.mem =
    lost.mem ∙ ap (λ (ps : List ℕ). discarded ps s.mem) same in
    let part = taking 4 h pages p in
    let still : IsBacked b.mem (queue_layout 4 part) =
    ring_still 4 (reserved_pages p.queue_size) p pages s.mem b.mem is.size refl above gone is.backed
    in
    let adds = adds_so (ring_of Report d) 4 h part b t is.size alike (next_end 4 h pages p is.is_end)
    below (backed_inside b.mem (queue_layout 4 part).used.page still.used) still.used did.gives in
    let kept = kept_given (ring_of Report d) h b t 4 _ part adds did.gives in (
      record {
        answer = refl;
        part = refl;
        loose = λ k. omega (
          arith,
          ap (times k) kept.loose,
          lost.frames k,
          ap (times k) is.none_loose,
          ap (backing k) gone,
          all_lost k s.mem pages,
        );
        memory = subst (λ (m : Pages). AddsUsedBy m t.mem (queue_end 4 part)
            (queue_end 4 (reported h pages p t)) h 0) gone adds;
      },
      kept.ballooned ∙ lost.ballooned,
      kept.last ∙ lost.last,
      kept.count ∙ (ap (λ (m : Pages). length m) lost.mem
          ∙ discarded-length (pages_of_runs runs) s.mem),
    )

reported_alike : (d : Device) (p : Part) (h : ℕ) (pages : List ℕ) (s t : Store) → IsAlike Report d p s →
    t.ballooned ≡ s.ballooned → t.last ≡ s.last → length t.mem ≡ length s.mem →
    IsAlike Report (after_use Report (with_one_taken Report d)) (reported h pages p t) t
reported_alike d p h pages s t a marks last count = record {
  loose = refl;
  ballooned = marks ∙ a.ballooned;
  last = last ∙ a.last;
  settings = a.settings;
  end = a.end ∙ ap (λ (n : ℕ). 4096 * n) (sym count);
  reserved = a.reserved;
  strict = a.strict;
  keeps = a.keeps;
  status = a.status;
  features = a.features;
  ring = let r = a.ring in record {
    size = r.size;
    next_avail = ap (λ (n : ℕ). (n + 1) % 65536) r.next_avail;
    next_used = ap (λ (n : ℕ). (n + 1) % 65536) r.next_used;
    table = r.table;
    avail = r.avail;
    used = r.used;
  };
}

taken_reports : (d : Device) (p : Part) (h : ℕ) (pages : List ℕ) (s : Store) → IsAlike Report d p s →
    AreRings (ring_of Report (with_one_taken Report d)) 4 (taking 4 h pages p)
taken_reports d p h pages s a = let r = a.ring in record {
  size = r.size;
  next_avail = ap (λ (n : ℕ). (n + 1) % 65536) r.next_avail;
  next_used = r.next_used;
  table = r.table;
  avail = r.avail;
  used = r.used;
}

right_report : (h : ℕ) (d1 d2 : Device) (outcome : Outcome) (s t : Store) (p1 : Part)
    (pieces : List Piece) (pages : List ℕ) (runs : List Run) → IsTie Report d1 p1 s → h < 65536 →
    next_available 4 s.mem p1 ≡ Ok (Some h) → HasChain 4 s.mem p1 h pieces →
    All (λ p. p.addr + p.len ≤ 4096 * length s.mem) pieces →
    report_request pieces (reserved_pages p1.queue_size) ≡ Ok pages → runs ≡ map run_of pieces →
    Settles Report h runs (with_one_taken Report d1) d2 outcome.why s t →
    IsServedAlike Report d1 d2 outcome s t p1
right_report h d1 d2 outcome s t p1 pieces pages runs tie below next chain fits asks are did =
    let reserved = reserved_pages p1.queue_size in
    let (above, inside) = report_pages (length s.mem) pieces reserved pages fits asks in
    let (long, fault, same) = its_pages pieces reserved pages asks in
    let told_so : pages_of_runs runs ≡ pages =
    ap (λ (rs : List Run). pages_of_runs rs) are ∙ (runs_of_pieces pieces ∙ same) in
    let (uses, marks, last, count) = reports_so h pages runs p1 (with_one_taken Report d1) d2 outcome.why
    s t tie.ready below above told_so
    (subst (λ (rs : List Run). AreInside (length s.mem) rs) (sym are)
    (pieces_inside reserved (length s.mem) pieces long fault fits))
    tie.alike.keeps tie.none_taken (taken_reports d1 p1 h pages s tie.alike) did in
    let alike = subst (λ (x : Device). IsAlike Report x (reported h pages p1 t) t) (sym did.device)
    (reported_alike d1 p1 h pages s t tie.alike marks last count) in
    record {
      part = reported h pages p1 t;
      result = Ok (Some h);
      fault = IndexJump;
      serves = (
        taking 4 h pages p1,
        takes_right 4 h s.mem p1 pieces pages tie.may_take next chain asks,
        (asked h pages, first_taken p1.report.taken (asked h pages) tie.none_taken, uses),
      );
      ends = did.ends;
      broken = λ refusal e. absurd cc;
      held = λ head kind_so e. absurd cc;
      alike = alike;
      shape = shape_so Report d2 (reported h pages p1 t) p1 t (Ok (Some h)) alike refl
          (used_alone p1.report.taken (asked h pages) tie.none_taken) refl;
      taken = alike.ring.next_avail ∙ sym (ap (λ (n : ℕ). (n + 1) % 65536) tie.alike.ring.next_avail);
      pages = count;
      head = λ k e. heads_so _ h k next e;
      below = λ k is e. absurd cc;
    }

-- by what the pieces name
by_request : (h : ℕ) (d1 d2 device : Device) (outcome : Outcome) (s t : Store) (p1 : Part)
    (pieces : List Piece) (runs : List Run) (answer : Result Named Denial)
    (o : Result (List ℕ) ChainFault) → IsTie Report d1 p1 s → h < 65536 →
    next_available 4 s.mem p1 ≡ Ok (Some h) → HasChain 4 s.mem p1 h pieces →
    All (λ p. p.addr + p.len ≤ 4096 * length s.mem) pieces →
    report_request pieces (reserved_pages p1.queue_size) ≡ o →
    answer ≡ told (named_by (length pieces) o) →
    device ≡ after_chain Report (named_by (length pieces) o) d1 →
    (IsOk answer → take (length pieces) runs ≡ map run_of pieces) →
    NamesOne Report h runs device d2 outcome.why s t answer →
    IsServedAlike Report d1 d2 outcome s t p1
by_request h d1 d2 device outcome s t p1 pieces runs answer (Err f) tie below next chain fits asks is
    after are did =
    let left = subst (λ (r : Result Named Denial). NamesOne Report h runs device d2 outcome.why s t r)
    is did in
    broken_tied Report d1 d2 outcome s t p1 f tie
    (takes_wrong 4 h s.mem p1 pieces f tie.may_take next chain asks)
    (record { ends = left.ends; device = left.device ∙ after; memory = left.memory })
by_request h d1 d2 device outcome s t p1 pieces runs answer (Ok pages) tie below next chain fits asks
    is after are did =
    let settles = subst (λ (r : Result Named Denial). NamesOne Report h runs device d2 outcome.why s t r)
    is did in
    right_report h d1 d2 outcome s t p1 pieces pages (take (length pieces) runs) tie below next chain
    fits asks (are (subst (λ (r : Result Named Denial). IsOk r) (sym is) refl))
    (subst (λ (x : Device). Settles Report h (take (length pieces) runs) x d2 outcome.why s t) after
    settles)

few_heads : (h size n : ℕ) → h < n → n ≡ size → size ≤ 256 → h < 65536
few_heads h size n lt e most = omega (arith, lt, e, most)

-- all pages of a report are told
told_all : (answer : Result Named Denial) → told_if true answer ≡ answer
told_all (Ok named) = refl
told_all (Err why) = refl

pub tie_report : (d1 d2 : Device) (outcome : Outcome) (s t : Store) (p1 : Part)
    (pieces : List Piece) → IsTie Report d1 p1 s →
    next_available 4 s.mem p1 ≡ Ok (Some (head_in (byte s) d1.report)) →
    4096 * length s.mem < MEMORY_LIMIT →
    NextGives (byte s) d1.report (memory_end d1) pieces →
    ServesReport Report (head_in (byte s) d1.report) pieces d1 d2 outcome.why s t →
    IsServedAlike Report d1 d2 outcome s t p1
tie_report d1 d2 outcome s t p1 pieces tie next small gives did =
    let h = head_in (byte s) d1.report in
    let end : memory_end d1 ≡ 4096 * length s.mem =
    ap (λ (n : ℕ). 4096 * n) (pages_so Report d1 p1 s tie.alike) in
    let fits = subst (λ (n : ℕ). All (λ p. p.addr + p.len ≤ n) pieces) end
    (chain_fits (descriptor_in (byte s) d1.report) d1.report.size (memory_end d1) h pieces gives.gives) in
    let open_so = report_open (4096 * length s.mem) pieces d1 fits small tie.open_so in
    let reserved = ap (λ (n : ℕ). report_request pieces n) tie.alike.reserved in
    by_request h d1 d2 did.device outcome s t p1 pieces did.runs did.answer
    (report_request pieces (reserved_pages p1.queue_size)) tie
    (few_heads h p1.queue_size d1.report.size gives.gives.chain.inside tie.alike.ring.size
    tie.ready.size.most) next (chain_so Report d1 p1 s pieces tie gives) fits refl
    (did.names.answer open_so
    ∙ ap (λ (o : Result (List ℕ) ChainFault). told (named_by (length pieces) o)) reserved)
    (did.names.device open_so
    ∙ ap (λ (o : Result (List ℕ) ChainFault). after_chain Report (named_by (length pieces) o) d1)
    reserved) did.names.runs_are
    (subst (λ (r : Result Named Denial). NamesOne Report h did.runs did.device d2 outcome.why s t r)
    (told_all did.answer) did.serves)
