-- A notice of reports or hints over memory that stays does what memory has next.
use Rattle.std.proofs.Common.{◌≡◌, ◌∙◌, ap, sym, subst, refl, ℕ, suc, ◌<◌, Bool, true, false}
use Rattle.std.proofs.Common.{List, length, map, take, Option, Some, None, Result, Ok, Err, arith}
use Rattle.std.{proofs.Common.{not, [], ◌++◌, ◌*◌, ◌+◌}, specs.Prelude.{◌&&◌, ◌==◌, nat_le, nat_lt}}
use Rattle.std.specs.{Prelude.{if◌then◌else◌, slice_index, IsOk}, List.list_any}
use Rattle.std.proofs.lemmas.{Bool.Decides.nat_tests, List.{get_or-map, append_assoc, length-map}}
use Rattle.std.proofs.lemmas.List.{Folds.list_any_none}
use Rattle.vb_chain.{specs.declared.pieces.Piece.Piece, specs.declared.fault.ChainFault.ChainFault}
use Rattle.vb_chain.{specs.declared.descriptor.Descriptor.Descriptor, specs.Chain.ChainGives}
use Rattle.vb_chain.specs.Rules.{piece_of, first_fault}
use Rattle.vb_ring.specs.declared.device.Taken.{Taken}
use Rattle.vb_request.specs.Report.{report_request}
use Rattle.vb_core.proofs.{DenialLemmas.open_call}
use Rattle.vb_core.specs.Devices.{ring_of, needing_reset, with_one_taken, queue_denial, call_denial}
use Rattle.vb_core.specs.{Name.{after_chain, told}, Report.{run_of, is_beyond, names_by_pieces}}
use Rattle.vb_core.specs.{Report.{pieces_denial, named_by}, Settings.{memory_pages, are_settings, holds_chains}}
use Rattle.vb_core.specs.declared.device.{Denial.Denial, Denial.TheVariants.Broken, Device.Device}
use Rattle.vb_core.specs.declared.{kinds.Kind.{Kind, TheVariants.{Inflate, Deflate, Statistics, Hint, Report}}, name.Named.Named}
use Rattle.vb_core.specs.declared.{runs.Run.Run}
use Rattle.vb_core.specs.declared.settings.{Settings.Settings, TheConstants.MEMORY_LIMIT}
use Rattle.vb_monitor.{specs.declared.regions.Region.Region, specs.declared.outcome.Tally.Tally}
use Rattle.vb_monitor.{specs.declared.outcome.Budget.Budget, specs.declared.outcome.Outcome.Outcome}
use Rattle.vb_monitor.{specs.Accesses.Access, specs.Ends.Whole, specs.Chains.memory_end}
use Rattle.vb_monitor.specs.Chains.{NamesReport, ServesHint, ServesPieces, has_id, told_if, tells_pages}
use Rattle.vb_monitor.specs.Giving.{Then, AfterName, TellsThen, spent, held_if, more_told}
use Rattle.vb_monitor.specs.Notices.{Serves}
use Rattle.vb_monitor.specs.Machine.{whole, next_chain, serves}
use Rattle.vb_monitor.specs.Still.{StaysUntil, IsMapped, AfterReads, HasNext, Finds}
use Rattle.vb_monitor.specs.Still.{TellsTaken, ReportsTaken, ReportsNext, has_pages, index_in, as_read}
use Rattle.vb_monitor.proofs.StillFound.{ByFound, ends_so}
use Rattle.vb_monitor.proofs.{StillAnswers.first_of, StillLaws.finds}

-- ---- pieces of a chain lie in memory

second_of : (a b : Bool) (f g : ChainFault) (o : Option ChainFault) →
    (if a then Some f else if b then Some g else o) ≡ None → b ≡ false
second_of true b f g o e = absurd cc
second_of false true f g o e = absurd cc
second_of false false f g o e = refl

not_past : (end a len : ℕ) → nat_lt end (a + len) ≡ false → end < MEMORY_LIMIT →
    nat_le MEMORY_LIMIT a ≡ false
not_past end a len e lt = grind (arith, nat_tests)

lies : (q end : ℕ) (writing : Bool) (k : ℕ) (x : Descriptor) →
    first_fault q end writing k x ≡ None → end < MEMORY_LIMIT → is_beyond (piece_of x) ≡ false
lies q end writing k x e lt = not_past end x.addr x.len (second_of _ _ _ _ _ e) lt

none_beyond : (d : ℕ → Descriptor) (q end head : ℕ) (pieces : List Piece) →
    ChainGives d q end head pieces → end < MEMORY_LIMIT → list_any is_beyond pieces ≡ false
none_beyond d q end head pieces gives lt =
    let path = gives.path in
    let piece : ℕ → Piece = λ i. piece_of (d i) in
    ap (λ (ps : List Piece). list_any is_beyond ps) gives.pieces_are
    ∙ list_any_none is_beyond (map piece path) (λ k x below.
    let within : k < length path = subst (λ (n : ℕ). k < n) (length-map path piece) below in
    subst (λ (p : Piece). is_beyond p ≡ false) (sym (get_or-map piece path k 0 x within))
    (lies q end _ k (d (slice_index path k)) (gives.chain.sound k within) lt))

end_below : (s : Settings) → are_settings s ≡ true → 4096 * memory_pages s < MEMORY_LIMIT
end_below s e =
    let most : s.memory_end < MEMORY_LIMIT = grind (arith, nat_tests, first_of) in
    omega (arith, most)

-- ---- what a report or a hint comes to

untrue : (b : Bool) → not b ≡ true → b ≡ false
untrue true e = absurd cc
untrue false e = refl

refused_alike : (kind : Kind) (pieces : List Piece) (d : Device) → names_by_pieces kind ≡ true →
    list_any is_beyond pieces ≡ false → pieces_denial kind pieces 256 d ≡ queue_denial kind d
refused_alike kind pieces d named e =
    ap (λ (b : Bool). call_denial kind b (true && not (list_any is_beyond pieces)) d) named
    ∙ ap (λ (b : Bool). call_denial kind true (true && not b) d) e

-- the chains of such a queue aren't held
unheld : (kind : Kind) (s : Settings) → names_by_pieces kind ≡ true → holds_chains kind s ≡ false
unheld Inflate s e = absurd cc
unheld Deflate s e = absurd cc
unheld Statistics s e = absurd cc
unheld Hint s e = refl
unheld Report s e = refl

-- a chain whose pieces name pages is served so
names_so : (kind : Kind) (w : Whole) (next : Then) (d : Device) (t : Tally) (head : ℕ)
    (pieces : List Piece) (log : List Access) → has_pages kind pieces ≡ true →
    ServesPieces kind w next d t head pieces log → NamesReport w next d t head pieces log
names_so Inflate w next d t head pieces log e h = absurd cc
names_so Deflate w next d t head pieces log e h = absurd cc
names_so Statistics w next d t head pieces log e h = absurd cc
names_so Hint w next d t head pieces log e h =
    subst (λ (b : Bool). ServesHint b w next d t head pieces log) (untrue (has_id pieces) e) h
names_so Report w next d t head pieces log e h = h

served_as : (still : List Access → Type 0) (w : Whole) (next : Then) (d : Device) (t : Tally)
    (taken : Taken) (o : Result (List ℕ) ChainFault) (log : List Access) →
    names_by_pieces w.kind ≡ true → tells_pages w.kind d ≡ true
    → t.given ≡ false
    → next ≡ next_chain w t → pieces_denial w.kind taken.chain 256 d ≡ None
    → report_request taken.chain d.settings.reserved_pages ≡ o
    → still log → NamesReport w next d t taken.head taken.chain log
    → TellsTaken still taken o w t d log
served_as still w next d t taken (Err f) log named_so told_so none same unrefused e stays h =
    let count = length taken.chain in
    let answer : h.answer ≡ Err (Broken f) =
    h.names.answer unrefused ∙ ap (λ (r : Result (List ℕ) ChainFault). told (named_by count r)) e in
    let device : h.device ≡ needing_reset d = h.names.device unrefused
    ∙ ap (λ (r : Result (List ℕ) ChainFault). after_chain w.kind (named_by count r) d) e in
    let ends = ends_so still t.given w h.device t (Some (Broken f)) false log none stays
    (subst (λ (r : Result Named Denial). AfterName w next h.device t taken.head h.runs r log)
    (ap (λ (b : Bool). told_if b h.answer) told_so
    ∙ ap (λ (r : Result Named Denial). told_if true r) answer) h.goes_on) in
    (ends.0, ends.1 ∙ device, ends.2)
served_as still w next d t taken (Ok pages) log named_so told_so none same unrefused e stays h =
    let count = length taken.chain in
    let named : Named = record { runs = count; pages = length pages; skipped = 0 } in
    let answer : h.answer ≡ Ok named =
    h.names.answer unrefused ∙ ap (λ (r : Result (List ℕ) ChainFault). told (named_by count r)) e in
    let device : h.device ≡ with_one_taken w.kind d = h.names.device unrefused
    ∙ ap (λ (r : Result (List ℕ) ChainFault). after_chain w.kind (named_by count r) d) e in
    let theirs : take count h.runs ≡ map run_of taken.chain =
    h.names.runs_are (subst (λ (r : Result Named Denial). IsOk r) (sym answer) refl) in
    record {
      read = [];
      rest = log;
      all = refl;
      is = subst (λ (x : Device). TellsThen w (next_chain w t) x (spent named t)
          taken.head (map run_of taken.chain) named log) device
          (subst (λ (rs : List Run). TellsThen w (next_chain w t) h.device (spent named t)
          taken.head rs named log) theirs
          (subst (λ (n : Then). TellsThen w n h.device (spent named t)
          taken.head (take count h.runs) named log) same
          (subst (λ (b : Bool). TellsThen w next h.device
          (held_if b taken.head (more_told t.told (length pages)) (spent named t))
          taken.head (take count h.runs) named log) (unheld w.kind h.device.settings named_so)
          (subst (λ (r : Result Named Denial). AfterName w next h.device t taken.head h.runs r log)
          (ap (λ (b : Bool). told_if b h.answer) told_so
          ∙ ap (λ (r : Result Named Denial). told_if true r) answer) h.goes_on))));
      still_so = stays;
    }

after_as : (still : List Access → Type 0) (taken : Taken) (o : Result (List ℕ) ChainFault)
    (w : Whole) (t : Tally) (d : Device) (log : List Access) (does : List Access → Type 0) →
    ((l : List Access) → still l → does l → TellsTaken still taken o w t d l) →
    AfterReads still does log → TellsTaken still taken o w t d log
after_as still taken (Err f) w t d log does comes h = comes h.rest h.still_so h.is
after_as still taken (Ok pages) w t d log does comes h =
    let x = comes h.rest h.still_so h.is in record {
      read = h.read ++ x.read;
      rest = x.rest;
      all = h.all ∙ (ap (λ (l : List Access). h.read ++ l) x.all
          ∙ sym (append_assoc h.read x.read x.rest));
      is = x.is;
      still_so = x.still_so;
    }

taken_as : (still : List Access → Type 0) (w : Whole) (d : Device) (t : Tally) (taken : Taken)
    (has : Bool) (log : List Access) → has_pages w.kind taken.chain ≡ has →
    names_by_pieces w.kind ≡ true → tells_pages w.kind d ≡ true → t.given ≡ false →
    pieces_denial w.kind taken.chain 256 d ≡ None →
    AfterReads still (serves w t d taken.head taken.chain) log →
    ReportsTaken has still taken w t d log
taken_as still w d t taken false log has named_so told_so none unrefused h = h
taken_as still w d t taken true log has named_so told_so none unrefused h =
    let o = report_request taken.chain d.settings.reserved_pages in
    after_as still taken o w t d log (serves w t d taken.head taken.chain)
    (λ l stays x. served_as still w (next_chain w t) d t taken o l named_so told_so none refl unrefused
    refl stays (names_so w.kind w (next_chain w t) d t taken.head taken.chain l has x))
    h

reports_of : (still : List Access → Type 0) (byte : ℕ → ℕ) (w : Whole) (d : Device) (t : Tally)
    (found : Result (Option Taken) ChainFault) (log : List Access) → names_by_pieces w.kind ≡ true →
    tells_pages w.kind d ≡ true → t.given ≡ false → memory_end d < MEMORY_LIMIT →
    queue_denial w.kind d ≡ None → HasNext byte (memory_end d) (ring_of w.kind d) found →
    ByFound still found w d t log → ReportsNext still w t d log found
reports_of still byte w d t (Err f) log named_so told_so none lt unrefused next h = h
reports_of still byte w d t (Ok None) log named_so told_so none lt unrefused next h = h
reports_of still byte w d t (Ok (Some taken)) log named_so told_so none lt unrefused next h =
    taken_as still w d t taken (has_pages w.kind taken.chain) log refl named_so told_so none
    (refused_alike w.kind taken.chain d named_so
    (none_beyond _ _ _ taken.head taken.chain next.1.gives lt) ∙ unrefused) h

pub reports_as : (onward : List Access → Type 0) (byte : ℕ → ℕ) (regions : List Region)
    (kind : Kind) (budget : Budget) (n : ℕ) (d1 d2 : Device) (outcome : Outcome)
    (log : List Access) → names_by_pieces kind ≡ true → tells_pages kind d1 ≡ true →
    budget.chains ≡ suc n → (budget.pages == 0) ≡ false → queue_denial kind d1 ≡ None →
    IsMapped regions (ring_of kind d1) → StaysUntil onward byte regions log →
    Serves regions kind budget d1 d2 outcome log →
    Finds byte kind d1 (ReportsNext (StaysUntil onward byte regions)
    (whole regions kind d2 outcome) (as_read n budget (index_in byte (ring_of kind d1))) d1 log)
reports_as onward byte regions kind budget n d1 d2 outcome log named_so told_so chains some unrefused mapped stays h =
    let is = finds onward byte regions kind budget n d1 d2 outcome log chains some unrefused
    mapped stays h in
    let below : memory_end d1 < MEMORY_LIMIT =
    end_below d1.settings (open_call kind true true d1 unrefused).settings in
    record {
      found = is.found;
      is_next = is.is_next;
      does_so = reports_of (StaysUntil onward byte regions) byte (whole regions kind d2 outcome) d1
          (as_read n budget (index_in byte (ring_of kind d1))) is.found log named_so told_so refl below
          unrefused is.is_next is.does_so;
    }
