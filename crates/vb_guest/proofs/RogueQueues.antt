-- A device serves the queues of a guest that wrote past its driver: it takes requests, finishes them,
-- and asks for statistics.
use Rattle.std.specs.Prelude.{◌≡◌, ℕ, ◌+◌, ◌<◌, ◌≤◌, ◌==◌, Bool, true, false, not, ◌&&◌, List, []}
use Rattle.std.specs.Prelude.{◌∷◌, ◌++◌, length, All, Option, Some, None, Result, ◌%◌, ◌*◌, Ok, Err}
use Rattle.std.specs.Prelude.{refl, if◌then◌else◌, remove, is_some, is_none, IsOk, bit_or}
use Rattle.std.proofs.lemmas.{Option.{get_or_from_slice_get, slice_get_within}, List.get_or_past}
use Rattle.std.proofs.lemmas.{List.Elements.{All-push, All-nil}, Bool.{cases_eq, ne_eqb}}
use Rattle.vb_virtio.specs.Tests.{flagged, times}
use Rattle.vb_virtio.specs.Status.{is_not_ready, has_fault, contains, driver_ok, failed}
use Rattle.vb_virtio.specs.Status.{needs_reset}
use Rattle.vb_virtio.specs.Queues.{has_chains, lacks_feature, is_queue_of_requests, Request}
use Rattle.vb_virtio.specs.declared.refusals.Refusal.{Refusal}
use Rattle.vb_virtio.specs.declared.refusals.Refusal.TheVariants.{NoQueue, NotReady, NeedsReset}
use Rattle.vb_virtio.specs.declared.refusals.Refusal.TheVariants.{Broken, Busy, NotTaken, NotWorked}
use Rattle.vb_virtio.specs.declared.layout.TheConstants.{INFLATE_QUEUE, DEFLATE_QUEUE}
use Rattle.vb_virtio.specs.declared.layout.TheConstants.{STATISTICS_QUEUE, REPORT_QUEUE}
use Rattle.vb_virtio.specs.Limits.{page_size}
use Rattle.vb_virtio.specs.Layout.{reserved_pages, ring_page}
use Rattle.vb_virtio.specs.FirstRefusal.{◌⇒◌, first_refusal}
use Rattle.std.proofs.Common.{sym, ◌∙◌, ap, subst, arith, inl, inr}
use Rattle.vb_model.specs.{Rogue.target_after, Step.bare_pages, declared.calls.Call.Call}
use Rattle.vb_model.specs.declared.replies.Reply.{Reply, TheVariants.Finished}
use Rattle.vb_guest.proofs.Rogues.{IsOther}
use Rattle.vb_model.specs.Tables.{ask_causes}
use Rattle.vb_model.specs.Tables.{has_unvisited, take_causes, finish_causes}
use Rattle.vb_model.specs.declared.calls.Call.TheVariants.{Take, Finish, Ask}
use Rattle.vb_model.{specs.Guest.{Guest, is_ballooned}, proofs.Wanting.refused_otherwise}
use Rattle.vb_guest.proofs.RogueDriver.{left_same, unchanged_alone}
use Rattle.{vb_model.proofs.Refusing.is_refused, vb_ram.specs.Part.{Part, QueuePart}}
use Rattle.{vb_ram.specs.Pages.{Pages, frame_at, number_of}, vb_request.specs.Report.report_request}
use Rattle.vb_chain.specs.declared.fault.ChainFault.TheVariants.{WrongDirection, BadLength}
use Rattle.{vb_chain.specs.Table.descriptor_at, vb_driver.specs.State.DriverState}
use Rattle.vb_request.proofs.{RequestPages.request_pages, Reports.report_pages, Chains.chain_fits}
use Rattle.vb_request.specs.{Request.{page_request, each_once}, Statistics.statistics_request}
use Rattle.vb_device.specs.Calls.{TakesBy, TakeMeans, IsNextRequest, noting, FinishesBy, Uses}
use Rattle.vb_device.specs.{Calls.{settled, without_frames, lost_frames, AsksBy}, Queues.queue_part}
use Rattle.vb_device.specs.Conditions.{take_refusal, finish_refusal, ask_refusal, taken_at}
use Rattle.vb_device.specs.{Conditions.negotiated, Discards.{discarded, frames_behind}}
use Rattle.vb_guest.proofs.Rogues.{DeviceSame, driver_same, device_alike, rogue_alone, no_refusal}
use Rattle.vb_guest.proofs.Rogues.{kept_of_rogue, keeps_part, up_kept, rogue_same, said, left_by}
use Rattle.vb_guest.proofs.Discarding.{length-with_entry, with_entry-get, with_none-get}
use Rattle.vb_guest.proofs.{Handing.{handed_back, not_among}, RogueDevice.{rogue_freed, none_freed}}
use Rattle.vb_guest.proofs.{PagesKept.{page_discarded, length-discarded}, Heads.all_remove}
use Rattle.vb_guest.{proofs.Kept.there_is, specs.Replies.{asked_reply, taken_reply, finished_reply}}
use Rattle.vb_guest.specs.{Stands.{IsOwnRequest, Rogue}, Steps.{StepsAlone, StepsFreeing}}
use Rattle.vb_guest.proofs.RogueDevice.{with_same, with_state, AreOwn, with_own, ok_of, PartChanges}
use Rattle.vb_guest.proofs.RogueDevice.{changes_with, changes_then, changes_back, done_wants}

-- ---- take

-- statistics name no pages
statistics_pages : (a b : Bool) {pages : List ℕ}
    → (if a then Err WrongDirection else (if b then Err BadLength else Ok [])) ≡ Ok pages
    → pages ≡ []
statistics_pages a b e = grind arith

-- the request that a take remembers names the guest's own pages
request_own : {q : ℕ} {mem : Pages} {part : Part} {h : ℕ} {pages : List ℕ}
    → IsNextRequest q mem part h pages
    → IsOwnRequest part.queue_size (length mem) (record { head = h; pages = pages; visited = 0 })
request_own {q} {mem} {part} {h} {pages} next = by
    (q == STATISTICS_QUEUE) (q == REPORT_QUEUE) next.request where
      reserved : ℕ
      reserved = reserved_pages part.queue_size

      by : (a b : Bool) → (if a then statistics_request next.pieces else (if b then report_request
          next.pieces reserved else page_request mem next.pieces reserved)) ≡ Ok pages → IsOwnRequest
          part.queue_size (length mem) (record { head = h; pages = pages; visited = 0 })
      by true b e = search (arith, statistics_pages)
      by false true e =
          let fits = chain_fits (descriptor_at mem (ring_page part.queue_size q)) part.queue_size
          (page_size * length mem) h next.pieces next.chain in
          let own = report_pages (length mem) next.pieces reserved pages fits e in
          record { above = own.0; below = own.1 }
      by false false e = let own = request_pages mem next.pieces reserved pages e in
          record { above = own.above; below = own.below }

takes_up : (a : Bool) {b : Bool} (c d f : Bool) → first_refusal ((a ⇒ NoQueue)
    ∷ (b ⇒ NotReady) ∷ (c ⇒ NeedsReset) ∷ (d ⇒ NoQueue) ∷ (f ⇒ Busy) ∷ []) ≡ None → b ≡ false
takes_up a c d f e = grind arith

pub take_rogue : {m1 m2 : Pages} {p1 p2 : Part} {d : DriverState}
    {g : Guest} {q : ℕ} {result : Result (Option ℕ) Refusal} → TakesBy q m1 m2 p1 p2 result
    → Rogue m1 p1 d g → StepsAlone (Rogue m2 p2 d) g (Take q) (taken_reply result)
take_rogue {m1} {p1} {p2} {d} {g} {q} {result} did rogue = subst (λ (m : Pages). StepsAlone
    (Rogue m p2 d) g (Take q) (taken_reply result)) (sym did.memory) (by result did.means) where
      ready : take_refusal q p1 ≡ None → contains p1.status driver_ok ≡ true
      ready e = ok_of (contains p1.status driver_ok) (contains p1.status failed)
          (takes_up (not (has_chains q)) (has_fault p1.status) (lacks_feature p1.features q) _ e)

      by : (r : Result (Option ℕ) Refusal) → TakeMeans q m1 p1 p2 r
          → StepsAlone (Rogue m1 p2 d) g (Take q) (taken_reply r)
      by (Ok None) means = rogue_alone rogue (keeps_part (driver_same refl) means.1 refl
          (λ page. refl)) refl (λ page. refl) (ap (λ (p : Part). p.target) means.1) refl
          (λ page offset bytes e. cc) refl (λ why e. no_refusal why refl e)
      by (Ok (Some h)) means = let pages = means.1.0 in let next = means.1.1 in
          let part = means.1.2 in let noted : Part = noting q m1 next.pieces p1 in
          let x : QueuePart = record (queue_part q noted) {
            next_avail = ((queue_part q noted).next_avail + 1) % 65536;
            taken = (queue_part q noted).taken
                ++ (record { head = h; pages = pages; visited = 0 } ∷ []);
          } in
          let same = with_same q x noted in let state = with_state q x noted in
          rogue_alone rogue (record {
            driver = driver_same refl;
            device = subst (DeviceSame g.config.queue_size p1) (sym part) (record {
              sized = same.sized;
              paced = same.paced;
              loose = same.loose;
              flagged = same.flagged;
              unreserved = same.unreserved;
            });
            up = λ was ok.
                let up = was (ap (λ (s : ℕ). contains s driver_ok)
                (sym (ap (λ (p : Part). p.status) part ∙ state.0)) ∙ ok) in
                let size = g.config.queue_size in
                let r : Request = record { head = h; pages = pages; visited = 0 } in
                let own = subst (AreOwn size (length m1)) (sym part) (with_own q x
                (λ all. All-push (IsOwnRequest size (length m1)) (queue_part q noted).taken r all
                (subst (λ (k : ℕ). IsOwnRequest k (length m1) r) rogue.size (request_own next)))
                (record { inflates = up.inflates; reports = up.reports })) in
                record { backed = up.backed; inflates = own.inflates; reports = own.reports };
          }) refl (λ page. refl) (ap (λ (p : Part). p.target) part ∙ state.1) refl
          (λ page offset bytes e. cc) refl (λ why e. no_refusal why refl e)
      by (Err (Broken rule)) means = let part = means.1 in
          rogue_alone rogue (record {
            driver = driver_same refl;
            device = device_alike (ap kept_of_rogue part);
            up = λ was ok. up_kept refl (λ page low. refl) (ap (λ (p : Part). p.inflate.taken) part)
                (ap (λ (p : Part). p.report.taken) part) (was (ready means.0));
          }) refl (λ page. refl) (ap (λ (p : Part). p.target) part) refl (λ page offset bytes e. cc)
          refl (left_by (Take q) (Broken rule) [] g (rogue_same p2 d g.frames rogue refl refl
          (ap said part) ∙ ap (λ (n : ℕ). record g { status = n })
          (ap (λ (p : Part). p.status) part ∙ ap (λ (n : ℕ). bit_or n needs_reset) rogue.status)))
      by (Err why) means = unchanged_alone (take_causes q (negotiated p1) (length
          (queue_part q p1).taken)) (record { mem = refl; part = means.1; driver = refl }) refl
          (sym means.0) refl refl refl refl (λ page offset bytes e. cc) rogue

-- ---- finish

-- the flags of pages that aren't reserved change
flagged_same : (least : ℕ) (pages : List ℕ) (value : Bool) (flags : List Bool) (page : ℕ)
    → All (λ p. least ≤ p) pages → page < least → is_ballooned flags page ≡ false
    → is_ballooned (flagged pages value flags) page ≡ false
flagged_same least pages value flags page above low none =
    grind (arith, with_entry-get, not_among, get_or_past, length-with_entry)

-- pages that stop being ballooned
unflagged_same : (pages : List ℕ) (flags : List Bool) (page : ℕ)
    → is_ballooned flags page ≡ false → is_ballooned (flagged pages false flags) page ≡ false
unflagged_same pages flags page none = grind (arith, with_none-get)

settled_changes : {size : ℕ} {n : ℕ} (q : ℕ) (pages : List ℕ) {p : Part} → ((q == INFLATE_QUEUE)
    ≡ true → All (λ p. reserved_pages size ≤ p) pages) → PartChanges size n p (settled q pages p)
settled_changes {size} {n} q pages {p} above = by
    (q == INFLATE_QUEUE) (q == DEFLATE_QUEUE) above where
      by : (a b : Bool) → (a ≡ true → All (λ p. reserved_pages size ≤ p) pages)
          → PartChanges size n p (if a then record p { ballooned = flagged pages true p.ballooned }
          else (if b then record p { ballooned = flagged pages false p.ballooned } else p))
      by true b high = search (arith, flagged_same, length-with_entry)
      by false true high =
          let low : (page : ℕ) → page < reserved_pages size → is_ballooned p.ballooned page ≡ false
          → is_ballooned (flagged pages false p.ballooned) page ≡ false =
          λ page lt none. unflagged_same pages p.ballooned page none in
          assumption (length-with_entry pages false p.ballooned, low)
      by false false high =
          record { device = device_alike refl; status = refl; target = refl; own = λ own. own }

finishes_up : (a b c d f : Bool) → first_refusal ((not a ⇒ NoQueue) ∷ (b ⇒ NotReady)
    ∷ (c ⇒ NeedsReset) ∷ (d ⇒ NotTaken) ∷ (f ⇒ NotWorked) ∷ []) ≡ None → (a ≡ true) × (b ≡ false)
finishes_up a b c d f e = grind arith

-- what was taken on a queue of inflates or reports is the guest's own
own_taken : {size : ℕ} {n : ℕ} (q : ℕ) (p : Part)
    → is_queue_of_requests q ≡ true → (q == DEFLATE_QUEUE) ≡ false
    → AreOwn size n p → All (IsOwnRequest size n) (queue_part q p).taken
own_taken {size} {n} q p is other own = elim (cases_eq q 2) [
  | inl e ↦ absurd
      (let wrong : false ≡ true = subst (λ (k : ℕ). is_queue_of_requests k ≡ true) e is in cc)
  | inr ne ↦ by (q == INFLATE_QUEUE) (q == DEFLATE_QUEUE) (q == STATISTICS_QUEUE) other
      (ne_eqb q 2 ne)
] where
  by : (a b c : Bool) → b ≡ false → c ≡ false → All (IsOwnRequest size n) (if a then p.inflate
      else (if b then p.deflate else (if c then p.statistics else p.report))).taken
  by true b c e f = own.inflates
  by false true c e f = absurd cc
  by false false true e f = absurd cc
  by false false false e f = own.reports

-- a queue isn't two
not_both : (q : ℕ) → (q == DEFLATE_QUEUE) ≡ true → (q == INFLATE_QUEUE) ≡ true → ⊥
not_both q one other = grind arith

abbrev nothing_named : Request
nothing_named = record { head = 0; pages = []; visited = 0 }

names_nothing : {size : ℕ} (n : ℕ) → IsOwnRequest size n nothing_named
names_nothing {size} n =
    record { above = All-nil (λ p. reserved_pages size ≤ p); below = All-nil (λ p. p < n) }

-- a taken request is used, by a call that isn't one of memory
pub uses_rogue : {m1 m2 : Pages} {p1 p2 : Part} {d : DriverState} {g : Guest} {q i : ℕ}
    {result : Result ℕ Refusal} (call : Call) (reply : Reply) (r : Request)
    → is_queue_of_requests q ≡ true → contains p1.status driver_ok ≡ true
    → taken_at q i p1 ≡ Some r → Uses q i r m1 m2 p1 p2 result
    → target_after call p1.target ≡ p1.target → is_refused reply ≡ false → IsOther call
    → bare_pages call g ≡ [] → Rogue m1 p1 d g
    → StepsFreeing (Rogue m2 (handed_back p2) d) p2.loose g call reply
uses_rogue {m1} {m2} {p1} {p2} {d} {g} {q} {i} {result} call reply r known ok at uses still answer
    other none rogue = by (q == DEFLATE_QUEUE) refl where
      size : ℕ
      size = g.config.queue_size

      -- the request's pages, or none, lose their frames
      settles : (lost : Request) → IsOwnRequest size (length m1) lost → ((q == INFLATE_QUEUE) ≡ true
          → All (λ p. reserved_pages size ≤ p) r.pages) → ((page : ℕ) → frame_at (without_frames q
          r.pages m1) page ≡ frame_at (discarded lost.pages m1) page)
          → length (without_frames q r.pages m1) ≡ length m1
          → lost_frames q r.pages m1 ≡ frames_behind m1 (each_once lost.pages)
          → StepsFreeing (Rogue m2 (handed_back p2) d) p2.loose g call reply
      settles lost own high same count loose = let x : QueuePart = record (queue_part q p1) {
        next_used = ((queue_part q p1).next_used + 1) % 65536;
        taken = remove (queue_part q p1).taken i;
      } in
          let n = length m1 in
          rogue_freed p2 own
          (changes_back (changes_then (changes_with q x (λ all. all_remove (IsOwnRequest size n)
          (queue_part q p1).taken i all)) (settled_changes q r.pages high)) uses.part) ok
          (uses.memory.puts.rest.count ∙ count) (λ page. uses.memory.puts.rest.backing page ∙ same page)
          (λ k. uses.loose k ∙ ap (times k) loose) still answer other none rogue

      by : (b : Bool) → (q == DEFLATE_QUEUE) ≡ b
          → StepsFreeing (Rogue m2 (handed_back p2) d) p2.loose g call reply
      by true deflates =
          let whole : without_frames q r.pages m1 ≡ m1 = grind arith in
          let high : (q == INFLATE_QUEUE) ≡ true → All (λ p. reserved_pages size ≤ p) r.pages =
          λ inflates. absurd (not_both q deflates inflates) in
          settles nothing_named (names_nothing (length m1)) high
          (λ page. ap (λ (m : Pages). frame_at m page) whole
          ∙ sym (ap number_of (page_discarded [] m1 page))) (ap (λ (m : Pages). length m) whole)
          (ap (λ (b : Bool). if b then [] else frames_behind m1 (each_once r.pages)) deflates)
      by false others =
          let up = rogue.up ok in
          let all = own_taken q p1 known others
          (record { inflates = up.inflates; reports = up.reports }) in
          let taken = (queue_part q p1).taken in
          let own : IsOwnRequest size (length m1) r = subst (IsOwnRequest size (length m1))
          (get_or_from_slice_get taken i r r at) (all i r (slice_get_within taken i r at)) in
          let bare : without_frames q r.pages m1 ≡ discarded r.pages m1 =
          ap (λ (b : Bool). if b then m1 else discarded r.pages m1) others in
          settles r own (λ e. own.above) (λ page. ap (λ (m : Pages). frame_at m page) bare)
          (ap (λ (m : Pages). length m) bare ∙ length-discarded r.pages m1)
          (ap (λ (b : Bool). if b then [] else frames_behind m1 (each_once r.pages)) others)

pub finish_rogue : {m1 m2 : Pages} {p1 p2 : Part} {d : DriverState} {g : Guest}
    {q i : ℕ} {result : Result ℕ Refusal} → FinishesBy q i m1 m2 p1 p2 result → Rogue m1 p1 d g
    → StepsFreeing (Rogue m2 (handed_back p2) d) p2.loose g (Finish q i) (finished_reply result)
finish_rogue {m1} {m2} {p1} {p2} {d} {g} {q} {i} {result} did rogue = by
    (finish_refusal q i p1) refl where
      Done : Result ℕ Refusal → Type 0
      Done r = StepsFreeing (Rogue m2 (handed_back p2) d) p2.loose g (Finish q i) (finished_reply r)

      unworked : Bool
      unworked = p1.paced && not (q == DEFLATE_QUEUE) && has_unvisited (taken_at q i p1)

      by : (o : Option Refusal) → finish_refusal q i p1 ≡ o → Done result
      by (Some why) e = let (answer, part, memory) = did.refused why e in
          subst Done (sym answer) (none_freed memory part refl
          (refused_otherwise (finish_causes q (negotiated p1) p1.paced (taken_at q i p1)) why refl e)
          (λ page offset bytes x. cc) refl (left_same d (Finish q i) why (finish_causes q
          (negotiated p1) p1.paced (taken_at q i p1)) rogue refl refl part (sym e) refl refl) rogue)
      by None e =
          let (r, at) = there_is (not (is_queue_of_requests q)) (is_not_ready p1.status)
          (has_fault p1.status) unworked (taken_at q i p1) e in
          let ready = finishes_up (is_queue_of_requests q) (is_not_ready p1.status)
          (has_fault p1.status) (is_none (taken_at q i p1)) unworked e in
          let uses = did.finished r e at in
          subst Done (sym uses.answer) (uses_rogue (Finish q i) (Finished r.head) r ready.0
          (ok_of (contains p1.status driver_ok) (contains p1.status failed) ready.1) at uses refl refl
          (λ page offset bytes x. cc) refl rogue)

-- ---- ask

asks_up : (a b c : Bool) → first_refusal ((a ⇒ NotReady) ∷ (b ⇒ NeedsReset) ∷ (c ⇒ NotTaken) ∷ [])
    ≡ None → a ≡ false
asks_up x b c e = grind arith

taken_buffer : (a b : Bool) (o : Option Request) → first_refusal ((a ⇒ NotReady)
    ∷ (b ⇒ NeedsReset) ∷ (not (is_some o) ⇒ NotTaken) ∷ []) ≡ None → (r : Request) × (o ≡ Some r)
taken_buffer a b o e = grind arith

asked_not : {T : Type 0} (r : Result T Refusal) → IsOk r → is_refused (asked_reply r) ≡ false
asked_not x ok = grind arith

pub ask_rogue : {T : Type 0} {m1 m2 : Pages} {p1 p2 : Part}
    {d : DriverState} {g : Guest} {result : Result T Refusal} → AsksBy m1 m2 p1 p2 result
    → Rogue m1 p1 d g → StepsAlone (Rogue m2 p2 d) g Ask (asked_reply result)
ask_rogue {m2} {p1} {p2} {d} {g} {result} did rogue = by (ask_refusal p1) refl where
  by : (o : Option Refusal) → ask_refusal p1 ≡ o
      → StepsAlone (Rogue m2 p2 d) g Ask (asked_reply result)
  by (Some why) e = let (answer, part, memory) = did.refused why e in
      subst (λ (r : Result _ Refusal). StepsAlone (Rogue m2 p2 d) g Ask (asked_reply r))
      (sym answer) (unchanged_alone (ask_causes p1.status (is_some
      (taken_at STATISTICS_QUEUE 0 p1))) (record { mem = memory; part = part; driver = refl }) refl
      (sym e) refl refl refl refl (λ page offset bytes x. cc) rogue)
  by None e = let part = did.part e in
      let ready = ok_of (contains p1.status driver_ok) (contains p1.status failed)
      (asks_up (is_not_ready p1.status) (has_fault p1.status)
      (not (is_some (taken_at STATISTICS_QUEUE 0 p1))) e) in
      let at = taken_buffer (is_not_ready p1.status) (has_fault p1.status)
      (taken_at STATISTICS_QUEUE 0 p1) e in
      let adds = did.memory at.0 e at.1 in
      rogue_alone rogue (record {
        driver = driver_same refl;
        device = device_alike (ap kept_of_rogue part);
        up = λ was ok. up_kept adds.puts.rest.count (λ page low. adds.puts.rest.backing page) (ap (λ
            (p : Part). p.inflate.taken) part) (ap (λ (p : Part). p.report.taken) part) (was ready);
      }) adds.puts.rest.count adds.puts.rest.backing (ap (λ (p : Part). p.target) part)
      (done_wants _ (asked_not result (did.answers e))) (λ page offset bytes x. cc) refl
      (λ why x. no_refusal why (asked_not result (did.answers e)) x)
