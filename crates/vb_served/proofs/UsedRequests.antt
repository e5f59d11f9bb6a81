-- A request that is settled by a notice is one that a device takes and uses.
use Rattle.std.proofs.Common.{◌≡◌, ◌∙◌, ap, sym, subst, refl, arith, ℕ, ◌+◌, ◌*◌, ◌%◌, ◌<◌, ◌≤◌}
use Rattle.std.proofs.Common.{true, false, List, [], length, Option, Ok}
use Rattle.std.specs.Prelude.{All}
use Rattle.vb_virtio.specs.Tests.{is_in, times}
use Rattle.vb_virtio.specs.Layout.{reserved_pages}
use Rattle.vb_virtio.specs.Queues.{Request}
use Rattle.vb_ram.specs.{Pages.{Pages}, Part.Part}
use Rattle.vb_ring.specs.{Ends.IsDeviceEnd, Layout.{IsSize, IsBacked}, Calls.AddsUsedBy}
use Rattle.vb_core.specs.declared.settings.TheConstants.{MEMORY_LIMIT}
use Rattle.vb_core.specs.declared.kinds.Kind.TheVariants.{Inflate, Deflate}
use Rattle.vb_core.specs.declared.{runs.Run.Run, ring.Virtqueue.Virtqueue}
use Rattle.vb_core.specs.declared.device.{Denial.Denial, Device.Device}
use Rattle.vb_core.specs.Runs.{pages_of_runs}
use Rattle.vb_core.specs.Rings.{used_entry}
use Rattle.vb_core.specs.Devices.{ring_of}
use Rattle.vb_device.specs.Discards.{discarded, flagged}
use Rattle.vb_device.specs.{Finishes.{Uses, settled, using}, Takes.taking}
use Rattle.vb_device.specs.Queues.{queue_part, queue_layout, queue_end}
use Rattle.vb_device.proofs.Discards.{discarded-length}
use Rattle.vb_served.specs.{Store.{Store, with_marks}, One.{Settles, Gives}, Alike.AreRings}
use Rattle.vb_served.proofs.{LostFrames.{backing, all_lost, discarded_alike}, ElementLemmas.adds_so}
use Rattle.vb_served.proofs.CutLemmas.{AreInside, discards_lose, flagged_alike}
use Rattle.vb_served.proofs.AlikeLemmas.{backed_inside, ring_still}

-- what is known of a queue of which a chain is taken
pub record IsReady (q : ℕ) (p : Part) (s : Store) : Type 0 where
  pub size : IsSize p.queue_size
  pub is_end : IsDeviceEnd (queue_end q p)
  pub backed : IsBacked s.mem (queue_layout q p)
  pub none_loose : s.loose ≡ []
  pub few : 4096 * length s.mem ≤ MEMORY_LIMIT

-- one more of its entries is taken
pub next_end : (q h : ℕ) (pages : List ℕ) (p : Part) → IsDeviceEnd (queue_end q p) →
    IsDeviceEnd (record (queue_end q p)
    { next_avail = ((queue_part q p).next_avail + 1) % 65536 })
next_end q h pages p is = record {
  fits = is.fits;
  page = is.page;
  next_avail = below (queue_part q p).next_avail;
  next_used = is.next_used;
}
  where
    below : (n : ℕ) → (n + 1) % 65536 < 65536
    below n = grind arith

loose_given : (r : Virtqueue) (h : ℕ) (s t : Store) → Gives (used_entry r h) s t →
    t.loose ≡ s.loose
loose_given r h s t g = g.index.loose ∙ (g.long.loose ∙ g.id.loose)

-- what a used element leaves of a store
pub record Kept (s t : Store) : Type 0 where
  pub loose : t.loose ≡ s.loose
  pub ballooned : t.ballooned ≡ s.ballooned
  pub last : t.last ≡ s.last
  pub count : length t.mem ≡ length s.mem

pub kept_given : (r : Virtqueue) (h : ℕ) (s t : Store) (q n : ℕ) (p : Part) →
    AddsUsedBy s.mem t.mem (queue_end q p) (record (queue_end q p) { next_used = n }) h 0 →
    Gives (used_entry r h) s t → Kept s t
kept_given r h s t q n p adds g = record {
  loose = loose_given r h s t g;
  ballooned = g.index.ballooned ∙ (g.long.ballooned ∙ g.id.ballooned);
  last = g.index.last ∙ (g.long.last ∙ g.id.last);
  count = adds.puts.rest.count;
}

-- ---- an inflate

-- the request that was taken
abbrev pub asked : ℕ → List ℕ → Request
asked h pages = record { head = h; pages = pages; visited = 0 }

abbrev pub inflated : ℕ → List ℕ → Part → Store → Part
inflated h pages p t =
    record (settled 0 pages (using 0 0 (taking 0 h pages p))) { loose = t.loose }

pub inflates_so : (h : ℕ) (pages : List ℕ) (runs : List Run) (p : Part) (d d2 : Device)
    (why : Option Denial) (s t : Store) → IsReady 0 p s → h < 65536 →
    All (λ page. reserved_pages p.queue_size ≤ page) pages →
    ((page : ℕ) → is_in page (pages_of_runs runs) ≡ is_in page pages) →
    AreInside (length s.mem) runs → (taken : p.inflate.taken ≡ []) →
    AreRings (ring_of Inflate d) 0 (taking 0 h pages p) → Settles Inflate h runs d d2 why s t →
    Uses 0 0 (asked h pages) s.mem t.mem (taking 0 h pages p) (inflated h pages p t) (Ok h)
    × (t.ballooned ≡ flagged pages true s.ballooned) × (t.last ≡ s.last)
    × (length t.mem ≡ length s.mem)
inflates_so h pages runs p d d2 why s t is below above same inside none alike did =
    let b = did.between in
    let lost = discards_lose (length s.mem) runs (with_marks Inflate runs s) b is.few inside
    did.discards in
    let gone : b.mem ≡ discarded pages s.mem =
    lost.mem ∙ discarded_alike (pages_of_runs runs) pages s.mem same in
    let part = taking 0 h pages p in
    let still : IsBacked b.mem (queue_layout 0 part) =
    ring_still 0 (reserved_pages p.queue_size) p pages s.mem b.mem is.size refl above gone is.backed
    in
    let adds = adds_so (ring_of Inflate d) 0 h part b t is.size alike (next_end 0 h pages p is.is_end)
    below (backed_inside b.mem (queue_layout 0 part).used.page still.used) still.used did.gives in
    let kept = kept_given (ring_of Inflate d) h b t 0 _ part adds did.gives in (
      record {
        answer = refl;
        part = refl;
        loose = λ k. omega (
          arith,
          ap (times k) kept.loose,
          lost.frames k,
          ap (times k) is.none_loose,
          ap (backing k) gone,
          all_lost k s.mem pages,
        );
        memory = subst (λ (m : Pages). AddsUsedBy m t.mem (queue_end 0 part)
            (queue_end 0 (inflated h pages p t)) h 0) gone adds;
      },
      kept.ballooned ∙ (lost.ballooned ∙ flagged_alike (pages_of_runs runs) pages true s.ballooned
          same),
      kept.last ∙ lost.last,
      kept.count ∙ (ap (λ (m : Pages). length m) lost.mem
          ∙ discarded-length (pages_of_runs runs) s.mem),
    )

-- ---- a deflate

abbrev pub deflated : ℕ → List ℕ → Part → Store → Part
deflated h pages p t =
    record (settled 1 pages (using 1 0 (taking 1 h pages p))) { loose = t.loose }

pub deflates_so : (h : ℕ) (pages : List ℕ) (runs : List Run) (p : Part) (d d2 : Device)
    (why : Option Denial) (s t : Store) → IsReady 1 p s → h < 65536 →
    ((page : ℕ) → is_in page (pages_of_runs runs) ≡ is_in page pages) →
    (taken : p.deflate.taken ≡ []) →
    AreRings (ring_of Deflate d) 1 (taking 1 h pages p) → Settles Deflate h runs d d2 why s t →
    Uses 1 0 (asked h pages) s.mem t.mem (taking 1 h pages p) (deflated h pages p t) (Ok h)
    × (t.ballooned ≡ flagged pages false s.ballooned) × (t.last ≡ s.last)
    × (length t.mem ≡ length s.mem)
deflates_so h pages runs p d d2 why s t is below same none alike did =
    let b = did.between in
    let marked : b ≡ with_marks Deflate runs s = did.discards in
    let memory : b.mem ≡ s.mem = ap (λ (x : Store). x.mem) marked in
    let part = taking 1 h pages p in
    let still : IsBacked b.mem (queue_layout 1 part) =
    subst (λ (m : Pages). IsBacked m (queue_layout 1 part)) (sym memory) is.backed in
    let adds = adds_so (ring_of Deflate d) 1 h part b t is.size alike (next_end 1 h pages p is.is_end)
    below (backed_inside b.mem (queue_layout 1 part).used.page still.used) still.used did.gives in
    let kept = kept_given (ring_of Deflate d) h b t 1 _ part adds did.gives in (
      record {
        answer = refl;
        part = refl;
        loose = λ k. ap (times k) (kept.loose ∙ (ap (λ (x : Store). x.loose) marked
            ∙ is.none_loose));
        memory = subst (λ (m : Pages). AddsUsedBy m t.mem (queue_end 1 part)
            (queue_end 1 (deflated h pages p t)) h 0) memory adds;
      },
      kept.ballooned ∙ (ap (λ (x : Store). x.ballooned) marked
          ∙ flagged_alike (pages_of_runs runs) pages false s.ballooned same),
      kept.last ∙ ap (λ (x : Store). x.last) marked,
      kept.count ∙ ap (λ (x : Store). length x.mem) marked,
    )
