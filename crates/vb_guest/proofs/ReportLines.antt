-- What calls make of the queue of reports.
use Rattle.std.specs.Prelude.{◌≡◌, ℕ, ◌+◌, ◌≤◌, List, [], ◌∷◌, length, Some, Ok}
use Rattle.std.proofs.{Common.{ap, subst, arith, inl, refl}, lemmas.List.Elements.All-nil}
use Rattle.vb_virtio.specs.Queues.{Request}
use Rattle.vb_virtio.specs.Layout.{ring_page}
use Rattle.vb_model.specs.Requests.{Requests, no_requests, outstanding, posting}
use Rattle.vb_model.specs.Pages.{Block}
use Rattle.vb_ram.specs.Pages.{Pages, page_at}
use Rattle.{vb_ram.specs.Part.QueuePart, vb_chain.proofs.TableLaws.descriptor_apart}
use Rattle.vb_ring.specs.{Calls.TakesUsedBy, Ends.DriverEnd}
use Rattle.vb_driver.specs.{Coding.AreReported, Calls.PostsReport, State.ReportSide}
use Rattle.vb_guest.proofs.{RingApart.{SameRing, ring_apart}, RingPosted.ring_posted}
use Rattle.vb_guest.{proofs.RingReaped.ring_reaped, specs.Reported.{IsReport, ReportLine}}

-- ---- memory changes elsewhere

reported_kept : {old new : Pages} {table : ℕ} {blocks : List Block} → page_at new table
    ≡ page_at old table → AreReported old table blocks → AreReported new table blocks
reported_kept same are = grind (arith, descriptor_apart)

-- the ring's pages are as before
pub report_apart : (old new : Pages) (n : ℕ) (side : ReportSide) (part : QueuePart) (rs : Requests)
    → SameRing old new side.ring.size 4
    → ReportLine old n side part rs → ReportLine new n side part rs
report_apart old new n side part rs same line = record {
  keeps = tt;
  ring = ring_apart same line.ring;
  posted = line.posted;
  taken = line.taken;
  done = line.done;
  coded = λ k d lt.
      let table : ℕ = ring_page side.ring.size 4 in
      reported_kept (same table (inl refl)) (line.coded k d lt);
  remembers = line.remembers;
}

-- ---- a report goes round

-- the driver posts it
pub report_posted : {m1 m2 : Pages}
    {n : ℕ} {s1 s2 : ReportSide} (part : QueuePart) {blocks : List Block} (pages : List ℕ)
    → ReportLine m1 n s1 part no_requests → PostsReport m1 m2 s1 s2 blocks
    → IsReport s1.ring.size n blocks (record { head = 0; pages = pages; visited = 0 })
    → ReportLine m2 n s2 part (posting 0 pages no_requests)
report_posted part pages line posts is = grind (arith, ring_posted)

-- the driver sees that it was used; no other is out
pub report_reaped : {mem : Pages} (n : ℕ) (side : ReportSide) {after : DriverEnd} (part : QueuePart)
    (rs : Requests) (r : Request) (rest : List Request) → rs.done ≡ r ∷ rest → outstanding rs ≤ 1
    → ReportLine mem n side part rs → TakesUsedBy mem side.ring after (Ok (Some r.head))
    → ReportLine mem n (record { ring = after; blocks = [] }) part (record rs { done = rest })
report_reaped {mem} n side {after} part rs r rest is few line takes =
    by rs.posted rs.taken rest (omega (arith, few, ap (λ (l : List Request). length l) is))
    (subst (λ l. ReportLine mem n side part (record rs { done = l })) is line) where
      by : (posted taken rest : List Request) → length posted + (length taken + length (r ∷ rest)) ≤ 1
          → ReportLine mem n side part (record { posted = posted; taken = taken; done = r ∷ rest })
          → ReportLine mem n (record { ring = after; blocks = [] }) part
          (record { posted = posted; taken = taken; done = rest })
      by [] [] [] few line = let P : Request → Type 0 = IsReport after.size n [] in record {
        ring = ring_reaped r.head line.ring takes;
        keeps = tt;
        posted = All-nil P;
        taken = All-nil P;
        done = All-nil P;
        coded = All-nil (λ (x : Request). AreReported mem (ring_page after.size 4) []);
        remembers = line.remembers;
      }
      by [] [] (x ∷ rest) few line = absurd (omega (arith, few))
      by [] (x ∷ taken) rest few line = absurd (omega (arith, few))
      by (x ∷ posted) taken rest few line = absurd (omega (arith, few))
