-- What a running guest's queues are once memory has changed elsewhere.
use Rattle.std.specs.Prelude.{◌≡◌, ◌≢◌, ◌==◌, false, ℕ, ◌<◌, ◌≤◌, true, IsSome, is_some}
use Rattle.vb_virtio.specs.Layout.{is_start_page, ring_number}
use Rattle.vb_virtio.proofs.Shapes.{start_reserved}
use Rattle.std.proofs.Common.{sym, eq-eqb, ◌∙◌, ap}
use Rattle.vb_model.specs.Guest.{Guest}
use Rattle.vb_ram.specs.{Pages.{Pages, frame_at, number_of}, Part.Part}
use Rattle.{vb_driver.specs.State.DriverState, vb_guest.specs.{Line.Line, Reported.ReportLine}}
use Rattle.vb_guest.{specs.{Buffer.BufferLine, Stands.IsRunning}, proofs.Apart.SameReserved}
use Rattle.vb_guest.proofs.{Apart.line_apart, BufferLines.buffer_apart, ReportLines.report_apart}
use Rattle.vb_guest.proofs.RunApart.{OthersSame, PostLeaves, queues_same, sizes_of}

-- reserved pages are as before, and the guest runs on
pub runs_on : {m1 m2 : Pages} {p : Part} {d : DriverState} {g : Guest}
    → IsRunning m1 p d g → SameReserved m1 m2 g.config.queue_size → IsRunning m2 p d g
runs_on {m1} {m2} {p} {d} {g} run low = let n = g.config.pages in let size = g.config.queue_size in
    let same = queues_same (sizes_of run) low in
    record {
      state = run.state;
      backed = λ page start. ap is_some (ap number_of (low page (start_reserved size page start)))
          ∙ run.backed page start;
      inflate_size = run.inflate_size;
      deflate_size = run.deflate_size;
      statistics_size = run.statistics_size;
      report_size = run.report_size;
      inflate = line_apart n d.inflate p.inflate g.inflate same.inflate run.inflate;
      deflate = line_apart n d.deflate p.deflate g.deflate same.deflate run.deflate;
      statistics = buffer_apart same.statistics same.buffer run.statistics;
      report = report_apart m1 m2 n d.report p.report g.report same.report run.report;
    }

apart_of : (k n : ℕ) → (n == k) ≡ false → k ≢ n
apart_of k n other e = absurd (let yes = eq-eqb n k (sym e) in cc)

-- all queues of a running guest but one
pub record OthersRun (m : Pages) (p : Part) (d : DriverState) (g : Guest) (q : ℕ) : Type 0 where
  pub backed : (page : ℕ) → is_start_page g.config.queue_size page ≡ true → IsSome (frame_at m page)
  pub inflate : (ring_number q == 0) ≡ false → Line m 0 g.config.pages d.inflate p.inflate g.inflate
  pub deflate : (ring_number q == 1) ≡ false → Line m 1 g.config.pages d.deflate p.deflate g.deflate
  pub statistics : (ring_number q == 2) ≡ false → BufferLine m d.statistics p.statistics g.buffer
  pub report : (ring_number q == 3) ≡ false → ReportLine m g.config.pages d.report p.report g.report

-- a page of that one's ring has changed
pub others_run : {m1 m2 : Pages} {p : Part} {d : DriverState} {g : Guest} (q : ℕ)
    → IsRunning m1 p d g → OthersSame m1 m2 d q
    → ((page : ℕ) → frame_at m2 page ≡ frame_at m1 page) → OthersRun m2 p d g q
others_run {m1} {m2} {p} {d} {g} q run same behind = let n = g.config.pages in
    record {
      backed = λ page start. ap is_some (behind page) ∙ run.backed page start;
      inflate = λ other. line_apart n d.inflate p.inflate g.inflate
          (same.inflate (apart_of 0 (ring_number q) other)) run.inflate;
      deflate = λ other. line_apart n d.deflate p.deflate g.deflate
          (same.deflate (apart_of 1 (ring_number q) other)) run.deflate;
      statistics = λ other. buffer_apart (same.statistics (apart_of 2 (ring_number q) other))
          (same.buffer (apart_of 2 (ring_number q) other)) run.statistics;
      report = λ other. report_apart m1 m2 n d.report p.report g.report
          (same.report (apart_of 3 (ring_number q) other)) run.report;
    }

-- a driver has written to that one's ring and to a page of buffers
pub others_posted : {m1 m2 : Pages} {p : Part} {d : DriverState} {g : Guest} {q written : ℕ}
    → IsRunning m1 p d g → PostLeaves m1 m2 d q written
    → ((page : ℕ) → frame_at m2 page ≡ frame_at m1 page) → (2 ≢ ring_number q → 12 ≢ written)
    → (0 ≢ ring_number q → (page : ℕ) → 4 ≤ page → page < 8 → page ≢ written) → (1 ≢ ring_number q
    → (page : ℕ) → 8 ≤ page → page < 12 → page ≢ written) → OthersRun m2 p d g q
others_posted {q} run leaves behind buffer inflates deflates =
    others_run q run (record {
      inflate = λ ne. leaves.inflate ne (inflates ne);
      deflate = λ ne. leaves.deflate ne (deflates ne);
      statistics = leaves.statistics;
      buffer = λ ne. leaves.buffer (buffer ne);
      report = leaves.report;
    }) behind
