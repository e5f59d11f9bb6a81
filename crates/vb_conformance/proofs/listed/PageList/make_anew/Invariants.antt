use Rattle.std.{proofs.Common.{◌≡◌, ◌≤◌, take, vec_len}, specs.Prelude.vec_capacity}
use Rattle.vb_virtio.specs.Tests.{pages_where}
use Rattle.vb_conformance.proofs.listed.PageList.make_anew.Given as goal

abbrev pub invariant-loop-page : goal.invariant-loop-page
invariant-loop-page l = record {
  pages : l.self.pages ≡ l.initial.self.pages;
  room : vec_capacity l.initial.self.numbers ≤ vec_capacity l.self.numbers;
  count : vec_len l.self.numbers ≤ l.page;
  items : l.self.numbers.items ≡ pages_where (λ flag. flag) (take l.page l.device.part.ballooned);
}
