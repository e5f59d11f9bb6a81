use Rattle.std.proofs.Common.{◌≡◌, ◌≤◌, None, take, length}
use Rattle.vb_request.specs.Request.{numbers_of, each_once, first_number_fault}
use Rattle.vb_request.proofs.request.list_pages.Given as goal

abbrev pub invariant-loop-k : goal.invariant-loop-k
invariant-loop-k l = record {
  pages : l.pages.items ≡ each_once (take l.k (numbers_of l.bytes));
  sound : first_number_fault l.reserved l.count (take l.k (numbers_of l.bytes)) ≡ None;
  few : length l.pages.items ≤ l.k;
}
