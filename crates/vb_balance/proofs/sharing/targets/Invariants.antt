use Rattle.std.proofs.Common.{◌≡◌, replicate}
use Rattle.arrayvec.specs.ArrayVec.{array_vec_len}
use Rattle.vb_balance.proofs.sharing.targets.Given as goal

abbrev pub invariant-loop-need : goal.invariant-loop-need
invariant-loop-need l = record {
  pages : l.pages.items ≡ replicate l._need-index 0;
  len : array_vec_len l.pages ≡ l._need-index;
}
