use Rattle.std.{proofs.Common.{◌≡◌, ◌≤◌, ◌+◌, ◌++◌, take, length}, specs.Prelude.vec_capacity}
use Rattle.{std.specs.List.range_with_len, vb_device.specs.Base.numbers_of_frames}
use Rattle.vb_device.{specs.Discards.{discarded, frames_behind}, proofs.Discards.frame_count}
use Rattle.vb_request.specs.Request.{each_once}
use Rattle.vb_device.proofs.discarding.discard_memory.Given as goal

abbrev pub invariant-loop-page : goal.invariant-loop-page
invariant-loop-page l = record {
  mem : l.ram ≡ discarded (take l.page (range_with_len 0 (length l.initial.ram))) l.initial.ram;
  loose : numbers_of_frames l.loose.items ≡ numbers_of_frames l.initial.loose.items ++ frames_behind
      l.initial.ram (each_once (take l.page (range_with_len 0 (length l.initial.ram))));
  room : length l.loose.items + frame_count l.ram ≤ vec_capacity l.initial.loose;
  capacity : vec_capacity l.loose ≡ vec_capacity l.initial.loose;
}
