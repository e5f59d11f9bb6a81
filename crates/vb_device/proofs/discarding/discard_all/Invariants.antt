use Rattle.std.{proofs.Common.{◌≡◌, ◌≤◌, ◌+◌, ◌++◌, take, length}, specs.Prelude.vec_capacity}
use Rattle.vb_device.{specs.Base.numbers_of_frames, specs.Discards.{discarded, frames_behind}}
use Rattle.vb_device.proofs.Discards.{frame_count}
use Rattle.vb_request.{specs.Request.each_once, specs.Report.IsRun}
use Rattle.vb_device.proofs.discarding.discard_all.Given as goal

abbrev pub invariant-loop-k : goal.invariant-loop-k
invariant-loop-k l = record {
  mem : l.ram ≡ discarded (take l.k l.request.pages) l.initial.ram;
  loose : numbers_of_frames l.loose.items ≡ numbers_of_frames l.initial.loose.items ++
      frames_behind l.initial.ram (each_once (take l.k l.request.pages));
  room : length l.loose.items + frame_count l.ram ≤ vec_capacity l.initial.loose;
  capacity : vec_capacity l.loose ≡ vec_capacity l.initial.loose;
  run : IsRun l.request.pages l.run;
}
