use Rattle.std.proofs.Common.{◌≡◌, ◌+◌, ◌++◌, ◌≤◌, length, take}
use Rattle.std.specs.Prelude.{vec_capacity}
use Rattle.vb_request.specs.Request.{each_once}
use Rattle.std.specs.List.{range_with_len}
use Rattle.vb_device.specs.Base.{numbers_of_frames}
use Rattle.vb_device.specs.Discards.{discarded, frames_behind}
use Rattle.vb_device.proofs.Discards.{frame_count}
use Rattle.vb_served.proofs.loose_ram.LooseRam.discard_pages.Given as goal

abbrev pub invariant-loop-k : goal.invariant-loop-k
invariant-loop-k l = record {
  mem : l.self-inside.ram ≡ discarded (take l.k (range_with_len l.first l.count))
      l.initial.self-inside.ram;
  loose : numbers_of_frames l.self-inside.loose.items ≡
      numbers_of_frames l.initial.self-inside.loose.items ++
      frames_behind l.initial.self-inside.ram (each_once (take l.k (range_with_len l.first l.count)));
  few : length l.self-inside.loose.items + frame_count l.self-inside.ram ≤ length l.self-inside.ram;
  room : length l.self-inside.ram ≤ vec_capacity l.self-inside.loose;
  size : length l.self-inside.ram ≡ length l.initial.self-inside.ram;
  ballooned : l.self-inside.ballooned ≡ l.initial.self-inside.ballooned;
  last : l.self-inside.last ≡ l.initial.self-inside.last;
}
