use Rattle.std.proofs.Common.{◌≡◌, ◌++◌, drop, map, vec_len}
use Rattle.vb_script.specs.Plans.{calls_in, guest_plan, guests_with}
use Rattle.vb_script.proofs.plans.guests_with.Given as goal

abbrev pub invariant-loop-index : goal.invariant-loop-index
invariant-loop-index l = record {
  guests : guests_with 0 l.spares l.plugs (calls_in l.lines) ≡ map guest_plan l.guests.items
      ++ guests_with l.index (drop l.index l.spares) (drop l.index l.plugs) (calls_in l.lines);
  count : vec_len l.guests ≡ l.index;
}
