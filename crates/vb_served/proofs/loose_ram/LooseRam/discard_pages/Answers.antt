use Rattle.std.proofs.Common.{refl, ap, ◌∙◌, ◌≡◌, ◌<◌, ◌+◌, ◌++◌, arith, get_or, subst, sym, length, ℕ, List, take}
use Rattle.std.proofs.lemmas.List.{append-nil, take_all}
use Rattle.std.proofs.lemmas.List.FromFn.{length-range_with_len, get_or-range_with_len}
use Rattle.std.specs.List.{range_with_len}
use Rattle.vb_request.specs.Request.{each_once}
use Rattle.vb_device.specs.Base.{numbers_of_frames}
use Rattle.vb_device.specs.Discards.{discarded, frames_behind}
use Rattle.vb_served.specs.Store.{Store}
use Rattle.vb_virtio.specs.declared.statistics.LastStatistics.{LastStatistics}
use Rattle.vb_request.specs.declared.statistics.Statistics.{Statistics}
use Rattle.vb_device.proofs.Discards.{discard_more, loose_more, discarded_none}
use Rattle.vb_served.proofs.loose_ram.LooseRam.discard_pages.Goals as goal

pub loop-k-init : goal.loop-k-init
loop-k-init c = record {
  mem = discarded_none c.self.inside.ram;
  loose = sym (append-nil (numbers_of_frames c.self.inside.loose.items));
  few = c.self.invariant.0;
  room = c.self.invariant.1;
  size = refl;
  ballooned = refl;
  last = refl;
}

pub loop-k-preserved : goal.loop-k-preserved
loop-k-preserved c =
    let pages : List ℕ = range_with_len c.args.first c.args.count in
    let lt : c.loop-k.k < length pages =
    omega (arith, c.loop-k-test.true, length-range_with_len c.args.first c.args.count) in
    let at : get_or pages c.loop-k.k 0 ≡ c.args.first + c.loop-k.k =
    grind (arith, get_or-range_with_len, c.loop-k-test.true) in
    record {
      mem = discard_more c.self.inside.ram c.loop-k.self-inside.ram c.discard_if_there.new.ram pages
          c.loop-k.k (c.args.first + c.loop-k.k) lt at c.loop-k.invariant.mem
          c.discard_if_there.ensures.after;
      loose = loose_more c.self.inside.ram c.loop-k.self-inside.ram pages c.loop-k.k
          (c.args.first + c.loop-k.k) (numbers_of_frames c.self.inside.loose.items)
          (numbers_of_frames c.loop-k.self-inside.loose.items)
          (numbers_of_frames c.discard_if_there.new.loose.items) lt at c.loop-k.invariant.mem
          c.loop-k.invariant.loose c.discard_if_there.ensures.numbers;
      few = omega (
        arith,
        c.discard_if_there.ensures.sum,
        c.discard_if_there.ensures.after.count,
        c.loop-k.invariant.few,
      );
      room = omega (
        arith,
        c.discard_if_there.ensures.capacity,
        c.discard_if_there.ensures.after.count,
        c.loop-k.invariant.room,
      );
      size = c.discard_if_there.ensures.after.count ∙ c.loop-k.invariant.size;
      ballooned = c.loop-k.invariant.ballooned;
      last = c.loop-k.invariant.last;
    }

pub returns-clause-mem : goal.returns-clause-mem
returns-clause-mem c =
    let pages : List ℕ = range_with_len c.args.first c.args.count in
    let all : take c.loop-k.k pages ≡ pages = take_all c.loop-k.k pages
    (omega (arith, c.loop-k-test.false, length-range_with_len c.args.first c.args.count)) in
    subst (λ (s : Store). c.loop-k.self-inside.ram ≡ discarded pages s.mem) c.self.view_is
    (subst (λ (ps : List ℕ). c.loop-k.self-inside.ram ≡ discarded ps c.self.inside.ram) all
    c.loop-k.invariant.mem)

pub returns-clause-loose : goal.returns-clause-loose
returns-clause-loose c =
    let pages : List ℕ = range_with_len c.args.first c.args.count in
    let all : take c.loop-k.k pages ≡ pages = take_all c.loop-k.k pages
    (omega (arith, c.loop-k-test.false, length-range_with_len c.args.first c.args.count)) in
    subst (λ (s : Store). numbers_of_frames c.loop-k.self-inside.loose.items ≡
    s.loose ++ frames_behind s.mem (each_once pages)) c.self.view_is
    (subst (λ (ps : List ℕ). numbers_of_frames c.loop-k.self-inside.loose.items ≡
    numbers_of_frames c.self.inside.loose.items ++ frames_behind c.self.inside.ram (each_once ps))
    all c.loop-k.invariant.loose)

pub returns-clause-ballooned : goal.returns-clause-ballooned
returns-clause-ballooned c = subst (λ (s : Store). c.loop-k.self-inside.ballooned ≡ s.ballooned)
    c.self.view_is c.loop-k.invariant.ballooned

pub returns-clause-last : goal.returns-clause-last
returns-clause-last c = subst (λ (s : Store). said c.loop-k.self-inside.last ≡ s.last)
    c.self.view_is (ap said c.loop-k.invariant.last)
  where
    said : Statistics → LastStatistics
    said x = record { free = x.free; total = x.total }
