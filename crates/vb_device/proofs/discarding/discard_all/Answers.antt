use Rattle.std.{proofs.Common.{◌≡◌, ◌<◌, ◌∙◌, arith, get_or}, specs.Prelude.length}
use Rattle.std.proofs.lemmas.{List.{append-nil, take_all}, Option.get_or_from_slice_get}
use Rattle.vb_device.specs.Base.{numbers_of_frames}
use Rattle.vb_device.proofs.Discards.{discard_more, loose_more, discarded_none}
use Rattle.vb_device.proofs.discarding.discard_all.Goals as goal

pub loop-k-init : goal.loop-k-init
loop-k-init c = grind (arith, discarded_none, append-nil)

pub page_in-requires-clause-run : goal.page_in-requires-clause-run
page_in-requires-clause-run c = c.loop-k.invariant.run

pub discard_page-requires : goal.discard_page-requires
discard_page-requires c = omega (arith, c.loop-k.invariant.room, c.loop-k.invariant.capacity)

pub loop-k-preserved : goal.loop-k-preserved
loop-k-preserved c =
    let lt : c.loop-k.k < length c.args.request.now.pages =
    omega (arith, c.loop-k-test.true, c.count-k-end.ensures) in
    let at : get_or c.args.request.now.pages c.loop-k.k 0 ≡ c.page_in.result = get_or_from_slice_get
    c.args.request.now.pages c.loop-k.k c.page_in.result 0 c.page_in.ensures.page in
    record {
      mem = discard_more c.args.ram.now c.loop-k.ram c.discard_page.new.ram c.args.request.now.pages
          c.loop-k.k c.page_in.result lt at c.loop-k.invariant.mem c.discard_page.ensures.after;
      loose = loose_more c.args.ram.now c.loop-k.ram c.args.request.now.pages c.loop-k.k
          c.page_in.result (numbers_of_frames c.args.loose.now.items)
          (numbers_of_frames c.loop-k.loose.items)
          (numbers_of_frames c.discard_page.new.loose.items) lt at
          c.loop-k.invariant.mem c.loop-k.invariant.loose c.discard_page.ensures.numbers;
      room = omega (arith, c.discard_page.ensures.sum, c.loop-k.invariant.room);
      capacity = c.discard_page.ensures.capacity ∙ c.loop-k.invariant.capacity;
      run = c.page_in.ensures.run;
    }

pub returns-clause-mem : goal.returns-clause-mem
returns-clause-mem c = grind (arith, take_all)

pub returns-clause-loose : goal.returns-clause-loose
returns-clause-loose c = grind (arith, take_all)
