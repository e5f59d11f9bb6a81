use Rattle.std.{proofs.Common.{ap, arith}, proofs.lemmas.List.Elements.All-weaker}
use Rattle.vb_pages.specs.PageState.{PageState, HasRoomIn}
use Rattle.vb_report.specs.Blocks.{block_of, HasOrder}
use Rattle.vb_report.proofs.Taking.{chooses, drained_state, drained_pages}
use Rattle.vb_report.proofs.blocks.choose.Goals as goal

pub take_blocks-requires-clause-drained : goal.take_blocks-requires-clause-drained
take_blocks-requires-clause-drained c =
    drained_state c.args.pages.now c.drain.new.self c.drain.ensures.drained

pub take_blocks-requires-clause-small : goal.take_blocks-requires-clause-small
take_blocks-requires-clause-small c = omega (
  arith,
  drained_pages c.args.pages.now c.drain.new.self c.drain.ensures.drained,
  c.drain.ensures.small,
)

pub returns : goal.returns
returns c =
    let f = chooses c.args.pages.now c.drain.new.self c.take_blocks.new.pages c.args.from c.args.room
    c.take_blocks.result.items c.drain.ensures.drained c.drain.ensures.same
    c.take_blocks.ensures.chosen c.take_blocks.ensures.taken c.take_blocks.ensures.room in record {
      chosen = f.chosen;
      count = f.count;
      taken = f.taken;
      left = f.left;
      held = ap (λ (s : PageState). s.held) f.taken;
      lists = ap (λ (s : PageState). s.free.lists) f.taken;
      distinct = f.distinct;
      pages = f.pages;
      orders = All-weaker (λ b. HasRoomIn c.take_blocks.new.pages (block_of b)) HasOrder
          (λ b room. room.0.0) c.take_blocks.result.items c.take_blocks.ensures.room;
      room = record { each = c.take_blocks.ensures.room; apart = f.distinct };
    }
