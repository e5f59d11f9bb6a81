use Rattle.std.proofs.Common.{refl, arith}
use Rattle.vb_model.specs.Guest.{is_ballooned}
use Rattle.vb_conformance.proofs.PageLists.{listed_more}
use Rattle.vb_conformance.proofs.listed.PageList.make_anew.Goals as goal

pub loop-page-preserved : goal.loop-page-preserved
loop-page-preserved c = record {
  pages = c.loop-page.invariant.pages;
  room = omega (arith, c.loop-page.invariant.room, c.put_ballooned.ensures.capacity);
  count = omega (arith, c.loop-page.invariant.count, c.put_ballooned.ensures.len);
  items = listed_more c.args.device.now.part.ballooned c.loop-page.page
      (is_ballooned c.args.device.now.part.ballooned c.loop-page.page) _ _
      (omega (arith, c.requires.size, c.loop-page-test.true)) refl c.loop-page.invariant.items
      c.put_ballooned.ensures.items;
}
